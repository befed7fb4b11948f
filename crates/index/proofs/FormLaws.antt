-- Laws about the lines of an index: one for each return of the functions that find its numbers.
use Prim.Native.Nat.{ℕ, ◌-◌, ◌≤◌}
use mathlib.Core.Path.{◌≡◌, refl, sym, ap, ◌∙◌}
use mathlib.Core.Bool.{Bool, true, false}
use mathlib.Core.List.{List, reverse, reverse-reverse}
use lib.ListN.{length, take, drop}
use denote.Ref.{Bor}
use Rattle.std.specs.Prelude.{Option, None, Some}
use Rattle.std.specs.Option.{option_map}
use Rattle.format.specs.declared.line.LineEnd.{LineEnd}
use Rattle.format.specs.Bytes.{Bytes, text, same, all_zero}
use Rattle.format.specs.Line.{Lines, unended, line, lines}
use Rattle.format.specs.Comments.{index_line}
use Rattle.format.specs.Tree.{yaml_line, end_line}
use Rattle.format.specs.Index.{without, in_brackets, listed, dash_start, after_word, with_zeros, dash_numbers, at_least_one, styled, indexed}
use Rattle.format.proofs.ByteLaws.{eq_same, all_zero_true, lacks_replicate}
use Rattle.format.proofs.LineLaws.{join_lines, join_lines_lem, lines_unended}
use Rattle.format.proofs.PartLaws.{part_all}
use Rattle.scan.specs.declared.line.Line.{Line}
use Rattle.scan.specs.Line.{LineRead, ExactRead}
use Rattle.scan.proofs.LineLaws.{unended_lines, ended_first}
use Rattle.scan.proofs.ExactLaws.{other_text, after_first}
use Rattle.index.specs.declared.form.Numbers.{Numbers}
use Rattle.index.specs.Verdict.{bytes_in, numbers_in, EndRead}

-- If no bracket opens the line `t`, then nothing is in brackets.
pub unopened : (t : Bytes) (a : Option (Bor Bytes)) → bytes_in a ≡ without (text "--- [") t → a ≡ None → (r : Option (Bor Bytes)) → r ≡ None → bytes_in r ≡ in_brackets t
unfolding in_brackets
unopened t a first e r n = rw (← first, e, n, in_brackets)

-- If a bracket opens the line `t`, then what is in brackets is what comes before the bracket that closes.
pub opened : (t : Bytes) (a : Option (Bor Bytes)) → bytes_in a ≡ without (text "--- [") t → (u : Bor Bytes) → a ≡ Some u → (r : Option (Bor Bytes))
    → option_map reverse (bytes_in r) ≡ without (text "]") (reverse u.now) → bytes_in r ≡ in_brackets t
unfolding in_brackets
opened t a first u e r last = rw (← first, e, in_brackets, ← last) (go r)
  where
    go : (r : Option (Bor Bytes)) → bytes_in r ≡ elim (option_map reverse (bytes_in r)) [ None ↦ None | Some v ↦ Some (reverse v) ]
    go None = refl
    go (Some x) = ap Some (sym (reverse-reverse x.now))

module _ (t : Bytes) (at : ℕ) (word : Bytes) (r : Option (ℕ × LineEnd)) (read : ExactRead t word at r) where
  -- If the line is not the word, then there are no numbers.
  word_other : (f : Lines → Option (List ℕ)) → r ≡ None → after_word word f (lines (drop at t)) ≡ None
  unfolding after_word
  word_other f e = go (lines (drop at t)) refl
    where
      go : (l : Lines) → lines (drop at t) ≡ l → after_word word f l ≡ None
      go (unended u) h = refl
      go (line u k l) h = rw (other_text t word at r read u k l e h, after_word)

  -- If the line is the word, then the next line begins inside the bytes or at their end.
  pub after_inside : (next : ℕ) (ending : LineEnd) → r ≡ Some (next, ending) → next ≤ length t
  after_inside next ending e = (rw e at read.inside).1

  -- If the line is the word, then the numbers are those that `f` finds after it.
  word_after : (f : Lines → Option (List ℕ)) (next : ℕ) (ending : LineEnd) → r ≡ Some (next, ending) → after_word word f (lines (drop at t)) ≡ f (lines (drop next t))
  unfolding after_word
  word_after f next ending e = rw ((after_first t word at r read next ending e).cut, after_word, eq_same word word refl)

-- Bytes that are all zero have no line that ends.
zeros_unended : (z : Bytes) → all_zero z ≡ true → lines z ≡ unended z
zeros_unended z h = lines_unended z (rw (all_zero_true z h) (lacks_replicate 10 0 (length z) refl))

-- The numbers count exactly if all the bytes that are left are zero.
pub with_zeros_lem : (o : Option (List ℕ)) (z : Bytes) (x : Bool) → x ≡ all_zero z → with_zeros o (lines z) ≡ elim x [ true ↦ o | false ↦ None ]
unfolding with_zeros join_lines
with_zeros_lem o z true h = rw (zeros_unended z (sym h), with_zeros, sym h)
with_zeros_lem o z false h = go (lines z) refl
  where
    go : (l : Lines) → lines z ≡ l → with_zeros o l ≡ None
    go (unended u) e = rw (ap all_zero (sym (ap join_lines e) ∙ join_lines_lem z) ∙ sym h, with_zeros)
    go (line u k l) e = refl

module _ (t : Bytes) (a : Option (ℕ × LineEnd)) (first : ExactRead t index_line 0 a) where
  -- If the first line is not that of an index, then there are no numbers.
  pub index_other : a ≡ None → (r : Option Numbers) → r ≡ None → numbers_in r ≡ indexed (lines t)
  unfolding indexed
  index_other h r n = rw n (sym (word_other t 0 index_line a first _ h))

  module _ (second : ℕ) (ending : LineEnd) (p : a ≡ Some (second, ending)) (b : Option (ℕ × LineEnd)) (then : ExactRead t yaml_line second b) where
    -- If the first line is that of an index, then the numbers are found from the second line.
    index_after : indexed (lines t) ≡ after_word yaml_line styled (lines (drop second t))
    unfolding indexed
    index_after = word_after t 0 index_line a first _ second ending p

    -- If the second line is not that of an index, then there are no numbers.
    pub yaml_other : b ≡ None → (r : Option Numbers) → r ≡ None → numbers_in r ≡ indexed (lines t)
    yaml_other h r n = rw n (sym (index_after ∙ word_other t second yaml_line b then _ h))

    -- If the first two lines are those of an index, then the numbers are found from the third line.
    pub yaml_after : (third : ℕ) (d : LineEnd) → b ≡ Some (third, d) → (r : Option Numbers) → numbers_in r ≡ styled (lines (drop third t)) → numbers_in r ≡ indexed (lines t)
    yaml_after third d q r found = found ∙ sym (index_after ∙ word_after t second yaml_line b then _ third d q)

module _ (t : Bytes) (at : ℕ) (d : Option (ℕ × LineEnd)) (read : ExactRead t end_line at d) where
  -- If there is no end line at the offset, then the index does not end there.
  pub end_other : d ≡ None → EndRead t at false
  end_other h = record { is = λ ns. word_other t at end_line d read _ h }

  -- If there is an end line at the offset, then the index ends there exactly if only zeros follow.
  pub end_zeros : (end : ℕ) (ending : LineEnd) → d ≡ Some (end, ending) → (z : Bool) → z ≡ all_zero (take (length t - end) (drop end t)) → EndRead t at z
  end_zeros end ending h z zeros = record {
    is = λ ns. word_after t at end_line d read _ end ending h ∙ with_zeros_lem ns (drop end t) z (zeros ∙ ap all_zero (part_all t end));
  }

module _ (t : Bytes) (at : ℕ) (c : Option Line) (read : LineRead t at c) where
  -- If there is no start line, then there are no numbers.
  pub start_unended : c ≡ None → (r : Option Numbers) → r ≡ None → numbers_in r ≡ styled (lines (drop at t))
  unfolding styled
  start_unended h r n = rw n (sym (ap styled (unended_lines t at c read h)))

  module _ (l : Line) (e : c ≡ Some l) (x : Bool) (style : x ≡ same (take (l.text_end - at) (drop at t)) dash_start) where
    -- The numbers in brackets on the start line.
    abbrev numbers : Option (List ℕ)
    numbers = listed (in_brackets (take (l.text_end - at) (drop at t)))

    -- The start line determines the style.
    start_read : styled (lines (drop at t))
        ≡ elim x [ true ↦ at_least_one (dash_numbers (lines (drop l.next t))) | false ↦ after_word end_line (with_zeros numbers) (lines (drop l.next t)) ]
    unfolding styled
    start_read = ap styled (ended_first t at c read l e).cut ∙ rw style

    -- If the start line is that of a list with dashes, then the numbers are on the lines after it.
    pub start_dashes : x ≡ true → at_least_one (dash_numbers (lines (take (length t - l.next) (drop l.next t)))) ≡ styled (lines (drop at t))
    start_dashes h = ap (λ b. at_least_one (dash_numbers (lines b))) (part_all t l.next) ∙ sym (rw h at start_read)

    module _ (h : x ≡ false) (z : Bool) (last : EndRead t l.next z) where
      -- Otherwise the numbers on the start line count only if the index ends after it.
      start_after : styled (lines (drop at t)) ≡ elim z [ true ↦ numbers | false ↦ None ]
      start_after = rw h at start_read ∙ last.is numbers

      -- If the index does not end after the start line, then there are no numbers.
      pub start_other : z ≡ false → numbers_in None ≡ styled (lines (drop at t))
      start_other o = sym (rw o at start_after)

      module _ (o : z ≡ true) (b : Option (Bor Bytes)) (found : bytes_in b ≡ in_brackets (take (l.text_end - at) (drop at t))) where
        -- If the index ends after the start line and this line has no brackets, then there are no numbers.
        pub start_unbracketed : b ≡ None → (r : Option Numbers) → r ≡ None → numbers_in r ≡ styled (lines (drop at t))
        unfolding listed
        start_unbracketed n r m = rw m (sym (start_after ∙ rw (o, ← found, n)))

        -- If the index ends after the start line and this line has brackets, then the numbers are in them.
        pub start_brackets : (u : Bor Bytes) → b ≡ Some u → listed (Some u.now) ≡ styled (lines (drop at t))
        start_brackets u n = sym (start_after ∙ rw (o, ← found, n))
