-- Laws about the test whether a line is a word: one for each return, and what the answer states about the bytes.
use Prim.Native.Nat.{ℕ, ◌+◌, ◌-◌}
use native.Mathlib.Omega.{arith}
use mathlib.Core.Path.{◌≡◌, refl, sym, ap, ◌∙◌}
use mathlib.Core.Bool.{Bool, true, false}
use mathlib.Core.List.{◌++◌, append_assoc}
use lib.ListN.{length, take, drop, length-append}
use Rattle.format.specs.declared.line.LineEnd.{LineEnd}
use Rattle.format.specs.declared.line.LineEnd.TheVariants.{Lf, Crlf}
use Rattle.format.specs.Bytes.{Bytes, begins, same}
use Rattle.format.specs.Line.{line_end, Lines, unended, line, after_line, lines}
use Rattle.format.specs.Tree.{yaml_line}
use Rattle.format.proofs.ByteLaws.{same_true, eq_same, begins_true, begins_append}
use Rattle.format.proofs.LineLaws.{end_length, IsLine, plain_line, lines_line, line_split}
use Rattle.scan.specs.declared.line.Line.{Line}
use Rattle.std.specs.Prelude.{Option, Some, None}
use Rattle.scan.specs.Line.{LineRead, exact_line, ExactRead}
use Rattle.scan.proofs.TextLaws.{begins_inside}
use Rattle.scan.proofs.LineLaws.{FirstLine, lines_first, unended_lines, ended_first, ended_inside}

module _ (s : Bytes) (at : ℕ) (r : Option Line) (read : LineRead s at r) (word : Bytes) where
  -- If the bytes have no line end, they are no line, so the answer is `None`.
  pub exact_unended : (x : Option (ℕ × LineEnd)) → r ≡ None → x ≡ None → ExactRead s word at x
  unfolding exact_line
  exact_unended x e n = rw n (record { is = rw (unended_lines s at r read e); inside = tt })

  module _ (found : Line) (e : r ≡ Some found) (x : Bool) (h : x ≡ same (take (found.text_end - at) (drop at s)) word) where
    -- If the text of the line is the word, the answer is where the next line begins.
    pub exact_after : x ≡ true → ExactRead s word at (Some (found.next, found.ending))
    unfolding exact_line
    exact_after p =
        let first = ended_first s at r read found e in
        record {
          is = rw (first.cut, exact_line, sym h ∙ p) (ap (λ (n : ℕ). Some (n, found.ending)) first.next_is);
          inside = omega (arith, ended_inside s at r read found e);
        }

    -- If the text of the line is not the word, the answer is `None`.
    pub exact_other : x ≡ false → ExactRead s word at None
    unfolding exact_line
    exact_other p = record { is = rw ((ended_first s at r read found e).cut, exact_line, sym h ∙ p); inside = tt }

module _ (s word : Bytes) (at : ℕ) (r : Option (ℕ × LineEnd)) (read : ExactRead s word at r) where
  -- If the answer is `None`, the text of the first line is not the word.
  pub other_text : (t : Bytes) (e : LineEnd) (l : Lines) → r ≡ None → lines (drop at s) ≡ line t e l → same t word ≡ false
  unfolding exact_line
  other_text t e l p h = go (same t word) refl
    where
      go : (x : Bool) → same t word ≡ x → same t word ≡ false
      go true k = cc (sym p ∙ rw (h, exact_line, k) at read.is)
      go false k = k

  -- If there is an answer, the word is the text of the first line.
  pub after_first : (next : ℕ) (d : LineEnd) → r ≡ Some (next, d) → FirstLine s at word next d
  unfolding exact_line
  after_first next d p = go (lines (drop at s)) refl
    where
      judge : (t : Bytes) (e : LineEnd) (l : Lines) (x : Bool) → lines (drop at s) ≡ line t e l → same t word ≡ x → FirstLine s at word next d
      judge t e l true h k =
          let both : ◌≡◌ {A = ℕ × LineEnd} (next, d) (after_line at t e, e) = cc (sym p ∙ rw (h, exact_line, k) at read.is) in
          let over : next ≡ after_line at t e = ap (λ (q : ℕ × LineEnd). q.0) both in
          let ending : d ≡ e = ap (λ (q : ℕ × LineEnd). q.1) both in
          rw (over, ending, ← same_true t word k) (lines_first s at t e l h)
      judge t e l false h k = let z : ◌≡◌ {A = ℕ} 0 1 = cc (sym p ∙ rw (h, exact_line, k) at read.is) in absurd (omega arith)

      go : (l : Lines) → lines (drop at s) ≡ l → FirstLine s at word next d
      go (unended t) h = let z : ◌≡◌ {A = ℕ} 0 1 = cc (read.is, h, p) in absurd (omega arith)
      go (line t e l) h = judge t e l (same t word) h refl

-- If the bytes begin with a word and a line end, and the word is the text of a line that ends so, then it is the text
-- of their first line.
word_read : (s word : Bytes) (at : ℕ) (e : LineEnd) (next : ℕ) → IsLine word e → begins (word ++ line_end e) (drop at s) ≡ true
    → next ≡ after_line at word e → ExactRead s word at (Some (next, e))
unfolding exact_line
word_read s word at e next l h n =
    let z = drop (length (word ++ line_end e)) (drop at s) in
    let split = begins_true (word ++ line_end e) (drop at s) h ∙ append_assoc word (line_end e) z in
    let size = length-append word (line_end e) in
    let some = end_length e in
    record {
      is = rw (ap lines split ∙ lines_line word e z l, exact_line, eq_same word word refl, n);
      inside = omega (arith, begins_inside (word ++ line_end e) at s h (omega arith));
    }

-- If the bytes do not begin with the word and one of the two line ends, their first line is not the word.
other_read : (s word : Bytes) (at : ℕ) → ((e : LineEnd) → begins (word ++ line_end e) (drop at s) ≡ false) → ExactRead s word at None
unfolding exact_line
other_read s word at never = record { is = sym (go (lines (drop at s)) refl); inside = tt }
  where
    judge : (t : Bytes) (e : LineEnd) (l : Lines) (x : Bool) → lines (drop at s) ≡ line t e l → same t word ≡ x
        → exact_line word at (line t e l) ≡ None
    judge t e l true h k =
        let z = drop (length t + length (line_end e)) (drop at s) in
        let text = ap (λ (w : Bytes). w ++ (line_end e ++ z)) (same_true t word k) ∙ sym (append_assoc word (line_end e) z) in
        cc (ap (begins (word ++ line_end e)) (line_split (drop at s) t e l h ∙ text), begins_append (word ++ line_end e) z, never e)
    judge t e l false h k = rw (k, exact_line)

    go : (l : Lines) → lines (drop at s) ≡ l → exact_line word at l ≡ None
    go (unended t) h = refl
    go (line t e l) h = judge t e l (same t word) h refl

-- The first line of a tree has no 0A, and no 0D at its end. So it is the text of a line with either line end.
yaml_plain : (e : LineEnd) → IsLine yaml_line e
yaml_plain e = plain_line yaml_line e refl refl

module _ (s : Bytes) (at : ℕ) (x : Bool) (h : x ≡ begins (yaml_line ++ line_end Lf) (drop at s)) where
  -- If the bytes begin with the first line of a tree and 0A, the next line begins 10 bytes later.
  pub yaml_lf : x ≡ true → ExactRead s yaml_line at (Some (at + 10, Lf))
  yaml_lf p = word_read s yaml_line at Lf (at + 10) (yaml_plain Lf) (sym h ∙ p) (omega arith)

  module _ (y : Bool) (k : y ≡ begins (yaml_line ++ line_end Crlf) (drop at s)) where
    -- If the bytes begin with the first line of a tree and 0D 0A, the next line begins 11 bytes later.
    pub yaml_crlf : y ≡ true → ExactRead s yaml_line at (Some (at + 11, Crlf))
    yaml_crlf p = word_read s yaml_line at Crlf (at + 11) (yaml_plain Crlf) (sym k ∙ p) (omega arith)

    -- If the bytes begin with neither of these, the answer is `None`.
    pub yaml_other : x ≡ false → y ≡ false → ExactRead s yaml_line at None
    yaml_other p q = other_read s yaml_line at never
      where
        never : (e : LineEnd) → begins (yaml_line ++ line_end e) (drop at s) ≡ false
        never Lf = sym h ∙ p
        never Crlf = sym k ∙ q
