-- The dash style of an index: lines that are read as numbers are these numbers written with dashes, and numbers that
-- are written with dashes are read again.
use Rattle.std.proofs.Common.{◌≡◌, ℕ, suc, ◌^◌, ◌<◌, ◌≤◌, Bool, true, false, eqb, List, [], ◌∷◌, ◌++◌, map, length, get_or, replicate, refl, ap, ◌∙◌, append_assoc, arith}
use mathlib.Core.List.{flat_map}
use Rattle.std.specs.Prelude.{Option, None, Some}
use Rattle.format.specs.declared.line.LineEnd.{LineEnd}
use Rattle.format.specs.Bytes.{Bytes, same, all_zero}
use Rattle.format.specs.Numeral.{is_digit, both, decimal}
use Rattle.format.specs.Line.{line_end, Lines, unended, line}
use Rattle.format.specs.Tree.{end_line}
use Rattle.format.specs.Index.{without, trim_end, dash, dashed, with_zeros, dash_numbers, at_least_one, DashLine, dash_text, dash_line}
use Rattle.format.proofs.ByteLaws.{same_true, all_zero_true, zeros_all_zero, without_some, lacks, lacks_append, lacks_replicate}
use Rattle.format.proofs.LineLaws.{join_lines, plain_line, lacks_ends, AreLines}
use Rattle.format.proofs.NumeralLaws.{decimal_is, decimal_lacks, numeral_decimal, numeral_text, both_some}
use Rattle.format.proofs.SpaceLaws.{end_spaces, end_text}
use Rattle.format.proofs.OutcomeLaws.{none_is_not_some}

-- The numbers of these dash lines.
abbrev pub dashed_numbers : List DashLine → List ℕ
dashed_numbers ds = map (λ (d : DashLine). d.number) ds

-- A line that is read as a number consists of a dash, a space, that number in decimal and any number of spaces.
dash_read : (t : Bytes) (n : ℕ) → dashed t ≡ Some n → (k : ℕ) × (t ≡ dash ++ (decimal n ++ replicate k 32))
unfolding dashed
dash_read t n h = go (without dash t) refl
  where
    go : (o : Option Bytes) → without dash t ≡ o → (k : ℕ) × (t ≡ dash ++ (decimal n ++ replicate k 32))
    go None e = absurd (none_is_not_some n (rw (e, dashed) at h))
    go (Some u) e =
        let i = end_spaces u in
        let digits = numeral_text 10 (trim_end u) n (rw (e, dashed) at h) in
        (i.0, without_some dash t u e ∙ ap (λ (x : Bytes). dash ++ x) (i.1 ∙ ap (λ (x : Bytes). x ++ replicate i.0 32) digits))

-- Lines with numbers after dashes, followed by the lines `l`.
unfoldable pub dash_lines : List DashLine → Lines → Lines
dash_lines [] l = l
dash_lines (d ∷ ds) l = line (dash_text d) d.ending (dash_lines ds l)

-- The end line of an index, followed by zeros.
abbrev pub end_lines : LineEnd → ℕ → Lines
end_lines e zeros = line end_line e (unended (replicate zeros 0))

-- If `with_zeros` gives numbers, only zeros follow and the numbers are those it was given.
pub zeros_read : (o : Option (List ℕ)) (l : Lines) (ns : List ℕ) → with_zeros o l ≡ Some ns → (k : ℕ) × (l ≡ unended (replicate k 0)) × (o ≡ Some ns)
unfolding with_zeros
zeros_read o (line t e l) ns h = absurd (none_is_not_some ns h)
zeros_read o (unended z) ns h = go (all_zero z) refl
  where
    go : (x : Bool) → all_zero z ≡ x → (k : ℕ) × (unended z ≡ unended (replicate k 0)) × (o ≡ Some ns)
    go true q = (length z, ap unended (all_zero_true z q), rw (q, with_zeros) at h)
    go false q = absurd (none_is_not_some ns (rw (q, with_zeros) at h))

-- `l` consists of lines with these numbers after dashes, followed by the end of an index.
pub record ReadDashes (l : Lines) (ns : List ℕ) : Type 0 where
  pub list : List DashLine
  pub last : LineEnd
  pub zeros : ℕ
  pub lined : l ≡ dash_lines list (end_lines last zeros)
  pub same_numbers : dashed_numbers list ≡ ns

-- A line that is read as a number may come before such lines, and its number comes first.
dashes_more : (t : Bytes) (e : LineEnd) (l : Lines) (n : ℕ) (ns : List ℕ) → dashed t ≡ Some n → ReadDashes l ns → ReadDashes (line t e l) (n ∷ ns)
unfolding dash_lines dash_text
dashes_more t e l n ns h rest =
    let (k, written) = dash_read t n h in
    record {
      list = record { number = n; after = k; ending = e } ∷ rest.list;
      last = rest.last;
      zeros = rest.zeros;
      lined = cc (written, rest.lined);
      same_numbers = ap (λ (ms : List ℕ). n ∷ ms) rest.same_numbers;
    }

-- If lines are read as numbers after dashes, `ReadDashes` holds for them.
pub dashes_read : (l : Lines) (ns : List ℕ) → dash_numbers l ≡ Some ns → ReadDashes l ns
unfolding dash_numbers dash_lines
dashes_read (unended t) ns h = absurd (none_is_not_some ns h)
dashes_read (line t e l) ns h = go (same t end_line) refl (dashes_read l)
  where
    go : (x : Bool) → same t end_line ≡ x → ((ms : List ℕ) → dash_numbers l ≡ Some ms → ReadDashes l ms) → ReadDashes (line t e l) ns
    go true q i =
        let (k, z, none_left) = zeros_read (Some []) l ns (rw (q, dash_numbers) at h) in
        record {
          list = [];
          last = e;
          zeros = k;
          lined = ap (λ (u : Bytes). line u e l) (same_true t end_line q) ∙ ap (line end_line e) z;
          same_numbers = cc;
        }
    go false q i =
        let (n, ms, first, others, whole) = both_some (dashed t) (dash_numbers l) ns (rw (q, dash_numbers) at h) in
        rw (← whole) (dashes_more t e l n ms first (i ms others))

-- If `at_least_one` gives numbers, there is at least one, and they are those it was given.
pub some_read : (o : Option (List ℕ)) (ns : List ℕ) → at_least_one o ≡ Some ns → (o ≡ Some ns) × (1 ≤ length ns)
unfolding at_least_one
some_read None ns h = absurd (none_is_not_some ns h)
some_read (Some []) ns h = absurd (none_is_not_some ns h)
some_read (Some (n ∷ ms)) ns h = let e : n ∷ ms ≡ ns = cc in (h, omega (arith, ap length e))

-- If there is at least one number, `at_least_one` gives the numbers unchanged.
pub some_again : (ns : List ℕ) → 1 ≤ length ns → at_least_one (Some ns) ≡ Some ns
unfolding at_least_one
some_again [] h = absurd (omega arith)
some_again (n ∷ ns) h = refl

-- The bytes of lines with numbers after dashes are the bytes of each dash line, followed by the bytes of the other
-- lines.
pub dash_join : (ds : List DashLine) (l : Lines) → join_lines (dash_lines ds l) ≡ flat_map dash_line ds ++ join_lines l
unfolding dash_lines join_lines flat_map dash_line
dash_join [] l = refl
dash_join (d ∷ ds) l =
    ap (λ (x : Bytes). dash_text d ++ (line_end d.ending ++ x)) (dash_join ds l)
    ∙ simp append_assoc

-- The text of a dash line lacks every byte that is not a digit, a space or a byte of `dash`.
dash_lacks : (b : ℕ) → lacks b dash ≡ true → eqb 32 b ≡ false → is_digit b ≡ false → (d : DashLine) → lacks b (dash_text d) ≡ true
unfolding dash_text
dash_lacks b p h k d =
    lacks_append b (dash ++ decimal d.number) (replicate d.after 32)
    (lacks_append b dash (decimal d.number) p (decimal_lacks b d.number k)) (lacks_replicate b 32 d.after h)

-- If `AreLines` holds for `l`, it still holds with dash lines before `l`.
pub dashes_are_lines : (ds : List DashLine) (l : Lines) → AreLines l → AreLines (dash_lines ds l)
unfolding dash_lines
dashes_are_lines [] l h = h
dashes_are_lines (d ∷ ds) l h =
    (plain_line (dash_text d) d.ending (dash_lacks 10 refl refl refl d) (lacks_ends 13 (dash_text d) (dash_lacks 13 refl refl refl d)), dashes_are_lines ds l h)

-- The text of a dash line with a number of at most ten digits is read as that number.
dash_again : (d : DashLine) → d.number < 10 ^ 10 → dashed (dash_text d) ≡ Some d.number
unfolding dashed dash_text without
dash_again d h =
    rw (dashed, end_text (decimal d.number) d.after (decimal_is d.number).some_digit (decimal_lacks 32 d.number refl))
    (numeral_decimal 10 d.number (omega arith) h)

-- The text of a dash line is not the end line.
dash_other : (d : DashLine) → same (dash_text d) end_line ≡ false
unfolding dash_text
dash_other d = refl

-- Dash lines with numbers of at most ten digits, followed by the end of an index, are read as their numbers.
pub dashes_again : (ds : List DashLine) (e : LineEnd) (zeros : ℕ) → ((i : ℕ) → get_or (dashed_numbers ds) i 0 < 10 ^ 10)
    → dash_numbers (dash_lines ds (end_lines e zeros)) ≡ Some (dashed_numbers ds)
unfolding dash_numbers dash_lines with_zeros both
dashes_again [] e zeros h = rw (zeros_all_zero zeros, with_zeros)
dashes_again (d ∷ ds) e zeros h = rw (dash_other d, dash_numbers, dash_again d (h 0), dashes_again ds e zeros (λ i. h (suc i)))
