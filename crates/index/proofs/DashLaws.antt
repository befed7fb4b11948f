-- Laws about an index with dashes, whose numbers are on lines of their own: one for each return.
use Prim.Native.Nat.{ℕ, zero, suc, ◌-◌, ◌<◌}
use native.Mathlib.Omega.{arith}
use mathlib.Core.Path.{◌≡◌, refl, sym, ap, ◌∙◌}
use mathlib.Core.Bool.{Bool, true, false}
use mathlib.Core.List.{List, [], ◌∷◌}
use lib.ListN.{length, take, drop}
use denote.Ref.{Bor}
use Rattle.std.specs.Prelude.{Option, None, Some}
use Rattle.format.specs.Bytes.{Bytes, same, all_zero}
use Rattle.format.specs.Numeral.{both}
use Rattle.format.specs.Line.{lines}
use Rattle.format.specs.Tree.{end_line}
use Rattle.format.specs.Index.{without, trim_end, dash, dashed, dash_numbers, at_least_one}
use Rattle.format.proofs.PartLaws.{part_all}
use Rattle.scan.specs.declared.line.Line.{Line}
use Rattle.scan.specs.Line.{LineRead}
use Rattle.scan.specs.Number.{NumeralRead}
use Rattle.scan.proofs.LineLaws.{unended_lines, ended_first, ended_inside}
use Rattle.index.specs.declared.list.Comparison.{Comparison}
use Rattle.index.specs.Verdict.{agrees, compared, bytes_in}
use Rattle.index.proofs.ListLaws.{agreed, agreed_first, agreed_next}
use Rattle.index.proofs.FormLaws.{with_zeros_lem}

module _ (t : Bytes) (a : Option (Bor Bytes)) (first : bytes_in a ≡ without dash t) where
  -- If a line does not begin with a dash and a space, then it has no number.
  pub dash_other : a ≡ None → (r : Option ℕ) → r ≡ None → r ≡ dashed t
  unfolding dashed
  dash_other e r n = n ∙ sym (rw (← first, e, dashed))

  -- If a line begins with a dash and a space, then the number after them is the number of the line.
  pub dash_numeral : (u : Bor Bytes) → a ≡ Some u → (b : Bytes) → b ≡ trim_end u.now → (r : Option ℕ) → NumeralRead b 10 r → r ≡ dashed t
  unfolding dashed
  dash_numeral u e b is r read = rw (← first, e, dashed, ← is) read.is

-- The numbers on the lines from offset `at`. If no line comes before them, then there has to be at least one number.
unfoldable pub from_line : ℕ → Option (List ℕ) → Option (List ℕ)
from_line zero o = at_least_one o
from_line (suc at) o = o

-- Before the first line, all of the lines are left.
pub dashes_begin : (offsets : List ℕ) (first : Comparison) → ((ns : List ℕ) → agrees first ns ≡ same ns offsets) → (o : Option (List ℕ))
    → agreed first (from_line 0 o) ≡ compared offsets (at_least_one o)
unfolding from_line
dashes_begin offsets first h o = agreed_first offsets first h (at_least_one o)

-- If no numbers can be read, then there are none.
from_none : (at : ℕ) → from_line at None ≡ None
unfolding from_line at_least_one
from_none zero = refl
from_none (suc at) = refl

-- A list that begins with the number of a line is never empty.
from_both : (at : ℕ) (x : Option ℕ) (o : Option (List ℕ)) → from_line at (both x o) ≡ both x o
unfolding from_line at_least_one both
from_both (suc at) x o = refl
from_both zero None o = refl
from_both zero (Some x) None = refl
from_both zero (Some x) (Some ns) = refl

-- After a line, no further number is needed.
from_later : (at : ℕ) (o : Option (List ℕ)) → 0 < at → from_line at o ≡ o
unfolding from_line
from_later zero o h = absurd (omega arith)
from_later (suc at) o h = refl

-- `v` is the answer for the lines from offset `at`.
module _ (t : Bytes) (at : ℕ) (before : Comparison) (v : Option Bool) (so_far : agreed before (from_line at (dash_numbers (lines (drop at t)))) ≡ v)
    (c : Option Line) (read : LineRead t at c) where
  -- If no line is left, then there is no end line.
  pub lines_unended : c ≡ None → None ≡ v
  unfolding dash_numbers
  lines_unended e = rw (unended_lines t at c read e, dash_numbers, from_none at) at so_far

  module _ (l : Line) (e : c ≡ Some l) (x : Bool) (end : x ≡ same (take (l.text_end - at) (drop at t)) end_line) where
    module _ (h : x ≡ true) where
      -- If the line is the end line, then no number is left, and only zeros may follow.
      lines_end : (z : Bool) → z ≡ all_zero (take (length t - l.next) (drop l.next t)) → agreed before (from_line at (elim z [ true ↦ Some [] | false ↦ None ])) ≡ v
      unfolding dash_numbers
      lines_end z zeros =
          rw ((ended_first t at c read l e).cut, dash_numbers, sym end ∙ h, with_zeros_lem (Some []) (drop l.next t) z (zeros ∙ ap all_zero (part_all t l.next))) at so_far

      -- If no number came before the end line, then the form is wrong.
      pub lines_none : at ≡ 0 → None ≡ v
      unfolding from_line at_least_one
      lines_none n = go (all_zero (take (length t - l.next) (drop l.next t))) refl
        where
          go : (z : Bool) → z ≡ all_zero (take (length t - l.next) (drop l.next t)) → None ≡ v
          go true k = rw n at (lines_end true k)
          go false k = rw n at (lines_end false k)

      -- If something other than zeros follows the end line, then the form is wrong.
      pub lines_other : (z : Bool) → z ≡ all_zero (take (length t - l.next) (drop l.next t)) → z ≡ false → None ≡ v
      lines_other z zeros k = rw (k, from_none at) at (lines_end z zeros)

      -- If there was a number and only zeros follow the end line, then the comparison so far decides.
      pub lines_done : (z : Bool) → z ≡ all_zero (take (length t - l.next) (drop l.next t)) → z ≡ true → (at ≡ 0 → ⊥) → (b : Bool) → b ≡ agrees before [] → Some b ≡ v
      lines_done z zeros k n b d = ap Some d ∙ rw (k, from_later at (Some []) (omega arith)) at (lines_end z zeros)

    module _ (h : x ≡ false) (r : Option ℕ) (number : r ≡ dashed (take (l.text_end - at) (drop at t))) where
      -- If the line is not the end line, then the numbers that are left are the number of the line and those after it.
      next_number : from_line at (dash_numbers (lines (drop at t))) ≡ both r (dash_numbers (lines (drop l.next t)))
      unfolding dash_numbers
      next_number = rw ((ended_first t at c read l e).cut, dash_numbers, sym end ∙ h, ← number) (from_both at _ _)

      -- If the line has no number, then the form is wrong.
      pub lines_malformed : r ≡ None → (b : Option Bool) → b ≡ None → b ≡ v
      unfolding both
      lines_malformed p b n = n ∙ rw (next_number, p) at so_far

      -- If the line has a number, then the lines after it decide.
      pub lines_step : (n : ℕ) → r ≡ Some n → (next : Comparison) → ((ns : List ℕ) → agrees next ns ≡ agrees before (n ∷ ns))
          → agreed next (from_line l.next (dash_numbers (lines (drop l.next t)))) ≡ v
      lines_step n p next a =
          rw (from_later l.next (dash_numbers (lines (drop l.next t))) (omega (arith, ended_inside t at c read l e)))
          (sym (agreed_next before next n a _) ∙ rw (next_number, p) at so_far)
