-- Laws that both searches rest on: how far it is to the first mark, and that a search in a part is a search in the
-- whole.
use Prim.Native.Nat.{ℕ, suc, ◌+◌, ◌-◌, ◌≤◌, ◌<◌}
use native.Mathlib.Numerals.{add-one}
use native.Mathlib.Omega.{arith}
use mathlib.Core.Path.{◌≡◌, refl, sym, ap, ◌∙◌}
use mathlib.Core.Bool.{Bool, true, false}
use mathlib.Core.List.{◌∷◌}
use mathlib.Mathlib.Data.Bool.Basic.{eq-false_of_not-eq-true}
use lib.ListN.{length, drop, get_or, drop_of_length-le}
use lib.Seq.{drop-cons}
use lib.Dec.{leb}
use borrow.Author.Tests.{lt-leb}
use Rattle.format.specs.Bytes.{Bytes, begins}
use Rattle.format.specs.Tree.{mark, free_space}
use Rattle.format.proofs.LocalLaws.{free_space_mark}
use Rattle.scan.proofs.TextLaws.{begins_inside}
use Rattle.mark.specs.Mark.{MarkFound, Skipped}

-- If no mark begins at a byte, this byte comes before the next mark.
space_step : (b : ℕ) (t : Bytes) → begins mark (b ∷ t) ≡ false → free_space (b ∷ t) ≡ free_space t + 1
unfolding free_space
space_step b t h = rw (h, free_space) (sym (add-one (free_space t)))

-- If no mark begins at `i`, the first mark from `i + 1` on is the first from `i` on.
pub mark_none_here : (t : Bytes) (i x : ℕ) → i + free_space (drop i t) ≡ x → begins mark (drop i t) ≡ false → i < length t
    → i + 1 + free_space (drop (i + 1) t) ≡ x
mark_none_here t i x left h p =
    let next = drop-cons t i 0 p in
    let step = space_step (get_or t i 0) (drop (suc i) t) (sym (ap (begins mark) next) ∙ h) in
    rw add-one (omega (arith, ap free_space next, step))

-- If fewer than four bytes are left, no mark begins there.
pub no_mark_left : (s : Bytes) (at n : ℕ) → n ≡ length s - at → n < 4 → leb 4 n ≡ begins mark (drop at s)
no_mark_left s at n e h = rw (lt-leb 4 n h) (sym (eq-false_of_not-eq-true (λ p. omega (arith, begins_inside mark at s p (omega arith)))))

-- At the start nothing is skipped.
pub skip_none : (t : Bytes) (from : ℕ) → from ≤ length t → Skipped t from from
skip_none t from h = record { is = refl; after = omega arith; inside = h }

-- At the end of the bytes and after it there is no mark, so the search returns the offset itself.
pub found_after : (s : Bytes) (at : ℕ) → length s ≤ at → MarkFound s at at
unfolding free_space
found_after s at h = record {
  is = omega (arith, ap free_space (drop_of_length-le s h));
  after = omega arith;
  inside = λ p. p;
}

-- If a mark begins at the offset, the search returns the offset itself.
pub found_at_once : (s : Bytes) (at : ℕ) (m : Bool) → m ≡ begins mark (drop at s) → m ≡ true → MarkFound s at at
found_at_once s at m h e = record { is = omega (arith, free_space_mark (drop at s) (sym h ∙ e)); after = omega arith; inside = λ p. p }
