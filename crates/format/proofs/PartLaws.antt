-- Parts of a list, as slices of it give them, and its elements.
use Rattle.std.proofs.Common.{◌≡◌, ℕ, zero, suc, ◌-◌, ◌≤◌, List, [], ◌∷◌, length, take, drop, refl, arith, length-drop, take_all}
use Rattle.std.specs.Prelude.{None, slice_get}

module _ {A : Type 0} where
  -- The part from an offset up to the end is everything from that offset on.
  pub part_all : (s : List A) (n : ℕ) → take (length s - n) (drop n s) ≡ drop n s
  part_all s n = take_all (length s - n) (drop n s) (simp length-drop (omega arith))

  -- There is no element after the last.
  pub no_element : (s : List A) (j : ℕ) → length s ≤ j → slice_get s j ≡ None
  no_element [] j h = refl
  no_element (b ∷ s) zero h = absurd (omega arith)
  no_element (b ∷ s) (suc j) h = no_element s j (omega arith)
