-- One law for each return from the loops over bytes. The invariant of each loop: what is left to test gives the same
-- answer as all that had to be tested.
use Prim.Native.Nat.{ℕ, ◌+◌, ◌≤◌, ◌<◌}
use native.Mathlib.Omega.{arith}
use mathlib.Core.Path.{◌≡◌, refl, sym, ◌∙◌, ap}
use mathlib.Core.Bool.{Bool, true, false, ◌&&◌, ◌||◌, and-false}
use mathlib.Core.List.{[], ◌∷◌, ◌++◌}
use lib.ListN.{length, drop, drop_of_length-le, length-append, length-drop}
use lib.Dec.{eqb, leb}
use borrow.Author.Tests.{lt-leb, ne_eqb}
use Rattle.format.specs.Bytes.{Bytes, begins, all_zero}
use Rattle.format.proofs.ByteLaws.{begins_true}
use Rattle.std.proofs.Math.Seq.{slice}
use Rattle.scan.specs.Find.{PassedOver}
use Rattle.std.specs.Prelude.{not, ◌==◌}
use Rattle.std.specs.List.{list_any, list_all}
use Rattle.std.specs.Cmp.Lexicographic.{pointwise}
use Rattle.std.proofs.Common.{◌-◌, take}
use Rattle.std.proofs.lemmas.List.{take_rest}
use Rattle.scan.proofs.FindLaws.{slice_drop}

-- The first bytes are the word exactly if the bytes begin with it.
front_same : (k r : Bytes) → length k ≤ length r → pointwise eqb k (take (length k) r) ≡ begins k r
front_same [] r h = refl
front_same (a ∷ k) [] h = absurd (omega arith)
front_same (a ∷ k) (b ∷ r) h = rw (front_same k r (omega arith))

-- Too few bytes do not begin with the word.
begins_few : (k r : Bytes) → length r < length k → begins k r ≡ false
begins_few [] r h = absurd (omega arith)
begins_few (a ∷ k) [] h = refl
begins_few (a ∷ k) (b ∷ r) h = rw (begins_few k r (omega arith)) (and-false (eqb a b))

module _ (k s : Bytes) (at : ℕ) where
  -- If there are as many bytes as the word has, the first of them are compared with it.
  pub begins_front : (x : Bool) → length k ≤ length (take (length s - at) (drop at s))
      → x ≡ pointwise eqb k (take (length k) (take (length s - at) (drop at s))) → x ≡ begins k (drop at s)
  begins_front x h e = rw take_rest at e ∙ front_same k (drop at s) (rw take_rest at h)

  -- If the word is longer, the bytes do not begin with it.
  pub begins_long : length (take (length s - at) (drop at s)) < length k → leb (length k) (length (take (length s - at) (drop at s))) ≡ begins k (drop at s)
  begins_long h = rw (lt-leb (length k) (length (take (length s - at) (drop at s))) h) (sym (begins_few k (drop at s) (rw take_rest at h)))

-- Past the end there is only an empty word.
pub begins_past : (k s : Bytes) (at : ℕ) (x : Bool) → length s < at → x ≡ (length k == 0) → x ≡ begins k (drop at s)
begins_past [] s at x h e = e
begins_past (a ∷ k) s at x h e = rw (drop_of_length-le s {i = at} (omega arith)) (e ∙ ne_eqb (length (a ∷ k)) 0 (λ z. omega arith))

-- If a word that is not empty is found at an offset, it ends inside.
pub begins_inside : (k : Bytes) (at : ℕ) (s : Bytes) → begins k (drop at s) ≡ true → 1 ≤ length k → at + length k ≤ length s
begins_inside k at s h p =
    omega (arith, simp (length-append, length-drop) at (ap length (begins_true k (drop at s) h)))

-- Zeros at the front do not count: all bytes are zero exactly if the others are.
zeros_front : (u v : Bytes) → list_any (λ b. not (b == 0)) u ≡ false → all_zero (u ++ v) ≡ all_zero v
zeros_front [] v n = refl
zeros_front (a ∷ u) v n = go (eqb a 0) n (zeros_front u v)
  where
    go : (x : Bool) → (not x || list_any (λ b. not (b == 0)) u) ≡ false → (list_any (λ b. not (b == 0)) u ≡ false → all_zero (u ++ v) ≡ all_zero v)
        → x && all_zero (u ++ v) ≡ all_zero v
    go true n i = i n
    go false n i = let z : ◌≡◌ {A = ℕ} 0 1 = cc in absurd (omega arith)

-- If blocks of zeros are passed over, the bytes after them decide.
zeros_skipped : (s : Bytes) (i r : ℕ) → PassedOver (λ b. not (b == 0)) s i r → all_zero (drop i s) ≡ all_zero (drop r s)
zeros_skipped s i r k =
    ap all_zero (slice_drop s i r k.onward k.inside) ∙ zeros_front (slice i r s) (drop r s) k.none

-- The test of all bytes, in the words of the library.
zeros_all : (s : Bytes) → list_all (λ b. b == 0) s ≡ all_zero s
zeros_all [] = refl
zeros_all (b ∷ s) = ap (λ (x : Bool). b == 0 && x) (zeros_all s)

-- If large blocks of zeros are passed over, and then small ones, the bytes after them decide.
pub zeros_left : (s : Bytes) (large small : ℕ) (x : Bool) → PassedOver (λ b. not (b == 0)) s 0 large → PassedOver (λ b. not (b == 0)) s large small
    → x ≡ list_all (λ b. b == 0) (take (length s - small) (drop small s)) → x ≡ all_zero s
zeros_left s large small x p q h =
    rw take_rest at h ∙ zeros_all (drop small s) ∙ sym (zeros_skipped s large small q) ∙ sym (zeros_skipped s 0 large p)
