-- One law for each return from the plain search. The invariant: the first mark from here on is the first from the start
-- on.
use Prim.Native.Nat.{ℕ, suc, ◌+◌, ◌-◌, ◌≤◌, ◌<◌}
use native.Mathlib.Omega.{arith}
use mathlib.Core.Path.{◌≡◌, refl, sym, ap, ◌∙◌}
use mathlib.Core.Bool.{Bool, true, false}
use mathlib.Core.List.{◌∷◌}
use lib.ListN.{length, take, drop, get_or, drop_of_length-le, length-drop}
use lib.Seq.{drop-cons, get_or-drop}
use native.Mathlib.Nat.{add-zero}
use Rattle.std.specs.Array.{IsFirstChunk}
use Rattle.std.proofs.lemmas.List.{take_rest, get_or-take}
use borrow.Author.Tests.{ne_eqb}
use Rattle.format.specs.Bytes.{Bytes, begins}
use Rattle.format.specs.Tree.{mark, free_space}
use Rattle.format.proofs.LocalLaws.{free_space_mark}
use Rattle.mark.specs.Mark.{Skipped}
use Rattle.mark.proofs.MarkLaws.{mark_none_here}

-- No mark begins at a byte that is not D3.
other_byte : (b : ℕ) (t : Bytes) → (b ≡ 0xD3 → ⊥) → begins mark (b ∷ t) ≡ false
other_byte b t n = rw (ne_eqb 0xD3 b (λ e. n (sym e)))

-- If a byte is not D3, it can be passed over.
byte_step : (t : Bytes) (i x : ℕ) → i + free_space (drop i t) ≡ x → (j : ℕ) → j ≡ i + 1 → (get_or t i 0 ≡ 0xD3 → ⊥) → i < length t
    → j + free_space (drop j t) ≡ x
byte_step t i x left j e n p =
    rw e (mark_none_here t i x left (ap (begins mark) (drop-cons t i 0 p) ∙ other_byte (get_or t i 0) (drop (suc i) t) n) p)

-- If none of the next four bytes is D3, they can be skipped.
pub skip_four : (t : Bytes) (from i : ℕ) (four : Bytes) → Skipped t from i → IsFirstChunk (take (length t - i) (drop i t)) four 4
    → (get_or four 0 0 ≡ 0xD3 → ⊥) → (get_or four 1 0 ≡ 0xD3 → ⊥) → (get_or four 2 0 ≡ 0xD3 → ⊥) → (get_or four 3 0 ≡ 0xD3 → ⊥) → Skipped t from (i + 4)
skip_four t from i four skipped chunk a b c d =
    let x = from + free_space (drop from t) in
    let one = byte_step t i x skipped.is (i + 1) refl (λ e. a (byte 0 (omega arith) ∙ rw add-zero e)) (omega (arith, room)) in
    let two = byte_step t (i + 1) x one (i + 2) (omega arith) (λ e. b (byte 1 (omega arith) ∙ e)) (omega (arith, room)) in
    let three = byte_step t (i + 2) x two (i + 3) (omega arith) (λ e. c (byte 2 (omega arith) ∙ e)) (omega (arith, room)) in
    record {
      is = byte_step t (i + 3) x three (i + 4) (omega arith) (λ e. d (byte 3 (omega arith) ∙ e)) (omega (arith, room));
      after = omega (arith, skipped.after);
      inside = omega (arith, room);
    }
  where
    room : 4 ≤ length t - i
    room = simp (take_rest, length-drop) at chunk.enough

    byte : (j : ℕ) → j < 4 → get_or four j 0 ≡ get_or t (i + j) 0
    byte j h = rw (chunk.same, take_rest t i, get_or-take 4 (drop i t) j 0 h, get_or-drop)

module _ (t : Bytes) (from i x : ℕ) (before : from + free_space (drop from t) ≡ x) (skipped : Skipped t from i) where
  -- Skipping bytes does not change where the first mark is.
  left : i + free_space (drop i t) ≡ x
  left = skipped.is ∙ before

  -- If nothing is left, the result is `i`.
  pub mark_none : length t ≤ i → i ≡ x
  unfolding free_space
  mark_none p = omega (arith, left, ap free_space (drop_of_length-le t p))

  module _ (m : Bool) (h : m ≡ begins mark (drop i t)) where
    -- If a mark begins at `i`, the result is `i`.
    pub mark_here : m ≡ true → i ≡ x
    mark_here e = omega (arith, left, free_space_mark (drop i t) (sym h ∙ e))

    -- If no mark begins at `i`, the search goes on at `i + 1`.
    pub mark_step : m ≡ false → i < length t → i + 1 + free_space (drop (i + 1) t) ≡ x
    mark_step e p = mark_none_here t i x left (sym h ∙ e) p
