-- Laws about numbers that are put one after another. The invariant: putting the numbers that are left gives the same
-- buffer as putting all numbers.
use Rattle.std.proofs.Common.{◌≡◌, ℕ, ◌+◌, ◌-◌, ◌*◌, ◌/◌, ◌<◌, ◌≤◌, List, [], ◌∷◌, ◌++◌, length, get_or, drop, refl, ap, ◌∙◌, add-one, arith, length-append, length-drop, drop_of_length-le, drop-cons}
use mathlib.Core.List.{flat_map}
use Rattle.format.specs.Bytes.{Bytes, to_bytes}
use Rattle.format.specs.Fields.{number_bytes}
use Rattle.format.specs.Lent.{placed}
use Rattle.format.proofs.PackLaws.{to_bytes_length}
use Rattle.put.proofs.PutLaws.{placed_append, placed_none, placed_nothing, placed_length}

-- Each number takes eight bytes.
pub numbers_length : (ns : List ℕ) → length (number_bytes ns) ≡ 8 * length ns
unfolding number_bytes flat_map
numbers_length [] = refl
numbers_length (x ∷ ns) = rw (length-append, to_bytes_length, numbers_length ns) (omega arith)

-- The bytes of the numbers from `k` on are those of number `k`, followed by those of the numbers after it.
numbers_next : (ns : List ℕ) (k : ℕ) → k < length ns → number_bytes (drop k ns) ≡ to_bytes 8 (get_or ns k 0) ++ number_bytes (drop (k + 1) ns)
unfolding number_bytes flat_map
numbers_next ns k h = rw (drop-cons ns k 0 h, add-one k)

module _ (out₀ : Bytes) (at : ℕ) (ns : List ℕ) where
  -- If the numbers do not all fit, nothing changes.
  pub numbers_long : at ≤ length out₀ → (length out₀ - at) / 8 < length ns → out₀ ≡ placed out₀ at (number_bytes ns)
  numbers_long h g = let l = numbers_length ns in placed_none out₀ at (number_bytes ns) (omega arith)

  -- The first `k` numbers are put, and the next belongs at `place`.
  pub record Putting (out : Bytes) (place k : ℕ) : Type 0 where
    pub at_place : place ≡ at + 8 * k
    pub few : k ≤ length ns
    pub room : at + 8 * length ns ≤ length out₀
    pub size : length out ≡ length out₀
    pub left : placed out place (number_bytes (drop k ns)) ≡ placed out₀ at (number_bytes ns)

  module _ (out : Bytes) (place k : ℕ) (p : Putting out place k) where
    -- When number `k` is put, the invariant holds for the next.
    pub numbers_step : k < length ns → (next : Bytes) → next ≡ placed out place (to_bytes 8 (get_or ns k 0)) → Putting next (place + 8) (k + 1)
    numbers_step h next put =
        let wide : length (to_bytes 8 (get_or ns k 0)) ≡ 8 = to_bytes_length 8 (get_or ns k 0) in
        let l = simp length-drop at (numbers_length (drop (k + 1) ns)) in
        let both = placed_append out place (to_bytes 8 (get_or ns k 0)) (number_bytes (drop (k + 1) ns)) (omega (arith, p.at_place, p.room, p.size)) in
        record {
          at_place = omega (arith, p.at_place);
          few = omega arith;
          room = p.room;
          size = ap length put ∙ placed_length out place (to_bytes 8 (get_or ns k 0)) ∙ p.size;
          left = rw put (both ∙ rw (numbers_next ns k h) at p.left);
        }

    -- If no number is left, all are put.
    pub numbers_done : length ns ≤ k → out ≡ placed out₀ at (number_bytes ns)
    unfolding number_bytes flat_map
    numbers_done all =
        placed_nothing out place (omega (arith, p.at_place, p.few, p.room, p.size)) ∙ rw (drop_of_length-le ns all) at p.left
