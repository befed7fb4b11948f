-- The functions F and G, as the code works them out, bit by bit.
use Rattle.std.proofs.Common.{◌≡◌, ℕ, ◌+◌, ◌-◌, ◌%◌, ◌^◌, ◌<◌, min, max, ap, ◌∙◌, ap₂, arith}
use Rattle.std.specs.Int.{w32, bit_at}
use Rattle.std.proofs.lemmas.Nat.Bits.{bit_at-lt, bit_at-zero, bit_at_and, bit_at_or, bit_at_xor, bit_at_not, same_from_bits_below}
use lib.Bits.{bit_and, bit_xor, and_lt, or_lt, xor_lt, and_le_l, and_le_r, or_disjoint}
use Rattle.md5_parts.specs.Md5.{word_sum, complement, mix_f, mix_g}

module _ (x y z : ℕ) (hx : x < 2 ^ 32) (hy : y < 2 ^ 32) (hz : z < 2 ^ 32) where
  pub choose_is_f : bit_xor z (bit_and x (bit_xor y z)) ≡ mix_f x y z
  choose_is_f =
      let chosen : bit_and x (bit_xor y z) < 2 ^ 32 = and_lt 32 x _ hx (xor_lt 32 y z hy hz) in
      let others : bit_and (complement x) z < 2 ^ 32 = omega (arith, and_le_r (complement x) z) in
      same_from_bits_below 32 _ _ (xor_lt 32 z _ hz chosen) (or_lt 32 _ _ (and_lt 32 x y hx hy) others) (λ i h.
      let left : bit_at (bit_xor z (bit_and x (bit_xor y z))) i ≡ (bit_at z i + min (bit_at x i) ((bit_at y i + bit_at z i) % 2)) % 2 =
      bit_at_xor z _ i ∙ ap (λ (n : ℕ). (bit_at z i + n) % 2) (bit_at_and x _ i ∙ ap (min (bit_at x i)) (bit_at_xor y z i)) in
      let right : bit_at (mix_f x y z) i ≡ max (min (bit_at x i) (bit_at y i)) (min (1 - bit_at x i) (bit_at z i)) =
      bit_at_or _ _ i ∙ ap₂ max (bit_at_and x y i) (bit_at_and _ z i ∙ ap (λ (n : ℕ). min n (bit_at z i)) (bit_at_not w32 x i hx h)) in
      omega (arith, left, right, bit_at-lt x i, bit_at-lt y i, bit_at-lt z i))

  -- The two sides of G have no bit in common.
  apart : bit_and (bit_and x z) (bit_and y (complement z)) ≡ 0
  apart =
      let low : bit_and (bit_and x z) (bit_and y (complement z)) < 2 ^ 32 = omega (arith, and_le_l (bit_and x z) (bit_and y (complement z)), and_le_l x z) in
      same_from_bits_below 32 _ 0 low (omega arith) (λ i h.
      let both : bit_at (bit_and (bit_and x z) (bit_and y (complement z))) i ≡ min (min (bit_at x i) (bit_at z i)) (min (bit_at y i) (1 - bit_at z i)) =
      bit_at_and _ _ i ∙ ap₂ min (bit_at_and x z i) (bit_at_and y _ i ∙ ap (min (bit_at y i)) (bit_at_not w32 z i hz h)) in
      omega (arith, both, bit_at-zero i, bit_at-lt x i, bit_at-lt y i, bit_at-lt z i))

  pub sum_is_g : (r : ℕ) → r ≡ word_sum (bit_and x z) (bit_and y (complement z)) → r ≡ mix_g x y z
  sum_is_g r e =
      let or : mix_g x y z ≡ bit_and x z + bit_and y (complement z) = or_disjoint (bit_and x z) (bit_and y (complement z)) apart in
      let small : mix_g x y z < 2 ^ 32 = or_lt 32 (bit_and x z) (bit_and y (complement z)) (omega (arith, and_le_l x z)) (omega (arith, and_le_l y (complement z))) in
      omega (arith, or, small, e)
