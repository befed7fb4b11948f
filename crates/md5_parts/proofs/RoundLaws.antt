-- The rounds of a block, one operation after another.
use Rattle.std.proofs.Common.{◌≡◌, ℕ, zero, suc, ◌+◌, ◌-◌, ◌/◌, ◌%◌, ◌^◌, ◌<◌, ◌≤◌, true, List, ◌∷◌, length, get_or, take, drop, map, refl, ap, arith, drop-cons, drop_of_length-le}
use Rattle.std.proofs.lemmas.Bool.Decides.{nat_tests}
use Rattle.std.specs.Int.{w32, rotate_left, from_le_bytes}
use Rattle.std.specs.Simd.{first_chunks}
use Rattle.format.specs.Bytes.{Bytes}
use Rattle.md5_parts.specs.declared.rounds.Operation.{Operation}
use Rattle.md5_parts.specs.declared.words.Words.{Words}
use Rattle.md5_parts.specs.Md5.{rotated, stepped, operation, rounds, round, first_round, second_round, third_round, fourth_round, mix_f, mix_g, mix_h, mix_i, all_fit, words_of, added, compressed}

-- The library's rotation is that of the definition.
rotate_is : (s x : ℕ) → 0 < s → s < 32 → rotate_left w32 x s ≡ rotated s x
rotate_is s x p q =
    let e : s % 32 ≡ s = omega arith in
    let d : (32 - s) % 32 ≡ 32 - s = omega arith in
    rw (e, d)

-- The sums of an operation, in the order in which the code takes them.
pub operation_law : (mix : ℕ → ℕ → ℕ → ℕ) (w : Words) (x s t m r : ℕ) → 0 < s → s < 32 → m ≡ mix w.b w.c w.d
    → r ≡ rotate_left w32 ((((x + t) % 2 ^ 32 + w.a) % 2 ^ 32 + m) % 2 ^ 32) s
    → ◌≡◌ {A = Words} (record { a = w.d; b = (w.b + r) % 2 ^ 32; c = w.b; d = w.c }) (operation mix x s t w)
unfolding operation stepped
operation_law mix w x s t m r p q em er =
    let sums : (((x + t) % 2 ^ 32 + w.a) % 2 ^ 32 + m) % 2 ^ 32 ≡ (w.a + m + x + t) % 2 ^ 32 = omega arith in
    rw (er, rotate_is s _ p q, sums, em)

-- What is known of an operation and of those after it, if all of them fit.
pub record Fit (o : Operation) (os : List Operation) : Type 0 where
  pub word : o.word < 16
  pub some : 0 < o.bits
  pub bits : o.bits < 32
  pub rest : all_fit os ≡ true

fit_cons : (o : Operation) (os : List Operation) → all_fit (o ∷ os) ≡ true → Fit o os
fit_cons o os h = record {
  word = grind (arith, nat_tests);
  some = grind (arith, nat_tests);
  bits = grind (arith, nat_tests);
  rest = grind (arith, nat_tests);
}

-- The loop over the operations `os`, at the one with index `i`.
module _ (os : List Operation) (i : ℕ) (inside : i < length os) (d : Operation) where
  pub fit_at : all_fit (drop i os) ≡ true → Fit (get_or os i d) (drop (suc i) os)
  fit_at h = fit_cons _ _ (rw (drop-cons os i d inside) at h)

  -- One operation more.
  pub round_more : (mix : ℕ → ℕ → ℕ → ℕ) (x : List ℕ) (v w : Words) (y : ℕ) → y ≡ get_or x (get_or os i d).word 0
      → w ≡ operation mix y (get_or os i d).bits (get_or os i d).sine v → round mix (drop (suc i) os) x w ≡ round mix (drop i os) x v
  unfolding round
  round_more mix x v w y ey e = rw (drop-cons os i d inside, e, ey)

-- No operation is left.
pub round_done : (mix : ℕ → ℕ → ℕ → ℕ) (os : List Operation) (i : ℕ) (x : List ℕ) (v : Words) → length os ≤ i → round mix (drop i os) x v ≡ v
unfolding round
round_done mix os i x v h = rw (drop_of_length-le os h)

-- The words of a block are the numbers of its fours.
pub words_are : (n : ℕ) (t : Bytes) → map (from_le_bytes w32) (first_chunks 4 n t) ≡ words_of n t
unfolding words_of
words_are zero t = refl
words_are (suc n) t = ap (λ (x : List ℕ). from_le_bytes w32 (take 4 t) ∷ x) (words_are n (drop 4 t))

-- The four rounds over these words are those of the definition.
pub compress_law : (w : Words) (t : Bytes) (fours : List Bytes) → fours ≡ first_chunks 4 (length t / 4) t → length t ≡ 64 → (v₁ v₂ v₃ v₄ r : Words)
    → v₁ ≡ round mix_f first_round (map (from_le_bytes w32) fours) w
    → v₂ ≡ round mix_g second_round (map (from_le_bytes w32) fours) v₁
    → v₃ ≡ round mix_h third_round (map (from_le_bytes w32) fours) v₂
    → v₄ ≡ round mix_i fourth_round (map (from_le_bytes w32) fours) v₃
    → r ≡ added w v₄ → r ≡ compressed w t
unfolding compressed rounds
compress_law w t fours e size v₁ v₂ v₃ v₄ r e₁ e₂ e₃ e₄ er =
    let words : map (from_le_bytes w32) fours ≡ words_of 16 t = rw (e, size) (words_are 16 t) in
    rw (er, e₄, e₃, e₂, e₁, words)
