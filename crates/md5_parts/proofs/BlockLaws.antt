-- Blocks one after another.
use Rattle.std.proofs.Common.{◌≡◌, ℕ, zero, suc, ◌+◌, ◌*◌, ◌/◌, ◌%◌, ◌≤◌, [], ◌∷◌, ◌++◌, length, take, drop, sym, refl, ap, ◌∙◌, append_assoc, add-zero, suc-add, zero-add, arith, length-append, length-drop, take-append-drop, length-take-le}
use lib.Seq.{take-append-le, drop-append-le, drop-append-add}
use Rattle.md5_parts.specs.declared.words.Words.{Words}
use Rattle.format.specs.Bytes.{Bytes}
use Rattle.md5_parts.specs.Md5.{words_of, compressed, blocks, hashed, left}

-- the words of a block depend on its bytes alone
words_front : (n : ℕ) (p t : Bytes) → 4 * n ≤ length p → words_of n (p ++ t) ≡ words_of n p
unfolding words_of
words_front zero p t h = refl
words_front (suc n) p t h =
    let four : 4 ≤ length p = omega arith in
    let rest : 4 * n ≤ length (drop 4 p) = simp length-drop (omega arith) in
    rw (take-append-le 4 p t, drop-append-le 4 p t, words_front n (drop 4 p) t rest)

compressed_front : (w : Words) (p t : Bytes) → 64 ≤ length p → compressed w (p ++ t) ≡ compressed w p
unfolding compressed
compressed_front w p t h = rw (words_front 16 p t (omega arith))

pub compressed_take : (w : Words) (t : Bytes) → 64 ≤ length t → compressed w (take 64 t) ≡ compressed w t
compressed_take w t h = sym (compressed_front w (take 64 t) (drop 64 t) (omega (arith, length-take-le 64 t h))) ∙ ap (compressed w) (take-append-drop 64 t)

-- first the blocks of p, then those behind it
blocks_append : (k n : ℕ) (w : Words) (p t : Bytes) → length p ≡ 64 * k → blocks (k + n) w (p ++ t) ≡ blocks n (blocks k w p) t
unfolding blocks
blocks_append zero n w [] t h = rw zero-add
blocks_append zero n w (b ∷ p) t h = absurd (omega arith)
blocks_append (suc k) n w p t h =
    let block : 64 ≤ length p = omega arith in
    let rest : length (drop 64 p) ≡ 64 * k = simp length-drop (omega arith) in
    rw (suc-add, blocks, compressed_front w p t block, drop-append-le 64 p t) (blocks_append k n (compressed w p) (drop 64 p) t rest)

module _ (k : ℕ) (p t : Bytes) (size : length p ≡ 64 * k) where
  -- Whole blocks are hashed before what follows them.
  pub hashed_append : (w : Words) → hashed w (p ++ t) ≡ hashed (blocks k w p) t
  hashed_append w =
      let many : length (p ++ t) / 64 ≡ k + length t / 64 = simp length-append (omega arith) in
      rw many (blocks_append k (length t / 64) w p t size)

  -- They leave nothing.
  pub left_append : left (p ++ t) ≡ left t
  left_append =
      let many : 64 * (length (p ++ t) / 64) ≡ length p + 64 * (length t / 64) = simp length-append (omega arith) in
      rw (many, drop-append-add)

-- the whole blocks of s
abbrev front : Bytes → Bytes
front s = take (64 * (length s / 64)) s

front_size : (s : Bytes) → length (front s) ≡ 64 * (length s / 64)
front_size s = length-take-le (64 * (length s / 64)) s (omega arith)

pub left_size : (s : Bytes) → length (left s) ≡ length s % 64
left_size s = simp length-drop (omega arith)

front_left : (s : Bytes) → front s ++ left s ≡ s
front_left s = take-append-drop (64 * (length s / 64)) s

-- the words after s are those after its whole blocks
front_hashed : (w : Words) (s : Bytes) → blocks (length s / 64) w (front s) ≡ hashed w s
unfolding blocks
front_hashed w s =
    let whole = blocks_append (length s / 64) 0 w (front s) (left s) (front_size s) in
    sym (rw (add-zero, front_left) at whole)

-- what is left of s and t behind it are hashed from there
pub hashed_on : (w : Words) (s t : Bytes) → hashed (hashed w s) (left s ++ t) ≡ hashed w (s ++ t)
hashed_on w s t =
    let on = hashed_append (length s / 64) (front s) (left s ++ t) (front_size s) w in
    sym (rw (← append_assoc, front_left, front_hashed) at on)

pub left_on : (s t : Bytes) → left (left s ++ t) ≡ left (s ++ t)
left_on s t =
    let on = left_append (length s / 64) (front s) (left s ++ t) (front_size s) in
    sym (rw (← append_assoc, front_left) at on)
