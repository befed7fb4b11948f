-- Laws about the padding: with what is held of the message it is one block or two.
use Rattle.std.proofs.Common.{◌≡◌, ℕ, ◌+◌, ◌-◌, ◌*◌, ◌/◌, ◌%◌, ◌^◌, ◌<◌, ◌≤◌, [], ◌∷◌, ◌++◌, length, take, sym, ap, ◌∙◌, append_assoc, append-nil, arith, length-append}
use Rattle.std.proofs.lemmas.List.{replicate-append-replicate}
use lib.ListN.{length-replicate}
use lib.Seq.{take-append_seam}
use Rattle.std.specs.Int.{w64, to_le_bytes}
use Rattle.format.specs.Bytes.{Bytes}
use Rattle.md5_parts.specs.declared.words.Words.{Words}
use Rattle.md5_parts.specs.Md5.{compressed, blocks, hashed, padding}
use Rattle.md5_parts.specs.State.{in_block}
use Rattle.md5_parts.proofs.BlockLaws.{hashed_append}
use Rattle.md5_parts.proofs.JoinLaws.{zeros}

-- A block that is full has no zeros after it.
pub full : (t : Bytes) → length t ≡ 64 → in_block t ≡ t
full t h = let none : 64 - length t ≡ 0 = omega arith in rw (none, append-nil)

-- One block.
one_block : (w : Words) (b : Bytes) → length b ≡ 64 → hashed w b ≡ compressed w b
unfolding blocks
one_block w b h = let one : length b / 64 ≡ 1 = omega arith in rw one

-- Two blocks.
two_blocks : (w : Words) (b c : Bytes) → length b ≡ 64 → length c ≡ 64 → hashed w (b ++ c) ≡ compressed (compressed w b) c
unfolding blocks
two_blocks w b c h g = hashed_append 1 b c (omega arith) w ∙ one_block (compressed w b) c g

-- A message of `n` bytes: `h` has those after its whole blocks. `block` holds them and the bit after them, and `size` is
-- the number of bits.
module _ (w : Words) (h : Bytes) (n : ℕ) (held : length h ≡ n % 64) (block size : Bytes) (eb : block ≡ in_block (h ++ (128 ∷ []))) (es : size ≡ to_le_bytes w64 (n * 8 % 2 ^ 64)) where
  -- What is held, and the bit.
  abbrev marked : Bytes
  marked = h ++ (128 ∷ [])

  marked_size : length marked ≡ n % 64 + 1
  marked_size = length-append h (128 ∷ []) ∙ omega (arith, held)

  size_is : size ≡ to_le_bytes w64 (8 * n % 2 ^ 64)
  size_is = let bits : n * 8 % 2 ^ 64 ≡ 8 * n % 2 ^ 64 = omega arith in rw bits at es

  size_length : length size ≡ 8
  size_length = ap length size_is

  -- The message ends with the bit, zeros and the number of bits.
  ending : h ++ padding n ≡ marked ++ (zeros ((119 - n % 64) % 64) ++ size)
  unfolding padding
  ending = rw size_is (sym (append_assoc h (128 ∷ []) (zeros ((119 - n % 64) % 64) ++ to_le_bytes w64 (8 * n % 2 ^ 64))))

  -- The block that begins with what is held.
  block_is : block ≡ marked ++ zeros (63 - n % 64)
  block_is = let e : 64 - length marked ≡ 63 - n % 64 = omega (arith, marked_size) in eb ∙ ap (λ (k : ℕ). marked ++ zeros k) e

  module _ (few : n % 64 < 56) where
    -- What comes before the number of bits, if all is one block.
    abbrev front : Bytes
    front = marked ++ zeros (55 - n % 64)

    front_size : length front ≡ 56
    front_size = simp (length-append, length-replicate) (omega (arith, held))

    front_is : take 56 block ≡ front
    front_is =
        let more : zeros (63 - n % 64) ≡ zeros (55 - n % 64) ++ zeros 8 =
        let e : 63 - n % 64 ≡ 55 - n % 64 + 8 = omega arith in ap zeros e ∙ sym (replicate-append-replicate (55 - n % 64) 8 0) in
        let whole : block ≡ front ++ zeros 8 =
        block_is ∙ ap (λ (t : Bytes). marked ++ t) more ∙ sym (append_assoc marked (zeros (55 - n % 64)) (zeros 8)) in
        ap (take 56) whole ∙ ap (λ (k : ℕ). take k (front ++ zeros 8)) (sym front_size) ∙ take-append_seam front (zeros 8)

    all_is : h ++ padding n ≡ front ++ size
    all_is =
        let e : (119 - n % 64) % 64 ≡ 55 - n % 64 = omega arith in
        ending ∙ ap (λ (k : ℕ). marked ++ (zeros k ++ size)) e ∙ sym (append_assoc marked (zeros (55 - n % 64)) size)

    -- If fewer than 56 bytes are held, all is one block.
    pub one_last : (last : Bytes) → last ≡ in_block (take 56 block ++ size) → (v : Words) → v ≡ compressed w last → v ≡ hashed w (h ++ padding n)
    one_last last el v ev =
        let whole : length (front ++ size) ≡ 64 = length-append front size ∙ omega (arith, front_size, size_length) in
        let is : last ≡ front ++ size = el ∙ ap (λ (t : Bytes). in_block (t ++ size)) front_is ∙ full (front ++ size) whole in
        ev ∙ ap (compressed w) is ∙ sym (one_block w (front ++ size) whole) ∙ ap (hashed w) (sym all_is)

  module _ (many : 56 ≤ n % 64) where
    -- Otherwise there are two.
    pub two_last : (last : Bytes) → last ≡ in_block (zeros 56 ++ size) → (u : Words) → u ≡ compressed w block
        → (v : Words) → v ≡ compressed u last → v ≡ hashed w (h ++ padding n)
    two_last last el u eu v ev =
        let first-whole : length block ≡ 64 = ap length block_is ∙ simp (length-append, length-replicate) (omega (arith, held)) in
        let whole : length (zeros 56 ++ size) ≡ 64 = simp (length-append, length-replicate) (omega (arith, size_length)) in
        let is : last ≡ zeros 56 ++ size = el ∙ full (zeros 56 ++ size) whole in
        let e : 63 - n % 64 + 56 ≡ (119 - n % 64) % 64 = omega arith in
        let more : zeros (63 - n % 64) ++ (zeros 56 ++ size) ≡ zeros ((119 - n % 64) % 64) ++ size =
        sym (append_assoc (zeros (63 - n % 64)) (zeros 56) size) ∙ ap (λ (t : Bytes). t ++ size) (replicate-append-replicate (63 - n % 64) 56 0 ∙ ap zeros e) in
        let all : block ++ (zeros 56 ++ size) ≡ h ++ padding n =
        ap (λ (t : Bytes). t ++ (zeros 56 ++ size)) block_is ∙ append_assoc marked (zeros (63 - n % 64)) (zeros 56 ++ size)
        ∙ ap (λ (t : Bytes). marked ++ t) more ∙ sym ending in
        ev ∙ ap (compressed u) is ∙ ap (λ (x : Words). compressed x (zeros 56 ++ size)) eu
        ∙ sym (two_blocks w block (zeros 56 ++ size) first-whole whole) ∙ ap (hashed w) all
