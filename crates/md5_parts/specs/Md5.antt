-- MD5 as RFC 1321 defines it: words of 32 bits, the four rounds of a block, the padding and the digest.
use Rattle.std.specs.Prelude.{ℕ, Bool, true, ◌&&◌, nat_lt, zero, suc, ◌+◌, ◌-◌, ◌*◌, ◌/◌, ◌%◌, ◌^◌, List, [], ◌∷◌, ◌++◌, length, take, drop, replicate, bit_and, bit_or, bit_xor, slice_index}
use Rattle.std.specs.Int.{w32, w64, from_le_bytes, to_le_bytes}
use Rattle.format.specs.Bytes.{Bytes}
use Rattle.md5_parts.specs.declared.rounds.Operation.{Operation}
use Rattle.md5_parts.specs.declared.words.Words.{Words}

-- The sum of two words. What exceeds 32 bits is lost.
abbrev pub word_sum : ℕ → ℕ → ℕ
word_sum a b = (a + b) % 2 ^ 32

-- A word with all its bits inverted.
abbrev pub complement : ℕ → ℕ
complement x = 2 ^ 32 - 1 - x

-- The word `x` rotated to the left by `s` bits.
abbrev pub rotated : ℕ → ℕ → ℕ
rotated s x = bit_or (x * 2 ^ s % 2 ^ 32) (x / 2 ^ (32 - s))

-- The RFC's function F, of the first round.
abbrev pub mix_f : ℕ → ℕ → ℕ → ℕ
mix_f x y z = bit_or (bit_and x y) (bit_and (complement x) z)

-- Its function G, of the second round.
abbrev pub mix_g : ℕ → ℕ → ℕ → ℕ
mix_g x y z = bit_or (bit_and x z) (bit_and y (complement z))

-- Its function H, of the third round.
abbrev pub mix_h : ℕ → ℕ → ℕ → ℕ
mix_h x y z = bit_xor (bit_xor x y) z

-- Its function I, of the fourth round.
abbrev pub mix_i : ℕ → ℕ → ℕ → ℕ
mix_i x y z = bit_xor y (bit_or x (complement z))

-- The word that one operation works out: b + ((a + mix + x + t) <<< s).
unfoldable pub stepped : ℕ → ℕ → ℕ → ℕ → ℕ → ℕ → ℕ
stepped a b mix x s t = word_sum b (rotated s ((a + mix + x + t) % 2 ^ 32))

-- One operation. The RFC writes [ABCD k s i], then [DABC k s i], and so on: the words change places from one operation
-- to the next. Here they move on by one place instead.
unfoldable pub operation : (ℕ → ℕ → ℕ → ℕ) → ℕ → ℕ → ℕ → Words → Words
operation mix x s t w = record { a = w.d; b = stepped w.a w.b (mix w.b w.c w.d) x s t; c = w.b; d = w.c }

-- The record of an operation, in the order in which the RFC writes it.
abbrev op : ℕ → ℕ → ℕ → Operation
op k s t = record { word = k; bits = s; sine = t }

-- Operations one after another, over the sixteen words `x` of a block.
unfoldable pub round : (ℕ → ℕ → ℕ → ℕ) → List Operation → List ℕ → Words → Words
round mix [] x w = w
round mix (o ∷ os) x w = round mix os x (operation mix (slice_index x o.word) o.bits o.sine w)

-- The sixteen operations of each round, as the RFC lists them.
abbrev pub first_round : List Operation
first_round =
    op 0 7 0xd76aa478 ∷ op 1 12 0xe8c7b756 ∷ op 2 17 0x242070db ∷ op 3 22 0xc1bdceee
    ∷ op 4 7 0xf57c0faf ∷ op 5 12 0x4787c62a ∷ op 6 17 0xa8304613 ∷ op 7 22 0xfd469501
    ∷ op 8 7 0x698098d8 ∷ op 9 12 0x8b44f7af ∷ op 10 17 0xffff5bb1 ∷ op 11 22 0x895cd7be
    ∷ op 12 7 0x6b901122 ∷ op 13 12 0xfd987193 ∷ op 14 17 0xa679438e ∷ op 15 22 0x49b40821
    ∷ []

abbrev pub second_round : List Operation
second_round =
    op 1 5 0xf61e2562 ∷ op 6 9 0xc040b340 ∷ op 11 14 0x265e5a51 ∷ op 0 20 0xe9b6c7aa
    ∷ op 5 5 0xd62f105d ∷ op 10 9 0x02441453 ∷ op 15 14 0xd8a1e681 ∷ op 4 20 0xe7d3fbc8
    ∷ op 9 5 0x21e1cde6 ∷ op 14 9 0xc33707d6 ∷ op 3 14 0xf4d50d87 ∷ op 8 20 0x455a14ed
    ∷ op 13 5 0xa9e3e905 ∷ op 2 9 0xfcefa3f8 ∷ op 7 14 0x676f02d9 ∷ op 12 20 0x8d2a4c8a
    ∷ []

abbrev pub third_round : List Operation
third_round =
    op 5 4 0xfffa3942 ∷ op 8 11 0x8771f681 ∷ op 11 16 0x6d9d6122 ∷ op 14 23 0xfde5380c
    ∷ op 1 4 0xa4beea44 ∷ op 4 11 0x4bdecfa9 ∷ op 7 16 0xf6bb4b60 ∷ op 10 23 0xbebfbc70
    ∷ op 13 4 0x289b7ec6 ∷ op 0 11 0xeaa127fa ∷ op 3 16 0xd4ef3085 ∷ op 6 23 0x04881d05
    ∷ op 9 4 0xd9d4d039 ∷ op 12 11 0xe6db99e5 ∷ op 15 16 0x1fa27cf8 ∷ op 2 23 0xc4ac5665
    ∷ []

abbrev pub fourth_round : List Operation
fourth_round =
    op 0 6 0xf4292244 ∷ op 7 10 0x432aff97 ∷ op 14 15 0xab9423a7 ∷ op 5 21 0xfc93a039
    ∷ op 12 6 0x655b59c3 ∷ op 3 10 0x8f0ccc92 ∷ op 10 15 0xffeff47d ∷ op 1 21 0x85845dd1
    ∷ op 8 6 0x6fa87e4f ∷ op 15 10 0xfe2ce6e0 ∷ op 6 15 0xa3014314 ∷ op 13 21 0x4e0811a1
    ∷ op 4 6 0xf7537e82 ∷ op 11 10 0xbd3af235 ∷ op 2 15 0x2ad7d2bb ∷ op 9 21 0xeb86d391
    ∷ []

-- Whether each of these operations takes one of the sixteen words, and rotates by 1 to 31 bits.
abbrev pub all_fit : List Operation → Bool
all_fit [] = true
all_fit (o ∷ os) = nat_lt o.word 16 && (nat_lt 0 o.bits && (nat_lt o.bits 32 && all_fit os))

-- The first `n` words of `t`, of four bytes each, the least significant byte first.
unfoldable pub words_of : ℕ → Bytes → List ℕ
words_of zero t = []
words_of (suc n) t = from_le_bytes w32 (take 4 t) ∷ words_of n (drop 4 t)

-- The sums of the words in the same places.
unfoldable pub added : Words → Words → Words
added v w = record { a = word_sum v.a w.a; b = word_sum v.b w.b; c = word_sum v.c w.c; d = word_sum v.d w.d }

-- The words `w` after the four rounds over the sixteen words `x` of a block.
unfoldable pub rounds : List ℕ → Words → Words
rounds x w = round mix_i fourth_round x (round mix_h third_round x (round mix_g second_round x (round mix_f first_round x w)))

-- The words `w` after the block of 64 bytes with which `t` begins.
unfoldable pub compressed : Words → Bytes → Words
compressed w t = added w (rounds (words_of 16 t) w)

-- The words `w` after the `n` blocks with which `t` begins.
unfoldable pub blocks : ℕ → Words → Bytes → Words
blocks zero w t = w
blocks (suc n) w t = blocks n (compressed w t) (drop 64 t)

-- The words `w` after all whole blocks of `t`.
abbrev pub hashed : Words → Bytes → Words
hashed w t = blocks (length t / 64) w t

-- What is left of `t` after its whole blocks.
abbrev pub left : Bytes → Bytes
left t = drop (64 * (length t / 64)) t

-- The words before the first block.
abbrev pub start : Words
start = record { a = 0x67452301; b = 0xefcdab89; c = 0x98badcfe; d = 0x10325476 }

-- What follows a message of `n` bytes: a bit that is set, zeros up to eight bytes before the end of a block, and the
-- number of bits in the message, of which the lowest 64 bits count.
unfoldable pub padding : ℕ → Bytes
padding n = 128 ∷ (replicate ((119 - n % 64) % 64) 0 ++ to_le_bytes w64 (8 * n % 2 ^ 64))

-- The sixteen bytes of four words, the least significant byte of each first.
unfoldable pub digest_of : Words → Bytes
digest_of w = to_le_bytes w32 w.a ++ (to_le_bytes w32 w.b ++ (to_le_bytes w32 w.c ++ to_le_bytes w32 w.d))

-- The MD5 of a message.
unfoldable pub md5 : Bytes → Bytes
md5 s = digest_of (hashed start (s ++ padding (length s)))
