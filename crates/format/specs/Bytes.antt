-- Byte strings, texts, and numbers stored in bytes.
use Rattle.std.specs.Prelude.{ℕ, zero, suc, ◌+◌, ◌*◌, ◌/◌, ◌%◌, ◌^◌, ◌<◌, Bool, true, false, ◌&&◌, List, [], ◌∷◌, ◌++◌, length, take, drop, ◌==◌, slice_index}
use Prim.Native.Char.{code}
use Prim.Native.String as S

-- A byte string, as a list of numbers.
abbrev pub Bytes : Type 0
Bytes = List ℕ

-- Every element is below 256, as in a slice of bytes.
abbrev pub IsBytes : Bytes → Type 0
IsBytes s = (i : ℕ) → slice_index s i < 256

-- The bytes of a text, one for each character.
abbrev pub text : S.String → Bytes
text S.[] = []
text (S.◌∷◌ c s) = code c ∷ text s

-- Whether `s` begins with `p`, the first argument.
abbrev pub begins : Bytes → Bytes → Bool
begins [] s = true
begins (a ∷ p) [] = false
begins (a ∷ p) (b ∷ s) = a == b && begins p s

-- Whether two byte strings are the same.
abbrev pub same : Bytes → Bytes → Bool
same [] [] = true
same [] (b ∷ t) = false
same (a ∷ s) [] = false
same (a ∷ s) (b ∷ t) = a == b && same s t

-- Whether every byte is zero.
abbrev pub all_zero : Bytes → Bool
all_zero [] = true
all_zero (b ∷ s) = b == 0 && all_zero s

-- The number that these bytes give; the first byte is the most significant.
abbrev pub big_endian : Bytes → ℕ
big_endian [] = 0
big_endian (b ∷ s) = b * 256 ^ length s + big_endian s

-- The number in the `w` bytes of `s` from offset `n`.
abbrev pub number : ℕ → ℕ → Bytes → ℕ
number n w s = big_endian (take w (drop n s))

-- The lowest `w` bytes of the number `x`, the most significant first.
abbrev pub to_bytes : ℕ → ℕ → Bytes
to_bytes zero x = []
to_bytes (suc w) x = to_bytes w (x / 256) ++ (x % 256 ∷ [])

-- The sum of two numbers modulo 2^64, as addition in 64 bits gives it.
abbrev pub wrapped : ℕ → ℕ → ℕ
wrapped a b = (a + b) % 2 ^ 64

-- A truth value as a number: 1 for true, 0 for false.
abbrev pub bit : Bool → ℕ
bit true = 1
bit false = 0
