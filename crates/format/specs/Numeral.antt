-- Decimal numbers: how they are read and how they are written. A number has no leading zero unless it is a lone 0.
use Rattle.std.specs.Prelude.{ℕ, zero, suc, ◌+◌, ◌-◌, ◌*◌, ◌/◌, ◌%◌, ◌^◌, Bool, true, false, not, ◌&&◌, ◌||◌, List, [], ◌∷◌, ◌++◌, length, ◌==◌, nat_le, nat_lt, Option, None, Some}
use Rattle.format.specs.Bytes.{Bytes, text, begins}

-- Whether a byte is a digit, `0` to `9`.
abbrev pub is_digit : ℕ → Bool
is_digit b = nat_le 48 b && nat_le b 57

-- Whether every byte is a digit.
abbrev pub all_digits : Bytes → Bool
all_digits [] = true
all_digits (b ∷ t) = is_digit b && all_digits t

-- The number that these digits give; the first digit is the most significant.
abbrev pub decimal_value : Bytes → ℕ
decimal_value [] = 0
decimal_value (b ∷ t) = (b - 48) * 10 ^ length t + decimal_value t

-- Whether `t` has 1 to `most` digits and nothing else, with no leading zero unless it is a lone 0.
abbrev pub is_numeral : ℕ → Bytes → Bool
is_numeral most t = nat_le 1 (length t) && nat_le (length t) most && all_digits t && (nat_le (length t) 1 || not (begins (text "0") t))

-- The number that `t` gives, if it has that form.
unfoldable pub numeral : ℕ → Bytes → Option ℕ
numeral most t = elim (is_numeral most t) [ true ↦ Some (decimal_value t) | false ↦ None ]

-- Puts a number before a list of numbers, if both are there.
unfoldable pub both : Option ℕ → Option (List ℕ) → Option (List ℕ)
both None xs = None
both (Some x) None = None
both (Some x) (Some xs) = Some (x ∷ xs)

-- The numbers that the parts of a list give, if every part gives one.
unfoldable pub numerals : ℕ → List Bytes → Option (List ℕ)
numerals most [] = Some []
numerals most (p ∷ ps) = both (numeral most p) (numerals most ps)

-- The parts with one more byte, `a`, at the start of the first.
unfoldable pub lead_first : ℕ → List Bytes → List Bytes
lead_first a [] = []
lead_first a (p ∷ ps) = (a ∷ p) ∷ ps

-- The parts of a byte string that is cut at each byte `b`. No part contains that byte.
unfoldable pub split : ℕ → Bytes → List Bytes
split b [] = [] ∷ []
split b (a ∷ s) = elim (a == b) [ true ↦ [] ∷ split b s | false ↦ lead_first a (split b s) ]

-- The digits of `x`, or only the last `n` of them if it has more. `n` is the first argument.
unfoldable pub digits_of : ℕ → ℕ → Bytes
digits_of zero x = []
digits_of (suc n) x = elim (nat_lt x 10) [ true ↦ (48 + x) ∷ [] | false ↦ digits_of n (x / 10) ++ ((48 + x % 10) ∷ []) ]

-- A number in decimal, with no leading zero.
abbrev pub decimal : ℕ → Bytes
decimal x = digits_of (suc x) x
