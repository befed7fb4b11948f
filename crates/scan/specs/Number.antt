-- Numbers in bytes and in digits.
use Rattle.std.specs.Prelude.{ℕ, ◌%◌, ◌^◌, ◌≤◌, ◌<◌, min, ◌≡◌, Bool, true, false, ◌||◌, not, length, leb, Option, None, Some}
use Rattle.format.specs.Bytes.{Bytes, text, begins, big_endian}
use Rattle.format.specs.Numeral.{numeral, all_digits, decimal_value}

-- `r` is the number that the bytes `s` give, in 64 bits. With at most eight bytes nothing is lost.
pub record BigEndian (s : Bytes) (r : ℕ) : Type 0 where
  pub is : r ≡ big_endian s % 2 ^ 64
  pub whole : length s ≤ 8 → r ≡ big_endian s
  pub small : r < 256 ^ length s

-- The number, if there is one, has at most `most` digits.
abbrev pub Digits : ℕ → Option ℕ → Type 0
Digits most (Some x) = x < 10 ^ most
Digits most None = Unit {0}

-- The number that digits give, with or without a leading zero. If a byte is no digit, there is none.
abbrev pub digits_number : Bytes → Option ℕ
digits_number t = elim (all_digits t) [ true ↦ Some (decimal_value t) | false ↦ None ]

-- `r` is the number that the digits `t` give. It has at most as many digits as `t`.
pub record DigitsRead (t : Bytes) (r : Option ℕ) : Type 0 where
  pub is : r ≡ digits_number t
  pub small : Digits (length t) r

-- Whether `t` has no leading zero, except in a lone 0.
abbrev pub leads_well : Bytes → Bool
leads_well t = leb (length t) 1 || not (begins (text "0") t)

-- `r` is the number that `t` reads as. It has at most `most` digits, and never more than 19.
pub record NumeralRead (t : Bytes) (most : ℕ) (r : Option ℕ) : Type 0 where
  pub is : r ≡ numeral (min most 19) t
  pub small : Digits (min most 19) r
