-- Decimal numbers.
use Rattle.std.specs.Prelude.{◌≡◌, ℕ, ◌≤◌, length}
use Rattle.format.specs.Numeral.{decimal}
use Rattle.put.specs.Put.{most_digits}

-- `n` is how many decimal digits `x` has. `x` is a number of 64 bits.
pub record DecimalLength (x n : ℕ) : Type 0 where
  pub is : n ≡ length (decimal x)
  pub some_digit : 1 ≤ n
  pub few : n ≤ most_digits
