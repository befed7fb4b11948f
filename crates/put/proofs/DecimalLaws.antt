-- Laws about decimal numbers that are put into a buffer, the last digit first.
use Rattle.std.proofs.Common.{◌≡◌, ℕ, suc, ◌+◌, ◌-◌, ◌/◌, ◌%◌, ◌^◌, ◌<◌, ◌≤◌, length, set, sym, refl, ap, ◌∙◌, arith, length-set, ◌*◌, Bool, true, false, ltb, add-one}
use native.Mathlib.Nat.{pow-le-pow_right, pow-suc}
use borrow.Author.Tests.{ltb-true, ltb-false}
use lib.Seq.{sets}
use Rattle.format.specs.Bytes.{Bytes}
use Rattle.format.specs.Lent.{placed}
use Rattle.format.specs.Numeral.{decimal}
use Rattle.format.proofs.NumeralLaws.{decimal_is, decimal_one, decimal_more, length_snoc, value_below}
use Rattle.put.specs.Decimal.{DecimalLength}
use Rattle.put.proofs.PutLaws.{sets_last, placed_sets}

-- Every number has at least one digit.
decimal_some : (x : ℕ) → 1 ≤ length (decimal x)
decimal_some x = (decimal_is x).some_digit

-- A number below ten has one digit.
one_digit : (x : ℕ) → x < 10 → length (decimal x) ≡ 1
one_digit x h = ap length (decimal_one x h)

-- If `x` is ten or more, it has one digit more than `x / 10`.
more_digits : (x : ℕ) → 10 ≤ x → length (decimal x) ≡ suc (length (decimal (x / 10)))
more_digits x h = ap length (decimal_more x h) ∙ length_snoc (decimal (x / 10)) (48 + x % 10)

-- A number that is written with `k + 1` digits in the library's count has so many.
pub length_some : (x k : ℕ) → 10 ^ k ≤ x → x < 10 * 10 ^ k → k < 20 → DecimalLength x (k + 1)
length_some x k low high few =
    let most = (decimal_is x).few (k + 1) (omega arith) (rw (add-one k) (omega (arith, high, pow-suc 10 k))) in
    let least : k < length (decimal x) = at_least (ltb k (length (decimal x))) refl in
    record { is = omega (arith, most, least); some_digit = omega arith; few = omega arith }
  where
    below : x < 10 ^ length (decimal x)
    below = rw (decimal_is x).value at (value_below (decimal x) (decimal_is x).digits)

    at_least : (b : Bool) → ltb k (length (decimal x)) ≡ b → k < length (decimal x)
    at_least true e = ltb-true k (length (decimal x)) e
    at_least false e =
        let short = ltb-false k (length (decimal x)) e in
        absurd (omega (arith, below, pow-le-pow_right {n = 10} (omega arith) short))

-- Zero has one digit.
pub length_none : (x : ℕ) → x ≡ 0 → DecimalLength x 1
length_none x e = record { is = sym (one_digit x (omega arith)); some_digit = omega arith; few = omega arith }

-- The digits of `x` are put, except those before `place`. These are the digits of `rest`.
pub record Putting (before : Bytes) (at x : ℕ) (out : Bytes) (place rest : ℕ) : Type 0 where
  pub size : length out ≡ length before
  pub inside : place ≤ length before
  pub digits : place ≡ at + length (decimal rest)
  pub put : sets out at (decimal rest) ≡ sets before at (decimal x)

module _ (before : Bytes) (at x : ℕ) where
  module _ (out : Bytes) (place rest : ℕ) (h : Putting before at x out place rest) where
    -- When the last digit that is left is put, the invariant holds for the digits before it.
    pub digits_step : at + 1 < place → Putting before at x (set out (place - 1) (48 + rest % 10)) (place - 1) (rest / 10)
    digits_step p =
        let tens = decimal (rest / 10) in
        let more : 10 ≤ rest = two_digits (ltb rest 10) refl in
        let e : place - 1 ≡ at + length tens = omega (arith, h.digits, more_digits rest more) in
        record {
          size = length-set out (place - 1) (48 + rest % 10) ∙ h.size;
          inside = omega (arith, h.inside);
          digits = e;
          put = rw e (sym (sets_last out at tens (48 + rest % 10)) ∙ rw (decimal_more rest more) at h.put);
        }
      where
        two_digits : (b : Bool) → ltb rest 10 ≡ b → 10 ≤ rest
        two_digits true e = absurd (omega (arith, h.digits, one_digit rest (ltb-true rest 10 e)))
        two_digits false e = ltb-false rest 10 e

    module _ (p : place ≤ at + 1) where
      -- At most one digit is left.
      pub digits_last : rest < 10
      digits_last = go (ltb rest 10) refl
        where
          go : (b : Bool) → ltb rest 10 ≡ b → rest < 10
          go true e = ltb-true rest 10 e
          go false e =
              let more = ltb-false rest 10 e in
              absurd (omega (arith, h.digits, more_digits rest more, decimal_some (rest / 10)))

      -- It belongs inside the buffer.
      pub digits_first : at < length out
      digits_first = omega (arith, h.digits, decimal_some rest, h.inside, h.size)

      -- When it is put, all digits are put.
      pub digits_done : (n : ℕ) → n ≡ length (decimal x) → at + n ≤ length before → set out at (48 + rest) ≡ placed before at (decimal x)
      digits_done n e q = rw (decimal_one rest digits_last) at h.put ∙ sym (placed_sets before at (decimal x) (omega arith))
