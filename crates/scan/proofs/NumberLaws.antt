-- Laws about numbers: one for each return from the loops and tests. The invariant of a loop: what is read so far is the
-- number of the bytes so far.
use Prim.Native.Nat.{ℕ, suc, ◌+◌, ◌-◌, ◌*◌, ◌%◌, ◌^◌, ◌≤◌, ◌<◌, min}
use native.Mathlib.Nat.{lt_of_lt_of_le, pow-le-pow_right, pow-suc}
use native.Mathlib.Numerals.{add-one}
use native.Mathlib.Omega.{arith}
use mathlib.Core.Path.{◌≡◌, refl, sym, ap, ◌∙◌}
use mathlib.Core.Bool.{Bool, true, false, not, and-true, and-false}
use mathlib.Core.List.{[], ◌∷◌, ◌++◌}
use lib.ListN.{length, take, drop, get_or, length-take}
use lib.Seq.{take-suc, take_all, split_at}
use mir.Syntax.{w64}
use mir.Val.{Fits}
use borrow.Author.Tests.{le-leb, lt-leb, not-true, not-false, eqb-true, eqb-false}
use Rattle.std.specs.Prelude.{◌==◌, Option, Some, None}
use Rattle.format.specs.Bytes.{Bytes, number}
use Rattle.format.specs.Numeral.{is_digit, all_digits, decimal_value, is_numeral, numeral}
use Rattle.format.proofs.ByteLaws.{and_both}
use Rattle.format.proofs.PackLaws.{big_endian_append}
use Rattle.format.proofs.NumeralLaws.{digits_append, length_snoc, value_snoc, digit_range, value_below}
use Rattle.scan.specs.Number.{BigEndian, Digits, digits_number, leads_well, DigitsRead, NumeralRead}

-- If `x` has at most `m` digits to the base `b`, and `m` is at most `n`, then `x` has at most `n` digits.
below_more : (b x m n : ℕ) → 1 ≤ b → m ≤ n → x < b ^ m → x < b ^ n
below_more b x m n p h l = lt_of_lt_of_le l (pow-le-pow_right p h)

-- The first `i + 1` bytes are the first `i` bytes and the byte at `i`.
first_next : (s : Bytes) (i : ℕ) → i < length s → take (i + 1) s ≡ take i s ++ (get_or s i 0 ∷ [])
first_next s i h = rw add-one (take-suc s i 0 h)

module _ (s : Bytes) (i x : ℕ) (read : BigEndian (take i s) x) where
  -- When one more byte is read, the result is the number of the first `i + 1` bytes.
  pub big_endian_step : (b : ℕ) → b ≡ get_or s i 0 → b < 256 → i < length s → BigEndian (take (i + 1) s) (x % 72057594037927936 * 256 + b)
  big_endian_step b e l h =
      let u = take i s in
      let sum = big_endian_append u (get_or s i 0 ∷ []) in
      let size = length_snoc u (get_or s i 0) in
      let power = pow-suc 256 (length u) in
      rw (first_next s i h)
      (record {
        is = omega arith;
        whole = λ few. omega (arith, read.whole (omega arith), below_more 256 x (length u) 7 (omega arith) (omega arith) read.small);
        small = rw size (omega arith);
      })

module _ (s : Bytes) (n w r : ℕ) (read : BigEndian (take w (drop n s)) r) where
  -- If at most eight bytes at offset `n` are read, the result is the number there.
  pub big_endian_number : w ≤ 8 → r ≡ number n w s
  big_endian_number h = read.whole (omega (arith, length-take w (drop n s)))

  -- The result is a number that `w` bytes can hold.
  pub big_endian_below : r < 256 ^ w
  big_endian_below = below_more 256 r _ w (omega arith) (omega (arith, length-take w (drop n s))) read.small

-- The first `i` bytes of `t` are digits, and `x` is their number.
pub record DigitsSoFar (t : Bytes) (i x : ℕ) : Type 0 where
  pub digits : all_digits (take i t) ≡ true
  pub value : decimal_value (take i t) ≡ x

-- If one of the bytes is no digit, they are malformed.
pub digits_other : (t : Bytes) (i : ℕ) (d : Bool) → d ≡ is_digit (get_or t i 0) → not d ≡ true → i < length t → DigitsRead t None
digits_other t i d h e p =
    let split = ap all_digits (split_at t i 0 p) ∙ digits_append (take i t) (get_or t i 0 ∷ drop (suc i) t) in
    let other : all_digits t ≡ false = rw (sym h ∙ not-true d e, and-false) at split in
    record { is = rw (other, digits_number); small = tt }

module _ (t : Bytes) (i x : ℕ) (read : DigitsSoFar t i x) where
  -- If a digit is left to read, the number so far leaves room for one more digit.
  digits_room : i < length t → length t ≤ 19 → x < 10 ^ 18
  digits_room p q =
      let below = rw read.value at (value_below (take i t) read.digits) in
      below_more 10 x (length (take i t)) 18 (omega arith) (omega (arith, length-take i t)) below

  -- Hence ten times the number so far fits into 64 bits.
  pub digits_times : i < length t → length t ≤ 19 → Fits w64 (x * 10)
  digits_times p q = omega (arith, digits_room p q)

  module _ (d : Bool) (h : d ≡ is_digit (get_or t i 0)) (e : not d ≡ false) (p : i < length t) (y : ℕ) (is : y ≡ get_or t i 0 - 48) where
    next_digit : is_digit (get_or t i 0) ≡ true
    next_digit = sym h ∙ not-false d e

    -- It still fits when the next digit is added.
    pub digits_plus : length t ≤ 19 → Fits w64 (x * 10 + y)
    digits_plus q = omega (arith, digits_room p q, digit_range (get_or t i 0) next_digit)

    -- When one more digit is read, the invariant holds for the first `i + 1` bytes.
    pub digits_step : DigitsSoFar t (i + 1) (x * 10 + y)
    digits_step =
        record {
          digits = rw (first_next t i p, digits_append) (and_both _ _ read.digits (and_both _ true next_digit refl));
          value = rw (first_next t i p, value_snoc, read.value, is);
        }

  -- When all bytes are read, `x` is the number of the digits.
  pub digits_done : length t ≤ i → DigitsRead t (Some x)
  digits_done p =
      let all = take_all i t p in
      let digits = rw all at read.digits in
      let value = rw all at read.value in
      record { is = rw (digits, digits_number, value); small = rw value at (value_below t digits) }

-- If an answer has at most `m` digits, and `m` is at most `n`, then it has at most `n` digits.
digits_more : (r : Option ℕ) (m n : ℕ) → m ≤ n → Digits m r → Digits n r
digits_more (Some x) m n h d = below_more 10 x m n (omega arith) h d
digits_more None m n h d = tt

module _ (t : Bytes) (most : ℕ) where
  -- If `t` is no numeral, it is malformed.
  no_numeral : is_numeral (min most 19) t ≡ false → NumeralRead t most None
  unfolding numeral
  no_numeral e = record { is = rw (e, numeral); small = tt }

  -- If `t` is empty, it is malformed.
  pub numeral_empty : (x : Bool) → x ≡ (length t == 0) → x ≡ true → NumeralRead t most None
  numeral_empty x h e = no_numeral (rw (lt-leb 1 (length t) (omega (arith, eqb-true (length t) 0 (sym h ∙ e)))))

  -- If `t` has too many digits, it is malformed.
  pub numeral_long : min most 19 < length t → NumeralRead t most None
  numeral_long h = no_numeral (rw (lt-leb (length t) (min most 19) h, and-false))

  module _ (z : Bool) (h : z ≡ leads_well t) where
    -- If `t` has a leading zero, it is malformed.
    pub numeral_zero : not z ≡ true → NumeralRead t most None
    numeral_zero e = no_numeral (rw (sym h ∙ not-true z e, and-false))

    -- If `t` passes these tests, it reads as what its digits give.
    pub numeral_read : (r : Option ℕ) (x : Bool) → z ≡ true → DigitsRead t r → x ≡ (length t == 0) → x ≡ false → length t ≤ min most 19
        → NumeralRead t most r
    unfolding numeral
    numeral_read r x e d i n few =
        let a : 1 ≤ length t = omega (arith, eqb-false (length t) 0 (sym i ∙ n)) in
        let well = sym h ∙ e in
        record {
          is = d.is ∙ sym (rw (numeral, le-leb 1 (length t) a, le-leb (length t) (min most 19) few, well, and-true (all_digits t)));
          small = digits_more r (length t) (min most 19) few d.small;
        }
