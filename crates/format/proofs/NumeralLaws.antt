-- Writing and reading a decimal number undo each other, and so do joining and splitting parts.
use Rattle.std.proofs.Common.{◌≡◌, ℕ, zero, suc, ◌+◌, ◌-◌, ◌*◌, ◌/◌, ◌%◌, ◌^◌, ◌<◌, ◌≤◌, Bool, true, false, not, ◌&&◌, ◌||◌, eqb, ltb, leb, List, [], ◌∷◌, ◌++◌, length, sym, refl, ap, ◌∙◌, ap₂, true≢false, append-nil, pow-suc, arith, length-append, ltb-false, ltb-true, le-ltb, lt-ltb, eq-eqb, ne_eqb, eqb-true, le-leb, leb-true}
use mathlib.Core.Bool.{and_assoc, and-true, or-true}
use Rattle.std.specs.Prelude.{Option, None, Some}
use native.Mathlib.Nat.{pow-succ', one-le-mul, one-le-pow}
use lib.Seq.{append_snoc}
use lib.Arith.{digits_lt, digits_div, digits_mod}
use borrow.Author.Tests.{lt-leb, eqb-false, not-true}
use Rattle.format.specs.Bytes.{Bytes, text, begins}
use Rattle.format.specs.Numeral.{is_digit, all_digits, decimal_value, is_numeral, numeral, both, split, lead_first, digits_of, decimal}
use Rattle.format.proofs.ByteLaws.{and_left, and_right, and_both, lacks, lacks_head, lacks_tail, lacks_cons, lacks_append}
use Rattle.format.proofs.OutcomeLaws.{none_is_not_some}

-- `t` is `x` in decimal. It has only digits, one or more and no more than `x` takes, and they give `x`. It has no
-- leading zero except in a lone 0.
pub record IsDecimal (x : ℕ) (t : Bytes) : Type 0 where
  pub digits : all_digits t ≡ true
  pub some_digit : 1 ≤ length t
  pub few : (k : ℕ) → 1 ≤ k → x < 10 ^ k → length t ≤ k
  pub value : decimal_value t ≡ x
  pub no_zero : 1 ≤ x → begins (text "0") t ≡ false

-- Two texts together are all digits exactly if each of them is.
pub digits_append : (s t : Bytes) → all_digits (s ++ t) ≡ (all_digits s && all_digits t)
digits_append [] t = refl
digits_append (b ∷ s) t = ap (λ (x : Bool). is_digit b && x) (digits_append s t) ∙ sym (and_assoc (is_digit b) (all_digits s) (all_digits t))

-- A text with one more byte at its end is one byte longer.
pub length_snoc : (t : Bytes) (d : ℕ) → length (t ++ (d ∷ [])) ≡ suc (length t)
length_snoc t d = omega (arith, length-append t (d ∷ []))

-- With one more digit at the end, the value is ten times the old value plus that digit.
pub value_snoc : (t : Bytes) (d : ℕ) → decimal_value (t ++ (d ∷ [])) ≡ decimal_value t * 10 + (d - 48)
value_snoc [] d = omega arith
value_snoc (b ∷ t) d = rw (value_snoc t d, length_snoc t d, pow-suc 10 (length t)) (omega arith)

-- 48 plus a number below ten is a digit.
is_digit_lem : (x : ℕ) → x < 10 → is_digit (48 + x) ≡ true
is_digit_lem x h = and_both (leb 48 (48 + x)) (leb (48 + x) 57) (le-leb 48 (48 + x) (omega arith)) (le-leb (48 + x) 57 (omega arith))

-- A text that is not empty has the same first byte with more bytes after it.
begins_first : (b : ℕ) (t z : Bytes) → 1 ≤ length t → begins (b ∷ []) (t ++ z) ≡ begins (b ∷ []) t
begins_first b [] z h = absurd (omega arith)
begins_first b (a ∷ t) z h = refl

-- If `x` is below ten, the single byte `48 + x` is `x` in decimal.
one_digit : (x : ℕ) → x < 10 → IsDecimal x ((48 + x) ∷ [])
one_digit x h = record {
  digits = and_both (is_digit (48 + x)) true (is_digit_lem x h) refl;
  some_digit = omega arith;
  few = λ k p q. p;
  value = omega arith;
  no_zero = λ p. rw (ne_eqb 48 (48 + x) (λ e. omega arith));
}

-- If `x` is ten or more and `t` is no longer than `x / 10` needs, then `t` with one more byte is no longer than `x`
-- needs.
more_few : (x : ℕ) (t : Bytes) (d : ℕ) → 10 ≤ x → ((k : ℕ) → 1 ≤ k → x / 10 < 10 ^ k → length t ≤ k)
    → (k : ℕ) → x < 10 ^ k → length (t ++ (d ∷ [])) ≤ k
more_few x t d h few zero p = absurd (omega arith)
more_few x t d h few (suc zero) p = absurd (omega arith)
more_few x t d h few (suc (suc j)) p = omega (arith, length_snoc t d, few (suc j) (omega arith) (omega arith))

-- If `x` is ten or more and `t` is `x / 10` in decimal, then `t` followed by the last digit of `x` is `x` in decimal.
more_digits : (x : ℕ) (t : Bytes) → 10 ≤ x → IsDecimal (x / 10) t → IsDecimal x (t ++ ((48 + x % 10) ∷ []))
more_digits x t h d = record {
  digits = digits_append t ((48 + x % 10) ∷ []) ∙ and_both (all_digits t) _ d.digits (one_digit (x % 10) (omega arith)).digits;
  some_digit = omega (arith, length_snoc t (48 + x % 10));
  few = λ k p. more_few x t (48 + x % 10) h d.few k;
  value = omega (arith, value_snoc t (48 + x % 10), d.value);
  no_zero = λ p. begins_first 48 t _ d.some_digit ∙ d.no_zero (omega arith);
}

-- If `n` allows enough digits, `digits_of n x` is `x` in decimal.
digits_are : (n x : ℕ) → x < n → IsDecimal x (digits_of n x)
unfolding digits_of
digits_are zero x h = absurd (omega arith)
digits_are (suc n) x h = go (ltb x 10) refl (digits_are n (x / 10))
  where
    go : (b : Bool) → ltb x 10 ≡ b → (x / 10 < n → IsDecimal (x / 10) (digits_of n (x / 10))) → IsDecimal x (digits_of (suc n) x)
    go true e i = rw (e, digits_of) (one_digit x (ltb-true x 10 e))
    go false e i = let h' = ltb-false x 10 e in rw (e, digits_of) (more_digits x (digits_of n (x / 10)) h' (i (omega arith)))

-- What `decimal` writes for a number is that number in decimal.
pub decimal_is : (x : ℕ) → IsDecimal x (decimal x)
decimal_is x = digits_are (suc x) x (omega arith)

-- A text of digits lacks every byte that is not a digit.
digits_lack : (b : ℕ) (t : Bytes) → is_digit b ≡ false → all_digits t ≡ true → lacks b t ≡ true
digits_lack b [] n h = refl
digits_lack b (a ∷ t) n h =
    let other : a ≡ b → ⊥ = λ e. true≢false (sym (and_left _ _ h) ∙ ap is_digit e ∙ n) in
    lacks_cons b a t (ne_eqb a b other) (digits_lack b t n (and_right (is_digit a) _ h))

-- A number in decimal lacks every byte that is not a digit.
pub decimal_lacks : (b n : ℕ) → is_digit b ≡ false → lacks b (decimal n) ≡ true
decimal_lacks b n h = digits_lack b (decimal n) h (decimal_is n).digits

-- If `P` holds for the empty text, and stays true when a byte is added at the end, it holds for every text.
by_last : (P : Bytes → Type 0) → P [] → ((s : Bytes) (d : ℕ) → P s → P (s ++ (d ∷ []))) → (t : Bytes) → P t
by_last P p more t = go [] t p
  where
    go : (s t : Bytes) → P s → P (s ++ t)
    go s [] h = rw append-nil h
    go s (d ∷ t) h = rw append_snoc at (go (s ++ (d ∷ [])) t (more s d h))

-- A digit is a byte from 48 to 57.
pub digit_range : (b : ℕ) → is_digit b ≡ true → (48 ≤ b) × (b ≤ 57)
digit_range b h = (leb-true 48 b (and_left _ _ h), leb-true b 57 (and_right (leb 48 b) _ h))

-- If the first digit is not 0, the digits give a number of at least one.
value_some : (b : ℕ) (t : Bytes) → is_digit b ≡ true → eqb 48 b ≡ false → 1 ≤ decimal_value (b ∷ t)
value_some b t h z =
    let r = digit_range b h in
    let n : 1 ≤ (b - 48) * 10 ^ length t = one-le-mul (omega (arith, eqb-false 48 b z)) (one-le-pow (length t) 10 (omega arith)) in
    omega arith

-- The number that digits give is below ten to the power of their count.
pub value_below : (t : Bytes) → all_digits t ≡ true → decimal_value t < 10 ^ length t
value_below [] h = omega arith
value_below (b ∷ t) h =
    let r = digit_range b (and_left _ _ h) in
    let q : b - 48 < 10 = omega arith in
    rw pow-succ' (digits_lt q (value_below t (and_right (is_digit b) _ h)))

-- A number below ten is written with one digit.
digits_one : (n x : ℕ) → x < 10 → digits_of (suc n) x ≡ (48 + x) ∷ []
unfolding digits_of
digits_one n x h = rw (lt-ltb x 10 h, digits_of)

-- If `n` and `m` both allow enough digits, the digits of `x` are the same with either.
digits_room : (n m x : ℕ) → x < n → x < m → digits_of n x ≡ digits_of m x
unfolding digits_of
digits_room zero m x h k = absurd (omega arith)
digits_room (suc n) zero x h k = absurd (omega arith)
digits_room (suc n) (suc m) x h k = go (ltb x 10) refl (digits_room n m (x / 10))
  where
    go : (b : Bool) → ltb x 10 ≡ b → (x / 10 < n → x / 10 < m → digits_of n (x / 10) ≡ digits_of m (x / 10)) → digits_of (suc n) x ≡ digits_of (suc m) x
    go true e i = rw (e, digits_of)
    go false e i =
        let large = ltb-false x 10 e in
        rw (e, digits_of) (ap (λ (t : Bytes). t ++ ((48 + x % 10) ∷ [])) (i (omega arith) (omega arith)))

-- A number below ten is one digit in decimal.
pub decimal_one : (x : ℕ) → x < 10 → decimal x ≡ (48 + x) ∷ []
decimal_one x = digits_one x x

-- If `x` is ten or more, its decimal text is that of `x / 10`, followed by the last digit of `x`.
pub decimal_more : (x : ℕ) → 10 ≤ x → decimal x ≡ decimal (x / 10) ++ ((48 + x % 10) ∷ [])
unfolding digits_of
decimal_more x h =
    rw (le-ltb x 10 h, digits_of) (ap (λ (t : Bytes). t ++ ((48 + x % 10) ∷ [])) (digits_room x (suc (x / 10)) (x / 10) (omega arith) (omega arith)))

-- If `q` is at least one and `r` is below ten, the digits of `q * 10 + r` are those of `q`, followed by the digit `r`.
digits_more : (n q r : ℕ) → 1 ≤ q → r < 10 → digits_of (suc n) (q * 10 + r) ≡ digits_of n q ++ ((48 + r) ∷ [])
unfolding digits_of
digits_more n q r h k = rw (le-ltb (q * 10 + r) 10 (omega arith), digits_of, digits_div q k, digits_mod q k)

-- If `t` has only digits, at least one and no leading zero, then writing its value gives `t`.
abbrev ReadsBack : Bytes → Type 0
ReadsBack t = 1 ≤ length t → all_digits t ≡ true → (2 ≤ length t → begins (text "0") t ≡ false)
    → (n : ℕ) → decimal_value t < n → digits_of n (decimal_value t) ≡ t

-- If writing the value of `s` gives `s`, the same is true with one more digit at the end.
reads_more : (s : Bytes) (d : ℕ) → ReadsBack s → ReadsBack (s ++ (d ∷ []))
reads_more s d i p ds z zero h = absurd (omega arith)
reads_more [] d i p ds z (suc n) h =
    let r = digit_range d (and_left _ _ ds) in
    digits_one n (decimal_value (d ∷ [])) (omega arith) ∙ ap (λ (x : ℕ). x ∷ []) (omega arith)
reads_more (b ∷ s) d i p ds z (suc n) h =
    let both : (all_digits (b ∷ s) && all_digits (d ∷ [])) ≡ true = sym (digits_append (b ∷ s) (d ∷ [])) ∙ ds in
    let front = and_left (all_digits (b ∷ s)) _ both in
    let last = digit_range d (and_left _ _ (and_right (all_digits (b ∷ s)) _ both)) in
    let tens = value_some b s (and_left _ _ front) (sym (and-true (eqb 48 b)) ∙ z (omega (arith, length_snoc s d))) in
    let sum = value_snoc (b ∷ s) d in
    ap (digits_of (suc n)) sum
    ∙ digits_more n (decimal_value (b ∷ s)) (d - 48) tens (omega arith)
    ∙ ap₂ (λ (t : Bytes) (x : ℕ). t ++ (x ∷ [])) (i (omega arith) front (λ k. z (omega (arith, length_snoc s d))) n (omega arith)) (omega arith)

-- Every text of digits with no leading zero is what is written for its value.
reads_back : (t : Bytes) → ReadsBack t
reads_back = by_last _ (λ h. absurd (omega arith)) reads_more

-- A number in decimal has no leading zero except in a lone 0.
no_leading_zero : (x : ℕ) (t : Bytes) → IsDecimal x t → (leb (length t) 1 || not (begins (text "0") t)) ≡ true
no_leading_zero x t d = go (ltb x 10) refl
  where
    go : (b : Bool) → ltb x 10 ≡ b → (leb (length t) 1 || not (begins (text "0") t)) ≡ true
    go true e = rw (le-leb (length t) 1 (d.few 1 (omega arith) (ltb-true x 10 e)))
    go false e = let h = ltb-false x 10 e in rw (d.no_zero (omega arith)) (or-true (leb (length t) 1))

-- A number in decimal that has at most `most` digits is read as that number.
pub numeral_decimal : (most n : ℕ) → 1 ≤ most → n < 10 ^ most → numeral most (decimal n) ≡ Some n
unfolding numeral
numeral_decimal most n p h =
    let d = decimal_is n in
    let l = length (decimal n) in
    let sized = and_both (leb 1 l) (leb l most) (le-leb 1 l d.some_digit) (le-leb l most (d.few most p h)) in
    let good = and_both _ _ (and_both _ (all_digits (decimal n)) sized d.digits) (no_leading_zero n (decimal n) d) in
    rw (good, numeral) (ap Some d.value)

-- If one of two tests holds and the first does not, the second holds.
or_second : (a b : Bool) → (a || b) ≡ true → a ≡ false → b ≡ true
or_second true b h e = cc
or_second false b h e = h

module _ (most : ℕ) (t : Bytes) (n : ℕ) (h : numeral most t ≡ Some n) where
  -- If `t` is read as the number `n`, it is a numeral and its value is `n`.
  numeral_value : (is_numeral most t ≡ true) × (decimal_value t ≡ n)
  unfolding numeral
  numeral_value = go (is_numeral most t) refl
    where
      go : (b : Bool) → is_numeral most t ≡ b → (is_numeral most t ≡ true) × (decimal_value t ≡ n)
      go true e = (e, cc)
      go false e = (cc, cc)

  -- It has from one to `most` digits.
  numeral_sized : (leb 1 (length t) && leb (length t) most) ≡ true
  numeral_sized = and_left _ _ (and_left _ _ numeral_value.0)

  -- It has only digits.
  numeral_digits : all_digits t ≡ true
  numeral_digits = and_right (leb 1 (length t) && leb (length t) most) _ (and_left _ _ numeral_value.0)

  -- It has no leading zero except in a lone 0.
  numeral_lead : 2 ≤ length t → begins (text "0") t ≡ false
  numeral_lead k =
      let lead = and_right (leb 1 (length t) && leb (length t) most && all_digits t) _ numeral_value.0 in
      not-true _ (or_second (leb (length t) 1) _ lead (lt-leb (length t) 1 k))

  -- If `t` is read as the number `n`, it is `n` in decimal.
  pub numeral_text : t ≡ decimal n
  numeral_text =
      let back = reads_back t (leb-true 1 (length t) (and_left _ _ numeral_sized)) numeral_digits numeral_lead in
      sym (rw numeral_value.1 at (back (suc n) (omega (arith, numeral_value.1))))

-- If `x` and `y` together give the numbers `ns`, then `x` gives the first of them and `y` gives the others.
pub both_some : (x : Option ℕ) (y : Option (List ℕ)) (ns : List ℕ) → both x y ≡ Some ns
    → (n : ℕ) × (ms : List ℕ) × (x ≡ Some n) × (y ≡ Some ms) × (n ∷ ms ≡ ns)
unfolding both
both_some None y ns h = absurd (none_is_not_some ns h)
both_some (Some n) None ns h = absurd (none_is_not_some ns h)
both_some (Some n) (Some ms) ns h = (n, ms, refl, refl, cc)

-- These parts, with the byte `b` between them.
unfoldable pub joined : ℕ → List Bytes → Bytes
joined b [] = []
joined b (p ∷ []) = p
joined b (p ∷ q ∷ ps) = p ++ (b ∷ joined b (q ∷ ps))

-- Every part lacks the byte `b`.
abbrev pub AllLack : ℕ → List Bytes → Type 0
AllLack b [] = Unit {0}
AllLack b (p ∷ ps) = (lacks b p ≡ true) × AllLack b ps

-- A text that lacks `b` is split into one part.
split_one : (b : ℕ) (t : Bytes) → lacks b t ≡ true → split b t ≡ t ∷ []
unfolding split lead_first
split_one b [] h = refl
split_one b (a ∷ t) h = rw (lacks_head b a t h, split, split_one b t (lacks_tail b a t h))

-- If a text that lacks `b` comes before a byte `b`, it is the first part.
split_more : (b : ℕ) (t s : Bytes) → lacks b t ≡ true → split b (t ++ (b ∷ s)) ≡ t ∷ split b s
unfolding split lead_first
split_more b [] s h = rw (eq-eqb b b refl, split)
split_more b (a ∷ t) s h = rw (lacks_head b a t h, split, split_more b t s (lacks_tail b a t h))

-- Parts that lack `b`, joined by `b`, are split into the same parts.
pub split_joined : (b : ℕ) (p : Bytes) (ps : List Bytes) → AllLack b (p ∷ ps) → split b (joined b (p ∷ ps)) ≡ p ∷ ps
unfolding joined
split_joined b p [] h = split_one b p h.0
split_joined b p (q ∷ ps) h = split_more b p (joined b (q ∷ ps)) h.0 ∙ ap (λ (x : List Bytes). p ∷ x) (split_joined b q ps h.1)

-- `ps` are the parts of `s` between the bytes `b`.
pub record AreParts (b : ℕ) (s : Bytes) (ps : List Bytes) : Type 0 where
  pub some_part : 1 ≤ length ps
  pub whole : joined b ps ≡ s
  pub apart : AllLack b ps

-- A byte `b` before the text adds an empty first part.
cut_parts : (b : ℕ) (s : Bytes) (ps : List Bytes) → AreParts b s ps → AreParts b (b ∷ s) ([] ∷ ps)
unfolding joined
cut_parts b s [] h = absurd (omega arith)
cut_parts b s (p ∷ ps) h =
    record { some_part = omega arith; whole = ap (λ (t : Bytes). b ∷ t) h.whole; apart = (refl, h.apart) }

-- A byte before the first part comes before the joined parts.
joined_lead : (b a : ℕ) (p : Bytes) (ps : List Bytes) → joined b ((a ∷ p) ∷ ps) ≡ a ∷ joined b (p ∷ ps)
unfolding joined
joined_lead b a p [] = refl
joined_lead b a p (q ∷ ps) = refl

-- A byte other than `b` before the text belongs to the first part.
lead_parts : (b a : ℕ) (s : Bytes) (ps : List Bytes) → eqb a b ≡ false → AreParts b s ps → AreParts b (a ∷ s) (lead_first a ps)
unfolding lead_first
lead_parts b a s [] e h = absurd (omega arith)
lead_parts b a s (p ∷ ps) e h =
    record {
      some_part = omega arith;
      whole = joined_lead b a p ps ∙ ap (λ (t : Bytes). a ∷ t) h.whole;
      apart = (lacks_cons b a p e h.apart.0, h.apart.1);
    }

-- A byte string is split into its parts.
pub split_parts : (b : ℕ) (s : Bytes) → AreParts b s (split b s)
unfolding joined split
split_parts b [] = record { some_part = omega arith; whole = refl; apart = (refl, tt) }
split_parts b (a ∷ s) = go (eqb a b) refl (split_parts b s)
  where
    go : (x : Bool) → eqb a b ≡ x → AreParts b s (split b s) → AreParts b (a ∷ s) (split b (a ∷ s))
    go true e i = rw (e, split, eqb-true a b e) (cut_parts b s (split b s) i)
    go false e i = rw (e, split) (lead_parts b a s (split b s) e i)

-- Parts that lack `b`, joined by another byte, lack `b`.
pub joined_lacks : (b a : ℕ) (ps : List Bytes) → eqb a b ≡ false → AllLack b ps → lacks b (joined a ps) ≡ true
unfolding joined
joined_lacks b a [] e h = refl
joined_lacks b a (p ∷ []) e h = h.0
joined_lacks b a (p ∷ q ∷ ps) e h =
    lacks_append b p (a ∷ joined a (q ∷ ps)) h.0 (lacks_cons b a (joined a (q ∷ ps)) e (joined_lacks b a (q ∷ ps) e h.1))
