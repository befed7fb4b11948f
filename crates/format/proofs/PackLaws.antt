-- Numbers in bytes and in fields of any widths: what is written is read back, and what is read is written back.
use Rattle.std.proofs.Common.{◌≡◌, ℕ, zero, suc, ◌+◌, ◌*◌, ◌/◌, ◌%◌, ◌^◌, ◌<◌, List, [], ◌∷◌, ◌++◌, length, take, drop, sym, refl, ap, ◌∙◌, lt_of_lt_of_le, mod-lt, mod-eq_of_lt, mul_assoc, pow-suc, add-one, arith, length-append, length-take, get_or-drop, pow_pos, pow-add}
use native.Mathlib.Nat.{mul-add-div_right, mul-add-mod_self_right, mod-mod, pow-succ', pow-le-pow_right, one-le-pow}
use lib.Arith.{digits_lt, digits_div, digits_mod, mod-mul}
use lib.Pow.{high, mod-pow-add}
use Rattle.format.specs.Bytes.{Bytes, IsBytes, big_endian, number, to_bytes}
use Rattle.format.specs.Outline.{sum, packed, unpacked}

-- If two byte strings have only bytes, so does one followed by the other.
pub is_bytes_append : (s t : Bytes) → IsBytes s → IsBytes t → IsBytes (s ++ t)
is_bytes_append [] t hs ht i = ht i
is_bytes_append (b ∷ s) t hs ht zero = hs 0
is_bytes_append (b ∷ s) t hs ht (suc i) = is_bytes_append s t (λ j. hs (suc j)) ht i

-- If a byte string has only bytes, so do its first `n` elements.
pub is_bytes_take : (n : ℕ) (s : Bytes) → IsBytes s → IsBytes (take n s)
is_bytes_take zero s h i = omega arith
is_bytes_take (suc n) [] h i = h i
is_bytes_take (suc n) (b ∷ s) h zero = h 0
is_bytes_take (suc n) (b ∷ s) h (suc i) = is_bytes_take n s (λ j. h (suc j)) i

-- If a byte string has only bytes, so does the rest after its first `n` elements.
pub is_bytes_drop : (n : ℕ) (s : Bytes) → IsBytes s → IsBytes (drop n s)
is_bytes_drop n s h i = rw get_or-drop (h (n + i))

-- A number below 256 alone is a string of bytes.
single_byte : (x : ℕ) → x < 256 → IsBytes (x ∷ [])
single_byte x h zero = h
single_byte x h (suc i) = omega arith

-- The number of one byte string followed by another is the number of the first, shifted by the bytes of the second,
-- plus the number of the second.
pub big_endian_append : (s t : Bytes) → big_endian (s ++ t) ≡ big_endian s * 256 ^ length t + big_endian t
big_endian_append [] t = omega arith
big_endian_append (b ∷ s) t = rw (big_endian_append s t, length-append s t, pow-add 256 (length s) (length t)) (omega arith)

-- Exactly `w` bytes are written.
pub to_bytes_length : (w x : ℕ) → length (to_bytes w x) ≡ w
to_bytes_length zero x = refl
to_bytes_length (suc w) x = rw (length-append, to_bytes_length w (x / 256)) (add-one w)

-- What is written has only bytes.
pub to_bytes_are_bytes : (w x : ℕ) → IsBytes (to_bytes w x)
to_bytes_are_bytes zero x i = omega arith
to_bytes_are_bytes (suc w) x i =
    is_bytes_append (to_bytes w (x / 256)) _ (to_bytes_are_bytes w (x / 256)) (single_byte (x % 256) (omega arith)) i

-- The bytes of a number give the number again, without the part that `w` bytes cannot hold.
pub big_endian_to_bytes : (w x : ℕ) → big_endian (to_bytes w x) ≡ x % 256 ^ w
big_endian_to_bytes zero x = omega arith
big_endian_to_bytes (suc w) x =
    let low : x % (256 ^ w * 256) ≡ x / 256 % 256 ^ w * 256 + x % 256 = mod-mul x (one-le-pow w 256 (omega arith)) (omega arith) in
    rw (big_endian_append (to_bytes w (x / 256)) (x % 256 ∷ []), big_endian_to_bytes w (x / 256), pow-suc 256 w) (omega arith)

-- The number that bytes give fits into that many bytes.
pub big_endian_lt : (b : Bytes) → IsBytes b → big_endian b < 256 ^ length b
big_endian_lt [] h = omega arith
big_endian_lt (x ∷ b) h = rw pow-succ' (digits_lt (h 0) (big_endian_lt b (λ i. h (suc i))))

-- The number that is read from `w` bytes within `s` fits into `w` bytes.
pub number_lt : (n w : ℕ) (s : Bytes) → IsBytes s → number n w s < 256 ^ w
number_lt n w s h =
    lt_of_lt_of_le (big_endian_lt (take w (drop n s)) (is_bytes_take w (drop n s) (is_bytes_drop n s h)))
    (pow-le-pow_right (omega arith) (simp length-take (omega arith)))

-- If two byte strings have the same length and give the same number, they are equal.
big_endian_unique : (a b : Bytes) → IsBytes a → IsBytes b → length a ≡ length b → big_endian a ≡ big_endian b → a ≡ b
big_endian_unique [] [] ha hb l e = refl
big_endian_unique [] (y ∷ b) ha hb l e = absurd (omega arith)
big_endian_unique (x ∷ a) [] ha hb l e = absurd (omega arith)
big_endian_unique (x ∷ a) (y ∷ b) ha hb l e =
    let m : length a ≡ length b = omega arith in
    let f : x * 256 ^ length b + big_endian a ≡ y * 256 ^ length b + big_endian b = rw m at e in
    let la : big_endian a < 256 ^ length b = rw m at (big_endian_lt a (λ i. ha (suc i))) in
    let lb : big_endian b < 256 ^ length b = big_endian_lt b (λ i. hb (suc i)) in
    let first : x ≡ y = sym (digits_div x la) ∙ ap (λ (n : ℕ). n / 256 ^ length b) f ∙ digits_div y lb in
    let rest : big_endian a ≡ big_endian b = sym (digits_mod x la) ∙ ap (λ (n : ℕ). n % 256 ^ length b) f ∙ digits_mod y lb in
    rw (first, big_endian_unique a b (λ i. ha (suc i)) (λ i. hb (suc i)) m rest)

-- Bytes that are read as a number are written back unchanged.
pub to_bytes_big_endian : (b : Bytes) → IsBytes b → to_bytes (length b) (big_endian b) ≡ b
to_bytes_big_endian b h =
    big_endian_unique _ b (to_bytes_are_bytes (length b) (big_endian b)) h (to_bytes_length _ _)
    (big_endian_to_bytes (length b) (big_endian b) ∙ mod-eq_of_lt (big_endian_lt b h))

-- There are as many fields as widths, and each field fits its width.
abbrev pub Fits : List ℕ → List ℕ → Type 0
Fits [] [] = Unit {0}
Fits [] (x ∷ fs) = ⊥
Fits (w ∷ ws) [] = ⊥
Fits (w ∷ ws) (x ∷ fs) = (x < 2 ^ w) × Fits ws fs

-- Packed fields take no more bits than their widths together.
pub packed_lt : (ws fs : List ℕ) → packed ws fs < 2 ^ sum ws
unfolding packed sum
packed_lt [] fs = omega arith
packed_lt (w ∷ ws) [] = pow_pos (w + sum ws)
packed_lt (w ∷ ws) (x ∷ fs) = rw pow-add (digits_lt (mod-lt x (pow_pos w)) (packed_lt ws fs))

-- What is above the bits of the fields is not read.
unpacked_above : (ws : List ℕ) (q x : ℕ) → unpacked ws (q * 2 ^ sum ws + x) ≡ unpacked ws x
unfolding unpacked sum
unpacked_above [] q x = refl
unpacked_above (w ∷ ws) q x =
    rw (pow-add 2 w (sum ws), ← mul_assoc, mul-add-div_right (pow_pos (sum ws)), mul-add-mod_self_right, unpacked_above ws (q * 2 ^ w) x)

-- Packed fields that fit are read back unchanged.
pub unpacked_packed : (ws fs : List ℕ) → Fits ws fs → unpacked ws (packed ws fs) ≡ fs
unfolding packed unpacked
unpacked_packed [] [] h = refl
unpacked_packed [] (x ∷ fs) h = elim h [ ]
unpacked_packed (w ∷ ws) [] h = elim h [ ]
unpacked_packed (w ∷ ws) (x ∷ fs) h =
    let first : (x % 2 ^ w * 2 ^ sum ws + packed ws fs) / 2 ^ sum ws ≡ x % 2 ^ w = high (x % 2 ^ w) (sum ws) (packed_lt ws fs) in
    rw (unpacked_above ws (x % 2 ^ w) (packed ws fs), first, mod-mod, mod-eq_of_lt h.0, unpacked_packed ws fs h.1)

-- A number that is read as fields is packed again as it was, without the part that the fields cannot hold.
pub packed_unpacked : (ws : List ℕ) (x : ℕ) → packed ws (unpacked ws x) ≡ x % 2 ^ sum ws
unfolding packed unpacked sum
packed_unpacked [] x = omega arith
packed_unpacked (w ∷ ws) x = rw (packed_unpacked ws x, mod-mod) (sym (mod-pow-add x w (sum ws)))
