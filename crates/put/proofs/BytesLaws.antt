-- Laws about the bytes of a number.
use Rattle.std.proofs.Common.{◌≡◌, ℕ, zero, suc, ◌+◌, ◌-◌, ◌/◌, ◌%◌, ◌^◌, ◌<◌, ◌≤◌, [], ◌∷◌, ◌++◌, length, take, drop, replicate, refl, ◌∙◌, add-zero, add-one, arith, length-take, length-drop, append_assoc, append-nil, take_all, drop_of_length-le}
use Rattle.std.specs.Int.{to_be_bytes, w64}
use Rattle.std.proofs.lemmas.List.{drop-append-le, replicate_more, length-replicate}
use Rattle.format.specs.Bytes.{Bytes, to_bytes}
use Rattle.format.specs.Lent.{placed}
use Rattle.format.proofs.PackLaws.{to_bytes_length}
use Rattle.put.proofs.PutLaws.{placed_copied, placed_append, placed_length}

-- The library gives the eight bytes of a number of 64 bits in the same order.
library_bytes : (x : ℕ) → to_be_bytes w64 x ≡ to_bytes 8 x
library_bytes x =
    let two : x / 65536 ≡ x / 256 / 256 = omega arith in
    let three : x / 16777216 ≡ x / 256 / 256 / 256 = omega arith in
    let four : x / 4294967296 ≡ x / 256 / 256 / 256 / 256 = omega arith in
    let five : x / 1099511627776 ≡ x / 256 / 256 / 256 / 256 / 256 = omega arith in
    let six : x / 281474976710656 ≡ x / 256 / 256 / 256 / 256 / 256 / 256 = omega arith in
    let seven : x / 72057594037927936 ≡ x / 256 / 256 / 256 / 256 / 256 / 256 / 256 = omega arith in
    rw (two, three, four, five, six, seven)

-- The last `w` of some bytes of a number are its last `w` bytes.
last_bytes : (j w x : ℕ) → drop j (to_bytes (j + w) x) ≡ to_bytes w x
last_bytes j zero x = drop_of_length-le (to_bytes (j + 0) x) {i = j} (omega (arith, to_bytes_length (j + 0) x))
last_bytes j (suc w) x =
    let more : j + suc w ≡ suc (j + w) = omega arith in
    let inside : j ≤ length (to_bytes (j + w) (x / 256)) = omega (arith, to_bytes_length (j + w) (x / 256)) in
    rw (more, drop-append-le j (to_bytes (j + w) (x / 256)) (x % 256 ∷ []) inside, last_bytes j w (x / 256))

-- What is left of a number without its last `w` bytes.
abbrev top : ℕ → ℕ → ℕ
top zero x = x
top (suc w) x = top w (x / 256)

-- The bytes of a number are those of what is left without the last `w`, followed by these.
first_bytes : (k w x : ℕ) → to_bytes (k + w) x ≡ to_bytes k (top w x) ++ to_bytes w x
first_bytes k zero x = rw (add-zero k, append-nil)
first_bytes k (suc w) x =
    let more : k + suc w ≡ suc (k + w) = omega arith in
    rw (more, first_bytes k w (x / 256), append_assoc)

-- All bytes of zero are zero.
zero_bytes : (k : ℕ) → to_bytes k 0 ≡ replicate k 0
zero_bytes zero = refl
zero_bytes (suc k) = rw (zero_bytes k, replicate_more {X = ℕ} k 0, add-one k)

module _ (out : Bytes) (at width x : ℕ) (room : at + width ≤ length out) where
  -- Up to eight bytes are copied from the last of the eight.
  pub short_put : (b part : Bytes) → b ≡ to_be_bytes w64 x → part ≡ take (8 - (8 - width)) (drop (8 - width) b) → width ≤ 8
      → take at out ++ (part ++ drop (at + width - at) (drop at out)) ≡ placed out at (to_bytes width x)
  short_put b part e f h =
      let all : 8 - width + width ≡ 8 = omega arith in
      let last = rw all at (last_bytes (8 - width) width x) in
      let size = to_bytes_length width x in
      let copied : part ≡ to_bytes width x =
      rw (e, library_bytes x, last, take_all (8 - (8 - width)) (to_bytes width x) (omega arith)) at f in
      placed_copied out at (to_bytes width x) part (at + width - at) copied (omega arith) (omega arith)

  -- Of more bytes, the first are zeros.
  pub long_put : (zeros b : Bytes) → 8 < width → x < 2 ^ 64 → zeros ≡ replicate (length (take (at + width - 8 - at) (drop at out))) 0 → b ≡ to_be_bytes w64 x
      → take (at + width - 8) (take at out ++ (zeros ++ drop (at + width - 8 - at) (drop at out)))
      ++ (b ++ drop (at + width - (at + width - 8)) (drop (at + width - 8) (take at out ++ (zeros ++ drop (at + width - 8 - at) (drop at out)))))
      ≡ placed out at (to_bytes width x)
  long_put zeros b h small e f =
      let k = width - 8 in
      let front : at + width - 8 - at ≡ k = omega arith in
      let seam : at + width - 8 ≡ at + k = omega arith in
      let back : at + width - (at + k) ≡ 8 = omega arith in
      let whole : k + 8 ≡ width = omega arith in
      let none : top 8 x ≡ 0 = omega arith in
      let size : length (take k (drop at out)) ≡ k = simp (length-take, length-drop) (omega arith) in
      let filled : zeros ≡ replicate k 0 = rw (front, size) at e in
      let first = placed_copied out at (replicate k 0) zeros k filled (length-replicate k 0) (omega arith) in
      let mid = placed out at (replicate k 0) in
      let eight = to_bytes_length 8 x in
      let second = placed_copied mid (at + k) (to_bytes 8 x) b 8 (f ∙ library_bytes x) eight (omega (arith, placed_length out at (replicate k 0))) in
      let both = placed_append out at (replicate k 0) (to_bytes 8 x) (omega (arith, length-replicate {A = ℕ} k 0, eight)) in
      let bytes = rw (whole, none, zero_bytes k) at (first_bytes k 8 x) in
      rw (front, seam, back, first, bytes) (second ∙ rw length-replicate at both)
