-- Laws about rows. The sixteen bytes of a row are four parts of four bytes each.
use Rattle.std.proofs.Common.{ℕ, ◌+◌, ◌*◌, ◌-◌, ◌/◌, ◌%◌, ◌^◌, ◌≤◌, ◌<◌, None, Some, add-zero, add_assoc, mul-one, div-one, mod-eq_of_lt, arith, ◌≡◌, refl, sym, ap, ◌∙◌, List, [], ◌∷◌, ◌++◌, append-nil, length, take, drop, length-append, length-take, length-drop, take-add, drop-drop, take_all, pow-add, eqb, le-leb}
use native.Mathlib.Nat.{mod-mod}
use Rattle.std.specs.Array.{IsFirstChunk}
use Rattle.std.specs.List.{slice_range}
use borrow.Author.Tests.{lt-leb}
use Rattle.format.specs.declared.offset.OutermostOffset.{OutermostOffset}
use Rattle.format.specs.declared.block.InnerKind.{InnerKind}
use Rattle.format.specs.declared.row.Row.{Row}
use Rattle.format.specs.Bytes.{Bytes, IsBytes, big_endian, to_bytes, wrapped, bit}
use Rattle.format.specs.Lent.{placed}
use Rattle.format.specs.Outline.{kind_number, kind_with, fields_of, sum, packed, unpacked, encode_row, decode_row}
use Rattle.format.proofs.PackLaws.{is_bytes_append, is_bytes_take, is_bytes_drop, big_endian_append, big_endian_to_bytes, to_bytes_length, to_bytes_are_bytes, to_bytes_big_endian, packed_lt, packed_unpacked}
use Rattle.format.proofs.RowLaws.{RowFits, encoded_length, bit_lt, bit_of_flag, kind_lt, number_of_kind, decode_encode}
use Rattle.scan.specs.Number.{BigEndian}
use Rattle.scan.proofs.NumberLaws.{big_endian_number, big_endian_below}
use Rattle.put.proofs.PutLaws.{placed_after, placed_long}
use Rattle.outline.specs.Row.{front_of, Field, row_at}

-- The bytes of two numbers, one after the other, are the bytes of one number.
to_bytes_append : (a b x y : ℕ) → to_bytes (a + b) (x % 256 ^ a * 256 ^ b + y % 256 ^ b) ≡ to_bytes a x ++ to_bytes b y
to_bytes_append a b x y =
    let s = to_bytes a x in
    let t = to_bytes b y in
    let size : length (s ++ t) ≡ a + b = rw (length-append s t, to_bytes_length a x, to_bytes_length b y) in
    let value : big_endian (s ++ t) ≡ x % 256 ^ a * 256 ^ b + y % 256 ^ b
    = rw (big_endian_append s t, to_bytes_length b y, big_endian_to_bytes a x, big_endian_to_bytes b y) in
    rw (← size, ← value) (to_bytes_big_endian (s ++ t) (is_bytes_append s t (to_bytes_are_bytes a x) (to_bytes_are_bytes b y)))

-- If a field takes whole bytes, then these come before the bytes of the other fields.
packed_bytes : (a b w x : ℕ) (ws fs : List ℕ) (others : Bytes) → 2 ^ w ≡ 256 ^ a → 2 ^ sum ws ≡ 256 ^ b → to_bytes b (packed ws fs) ≡ others
    → to_bytes (a + b) (packed (w ∷ ws) (x ∷ fs)) ≡ to_bytes a x ++ others
unfolding packed
packed_bytes a b w x ws fs others e f g =
    let small : packed ws fs % 256 ^ b ≡ packed ws fs = mod-eq_of_lt (rw f at (packed_lt ws fs)) in
    rw (e, f, ← g) (rw small at (to_bytes_append a b x (packed ws fs)))

-- The first seven fields of a row are its first part.
packed_front : (r : Row) (ws fs : List ℕ)
    → packed (3 ∷ 1 ∷ 1 ∷ 1 ∷ 2 ∷ 8 ∷ 16 ∷ ws)
    (r.depth ∷ bit r.streamed ∷ bit r.compressed ∷ bit r.checksum ∷ kind_number r.inner ∷ r.ordinal ∷ r.header_size ∷ fs)
    ≡ packed (32 ∷ ws) (front_of r ∷ fs)
unfolding packed sum
packed_front r ws fs =
    let s = bit_lt r.streamed in
    let c = bit_lt r.compressed in
    let k = bit_lt r.checksum in
    let i = kind_lt r.inner in
    let whole : front_of r % 2 ^ 32 ≡ front_of r = omega arith in
    simp (pow-add, whole, mod-eq_of_lt s, mod-eq_of_lt c, mod-eq_of_lt k, mod-eq_of_lt i) (omega arith)

-- The bytes of a row are the bytes of its four parts.
encode_parts : (r : Row) → encode_row r ≡ to_bytes 4 (front_of r) ++ (to_bytes 4 r.at.0 ++ (to_bytes 4 r.allocated ++ to_bytes 4 r.used))
unfolding encode_row fields_of sum
encode_parts r =
    let last = packed_bytes 4 0 32 r.used [] [] [] refl refl refl ∙ append-nil (to_bytes 4 r.used) in
    ap (to_bytes 16) (packed_front r _ _)
    ∙ packed_bytes 4 12 32 _ _ _ _ refl refl (packed_bytes 4 8 32 _ _ _ _ refl refl (packed_bytes 4 4 32 _ _ _ _ refl refl last))

-- If a row would end after the end of the buffer, then putting it changes nothing.
pub row_long : (out : Bytes) (at : ℕ) (r : Row) → length out - at < 16 → out ≡ placed out at (encode_row r)
row_long out at r h = placed_long out at (encode_row r) 16 h (encoded_length r)

-- If there is room for a row and its four parts are placed one after the other, then the row is placed.
pub row_placed : (r : Row) (out a b c d : Bytes) (at front place : ℕ) → d ≡ placed c (at + 12) (to_bytes 4 r.used)
    → c ≡ placed b (at + 8) (to_bytes 4 r.allocated)
    → b ≡ placed a (at + 4) (to_bytes 4 place)
    → a ≡ placed out at (to_bytes 4 front)
    → front ≡ front_of r
    → place ≡ r.at.0
    → at ≤ length out
    → 16 ≤ length out - at
    → d ≡ placed out at (encode_row r)
row_placed r out a b c d at front place hd hc hb ha is_front is-place inside room =
    let two = placed_after out a b at 4 _ _ ha refl hb (omega arith) in
    let three = placed_after out b c at 8 _ _ two refl hc (omega arith) in
    let four = placed_after out c d at 12 _ _ three refl hd (omega arith) in
    four ∙ ap (placed out at) (rw (is_front, is-place) (sym (encode_parts r)))

-- If a number is read from `w` bytes at offset `n`, and `w` is at most 8, then it is the number in these bytes.
pub field_read : (s : Bytes) (n w r : ℕ) → BigEndian (take (n + w - n) (drop n s)) r → w ≤ 8 → Field s n w r
field_read s n w r h few =
    let e : n + w - n ≡ w = omega arith in
    let read : BigEndian (take w (drop n s)) r = rw e at h in
    record { is = big_endian_number s n w r read few; small = big_endian_below s n w r read }

module _ (s : Bytes) (n w : ℕ) where
  -- If the `w` bytes from offset `n` are inside `s`, then taking them gives `w` bytes.
  pub part_length : n + w ≤ length s → length (take w (drop n s)) ≡ w
  part_length h = rw (length-take, length-drop) (omega arith)

module _ (s : Bytes) (known : IsBytes s) where
  -- If a number was read from `w` bytes inside `s`, then it is written as these bytes.
  field_bytes : (n w x : ℕ) → Field s n w x → n + w ≤ length s → to_bytes w x ≡ take w (drop n s)
  field_bytes n w x h inside = rw h.is (rw (part_length s n w inside) at (to_bytes_big_endian (take w (drop n s)) (is_bytes_take w (drop n s) (is_bytes_drop n s known))))

  -- If the bytes `others` follow such a number in `s`, then the number, written before them, gives the `w + m` bytes
  -- from offset `n`.
  field_front : (n w k m x : ℕ) (others : Bytes) → Field s n w x → n + w ≤ length s → n + w ≡ k → others ≡ take m (drop k s)
      → to_bytes w x ++ others ≡ take (w + m) (drop n s)
  field_front n w k m x others h inside next e = rw (take-add w m (drop n s), drop-drop w n s, next, field_bytes n w x h inside, e)

-- The row with these four parts. The kind of its inner state is in the first.
abbrev row_with : ℕ → InnerKind → OutermostOffset → ℕ → ℕ → Row
row_with front kind place allocated used =
    record {
      depth = front / 16777216 / 32;
      streamed = eqb (front / 16777216 / 16 % 2) 1;
      compressed = eqb (front / 16777216 / 8 % 2) 1;
      checksum = eqb (front / 16777216 / 4 % 2) 1;
      inner = kind;
      ordinal = front / 65536 % 256;
      header_size = front % 65536;
      at = place;
      allocated = allocated;
      used = used;
    }

-- The state that is read from a byte, written again, is that byte.
state_same : (x : ℕ) → x < 256 → x / 32 % 8 * 32 + x / 16 % 2 * 16 + x / 8 % 2 * 8 + x / 4 % 2 * 4 + x % 4 ≡ x
unfolding packed unpacked sum
state_same x h =
    simp add_assoc
    (simp (mod-mod, div-one, mul-one, add-zero, mod-eq_of_lt h) at (packed_unpacked (3 ∷ 1 ∷ 1 ∷ 1 ∷ 2 ∷ []) x))

-- If `front` fits into four bytes, then it is the first part of the row that is made with it.
front_same : (front : ℕ) (kind : InnerKind) (place : OutermostOffset) (allocated used : ℕ) → front < 256 ^ 4 → kind ≡ kind_with (front / 16777216 % 4)
    → front_of (row_with front kind place allocated used) ≡ front
front_same front kind place allocated used h e = simp (e, bit_of_flag, number_of_kind, state_same (front / 16777216) (omega arith)) (omega arith)

-- If the four parts are read from sixteen bytes, then the row with these parts is the row in these bytes. This is so
-- because it is written as the same bytes.
pub row_read : (s : Bytes) (front p a u : ℕ) (kind : InnerKind) (start place : OutermostOffset) → IsBytes s → length s ≡ 16
    → Field s 0 4 front
    → Field s 4 4 p
    → start.0 ≡ 0
    → place.0 ≡ wrapped start.0 p
    → Field s 8 4 a
    → Field s 12 4 u
    → kind ≡ kind_with (front / 16777216 % 4)
    → row_with front kind place a u ≡ decode_row s
row_read s front p a u kind start place known room hf hp is-start is-place ha hu is-kind =
    let r = row_with front kind place a u in
    let same_place : place.0 ≡ p = omega (arith, hp.small) in
    let fits : RowFits r = omega (arith, hf.small, hp.small, ha.small, hu.small) in
    let one = field_bytes s known 12 4 u hu (omega arith) in
    let two = field_front s known 8 4 12 4 a _ ha (omega arith) refl one in
    let three = field_front s known 4 4 8 8 p _ hp (omega arith) refl two in
    let four = field_front s known 0 4 4 12 front _ hf (omega arith) refl three in
    let same : encode_row r ≡ s = encode_parts r ∙ rw (front_same front kind place a u hf.small is-kind, same_place) four ∙ take_all 16 s (omega arith) in
    sym (decode_encode r fits) ∙ ap decode_row same

module _ (s : Bytes) (at : ℕ) where
  -- If there are fewer than sixteen bytes at the offset, then there is no such row.
  none_there : length s < at + 16 → None ≡ row_at s at
  unfolding row_at
  none_there h = rw (row_at, lt-leb (at + 16) (length s) h)

  pub row_outside : length s < at → None ≡ row_at s at
  row_outside h = none_there (omega arith)

  pub row_cut : (after : Bytes) → length after + at ≡ length s → length after < 16 → None ≡ row_at s at
  row_cut after e h = none_there (omega arith)

  -- If there are sixteen bytes at the offset, then the row in them is found.
  pub row_there : (after bytes : Bytes) → at ≤ length s → after ≡ slice_range s at (length s) → length after + at ≡ length s
      → IsFirstChunk after bytes 16
      → (r : Row) → r ≡ decode_row bytes → Some r ≡ row_at s at
  unfolding row_at
  row_there after bytes h f l first r e =
      let all = take_all (length s - at) (drop at s) (omega (arith, length-drop at s)) in
      rw (row_at, le-leb (at + 16) (length s) (omega (arith, first.enough)), e, first.same, f, all)
