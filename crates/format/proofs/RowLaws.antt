-- A row of an outline and its sixteen bytes determine each other.
use Rattle.std.proofs.Common.{◌≡◌, ℕ, zero, suc, ◌%◌, ◌^◌, ◌<◌, Bool, true, false, eqb, length, sym, refl, ap, ◌∙◌, mod-eq_of_lt, arith}
use Rattle.format.specs.declared.block.InnerKind.{InnerKind}
use Rattle.format.specs.declared.block.InnerKind.TheVariants as Kind·is
use Rattle.format.specs.declared.row.Row.{Row}
use Rattle.format.specs.Bytes.{Bytes, IsBytes, big_endian, to_bytes, bit}
use Rattle.format.specs.Outline.{kind_number, kind_with, row_widths, fields_of, row_from, sum, packed, unpacked, encode_row, decode_row}
use Rattle.format.proofs.PackLaws.{to_bytes_length, big_endian_to_bytes, big_endian_lt, to_bytes_big_endian, Fits, packed_lt, unpacked_packed, packed_unpacked}

-- Each field of a row fits into its bits.
pub record RowFits (r : Row) : Type 0 where
  pub depth : r.depth < 8
  pub ordinal : r.ordinal < 256
  pub header_size_lem : r.header_size < 65536
  pub at : r.at.0 < 2 ^ 32
  pub allocated : r.allocated < 2 ^ 32
  pub used : r.used < 2 ^ 32

-- A row is encoded in sixteen bytes.
pub encoded_length : (r : Row) → length (encode_row r) ≡ 16
unfolding encode_row
encoded_length r = to_bytes_length 16 (packed row_widths (fields_of r))

-- A flag fits into one bit.
pub bit_lt : (t : Bool) → bit t < 2
bit_lt true = omega arith
bit_lt false = omega arith

-- A flag is read back from its bit.
flag_of_bit : (t : Bool) → eqb (bit t) 1 ≡ t
flag_of_bit true = refl
flag_of_bit false = refl

-- A bit is written back from its flag.
pub bit_of_flag : (x : ℕ) → bit (eqb (x % 2) 1) ≡ x % 2
bit_of_flag x = small (x % 2) (omega arith)
  where
    small : (y : ℕ) → y < 2 → bit (eqb y 1) ≡ y
    small zero h = refl
    small (suc zero) h = refl
    small (suc (suc y)) h = absurd (omega arith)

-- The number of an inner state fits into two bits.
pub kind_lt : (k : InnerKind) → kind_number k < 4
kind_lt Kind·is.Plain = omega arith
kind_lt Kind·is.Opened = omega arith
kind_lt Kind·is.Refused = omega arith
kind_lt Kind·is.TooDeep = omega arith

-- A kind is read back from its number.
kind_of_number : (k : InnerKind) → kind_with (kind_number k) ≡ k
kind_of_number Kind·is.Plain = refl
kind_of_number Kind·is.Opened = refl
kind_of_number Kind·is.Refused = refl
kind_of_number Kind·is.TooDeep = refl

-- Two bits are written back from their kind.
pub number_of_kind : (x : ℕ) → kind_number (kind_with (x % 4)) ≡ x % 4
number_of_kind x = small (x % 4) (omega arith)
  where
    small : (y : ℕ) → y < 4 → kind_number (kind_with y) ≡ y
    small zero h = refl
    small (suc zero) h = refl
    small (suc (suc zero)) h = refl
    small (suc (suc (suc zero))) h = refl
    small (suc (suc (suc (suc y)))) h = absurd (omega arith)

-- If a row fits, its fields fit their widths.
fields_fit : (r : Row) → RowFits r → Fits row_widths (fields_of r)
unfolding fields_of
fields_fit r h = omega (arith, bit_lt r.streamed, bit_lt r.compressed, bit_lt r.checksum, kind_lt r.inner)

-- A row is read back from its fields.
row_from_fields : (r : Row) → row_from (fields_of r) ≡ r
unfolding row_from fields_of
row_from_fields r = simp (flag_of_bit, kind_of_number)

-- The fields that are read from a number are written back from their row.
fields_of_row : (x : ℕ) → fields_of (row_from (unpacked row_widths x)) ≡ unpacked row_widths x
unfolding row_from fields_of unpacked
fields_of_row x = simp (bit_of_flag, number_of_kind)

-- A row that fits is decoded from its bytes.
pub decode_encode : (r : Row) → RowFits r → decode_row (encode_row r) ≡ r
unfolding decode_row encode_row sum
decode_encode r h =
    let fs = fields_of r in
    rw (big_endian_to_bytes 16 (packed row_widths fs), mod-eq_of_lt (packed_lt row_widths fs), unpacked_packed row_widths fs (fields_fit r h))
    (row_from_fields r)

-- Sixteen bytes that are decoded as a row are encoded again unchanged.
pub encode_decode : (b : Bytes) → IsBytes b → length b ≡ 16 → encode_row (decode_row b) ≡ b
unfolding decode_row encode_row sum
encode_decode b h l =
    let x = big_endian b in
    let same : packed row_widths (fields_of (row_from (unpacked row_widths x))) ≡ x
    = ap (packed row_widths) (fields_of_row x) ∙ packed_unpacked row_widths x ∙ mod-eq_of_lt (rw l at (big_endian_lt b h)) in
    ap (to_bytes 16) same ∙ ap (λ (w : ℕ). to_bytes w x) (sym l) ∙ to_bytes_big_endian b h
