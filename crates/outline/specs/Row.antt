-- The parts of a row, and the rows in bytes.
use Rattle.std.specs.Prelude.{ℕ, zero, suc, ◌+◌, ◌*◌, ◌%◌, ◌^◌, ◌<◌, ◌≡◌, true, false, List, [], ◌∷◌, leb, length, take, drop, Option, None, Some}
use Rattle.format.specs.declared.row.Row.{Row}
use Rattle.format.specs.Bytes.{Bytes, bit, number}
use Rattle.format.specs.Outline.{row_bytes, decode_row, kind_number}

-- The first byte of a row: depth in 3 bits, streamed, compressed and checksum in 1 bit each, inner state in 2 bits.
abbrev pub state_of : Row → ℕ
state_of r = r.depth % 8 * 32 + bit r.streamed * 16 + bit r.compressed * 8 + bit r.checksum * 4 + kind_number r.inner

-- The first four bytes of a row: its first byte, ordinal in 8 bits, header size in 16 bits.
abbrev pub front_of : Row → ℕ
front_of r = (state_of r * 256 + r.ordinal % 256) * 65536 + r.header_size % 65536

-- `r` is the number in the `w` bytes from offset `n` of `s`.
pub record Field (s : Bytes) (n w r : ℕ) : Type 0 where
  pub is : r ≡ number n w s
  pub small : r < 256 ^ w

-- The row in the sixteen bytes at offset `n`, if there are sixteen bytes.
unfoldable pub row_at : Bytes → ℕ → Option Row
row_at b n = elim (leb (n + row_bytes) (length b)) [ true ↦ Some (decode_row (take row_bytes (drop n b))) | false ↦ None ]

-- The `n` rows with which `b` begins.
abbrev pub rows_in : ℕ → Bytes → List Row
rows_in zero b = []
rows_in (suc n) b = decode_row (take row_bytes b) ∷ rows_in n (drop row_bytes b)
