-- The outline, with a row of sixteen bytes for each block, and the reader of stored outlines.
use Rattle.std.specs.Prelude.{ℕ, zero, suc, ◌+◌, ◌*◌, ◌/◌, ◌%◌, ◌^◌, Bool, ◌&&◌, List, [], ◌∷◌, map, length, take, drop, ◌==◌, nat_le, slice_index, Option, slice_get}
use mathlib.Core.List.{flat_map}
use Rattle.format.specs.declared.block.Record.{Record}
use Rattle.format.specs.declared.block.Inner.{Inner}
use Rattle.format.specs.declared.block.Inner.TheVariants.{Plain, Opened, Refused, TooDeep}
use Rattle.format.specs.declared.block.InnerKind.{InnerKind}
use Rattle.format.specs.declared.block.InnerKind.TheVariants as Kind·is
use Rattle.format.specs.declared.row.Row.{Row}
use Rattle.format.specs.declared.refusal.Reason.TheVariants.{OutlineLength, OutlineRow}
use Rattle.format.specs.Bytes.{Bytes, big_endian, to_bytes, bit}
use Rattle.format.specs.Outcome.{Outcome, accepted, need, ◌>>=◌, ◌>>◌}
use Rattle.format.specs.Block.{is_streamed, is_compressed, has_checksum, least_header}
use Rattle.format.specs.Chain.{most_blocks}
use Rattle.format.specs.Nest.{records}

-- An inner state without its refusal.
abbrev pub inner_kind : Inner → InnerKind
inner_kind Plain = Kind·is.Plain
inner_kind Opened = Kind·is.Opened
inner_kind (Refused r) = Kind·is.Refused
inner_kind TooDeep = Kind·is.TooDeep

-- The number of such a kind, in a row and in a record.
abbrev pub kind_number : InnerKind → ℕ
kind_number Kind·is.Plain = 0
kind_number Kind·is.Opened = 1
kind_number Kind·is.Refused = 2
kind_number Kind·is.TooDeep = 3

-- The number of an inner state.
abbrev pub inner_number : Inner → ℕ
inner_number i = kind_number (inner_kind i)

-- The kind with a number that is below 4.
abbrev pub kind_with : ℕ → InnerKind
kind_with zero = Kind·is.Plain
kind_with (suc zero) = Kind·is.Opened
kind_with (suc (suc zero)) = Kind·is.Refused
kind_with (suc (suc (suc n))) = Kind·is.TooDeep

-- The row of a block, made from its record.
unfoldable pub row_of : Record → Row
row_of r =
    let b = r.block in
    record {
      depth = r.depth;
      streamed = is_streamed b.flags;
      compressed = is_compressed b.compression;
      checksum = has_checksum b.checksum_high b.checksum_low;
      inner = inner_kind r.inner;
      ordinal = b.ordinal;
      header_size = b.header_size;
      at = r.at;
      allocated = b.allocated;
      used = b.used;
    }

-- How many bits each field of a row takes, the most significant field first: depth, streamed, compressed, checksum,
-- inner state, ordinal, header size, offset, allocated, used.
abbrev pub row_widths : List ℕ
row_widths = 3 ∷ 1 ∷ 1 ∷ 1 ∷ 2 ∷ 8 ∷ 16 ∷ 32 ∷ 32 ∷ 32 ∷ []

-- How many bytes a row takes.
abbrev pub row_bytes : ℕ
row_bytes = 16

-- The fields of a row as numbers, in the order of `row_widths`.
unfoldable pub fields_of : Row → List ℕ
fields_of r =
    r.depth ∷ bit r.streamed ∷ bit r.compressed ∷ bit r.checksum ∷ kind_number r.inner ∷ r.ordinal ∷ r.header_size ∷ r.at.0
    ∷ r.allocated
    ∷ r.used
    ∷ []

-- The row with these fields, which come in the same order.
unfoldable pub row_from : List ℕ → Row
row_from fs =
    record {
      depth = slice_index fs 0;
      streamed = (slice_index fs 1 == 1);
      compressed = (slice_index fs 2 == 1);
      checksum = (slice_index fs 3 == 1);
      inner = kind_with (slice_index fs 4);
      ordinal = slice_index fs 5;
      header_size = slice_index fs 6;
      at = record { 0 = slice_index fs 7 };
      allocated = slice_index fs 8;
      used = slice_index fs 9;
    }

-- The sum of a list of numbers.
unfoldable pub sum : List ℕ → ℕ
sum [] = 0
sum (w ∷ ws) = w + sum ws

-- The number whose bits are those of the fields, one after another. The first argument is the width of each field. A
-- field that is too large for its width loses its upper bits.
unfoldable pub packed : List ℕ → List ℕ → ℕ
packed [] fs = 0
packed (w ∷ ws) [] = 0
packed (w ∷ ws) (x ∷ fs) = x % 2 ^ w * 2 ^ sum ws + packed ws fs

-- The fields of such a number.
unfoldable pub unpacked : List ℕ → ℕ → List ℕ
unpacked [] x = []
unpacked (w ∷ ws) x = x / 2 ^ sum ws % 2 ^ w ∷ unpacked ws x

-- The sixteen bytes of a row.
unfoldable pub encode_row : Row → Bytes
encode_row r = to_bytes row_bytes (packed row_widths (fields_of r))

-- The row that sixteen bytes give.
unfoldable pub decode_row : Bytes → Row
decode_row b = row_from (unpacked row_widths (big_endian b))

-- The outline with these rows, one after another with nothing around them.
unfoldable pub outline_of : List Row → Bytes
outline_of rs = flat_map encode_row rs

-- The rows of the file `s`.
unfoldable pub rows : Bytes → Outcome (List Row)
rows s = do
  rs ← records s
  accepted (map row_of rs)

-- The outline of the file `s`.
unfoldable pub outline : Bytes → Outcome Bytes
outline s = do
  rs ← rows s
  accepted (outline_of rs)

-- Whether a stored row keeps the rules. Its depth must be at most `most`.
unfoldable pub is_row : ℕ → Row → Bool
is_row most r = nat_le (suc r.ordinal) most_blocks && nat_le least_header r.header_size && nat_le r.used r.allocated && nat_le r.depth most

-- The stored rows from offset `n`; `b` is the rest of the stored outline from there. The first argument is how many
-- rows there are, and `most` is the highest depth that the first row may have.
unfoldable pub stored_from : ℕ → ℕ → ℕ → Bytes → Outcome (List Row)
stored_from zero n most b = accepted []
stored_from (suc k) n most b = do
  need (is_row most (decode_row (take row_bytes b))) OutlineRow n
  rs ← stored_from k (n + row_bytes) ((decode_row (take row_bytes b)).depth + 1) (drop row_bytes b)
  accepted (decode_row (take row_bytes b) ∷ rs)

-- The rows of the stored outline `b`. The first row has depth 0, and no row is more than one level deeper than the row
-- before it.
unfoldable pub stored : Bytes → Outcome (List Row)
stored b = do
  need (length b % row_bytes == 0) OutlineLength 0
  stored_from (length b / row_bytes) 0 0 b

-- How many rows the stored outline `b` has.
unfoldable pub stored_count : Bytes → Outcome ℕ
stored_count b = do
  rs ← stored b
  accepted (length rs)

-- Row `k` of the stored outline `b`, counted from 0, if there is one.
unfoldable pub stored_at : Bytes → ℕ → Outcome (Option Row)
stored_at b k = do
  rs ← stored b
  accepted (slice_get rs k)

-- The stored outline `b`, written again from its rows.
unfoldable pub rewritten : Bytes → Outcome Bytes
rewritten b = do
  rs ← stored b
  accepted (outline_of rs)
