-- What is reported, as lists of numbers. Each number takes eight bytes when it is put into a lent buffer.
use Rattle.std.specs.Prelude.{ℕ, List, [], ◌∷◌, ◌++◌, Option, None, Some}
use mathlib.Core.List.{flat_map}
use Rattle.format.specs.declared.answer.Check.{Check}
use Rattle.format.specs.declared.answer.Check.TheVariants.{NotStated, Agrees, Differs}
use Rattle.format.specs.declared.block.Block.{Block}
use Rattle.format.specs.declared.block.Record.{Record}
use Rattle.format.specs.declared.block.Inner.{Inner}
use Rattle.format.specs.declared.block.Inner.TheVariants.{Plain, Opened, Refused, TooDeep}
use Rattle.format.specs.declared.layout.Layout.{Layout}
use Rattle.format.specs.declared.layout.Tree.{Tree}
use Rattle.format.specs.declared.layout.Verdict.{Verdict}
use Rattle.format.specs.declared.layout.Verdict.TheVariants.{Absent, Good, IgnoredForm, IgnoredList}
use Rattle.format.specs.declared.line.LineEnd.{LineEnd}
use Rattle.format.specs.declared.line.LineEnd.TheVariants.{Lf, Crlf}
use Rattle.format.specs.declared.row.Row.{Row}
use Rattle.format.specs.Bytes.{Bytes, to_bytes, bit}
use Rattle.format.specs.Reason.{reason_number}
use Rattle.format.specs.Outcome.{Outcome, accepted, ◌>>=◌}
use Rattle.format.specs.File.{layout}
use Rattle.format.specs.Nest.{records}
use Rattle.format.specs.Outline.{inner_number, kind_number, stored}

-- The bytes of these numbers: eight bytes each, the most significant byte first.
unfoldable pub number_bytes : List ℕ → Bytes
number_bytes ns = flat_map (to_bytes 8) ns

-- The number of a verdict.
abbrev pub verdict_number : Verdict → ℕ
verdict_number Absent = 0
verdict_number Good = 1
verdict_number IgnoredForm = 2
verdict_number IgnoredList = 3

-- The number of a line end.
abbrev pub line_end_number : LineEnd → ℕ
line_end_number Lf = 0
line_end_number Crlf = 1

-- The number of what a check finds.
abbrev pub check_number : Check → ℕ
check_number NotStated = 0
check_number Agrees = 1
check_number Differs = 2

-- The numbers of a tree: whether there is one, its start, its end and the end of its room.
abbrev pub tree_fields : Option Tree → List ℕ
tree_fields None = 0 ∷ 0 ∷ 0 ∷ 0 ∷ []
tree_fields (Some t) = 1 ∷ t.start.0 ∷ t.end.0 ∷ t.room_end.0 ∷ []

-- The numbers of a layout: three version numbers, the header's end, the comments' end, the tree, the number of blocks,
-- the verdict, the header's line end.
unfoldable pub layout_fields : Layout → List ℕ
layout_fields l =
    l.header.version.major ∷ l.header.version.minor ∷ l.header.version.patch ∷ l.header.end.0 ∷ l.comments_end.0
    ∷ (tree_fields l.tree ++ (l.blocks ∷ verdict_number l.verdict ∷ line_end_number l.header.line_end ∷ []))

-- The bytes of the layout of the file `s`.
unfoldable pub layout_bytes : Bytes → Outcome Bytes
layout_bytes s = do
  l ← layout s
  accepted (number_bytes (layout_fields l))

-- The numbers of a block: ordinal, offset in its file, header size, flags, compression, the three sizes, the checksum's
-- two halves.
abbrev pub block_fields : Block → List ℕ
block_fields b =
    b.ordinal ∷ b.at.0 ∷ b.header_size ∷ b.flags ∷ b.compression ∷ b.allocated ∷ b.used ∷ b.data_size ∷ b.checksum_high
    ∷ b.checksum_low
    ∷ []

-- The number and place of an inner file's refusal, or zeros if there is none.
abbrev pub refusal_fields : Inner → List ℕ
refusal_fields Plain = 0 ∷ 0 ∷ []
refusal_fields Opened = 0 ∷ 0 ∷ []
refusal_fields (Refused r) = reason_number r.reason ∷ r.place.0 ∷ []
refusal_fields TooDeep = 0 ∷ 0 ∷ []

-- The numbers of a record: depth, offset in the outermost file, the inner state with its refusal, the block.
unfoldable pub record_fields : Record → List ℕ
record_fields r = r.depth ∷ r.at.0 ∷ inner_number r.inner ∷ (refusal_fields r.inner ++ block_fields r.block)

-- The numbers of a row, in the order in which the program prints them: depth, ordinal, offset, header size, allocated,
-- used, streamed, compressed, checksum, inner state.
abbrev pub row_fields : Row → List ℕ
row_fields r =
    r.depth ∷ r.ordinal ∷ r.at.0 ∷ r.header_size ∷ r.allocated ∷ r.used ∷ bit r.streamed ∷ bit r.compressed ∷ bit r.checksum
    ∷ kind_number r.inner
    ∷ []

-- How many bytes a record takes.
abbrev pub record_bytes : ℕ
record_bytes = 120

-- The bytes of a record.
unfoldable pub encode_record : Record → Bytes
encode_record r = number_bytes (record_fields r)

-- The records of the file `s`, one after another with nothing around them.
unfoldable pub record_table : Bytes → Outcome Bytes
record_table s = do
  rs ← records s
  accepted (flat_map encode_record rs)

-- How many bytes the numbers of a stored row take.
abbrev pub stored_row_bytes : ℕ
stored_row_bytes = 80

-- The bytes of a stored row's numbers.
unfoldable pub encode_stored_row : Row → Bytes
encode_stored_row r = number_bytes (row_fields r)

-- The rows of the stored outline `b` as numbers, one after another with nothing around them.
unfoldable pub stored_rows : Bytes → Outcome Bytes
stored_rows b = do
  rs ← stored b
  accepted (flat_map encode_stored_row rs)

-- The bytes of what was found; `fields` gives its numbers. If nothing was found, there are no bytes.
unfoldable pub found_numbers : {A : Type 0} → (A → List ℕ) → Option A → Bytes
found_numbers fields None = []
found_numbers fields (Some x) = number_bytes (fields x)

-- The same for an outcome, whose refusal is passed on.
unfoldable pub found_bytes : {A : Type 0} → (A → List ℕ) → Outcome (Option A) → Outcome Bytes
found_bytes fields result = do
  found ← result
  accepted (found_numbers fields found)
