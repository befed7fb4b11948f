-- The index that is written for offsets, and the parts of its text.
use Rattle.std.specs.Prelude.{ℕ, ◌+◌, List, length, leb}
use Rattle.format.specs.declared.line.LineEnd.{LineEnd}
use Rattle.format.specs.declared.line.LineEnd.TheVariants.{Lf, Crlf}
use Rattle.format.specs.declared.refusal.Reason.TheVariants.{NoIndexPossible}
use Rattle.format.specs.Bytes.{Bytes, text}
use Rattle.format.specs.Chain.{most_blocks}
use Rattle.format.specs.Index.{index_text}
use Rattle.format.specs.Outcome.{Outcome, accepted, need, ◌>>◌}
use Rattle.put.specs.Put.{most_decimals}

-- The index of these offsets, if a file can have that many blocks.
unfoldable pub offsets_index : LineEnd → List ℕ → Outcome Bytes
offsets_index e offsets = do
  need (leb (length offsets) most_blocks) NoIndexPossible 0
  accepted (index_text e offsets)

-- The text before the list of an index.
abbrev pub front_text : LineEnd → Bytes
front_text Lf = text "#ASDF BLOCK INDEX\n%YAML 1.1\n--- ["
front_text Crlf = text "#ASDF BLOCK INDEX\r\n%YAML 1.1\r\n--- ["

-- The text after the list of an index.
abbrev pub back_text : LineEnd → Bytes
back_text Lf = text "]\n...\n"
back_text Crlf = text "]\r\n...\r\n"

-- The maximum number of bytes in the text before the list.
abbrev pub most_front : ℕ
most_front = 35

-- The maximum number of bytes in the text after the list.
abbrev pub most_back : ℕ
most_back = 8

-- The text between two numbers of the list.
abbrev pub comma : Bytes
comma = text ", "

-- The maximum number of bytes in an index whose offsets may take all of their 64 bits.
abbrev pub most_text : ℕ
most_text = most_front + (most_decimals comma most_blocks + most_back)
