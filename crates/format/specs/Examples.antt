-- The customer's worked examples as one table: P1 to P13, some of them also as numbers, and the listing of B. `AllHold`
-- states that all of them hold, and proofs/Examples.antt proves it.
use Rattle.std.specs.Prelude.{◌≡◌, ℕ, List, [], ◌∷◌, ◌++◌, map, take, replicate, None, Option}
use mathlib.Core.List.{flat_map}
use Rattle.format.specs.declared.block.Inner.{Inner}
use Rattle.format.specs.declared.block.Record.{Record}
use Rattle.format.specs.declared.layout.Layout.{Layout}
use Rattle.format.specs.declared.layout.Tree.{Tree}
use Rattle.format.specs.declared.layout.Verdict.{Verdict}
use Rattle.format.specs.declared.layout.Verdict.TheVariants.{Absent, Good, IgnoredForm, IgnoredList}
use Rattle.format.specs.declared.line.LineEnd.TheVariants.{Lf}
use Rattle.format.specs.declared.refusal.Reason.TheVariants.{NotAsdf, VersionMalformed, HeaderPassesEnd, HeaderTooSmall, TextLongerThanRoom}
use Rattle.format.specs.Bytes.{Bytes, text, to_bytes}
use Rattle.format.specs.Outcome.{Outcome, accepted, refused, refusal, ◌>>=◌}
use Rattle.format.specs.Tree.{mark, tree_at}
use Rattle.format.specs.File.{layout}
use Rattle.format.specs.IndexWriter.{index_for}
use Rattle.format.specs.Nest.{records}
use Rattle.format.specs.Outline.{outline}
use Rattle.format.specs.Fields.{number_bytes, layout_bytes, record_table}
use Rattle.format.specs.Edit.{edit}
use Rattle.format.specs.Listing.{listing}

-- A question with its answer. Each constructor takes a file, `Edits` then takes the new text, and the answer comes
-- last.
pub data Example : Type 0 where
  Reads : Bytes → Outcome Layout → Example
  Outlines : Bytes → Outcome Bytes → Example
  Indexes : Bytes → Outcome Bytes → Example
  Edits : Bytes → Bytes → Outcome Bytes → Example
  Lists : Bytes → Bytes → Example
  States : Bytes → Outcome (List Inner) → Example
  Numbers : Bytes → List ℕ → Example
  Records : Bytes → List (List ℕ) → Example

-- The inner states of all blocks, in walking order.
abbrev pub inner_states : Bytes → Outcome (List Inner)
inner_states s = do
  rs ← records s
  accepted (map (λ (r : Record). r.inner) rs)

-- The definitions give this answer to the question.
abbrev pub Holds : Example → Type 0
Holds (Reads s answer) = layout s ≡ answer
Holds (Outlines s answer) = outline s ≡ answer
Holds (Indexes s answer) = index_for s ≡ answer
Holds (Edits s t answer) = edit s t ≡ answer
Holds (Lists s answer) = listing s ≡ answer
Holds (States s answer) = inner_states s ≡ answer
Holds (Numbers s numbers) = layout_bytes s ≡ accepted (number_bytes numbers)
Holds (Records s numbers) = record_table s ≡ accepted (flat_map number_bytes numbers)

-- Every example of the list holds.
abbrev pub AllHold : List Example → Type 0
AllHold [] = Unit {0}
AllHold (e ∷ es) = Holds e × AllHold es

-- A: a header alone.
abbrev pub file_a : Bytes
file_a = text "#ASDF 1.0.0\n"

-- A block's header with header size `h` and these three sizes. Every other field is zero.
abbrev pub block_header : ℕ → ℕ → ℕ → ℕ → Bytes
block_header h allocated used size =
    mark ++ to_bytes 2 h ++ replicate 8 0 ++ to_bytes 8 allocated ++ to_bytes 8 used ++ to_bytes 8 size ++ replicate 16 0

-- A block with the smallest header and no content.
abbrev pub empty_block : Bytes
empty_block = block_header 48 0 0 0

-- B: the header of A and an empty block.
abbrev pub file_b : Bytes
file_b = file_a ++ empty_block

-- The header of A, a tree with ten bytes of free space, and an empty block.
abbrev pub file_t : Bytes
file_t = file_a ++ text "%YAML 1.1\n---\n...\n          " ++ empty_block

-- An index in brackets, with `ns` as the text of its list.
abbrev pub index_with : Bytes → Bytes
index_with ns = text "#ASDF BLOCK INDEX\n%YAML 1.1\n--- [" ++ ns ++ text "]\n...\n"

-- What is reported about a file that has the header of A and no comments.
abbrev pub layout_of_a : Option Tree → ℕ → Verdict → Outcome Layout
layout_of_a t blocks v =
    accepted
    (record {
      header = record { version = record { major = 1; minor = 0; patch = 0 }; line_end = Lf; end = record { 0 = 12 } };
      comments_end = record { 0 = 12 };
      tree = t;
      blocks = blocks;
      verdict = v;
    })

-- A file with one block, which holds B.
abbrev pub file_b_inside : Bytes
file_b_inside = file_a ++ block_header 48 66 66 66 ++ file_b

-- The table. Each comment names the examples below it.
abbrev pub examples : List Example
examples =
    -- P1 to P3: no bytes, A, and A without its line end.
    Reads [] (refused (refusal NotAsdf 0))
    ∷ Reads file_a (layout_of_a None 0 Absent)
    ∷ Reads (take 11 file_a) (refused (refusal VersionMalformed 6))
    -- P4: the layout and the outline of B.
    ∷ Reads file_b (layout_of_a None 1 Absent)
    ∷ Outlines file_b (accepted (0x00 ∷ 0x00 ∷ 0x00 ∷ 0x30 ∷ 0x00 ∷ 0x00 ∷ 0x00 ∷ 0x0C ∷ replicate 8 0x00))
    -- P5 to P7: the index of B, and B with three indexes.
    ∷ Indexes file_b (accepted (index_with (text "12")))
    ∷ Reads (file_b ++ index_with (text "12")) (layout_of_a None 1 Good)
    ∷ Reads (file_b ++ index_with (text "012")) (layout_of_a None 1 IgnoredForm)
    ∷ Reads (file_b ++ index_with (text "13")) (layout_of_a None 1 IgnoredList)
    -- The same three as numbers: version, ends of header and comments, tree, number of blocks, verdict, line end.
    ∷ Numbers (file_b ++ index_with (text "12")) (1 ∷ 0 ∷ 0 ∷ 12 ∷ 12 ∷ 0 ∷ 0 ∷ 0 ∷ 0 ∷ 1 ∷ 1 ∷ 0 ∷ [])
    ∷ Numbers (file_b ++ index_with (text "012")) (1 ∷ 0 ∷ 0 ∷ 12 ∷ 12 ∷ 0 ∷ 0 ∷ 0 ∷ 0 ∷ 1 ∷ 2 ∷ 0 ∷ [])
    ∷ Numbers (file_b ++ index_with (text "13")) (1 ∷ 0 ∷ 0 ∷ 12 ∷ 12 ∷ 0 ∷ 0 ∷ 0 ∷ 0 ∷ 1 ∷ 3 ∷ 0 ∷ [])
    -- P8 and P9: a header size of 47, and B without its last byte.
    ∷ Reads (file_a ++ block_header 47 0 0 0) (refused (refusal HeaderTooSmall 12))
    ∷ Reads (take 65 file_b) (refused (refusal HeaderPassesEnd 12))
    -- P10: a file that holds B.
    ∷ Outlines file_b_inside
    (accepted
    (0x01 ∷ 0x00 ∷ 0x00 ∷ 0x30 ∷ 0x00 ∷ 0x00 ∷ 0x00 ∷ 0x0C ∷ 0x00 ∷ 0x00 ∷ 0x00 ∷ 0x42 ∷ 0x00 ∷ 0x00 ∷ 0x00 ∷ 0x42
    ∷ 0x20 ∷ 0x00 ∷ 0x00 ∷ 0x30 ∷ 0x00 ∷ 0x00 ∷ 0x00 ∷ 0x4E ∷ replicate 8 0x00))
    -- The same as records: depth, offset, inner state, the refusal's number and place, ordinal, offset in its file,
    -- header size, flags, compression, three sizes, the checksum's halves.
    ∷ Records file_b_inside
    ((0 ∷ 12 ∷ 1 ∷ 0 ∷ 0 ∷ 0 ∷ 12 ∷ 48 ∷ 0 ∷ 0 ∷ 66 ∷ 66 ∷ 66 ∷ 0 ∷ 0 ∷ []) ∷ (1 ∷ 78 ∷ 0 ∷ 0 ∷ 0 ∷ 0 ∷ 12 ∷ 48 ∷ 0 ∷ 0 ∷ 0 ∷ 0 ∷ 0 ∷ 0 ∷ 0 ∷ []) ∷ [])
    -- P11: a file with a tree.
    ∷ Reads file_t (layout_of_a (tree_at 12 30 40) 1 Absent)
    ∷ Numbers file_t (1 ∷ 0 ∷ 0 ∷ 12 ∷ 12 ∷ 1 ∷ 12 ∷ 30 ∷ 40 ∷ 1 ∷ 0 ∷ 0 ∷ [])
    ∷ Outlines file_t (accepted (0x00 ∷ 0x00 ∷ 0x00 ∷ 0x30 ∷ 0x00 ∷ 0x00 ∷ 0x00 ∷ 0x28 ∷ replicate 8 0x00))
    -- P12 and P13: an edit that fills the room, and one whose text is a byte too long.
    ∷ Edits file_t (text "%YAML 1.1\n---\nxxxxxxxxx\n...\n") (accepted (file_a ++ text "%YAML 1.1\n---\nxxxxxxxxx\n...\n" ++ empty_block))
    ∷ Edits file_t (text "%YAML 1.1\n---\nxxxxxxxxxx\n...\n") (refused (refusal TextLongerThanRoom 0))
    -- The listing of B.
    ∷ Lists file_b (text "tree none\n0 0 12 48 0 0 0 0 0 0\nindex absent\n")
    ∷ []
