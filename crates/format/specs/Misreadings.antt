-- Cases that a hasty reader would get wrong, with their right answers, as a second table of the same form.
-- proofs/Examples.antt proves that all these answers hold.
use Rattle.std.specs.Prelude.{ℕ, zero, suc, List, [], ◌∷◌, ◌++◌, length, replicate, None}
use Rattle.format.specs.declared.block.Inner.TheVariants.{Plain, Opened, Refused, TooDeep}
use Rattle.format.specs.declared.layout.Verdict.TheVariants.{Absent, Good, IgnoredForm, IgnoredList}
use Rattle.format.specs.declared.refusal.Reason.TheVariants.{VersionMalformed, IndexAmongComments, HeaderPassesEnd, HeaderTooSmall, UsedAboveAllocated, AllocatedPassesEnd, TooManyBlocks, StrayTail, TextNotOneTree}
use Rattle.format.specs.Bytes.{Bytes, text}
use Rattle.format.specs.Outcome.{accepted, refused, refusal}
use Rattle.format.specs.Comments.{index_line}
use Rattle.format.specs.Tree.{mark, tree_at}
use Rattle.format.specs.Examples.{Example, Reads, Indexes, Edits, Lists, States, Numbers, Records, file_a, file_b, block_header, empty_block, index_with, layout_of_a}

-- `n` copies of `t`, one after another.
abbrev pub copies : ℕ → Bytes → Bytes
copies zero t = []
copies (suc n) t = t ++ copies n t

-- A block that holds these bytes.
abbrev pub block_holding : Bytes → Bytes
block_holding t = block_header 48 (length t) (length t) (length t) ++ t

-- B inside `n` files, each in a block of the next.
abbrev pub nested : ℕ → Bytes
nested zero = file_b
nested (suc n) = file_a ++ block_holding (nested n)

-- An index with these lines for its list.
abbrev pub index_of_lines : Bytes → Bytes
index_of_lines t = text "#ASDF BLOCK INDEX\n%YAML 1.1\n" ++ t ++ text "...\n"

-- A with a line end of two bytes.
abbrev pub dos_a : Bytes
dos_a = text "#ASDF 1.0.0\r\n"

-- An index in brackets with line ends of two bytes. `ns` is the text of its list.
abbrev pub dos_index : Bytes → Bytes
dos_index ns = text "#ASDF BLOCK INDEX\r\n%YAML 1.1\r\n--- [" ++ ns ++ text "]\r\n...\r\n"

-- The table. Each comment states the rule that the examples below it show.
abbrev pub misreadings : List Example
misreadings =
    -- A mark inside a tree does not begin a block.
    Reads (file_a ++ text "%YAML 1.1\n---\n" ++ mark ++ text "\n...\n") (layout_of_a (tree_at 12 35 35) 0 Absent)
    -- A line of three characters other than `...` does not end the tree, and neither does `...` followed by two 0D.
    ∷ Reads (file_a ++ text "%YAML 1.1\n---\nabc\n...\r\r\n...\r\n ") (layout_of_a (tree_at 12 41 42) 0 Absent)
    -- A size of all FF does not wrap around.
    ∷ Reads (file_a ++ block_header 48 0xFFFF_FFFF_FFFF_FFFF 0 0) (refused (refusal AllocatedPassesEnd 12))
    -- The used size may equal the allocated size, but may not be one above it.
    ∷ Reads (file_a ++ block_holding (text "x")) (layout_of_a None 1 Absent)
    ∷ Reads (file_a ++ block_header 48 1 2 2 ++ text "xy") (refused (refusal UsedAboveAllocated 12))
    -- A refused inner file does not refuse the outer file. The place of its refusal counts from its own first byte.
    ∷ States (file_a ++ block_holding (text "#ASDF ") ++ empty_block) (accepted (Refused (refusal VersionMalformed 6) ∷ Plain ∷ []))
    -- That refusal is in the record of its block, after the inner state 2.
    ∷ Records (file_a ++ block_holding (text "#ASDF ")) ((0 ∷ 12 ∷ 2 ∷ 3 ∷ 6 ∷ 0 ∷ 12 ∷ 48 ∷ 0 ∷ 0 ∷ 6 ∷ 6 ∷ 6 ∷ 0 ∷ 0 ∷ []) ∷ [])
    -- Files are read eight deep. The ninth is too deep.
    ∷ States (nested 7) (accepted (replicate 7 Opened ++ (Plain ∷ [])))
    ∷ States (nested 8) (accepted (replicate 7 Opened ++ (TooDeep ∷ [])))
    -- The listing of these nine files. The inner state too deep is printed as 3.
    ∷ Lists (nested 8)
    (text "tree none\n"
    ++ text "0 0 12 48 528 528 0 0 0 1\n"
    ++ text "1 0 78 48 462 462 0 0 0 1\n"
    ++ text "2 0 144 48 396 396 0 0 0 1\n"
    ++ text "3 0 210 48 330 330 0 0 0 1\n"
    ++ text "4 0 276 48 264 264 0 0 0 1\n"
    ++ text "5 0 342 48 198 198 0 0 0 1\n"
    ++ text "6 0 408 48 132 132 0 0 0 1\n"
    ++ text "7 0 474 48 66 66 0 0 0 3\n"
    ++ text "index absent\n")
    -- An index line among the comments is not a comment.
    ∷ Reads (file_a ++ text "#ASDF BLOCK INDEX\n%YAML 1.1\n--- [12]\n...\n") (refused (refusal IndexAmongComments 12))
    -- An index without a number does not have the form. An index with a number above 2^32 has the form, but its list is
    -- not the list of the blocks' offsets.
    ∷ Reads (file_b ++ index_with []) (layout_of_a None 1 IgnoredForm)
    ∷ Reads (file_b ++ index_with (text "4294967308")) (layout_of_a None 1 IgnoredList)
    -- In an index with dashes, extra spaces may come only after a number, also before a line end of two bytes. Zero
    -- bytes may follow the index.
    ∷ Reads (file_b ++ index_of_lines (text "---\n- 12\n")) (layout_of_a None 1 Good)
    ∷ Reads (file_b ++ index_of_lines (text "---\r\n- 12  \r\n") ++ (0 ∷ [])) (layout_of_a None 1 Good)
    ∷ Reads (file_b ++ index_of_lines (text "---\n-  12\n")) (layout_of_a None 1 IgnoredForm)
    ∷ Reads (file_b ++ index_of_lines (text "---\n - 12\n")) (layout_of_a None 1 IgnoredForm)
    ∷ Reads (file_b ++ index_of_lines (text "---\n- 12\n") ++ text "x") (layout_of_a None 1 IgnoredForm)
    -- The numbers of an index are the offsets in their order. Its form is judged first.
    ∷ Reads (file_b ++ empty_block ++ index_of_lines (text "---\n- 12\n- 66\n")) (layout_of_a None 2 Good)
    ∷ Reads (file_b ++ empty_block ++ index_of_lines (text "---\n- 66\n- 12\n")) (layout_of_a None 2 IgnoredList)
    ∷ Reads (file_b ++ index_of_lines (text "---\n- 12\n- 66\n")) (layout_of_a None 1 IgnoredList)
    ∷ Reads (file_b ++ index_of_lines (text "---\n- 4294967308\n")) (layout_of_a None 1 IgnoredList)
    ∷ Reads (file_b ++ index_of_lines (text "---\n- 13\n- 012\n")) (layout_of_a None 1 IgnoredForm)
    -- An index with dashes has at least one number and no empty line. `--- ` is not its start line, and the two styles
    -- are not mixed.
    ∷ Reads (file_b ++ index_of_lines (text "---\n")) (layout_of_a None 1 IgnoredForm)
    ∷ Reads (file_b ++ index_of_lines (text "---\n- 12\n\n")) (layout_of_a None 1 IgnoredForm)
    ∷ Reads (file_b ++ index_of_lines (text "--- \n- 12\n")) (layout_of_a None 1 IgnoredForm)
    ∷ Reads (file_b ++ index_of_lines (text "--- [12]\n- 12\n")) (layout_of_a None 1 IgnoredForm)
    ∷ Reads (file_b ++ index_of_lines (text "---\n[12]\n")) (layout_of_a None 1 IgnoredForm)
    -- A file may have 64 blocks. At the mark of one more it is refused.
    ∷ Reads (file_a ++ copies 64 empty_block) (layout_of_a None 64 Absent)
    ∷ Reads (file_a ++ copies 64 empty_block ++ mark) (refused (refusal TooManyBlocks 3468))
    -- The next block is at the first mark after the preceding block. Zeros and a part of a mark are passed over, and
    -- bytes at the end of the preceding block do not count as part of a mark.
    ∷ Lists (file_b ++ (0 ∷ []) ++ empty_block) (text "tree none\n0 0 12 48 0 0 0 0 0 0\n0 1 67 48 0 0 0 0 0 0\nindex absent\n")
    ∷ Lists (file_b ++ (0xD3 ∷ 0x42 ∷ 0x4C ∷ []) ++ empty_block) (text "tree none\n0 0 12 48 0 0 0 0 0 0\n0 1 69 48 0 0 0 0 0 0\nindex absent\n")
    ∷ Lists (file_a ++ block_holding (0xD3 ∷ 0x42 ∷ []) ++ (0x4C ∷ 0x4B ∷ []) ++ empty_block)
    (text "tree none\n0 0 12 48 2 2 0 0 0 0\n0 1 70 48 0 0 0 0 0 0\nindex absent\n")
    -- This also holds in a file inside a block.
    ∷ Lists (file_a ++ block_holding (file_b ++ text "x" ++ empty_block))
    (text "tree none\n0 0 12 48 121 121 0 0 0 1\n1 0 78 48 0 0 0 0 0 0\n1 1 133 48 0 0 0 0 0 0\nindex absent\n")
    -- A malformed block after a gap is refused at its mark, even if a good block follows, and so is a 65th block. 17 is
    -- given only if no mark follows, at the end of the last block.
    ∷ Reads (file_b ++ text "x" ++ mark) (refused (refusal HeaderPassesEnd 67))
    ∷ Reads (file_b ++ text "x" ++ block_header 47 0 0 0 ++ empty_block) (refused (refusal HeaderTooSmall 67))
    ∷ Reads (file_a ++ copies 64 empty_block ++ text "x" ++ mark) (refused (refusal TooManyBlocks 3469))
    ∷ Reads (file_b ++ (0 ∷ []) ++ text "x") (refused (refusal StrayTail 66))
    -- An index is tried first, directly after the block. It ends the chain, whatever follows.
    ∷ Reads (file_b ++ index_line ++ empty_block) (layout_of_a None 1 IgnoredForm)
    ∷ Reads (file_a ++ copies 64 empty_block ++ index_line ++ mark) (layout_of_a None 64 IgnoredForm)
    ∷ Reads (file_b ++ text "#ASDF BLOCK INDE" ++ empty_block) (layout_of_a None 2 Absent)
    ∷ Reads (file_b ++ (0 ∷ []) ++ index_with (text "12")) (refused (refusal StrayTail 66))
    ∷ Reads (file_b ++ (0 ∷ []) ++ index_with (text "12") ++ empty_block) (layout_of_a None 2 Absent)
    -- An index lists where the marks are, and not where the blocks before them end.
    ∷ Reads (file_b ++ text "x" ++ empty_block ++ index_with (text "12, 67")) (layout_of_a None 2 Good)
    ∷ Reads (file_b ++ text "x" ++ empty_block ++ index_with (text "12, 66")) (layout_of_a None 2 IgnoredList)
    -- The lines of a written index end as the header does, and the index is good after the last block.
    ∷ Numbers (dos_a ++ empty_block) (1 ∷ 0 ∷ 0 ∷ 13 ∷ 13 ∷ 0 ∷ 0 ∷ 0 ∷ 0 ∷ 1 ∷ 0 ∷ 1 ∷ [])
    ∷ Indexes (dos_a ++ empty_block) (accepted (dos_index (text "13")))
    ∷ Numbers (dos_a ++ empty_block ++ dos_index (text "13")) (1 ∷ 0 ∷ 0 ∷ 13 ∷ 13 ∷ 0 ∷ 0 ∷ 0 ∷ 0 ∷ 1 ∷ 1 ∷ 1 ∷ [])
    -- This is so whatever ends the lines of the comments, the tree, an existing index or the header of an inner file.
    -- Of two 0D before an 0A, only the second belongs to the line end.
    ∷ Indexes (dos_a ++ text "#x\n%YAML 1.1\n---\n...\n" ++ empty_block ++ index_with (text "34")) (accepted (dos_index (text "34")))
    ∷ Indexes (file_a ++ text "#x\r\n%YAML 1.1\r\n---\r\n...\r\n" ++ empty_block ++ dos_index (text "37")) (accepted (index_with (text "37")))
    ∷ Indexes (dos_a ++ block_holding file_b) (accepted (dos_index (text "13")))
    ∷ Indexes (file_a ++ block_holding (dos_a ++ empty_block)) (accepted (index_with (text "12")))
    ∷ Indexes (text "#ASDF 1.0.0\r\r\n" ++ empty_block) (refused (refusal VersionMalformed 6))
    -- The listing does not say which line end the header has.
    ∷ Lists (dos_a ++ empty_block) (text "tree none\n0 0 13 48 0 0 0 0 0 0\nindex absent\n")
    -- An edit to an equal text turns the free space into spaces. The new text has to end with its tree.
    ∷ Edits (file_a ++ text "%YAML 1.1\n---\n...\nxx") (text "%YAML 1.1\n---\n...\n") (accepted (file_a ++ text "%YAML 1.1\n---\n...\n  "))
    ∷ Edits (file_a ++ text "%YAML 1.1\n---\n...\nxx") (text "%YAML 1.1\n---\n...\n ") (refused (refusal TextNotOneTree 0))
    ∷ []
