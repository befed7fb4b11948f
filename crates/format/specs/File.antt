-- One file without the files inside its blocks, read from front to back.
use Rattle.std.specs.Prelude.{Some, ℕ, Bool, true, List, [], ◌∷◌, ◌++◌, map, length, drop, replicate, nat_le, None, Option, slice_get}
use Rattle.format.specs.declared.layout.Header.{Header}
use Rattle.format.specs.declared.layout.Tree.{Tree}
use Rattle.format.specs.declared.layout.Verdict.{Verdict}
use Rattle.format.specs.declared.layout.Layout.{Layout}
use Rattle.format.specs.declared.block.Block.{Block}
use Rattle.format.specs.declared.refusal.Reason.TheVariants.{FileTooLong, NeitherTreeNorBlock}
use Rattle.format.specs.Bytes.{Bytes, begins}
use Rattle.format.specs.Outcome.{Outcome, accepted, refused, need, ◌>>=◌, ◌>>◌}
use Rattle.format.specs.Line.{lines}
use Rattle.format.specs.Header.{header}
use Rattle.format.specs.Comments.{comments}
use Rattle.format.specs.Tree.{tree, mark}
use Rattle.format.specs.Chain.{chain, most_blocks}
use Rattle.format.specs.Index.{verdict}

-- The length of the longest file, in bytes.
abbrev pub most_bytes : ℕ
most_bytes = 4294967295

-- All that is reported about one file, without the files inside its blocks.
pub record File : Type 0 where
  pub header : Header
  pub comments_end : ℕ
  pub tree : Option Tree
  pub blocks : List Block
  pub verdict : Verdict

-- Where the first block begins, if there is one: where the tree's room ends or, without a tree, where the comments end,
-- at `n`.
unfoldable pub first_block : ℕ → Option Tree → ℕ
first_block n None = n
first_block n (Some t) = t.room_end.0

-- Whether the file may go on with `t` after the comments. If no tree begins there, `t` must be empty or begin with a
-- mark.
unfoldable pub goes_on : Option Tree → Bytes → Bool
goes_on (Some x) t = true
goes_on None [] = true
goes_on None (b ∷ t) = begins mark (b ∷ t)

-- The offsets at which these blocks begin.
abbrev pub offsets : List Block → List ℕ
offsets bs = map (λ (b : Block). b.at.0) bs

-- The meaning of a file of any length.
unfoldable pub body : Bytes → Outcome File
body s = do
  h ← header s
  n ← comments h.end.0 (lines (drop h.end.0 s))
  t ← tree n s
  need (goes_on t (drop n s)) NeitherTreeNorBlock n
  c ← chain most_blocks 0 (first_block n t) (drop (first_block n t) s)
  accepted (record { header = h; comments_end = n; tree = t; blocks = c.blocks; verdict = verdict (offsets c.blocks) c.tail })

-- The meaning of a file, which must not be longer than `most_bytes`.
unfoldable pub file : Bytes → Outcome File
file s = do
  need (nat_le (length s) most_bytes) FileTooLong 0
  body s

-- A table of offsets that begins with the offsets of these blocks. After them, it is the same as `before`.
abbrev pub table_of : List ℕ → List Block → List ℕ
table_of before bs = offsets bs ++ drop (length bs) before

-- Such a table after a file was read into it; `before` is what it held. A refused file leaves only zeros.
unfoldable pub offset_table : List ℕ → Outcome File → List ℕ
offset_table before (accepted f) = table_of before f.blocks
offset_table before (refused r) = replicate most_blocks 0

-- The layout that is reported for an accepted file.
unfoldable pub layout_of : File → Layout
layout_of f = record { header = f.header; comments_end = record { 0 = f.comments_end }; tree = f.tree; blocks = length f.blocks; verdict = f.verdict }

-- The layout of the file `s`.
unfoldable pub layout : Bytes → Outcome Layout
layout s = do
  f ← file s
  accepted (layout_of f)

-- The block of the file `s` with the ordinal `i`, if there is one.
unfoldable pub block_at : Bytes → ℕ → Outcome (Option Block)
block_at s i = do
  f ← file s
  accepted (slice_get f.blocks i)
