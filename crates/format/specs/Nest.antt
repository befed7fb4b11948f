-- The files inside blocks, and all blocks of an outermost file in walking order.
use Rattle.std.specs.Prelude.{ℕ, zero, suc, ◌+◌, Bool, true, false, not, ◌&&◌, List, [], ◌∷◌, ◌++◌, length, take, drop, Option, slice_get}
use Rattle.format.specs.declared.block.Block.{Block}
use Rattle.format.specs.declared.block.Record.{Record}
use Rattle.format.specs.declared.block.Inner.{Inner}
use Rattle.format.specs.declared.block.Inner.TheVariants.{Plain, Opened, Refused, TooDeep}
use Rattle.format.specs.Bytes.{Bytes, begins}
use Rattle.format.specs.Outcome.{Outcome, accepted, refused, ◌>>=◌}
use Rattle.format.specs.Header.{token}
use Rattle.format.specs.Block.{is_compressed}
use Rattle.format.specs.File.{file}

-- The highest depth at which a file is read. The outermost file has depth 0.
abbrev pub deepest : ℕ
deepest = 7

-- Where a block's content begins in its file.
abbrev pub content_at : Block → ℕ
content_at b = b.at.0 + 6 + b.header_size

-- The content of the block `b` of the file `s`: the used part.
abbrev pub content_of : Block → Bytes → Bytes
content_of b s = take b.used (drop (content_at b) s)

-- Whether the content `t` of the block `b` is to be read as a file: it is not compressed, and it begins like a file.
abbrev pub is_file : Block → Bytes → Bool
is_file b t = not (is_compressed b.compression) && begins token t

-- What a block's content is: its inner state, and the records of the blocks inside it.
pub record Inside : Type 0 where
  pub state : Inner
  pub records : List Record

-- Content in the inner state `i`, with no records inside it.
abbrev pub closed : Inner → Inside
closed i = record { state = i; records = [] }

-- Content that was read as a file. If that file is refused, there are no records inside it.
unfoldable pub opened : Outcome (List Record) → Inside
opened (accepted rs) = record { state = Opened; records = rs }
opened (refused r) = closed (Refused r)

-- What the content of the block `b` of the file `s` is. The first byte of `s` is at offset `start` of the outermost
-- file. `reads` decides about content that is to be read as a file; it is given the content's offset in the outermost
-- file, and the content.
unfoldable pub inside : (ℕ → Bytes → Inside) → ℕ → Bytes → Block → Inside
inside reads start s b =
    elim (is_file b (content_of b s)) [ true ↦ reads (start + content_at b) (content_of b s) | false ↦ closed Plain ]

-- The record of the block `b`, and after it the records of the blocks inside it, which are in `i`. The block's file has
-- this depth, and its first byte is at offset `start` of the outermost file.
unfoldable pub walked : ℕ → ℕ → Block → Inside → List Record
walked depth start b i = record { depth = depth; at = record { 0 = start + b.at.0 }; block = b; inner = i.state } ∷ i.records

-- The same for each of these blocks of the file `s`, one after another.
unfoldable pub walk : (ℕ → Bytes → Inside) → ℕ → ℕ → Bytes → List Block → List Record
walk reads depth start s [] = []
walk reads depth start s (b ∷ bs) = walked depth start b (inside reads start s b) ++ walk reads depth start s bs

-- The records of the file `s` at this depth. Its first byte is at offset `start` of the outermost file.
unfoldable pub walk_file : (ℕ → Bytes → Inside) → ℕ → ℕ → Bytes → Outcome (List Record)
walk_file reads depth start s = do
  f ← file s
  accepted (walk reads depth start s f.blocks)

-- The same with a limit: the first argument is for how many further levels inner files are read. An inner file beyond
-- them is too deep.
unfoldable pub records_from : ℕ → ℕ → ℕ → Bytes → Outcome (List Record)
records_from zero depth = walk_file (λ n t. closed TooDeep) depth
records_from (suc levels) depth = walk_file (λ n t. opened (records_from levels (depth + 1) n t)) depth

-- The records of all blocks of the outermost file `s` and of its inner files, in walking order.
unfoldable pub records : Bytes → Outcome (List Record)
records s = records_from deepest 0 0 s

-- How many records there are.
unfoldable pub record_count : Bytes → Outcome ℕ
record_count s = do
  rs ← records s
  accepted (length rs)

-- Record `k` in this order, counted from 0, if there is one.
unfoldable pub record_at : Bytes → ℕ → Outcome (Option Record)
record_at s k = do
  rs ← records s
  accepted (slice_get rs k)
