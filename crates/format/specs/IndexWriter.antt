-- The index that is written for a file, and what it means for an index to be good after the file's last block.
use Rattle.std.specs.Prelude.{◌≡◌, ℕ, ◌≤◌, Bool, false, not, List, [], ◌∷◌, ◌++◌, length, take}
use Rattle.format.specs.declared.layout.Verdict.{Verdict}
use Rattle.format.specs.declared.layout.Verdict.TheVariants.{Good}
use Rattle.format.specs.declared.block.Block.{Block}
use Rattle.format.specs.declared.refusal.Reason.TheVariants.{NoIndexPossible}
use Rattle.format.specs.Bytes.{Bytes}
use Rattle.format.specs.Outcome.{Outcome, accepted, need, ◌>>=◌, ◌>>◌}
use Rattle.format.specs.Block.{is_streamed}
use Rattle.format.specs.Chain.{blocks_end}
use Rattle.format.specs.Index.{index_text}
use Rattle.format.specs.File.{most_bytes, File, first_block, file, offsets}

-- Whether a file with these blocks may have an index: there is a block, and the last one is not streamed.
unfoldable pub may_have_index : List Block → Bool
may_have_index [] = false
may_have_index (b ∷ []) = not (is_streamed b.flags)
may_have_index (b ∷ c ∷ bs) = may_have_index (c ∷ bs)

-- The index of the file `s`. Its lines end as the header does.
unfoldable pub index_for : Bytes → Outcome Bytes
index_for s = do
  f ← file s
  need (may_have_index f.blocks) NoIndexPossible 0
  accepted (index_text f.header.line_end (offsets f.blocks))

-- The highest number of bytes in the index of a file: 64 offsets of ten digits each, and line ends of two bytes.
abbrev pub most_index : ℕ
most_index = 809

-- Where the tail of a file begins, after its last block.
abbrev pub tail_start : File → ℕ
tail_start f = blocks_end (first_block f.comments_end f.tree) f.blocks

-- What is found in a file, with the verdict `v` in place of its own.
abbrev pub judged_as : Verdict → File → File
judged_as v f = record { header = f.header; comments_end = f.comments_end; tree = f.tree; blocks = f.blocks; verdict = v }

-- The file `s` is accepted, and `t` is a good index of it in this sense: cut `s` after its last block and put `t`
-- there, with nothing after it. If the result is within the size limit, it reads as `s` does, except that the verdict
-- is good.
pub record GoodAfter (s t : Bytes) : Type 0 where
  pub found : File
  pub is : file s ≡ accepted found
  pub good : length (take (tail_start found) s ++ t) ≤ most_bytes → file (take (tail_start found) s ++ t) ≡ accepted (judged_as Good found)
