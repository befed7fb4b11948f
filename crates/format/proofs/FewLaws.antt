-- A block takes at least `least_block` bytes of its file besides its content. So a file has at most one record for every
-- `least_block` bytes.
use Rattle.std.proofs.Common.{ℕ, zero, suc, ◌+◌, ◌*◌, ◌≤◌, List, [], ◌∷◌, length, drop, arith, length-append, length-take}
use lib.ListN.{length-map}
use Rattle.format.specs.declared.block.Block.{Block}
use Rattle.format.specs.declared.block.Record.{Record}
use Rattle.format.specs.declared.row.Row.{Row}
use Rattle.format.specs.Bytes.{Bytes}
use Rattle.format.specs.Outcome.{Outcome, accepted, refused}
use Rattle.format.specs.Block.{least_block}
use Rattle.format.specs.File.{file}
use Rattle.format.specs.Nest.{deepest, content_at, content_of, is_file, Inside, inside, opened, walked, walk, walk_file, records_from, records}
use Rattle.format.specs.Outline.{row_of, rows}
use Rattle.format.proofs.FileBlockLaws.{taken, file_lies}
use Rattle.format.proofs.OutcomeLaws.{Accepts, accepted_holds, accepts_bind, choice}

-- For each record there are `least_block` bytes in `s`.
abbrev pub Few : Bytes → List Record → Type 0
Few s rs = least_block * length rs ≤ length s

module _ (reads : ℕ → Bytes → Inside) (inner : (m : ℕ) (t : Bytes) → Few t (reads m t).records) (depth start : ℕ) (s : Bytes) where
  -- The records inside a block have their bytes in its content.
  inside_few : (b : Block) → least_block * length (inside reads start s b).records ≤ b.used
  unfolding inside
  inside_few b =
      choice (λ (i : Inside). least_block * length i.records ≤ b.used) (is_file b (content_of b s)) _ _
      (omega (arith, inner (start + content_at b) (content_of b s), length-take b.used (drop (content_at b) s)))
      (omega arith)

  -- The records of these blocks have their bytes in what the blocks take. For a block's own record, these are the bytes
  -- of its header.
  walk_few : (bs : List Block) → least_block * length (walk reads depth start s bs) ≤ taken bs
  unfolding walk walked
  walk_few [] = omega arith
  walk_few (b ∷ bs) = rw length-append (omega (arith, inside_few b, walk_few bs))

  file_few : Accepts (Few s) (walk_file reads depth start s)
  unfolding walk_file
  file_few =
      accepts_bind (Few s) (file s) _ λ f e.
      omega (arith, file_lies s f e, walk_few f.blocks)

-- If the bound holds for the records of an accepted inner file, it holds for what is inside the block when it is
-- opened.
opened_few : (t : Bytes) (o : Outcome (List Record)) → Accepts (Few t) o → Few t (opened o).records
unfolding opened
opened_few t (accepted rs) h = h
opened_few t (refused r) h = omega arith

-- The bound holds for an accepted file at any depth.
pub records_few : (levels depth start : ℕ) (s : Bytes) → Accepts (Few s) (records_from levels depth start s)
unfolding records_from
records_few zero depth start s = file_few _ (λ n t. omega arith) depth start s
records_few (suc levels) depth start s = file_few _ (λ n t. opened_few t _ (records_few levels (depth + 1) n t)) depth start s

-- A file has at most one row for every `least_block` bytes.
pub rows_few : (s : Bytes) → Accepts (λ (rs : List Row). least_block * length rs ≤ length s) (rows s)
unfolding rows records
rows_few s =
    accepts_bind _ (records_from deepest 0 0 s) _ λ rs e.
    omega (arith, length-map rs row_of, accepted_holds (Few s) (records_from deepest 0 0 s) rs (records_few deepest 0 0 s) e)
