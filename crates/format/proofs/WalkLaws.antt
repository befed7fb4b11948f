-- The records of a file give rows that fit and that keep the rules of stored rows.
use Rattle.std.proofs.Common.{◌≡◌, ℕ, zero, suc, ◌+◌, ◌<◌, ◌≤◌, true, List, [], ◌∷◌, ◌++◌, map, length, append_assoc, le_refl, arith, length-drop, length-take, le-leb}
use Rattle.format.specs.declared.block.Block.{Block}
use Rattle.format.specs.declared.block.Record.{Record}
use Rattle.format.specs.declared.block.Inner.{Inner}
use Rattle.format.specs.declared.row.Row.{Row}
use Rattle.format.specs.Bytes.{Bytes, IsBytes}
use Rattle.format.specs.Outcome.{Outcome, accepted, refused}
use Rattle.format.specs.Block.{least_header}
use Rattle.format.specs.Chain.{most_blocks}
use Rattle.format.specs.File.{most_bytes, file}
use Rattle.format.specs.Nest.{content_at, content_of, is_file, Inside, opened, inside, walked, walk, walk_file, records_from, deepest}
use Rattle.format.specs.Outline.{row_of, is_row}
use Rattle.format.proofs.OutcomeLaws.{Accepts, accepts_bind, choice}
use Rattle.format.proofs.PackLaws.{is_bytes_take, is_bytes_drop}
use Rattle.format.proofs.RowLaws.{RowFits}
use Rattle.format.proofs.FileBlockLaws.{FileBlock, AllBlocks, file_bounds}

-- A row that fits its bytes and keeps the rules of a stored row, at a depth of at most `most`.
pub record RowKept (most : ℕ) (r : Row) : Type 0 where
  pub fits : RowFits r
  pub rule : is_row most r ≡ true

-- `RowKept` holds for every row. The first has a depth of at most `most`, and no row is more than one deeper than the
-- row before it.
abbrev pub Kept : ℕ → List Row → Type 0
Kept most [] = Unit {0}
Kept most (r ∷ rs) = RowKept most r × Kept (r.depth + 1) rs

-- The records `rs` lead: if `Kept` holds for the rows of further records with every bound from `depth` on, it also
-- holds, with every such bound, for the rows of `rs` followed by those rows.
abbrev pub Leads : ℕ → List Record → Type 0
Leads depth rs =
    (zs : List Record) → ((m : ℕ) → depth ≤ m → Kept m (map row_of zs)) → (m : ℕ) → depth ≤ m → Kept m (map row_of (rs ++ zs))

-- The empty list of records leads.
none_lead : (depth : ℕ) → Leads depth []
none_lead depth zs h = h

-- A row that keeps the rules passes the test.
is_row_lem : (most : ℕ) (r : Row) → r.ordinal < most_blocks → least_header ≤ r.header_size → r.used ≤ r.allocated → r.depth ≤ most
    → is_row most r ≡ true
unfolding is_row
is_row_lem most r o h u d = simp le-leb

module _ (reads : ℕ → Bytes → Inside) (depth start : ℕ) (s : Bytes) (bytes : IsBytes s) (room : start + length s ≤ most_bytes) (deep : depth ≤ deepest)
    (inner : (n : ℕ) (t : Bytes) → IsBytes t → n + length t ≤ most_bytes → Leads (depth + 1) (reads n t).records) where
  -- `RowKept` holds for the row of a block of the file, with every bound from `depth` on.
  row_kept : (b : Block) (i : Inner) (m : ℕ) → FileBlock (length s) b → depth ≤ m
      → RowKept m (row_of (record { depth = depth; at = record { 0 = start + b.at.0 }; block = b; inner = i }))
  unfolding row_of
  row_kept b i m h le = record { fits = omega arith; rule = is_row_lem m _ h.ordinal h.header_least h.used le }

  -- The records inside a block of the file lead.
  inside_leads : (b : Block) → FileBlock (length s) b → Leads (depth + 1) (inside reads start s b).records
  unfolding inside
  inside_leads b h =
      choice (λ (i : Inside). Leads (depth + 1) i.records) (is_file b (content_of b s)) _ _
      (inner (start + content_at b) (content_of b s) (is_bytes_take b.used _ (is_bytes_drop (content_at b) s bytes))
      (simp (length-take, length-drop) (omega arith)))
      (none_lead (depth + 1))

  -- The records of such blocks lead: the row of a block, then what is inside it, then the blocks after it.
  walk_leads : (bs : List Block) → AllBlocks (FileBlock (length s)) bs → Leads depth (walk reads depth start s bs)
  unfolding walk walked row_of
  walk_leads [] hs zs h m le = h m le
  walk_leads (b ∷ bs) hs zs h m le = (
    row_kept b (inside reads start s b).state m hs.0 le,
    rw (append_assoc (inside reads start s b).records (walk reads depth start s bs) zs)
        (inside_leads b hs.0 (walk reads depth start s bs ++ zs) (λ m le. walk_leads bs hs.1 zs h m (omega arith)) (depth + 1) (le_refl (depth + 1))),
  )

  -- The records of an accepted file lead.
  walk_file_leads : Accepts (Leads depth) (walk_file reads depth start s)
  unfolding walk_file
  walk_file_leads =
      accepts_bind (Leads depth) (file s) _
      λ f e. walk_leads f.blocks (file_bounds s f bytes e)

-- If the records of an accepted inner file lead, so does what is found in the block when it is opened.
opened_leads : (depth : ℕ) (o : Outcome (List Record)) → Accepts (Leads depth) o → Leads depth (opened o).records
unfolding opened
opened_leads depth (accepted rs) h = h
opened_leads depth (refused r) h = none_lead depth

-- The records of an accepted file at any depth lead.
pub records_lead : (levels depth start : ℕ) (s : Bytes) → IsBytes s → start + length s ≤ most_bytes → depth + levels ≤ deepest
    → Accepts (Leads depth) (records_from levels depth start s)
unfolding records_from
records_lead zero depth start s bytes room deep = walk_file_leads _ depth start s bytes room (omega arith) (λ n t h k. none_lead (depth + 1))
records_lead (suc levels) depth start s bytes room deep =
    walk_file_leads _ depth start s bytes room (omega arith)
    (λ n t h k. opened_leads (depth + 1) _ (records_lead levels (depth + 1) n t h k (omega arith)))
