-- Laws about a file whose offsets are kept: reading a block again where it begins gives the block that was judged.
use Prim.Native.Nat.{ℕ, zero, suc, ◌-◌, ◌≤◌, ◌<◌}
use Rattle.std.specs.Prelude.{None, Some, slice_get}
use native.Mathlib.Omega.{arith}
use mathlib.Core.Path.{◌≡◌, sym, ap, ◌∙◌}
use mathlib.Core.List.{List, [], ◌∷◌}
use lib.ListN.{length, take, drop, get_or, length-take, length-map}
use lib.Seq.{get_or-take, take_at}
use Rattle.format.specs.declared.block.Block.{Block}
use Rattle.format.specs.Bytes.{Bytes}
use Rattle.format.specs.File.{offsets, table_of, block_at}
use Rattle.format.proofs.PartLaws.{part_all, no_element}
use Rattle.format.proofs.BlockLaws.{BlockIs, accepted_block}
use Rattle.format.proofs.FileLaws.{blocks_start}
use Rattle.format.proofs.FileBlockLaws.{element, file_blocks}
use Rattle.blocks.specs.Again.{block_again}
use Rattle.blocks.proofs.AgainLaws.{block_again_lem}
use Rattle.file.specs.Layout.{Kept}
use Rattle.format.specs.Outcome.{accepted}

-- The table of blocks begins with their offsets.
pub table_kept : (k : ℕ) (before out : List ℕ) (bs : List Block) → length bs ≡ k → out ≡ table_of before bs → take k out ≡ offsets bs
table_kept k before out bs n h = rw h (take_at (offsets bs) (drop (length bs) before) k (length-map bs (λ (b : Block). b.at.0) ∙ n))

-- If the first `k` entries of a table are the offsets of `k` blocks, the table has at least `k` entries.
pub enough_kept : (out : List ℕ) (k : ℕ) (bs : List Block) → length bs ≡ k → take k out ≡ offsets bs → k ≤ length out
enough_kept out k bs n h = omega (arith, length-take k out, ap length h, length-map bs (λ (b : Block). b.at.0))

-- If block `b` is at position `k` of a list, the rest of the list from there begins with `b`.
drop_found : (bs : List Block) (k : ℕ) (b : Block) → slice_get bs k ≡ Some b → drop k bs ≡ b ∷ drop (suc k) bs
drop_found [] k b h = cc
drop_found (a ∷ bs) zero b h = let same : a ≡ b = cc in rw same
drop_found (a ∷ bs) (suc k) b h = drop_found bs k b h

-- Block `k` of the blocks `bs` of the file `s`. It begins at offset `n`.
pub record Each (s : Bytes) (bs : List Block) (k n : ℕ) : Type 0 where
  pub b : Block
  pub found : slice_get bs k ≡ Some b
  pub next : drop k bs ≡ b ∷ drop (suc k) bs
  pub inside : n ≤ length s
  pub is : BlockIs k n (drop n s) b

module _ {s : Bytes} {out : List ℕ} {count : ℕ} (kept : Kept s out count) {k : ℕ} where
  -- If the file has no block `k`, the answer is that there is no such block.
  pub kept_none : count ≤ k → accepted None ≡ block_at s k
  unfolding block_at
  kept_none h = rw (block_at, kept.is, no_element kept.f.blocks k (omega (arith, kept.count)))

  module _ (h : k < count) where
    -- If the file has a block `k`, it begins at the offset that the table keeps.
    pub kept_each : Each s kept.f.blocks k (get_or out k 0)
    kept_each =
        let bs = kept.f.blocks in
        let here = element s 0 (blocks_start kept.f) bs (file_blocks s kept.f kept.is) k (omega (arith, kept.count)) k (omega arith) in
        let at : here.b.at.0 ≡ get_or out k 0 = sym here.at ∙ ap (λ (l : List ℕ). get_or l k 0) (sym kept.begin) ∙ get_or-take count out k 0 h in
        record {
          b = here.b;
          found = here.found;
          next = drop_found bs k here.b here.found;
          inside = rw at at here.inside;
          is = accepted_block (rw at at here.read);
        }

    -- It begins inside the file.
    pub kept_inside : get_or out k 0 ≤ length s
    kept_inside = kept_each.inside

    -- The block that is read again there is the block that was asked for.
    pub kept_again : (b : Block) → b ≡ block_again k (get_or out k 0) (take (length s - get_or out k 0) (drop (get_or out k 0) s))
        → (accepted (Some b)) ≡ block_at s k
    unfolding block_at
    kept_again b e =
        let each = kept_each in
        let again = block_again_lem (drop (get_or out k 0) s) each.is.sound k (get_or out k 0) in
        let same : b ≡ each.b = e ∙ rw part_all (again ∙ sym each.is.is) in
        rw (block_at, kept.is, each.found, same)
