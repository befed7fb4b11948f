-- The records of all blocks depend only on the blocks of the file and on the bytes from the first block on.
use Rattle.std.proofs.Common.{◌≡◌, ℕ, ◌+◌, ◌-◌, ◌≤◌, true, false, List, [], ◌∷◌, take, drop, sym, refl, ap, ◌∙◌, subst, arith, drop-drop}
use Rattle.format.specs.declared.block.Block.{Block}
use Rattle.format.specs.declared.block.Inner.TheVariants.{Plain}
use Rattle.format.specs.Bytes.{Bytes}
use Rattle.format.specs.Outcome.{accepted}
use Rattle.format.specs.File.{File, file}
use Rattle.format.specs.Nest.{content_at, content_of, is_file, Inside, closed, inside, walk, walk_file, records_from, records}
use Rattle.format.specs.Outline.{rows, outline}
use Rattle.format.proofs.FileBlockLaws.{AllBlocks, From}

module _ (m : ℕ) (u s : Bytes) (rest : drop m u ≡ drop m s) where
  -- The bytes from any offset at or after `m` are the same in both files.
  drop_again : (n : ℕ) → m ≤ n → drop n u ≡ drop n s
  drop_again n h =
      let e : m + (n - m) ≡ n = omega arith in
      subst (λ (k : ℕ). drop k u ≡ drop k s) e (sym (drop-drop (n - m) m u) ∙ ap (drop (n - m)) rest ∙ drop-drop (n - m) m s)

  -- The content of a block that begins at `m` or after it is the same in both files.
  pub content_again_lem : (b : Block) → m ≤ b.at.0 → content_of b u ≡ content_of b s
  content_again_lem b h = ap (take b.used) (drop_again (content_at b) (omega arith))

  -- What is inside such a block is the same.
  inside_again : (reads : ℕ → Bytes → Inside) (start : ℕ) (b : Block) → m ≤ b.at.0 → inside reads start u b ≡ inside reads start s b
  unfolding inside
  inside_again reads start b h =
      ap (λ (t : Bytes). elim (is_file b t) [ true ↦ reads (start + content_at b) t | false ↦ closed Plain ]) (content_again_lem b h)

  -- The records of such blocks are the same.
  pub walk_again : (reads : ℕ → Bytes → Inside) (depth start : ℕ) (bs : List Block) → AllBlocks (From m) bs → walk reads depth start u bs ≡ walk reads depth start s bs
  unfolding walk
  walk_again reads depth start [] h = refl
  walk_again reads depth start (b ∷ bs) h = rw (inside_again reads start b h.0, walk_again reads depth start bs h.1)

-- If two files have the same blocks, and the same bytes from the first block on, they have the same records and the
-- same outline.
module _ (u s : Bytes) (g f : File) (read-u : file u ≡ accepted g) (read-s : file s ≡ accepted f) (blocks : g.blocks ≡ f.blocks)
    (m : ℕ) (after : AllBlocks (From m) f.blocks) (rest : drop m u ≡ drop m s) where
  pub records_again : records u ≡ records s
  unfolding records records_from walk_file
  records_again = rw (read-u, read-s, blocks, walk_again m u s rest _ 0 0 f.blocks after)

  pub outline_again : outline u ≡ outline s
  unfolding outline rows
  outline_again = rw records_again
