-- The blocks of an accepted file. Each is read where it begins, they are in the file one after another, and their
-- numbers keep their bounds.
use Rattle.std.proofs.Common.{◌≡◌, ℕ, zero, suc, ◌+◌, ◌<◌, ◌≤◌, List, [], ◌∷◌, length, get_or, drop, sym, refl, ap, ◌∙◌, subst, arith, length-drop, drop-drop}
use Rattle.std.specs.Prelude.{Some, slice_get}
use Rattle.format.specs.declared.block.Block.{Block}
use Rattle.format.specs.Bytes.{Bytes, IsBytes}
use Rattle.format.specs.Outcome.{accepted}
use Rattle.format.specs.Block.{least_header, least_block, block}
use Rattle.format.specs.Chain.{Chain, most_blocks, extent, linked}
use Rattle.format.specs.File.{File, offsets, file}
use Rattle.format.proofs.PackLaws.{is_bytes_drop}
use Rattle.format.proofs.BlockLaws.{BlockIs, accepted_block}
use Rattle.format.proofs.InductionLaws.{accepted_chain}
use Rattle.format.proofs.FileLaws.{blocks_start, file_parts, in_order}

-- `b` is read as block `i` of the file `s` where it begins, at offset `n` or after it.
pub record IsBlock (s : Bytes) (i n : ℕ) (b : Block) : Type 0 where
  pub read : block i b.at.0 (drop b.at.0 s) ≡ accepted b
  pub after : n ≤ b.at.0
  pub few : i < most_blocks

-- `IsBlock` holds for all blocks of a list. The first is block `i` at offset `n` or after it, and each other block
-- begins at the end of the block before it or after that end.
abbrev pub AreBlocks : Bytes → ℕ → ℕ → List Block → Type 0
AreBlocks s i n [] = Unit {0}
AreBlocks s i n (b ∷ bs) = IsBlock s i n b × AreBlocks s (i + 1) (b.at.0 + extent b) bs

-- `AreBlocks` holds for the blocks of the chain `c`, which is read from offset `n` of a file, if at most `most_blocks`
-- blocks are allowed in all.
abbrev ChainBlocks : ℕ → ℕ → ℕ → Bytes → Chain → Type 0
ChainBlocks k i n t c = (s : Bytes) → t ≡ drop n s → i + k ≤ most_blocks → AreBlocks s i n c.blocks

-- A block that is read after `g` bytes is also read where it begins.
found_block : (k i n g : ℕ) (t : Bytes) (b : Block) → block i (n + g) (drop g t) ≡ accepted b → (s : Bytes) → t ≡ drop n s → i + suc k ≤ most_blocks
    → IsBlock s i n b
found_block k i n g t b read s e few =
    let at = (accepted_block read).at in
    let there : drop g t ≡ drop (n + g) s = ap (drop g) e ∙ drop-drop g n s in
    record { read = ap (λ (m : ℕ). block i m (drop m s)) at ∙ ap (block i (n + g)) (sym there) ∙ read; after = omega (arith, at); few = omega arith }

-- If `ChainBlocks` holds for the chain after a block, it holds for the chain that begins with the block.
linked_blocks : (k i n g : ℕ) (t : Bytes) (b : Block) (c : Chain) → block i (n + g) (drop g t) ≡ accepted b
    → ChainBlocks k (i + 1) (n + g + extent b) (drop (extent b) (drop g t)) c → ChainBlocks (suc k) i n t (linked b c)
linked_blocks k i n g t b c read others s e few =
    let there : drop (extent b) (drop g t) ≡ drop (n + g + extent b) s
    = ap (λ (u : Bytes). drop (extent b) (drop g u)) e ∙ ap (drop (extent b)) (drop-drop g n s) ∙ drop-drop (extent b) (n + g) s in
    (found_block k i n g t b read s e few, subst (λ (m : ℕ). AreBlocks s (i + 1) (m + extent b) c.blocks) (sym (accepted_block read).at) (others s there (omega arith)))

-- `AreBlocks` holds for the blocks of an accepted file.
pub file_blocks : (s : Bytes) (f : File) → file s ≡ accepted f → AreBlocks s 0 (blocks_start f) f.blocks
file_blocks s f e =
    accepted_chain {P = ChainBlocks} (record {
      no_block = λ k i n t h s e few. tt;
      streamed_block = λ k i n g t b next read h s e few. (found_block k i n g t b read s e few, tt);
      plain_block = λ k i n g t b c next read h. linked_blocks k i n g t b c read;
    }) (file_parts s f e).chain_read s refl (omega arith)

module _ {s : Bytes} {i n : ℕ} {b : Block} (h : IsBlock s i n b) where
  block_known : BlockIs i b.at.0 (drop b.at.0 s) b
  block_known = accepted_block h.read

  -- The block ends within the file.
  block_end : b.at.0 + extent b ≤ length s
  block_end = omega (arith, block_known.inside, block_known.header_least, length-drop b.at.0 s)

-- Element `j` of these blocks is block `k` of the file `s`.
pub record BlockAt (s : Bytes) (bs : List Block) (j k : ℕ) : Type 0 where
  pub b : Block
  pub found : slice_get bs j ≡ Some b
  pub at : get_or (offsets bs) j 0 ≡ b.at.0
  pub read : block k b.at.0 (drop b.at.0 s) ≡ accepted b
  pub inside : b.at.0 ≤ length s

-- If the first of these blocks is block `i` of the file, element `j` is block `i + j`.
pub element : (s : Bytes) (i n : ℕ) (bs : List Block) → AreBlocks s i n bs → (j : ℕ) → j < length bs → (k : ℕ) → k ≡ i + j → BlockAt s bs j k
element s i n [] h j p k e = absurd (omega arith)
element s i n (b ∷ bs) h zero p k e =
    let first : k ≡ i = omega arith in
    record { b = b; found = refl; at = refl; read = rw first h.0.read; inside = omega (arith, block_end h.0) }
element s i n (b ∷ bs) h (suc j) p k e =
    let rest = element s (i + 1) (b.at.0 + extent b) bs h.1 j (omega arith) k (omega arith) in
    record { b = rest.b; found = rest.found; at = rest.at; read = rest.read; inside = rest.inside }

-- `P` holds for every block of a list.
abbrev pub AllBlocks : (Block → Type 0) → List Block → Type 0
AllBlocks P [] = Unit {0}
AllBlocks P (b ∷ bs) = P b × AllBlocks P bs

-- If `P` follows for each block separately, it holds for all blocks of a file.
all_blocks : (P : Block → Type 0) (s : Bytes) (m : ℕ) → ((i n : ℕ) (b : Block) → m ≤ n → IsBlock s i n b → P b)
    → (i n : ℕ) (bs : List Block) → m ≤ n → AreBlocks s i n bs → AllBlocks P bs
all_blocks P s m each i n [] l h = tt
all_blocks P s m each i n (b ∷ bs) l h =
    (each i n b l h.0, all_blocks P s m each (i + 1) (b.at.0 + extent b) bs (omega (arith, h.0.after)) h.1)

-- A block that ends within a file of this size and whose numbers keep their bounds.
pub record FileBlock (size : ℕ) (b : Block) : Type 0 where
  pub ordinal : b.ordinal < most_blocks
  pub header_least : least_header ≤ b.header_size
  pub header_most : b.header_size < 65536
  pub used : b.used ≤ b.allocated
  pub end : b.at.0 + extent b ≤ size

-- Every block of an accepted file ends within it, and its numbers keep their bounds.
pub file_bounds : (s : Bytes) (f : File) → IsBytes s → file s ≡ accepted f → AllBlocks (FileBlock (length s)) f.blocks
file_bounds s f bytes e = all_blocks (FileBlock (length s)) s 0 bounds 0 (blocks_start f) f.blocks (omega arith) (file_blocks s f e)
  where
    bounds : (i n : ℕ) (b : Block) → 0 ≤ n → IsBlock s i n b → FileBlock (length s) b
    bounds i n b l h =
        let known = block_known h in
        record {
          ordinal = omega (arith, known.ordinal, h.few);
          header_least = known.header_least;
          header_most = known.header_most (is_bytes_drop b.at.0 s bytes);
          used = known.used;
          end = block_end h;
        }

-- The block begins at offset `m` or after it.
abbrev pub From : ℕ → Block → Type 0
From m b = m ≤ b.at.0

-- Every block of an accepted file begins at `blocks_start` or after it.
pub file_from : (s : Bytes) (f : File) → file s ≡ accepted f → AllBlocks (From (blocks_start f)) f.blocks
file_from s f e =
    let m = blocks_start f in
    all_blocks (From m) s m (λ i n b l h. omega (arith, h.after)) 0 m f.blocks (omega arith) (file_blocks s f e)

-- How many bytes these blocks take at least, for their headers and contents.
abbrev pub taken : List Block → ℕ
taken [] = 0
taken (b ∷ bs) = least_block + b.used + taken bs

-- Blocks from offset `n` on take no more bytes than the file has from there on.
blocks_lie : (s : Bytes) (i n : ℕ) (bs : List Block) → n ≤ length s → AreBlocks s i n bs → n + taken bs ≤ length s
blocks_lie s i n [] l h = omega arith
blocks_lie s i n (b ∷ bs) l h =
    let known = block_known h.0 in
    omega (arith, h.0.after, known.header_least, known.used, blocks_lie s (i + 1) (b.at.0 + extent b) bs (block_end h.0) h.1)

-- The blocks of an accepted file take no more bytes than it has.
pub file_lies : (s : Bytes) (f : File) → file s ≡ accepted f → taken f.blocks ≤ length s
file_lies s f e =
    let order = in_order s f (file_parts s f e) in
    omega (arith, blocks_lie s 0 (blocks_start f) f.blocks (omega (arith, order.blocks_start, order.tail_start)) (file_blocks s f e))
