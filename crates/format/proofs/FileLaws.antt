-- A file is accepted exactly if its parts are read one after another, and they are in the file in this order.
use Rattle.std.proofs.Common.{◌≡◌, ℕ, ◌≤◌, true, leb, length, drop, refl, arith, length-drop}
use Rattle.format.specs.declared.refusal.Reason.TheVariants.{FileTooLong, NeitherTreeNorBlock}
use Rattle.format.specs.Bytes.{Bytes}
use Rattle.format.specs.Outcome.{accepted}
use Rattle.format.specs.Line.{lines}
use Rattle.format.specs.Header.{header}
use Rattle.format.specs.Comments.{comments}
use Rattle.format.specs.Tree.{tree}
use Rattle.format.specs.Chain.{most_blocks, chain}
use Rattle.format.specs.Index.{verdict}
use Rattle.format.specs.File.{most_bytes, File, first_block, goes_on, offsets, body, file}
use Rattle.format.specs.IndexWriter.{tail_start}
use Rattle.format.proofs.OutcomeLaws.{accepted_holds, accepts_bind, accepts_need}
use Rattle.format.proofs.ReadLaws.{header_bounds, comments_bounds, first_block_bounds}
use Rattle.format.proofs.ChainLaws.{blocks_bounds, tail_after}

-- Where the first block of a file begins, or its tail if there is no block.
abbrev pub blocks_start : File → ℕ
blocks_start f = first_block f.comments_end f.tree

-- The parts that are read from the file `s`, which is accepted as `f`.
pub record Parts (s : Bytes) (f : File) : Type 0 where
  pub short : leb (length s) most_bytes ≡ true
  pub header_read : header s ≡ accepted f.header
  pub comments_read : comments f.header.end.0 (lines (drop f.header.end.0 s)) ≡ accepted f.comments_end
  pub tree_read : tree f.comments_end s ≡ accepted f.tree
  pub goes_on : goes_on f.tree (drop f.comments_end s) ≡ true
  pub tail : Bytes
  pub chain_read : chain most_blocks 0 (blocks_start f) (drop (blocks_start f) s) ≡ accepted (record { blocks = f.blocks; tail = tail })
  pub judged : verdict (offsets f.blocks) tail ≡ f.verdict

-- If a file is accepted, its parts are read.
pub file_parts : (s : Bytes) (f : File) → file s ≡ accepted f → Parts s f
unfolding file body
file_parts s f =
    accepted_holds (Parts s) (file s) f
    (accepts_need _ (leb (length s) most_bytes) FileTooLong 0 _
    λ short. accepts_bind _ (header s) _
    λ h header_read. accepts_bind _ (comments h.end.0 (lines (drop h.end.0 s))) _
    λ n comments_read. accepts_bind _ (tree n s) _
    λ t tree_read. accepts_need _ (goes_on t (drop n s)) NeitherTreeNorBlock n _
    λ goes-on. accepts_bind _ (chain most_blocks 0 (first_block n t) (drop (first_block n t) s)) _
    λ c chain_read. record {
      short = short;
      header_read = header_read;
      comments_read = comments_read;
      tree_read = tree_read;
      goes_on = goes-on;
      tail = c.tail;
      chain_read = chain_read;
      judged = refl;
    })

-- If the parts of a file are read, it is accepted.
pub parts_file : (s : Bytes) (f : File) → Parts s f → file s ≡ accepted f
unfolding file body
parts_file s f h = rw (h.short, h.header_read, h.comments_read, h.tree_read, h.goes_on, h.chain_read, h.judged)

-- The parts of a file end one after another, and within the file.
pub record InOrder (s : Bytes) (f : File) : Type 0 where
  pub header_end : f.header.end.0 ≤ f.comments_end
  pub comments_end : f.comments_end ≤ blocks_start f
  pub blocks_start : blocks_start f ≤ tail_start f
  pub tail_start : tail_start f ≤ length s

module _ (s : Bytes) (f : File) (h : Parts s f) where
  -- The parts of an accepted file are in order.
  pub in_order : InOrder s f
  in_order =
      let one = header_bounds s f.header h.header_read in
      let two = simp length-drop at (comments_bounds f.header.end.0 (drop f.header.end.0 s) f.comments_end h.comments_read) in
      let three = first_block_bounds f.comments_end s f.tree (omega arith) h.tree_read in
      let four = simp length-drop at (blocks_bounds most_blocks 0 (blocks_start f) _ (drop (blocks_start f) s) h.chain_read) in
      omega arith

  -- The tail is what follows the last block.
  pub file_tail : h.tail ≡ drop (tail_start f) s
  file_tail = tail_after most_blocks 0 (blocks_start f) _ s h.chain_read
