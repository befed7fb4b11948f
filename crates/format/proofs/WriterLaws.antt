-- The index that is written for a file is good when it is put after the file's last block. An index is good exactly if
-- it lists the blocks' offsets.
use Rattle.std.specs.Prelude.{Some, None, Option}
use Rattle.std.proofs.Common.{◌≡◌, ℕ, zero, suc, ◌+◌, ◌^◌, ◌<◌, ◌≤◌, true, List, [], ◌∷◌, ◌++◌, length, get_or, take, drop, sym, refl, ap, ◌∙◌, true≢false, arith, length-drop, take-append-drop, length-take-le, le-leb, leb-true}
use lib.ListN.{length-map}
use lib.Seq.{drop-append-le}
use Rattle.format.specs.declared.refusal.Reason.TheVariants.{NoIndexPossible}
use Rattle.format.specs.declared.layout.Tree.{Tree}
use Rattle.format.specs.declared.layout.Verdict.{Verdict}
use Rattle.format.specs.declared.layout.Verdict.TheVariants.{Good}
use Rattle.format.specs.declared.line.LineEnd.{LineEnd}
use Rattle.format.specs.declared.block.Block.{Block}
use Rattle.format.specs.Bytes.{Bytes, IsBytes, begins}
use Rattle.format.specs.Outcome.{accepted}
use Rattle.format.specs.Tree.{mark}
use Rattle.format.specs.Chain.{most_blocks, is_tail, blocks_end}
use Rattle.format.specs.Index.{verdict, rendering, index_text, IsIndex}
use Rattle.format.specs.File.{most_bytes, File, first_block, goes_on, offsets, file}
use Rattle.format.specs.IndexWriter.{may_have_index, index_for, most_index, tail_start, judged_as, GoodAfter}
use Rattle.format.proofs.OutcomeLaws.{accepted_holds, accepts_bind, accepts_need}
use Rattle.format.proofs.FileBlockLaws.{FileBlock, AllBlocks, file_bounds}
use Rattle.format.proofs.IndexLaws.{good_is_index, index_is_good, text_is_index, text_at_most}
use Rattle.format.proofs.LocalLaws.{header_again, comments_kept, tree_kept, goes_on_no_comment, start_free}
use Rattle.format.proofs.ChainLaws.{blocks_begin, blocks_few, chain_again}
use Rattle.format.proofs.FileLaws.{blocks_start, Parts, file_parts, parts_file, in_order, file_tail}

-- If a block begins where the first block has to begin, the file may go on after its comments.
goes_on_marked : (n : ℕ) (p y : Bytes) (t : Option Tree) → n ≤ length p → begins mark (drop (first_block n t) p ++ y) ≡ true → goes_on t (drop n (p ++ y)) ≡ true
unfolding goes_on first_block
goes_on_marked n p y (Some x) inside h = refl
goes_on_marked n p y None inside h = rw drop-append-le (marked (drop n p ++ y) h)
  where
    marked : (u : Bytes) → begins mark u ≡ true → goes_on None u ≡ true
    marked [] q = refl
    marked (b ∷ u) q = q

-- `p` ends where the last block of a file ends. With another tail after `p`, the parts of the file are the same except
-- for the verdict.
parts_again : (p z y : Bytes) (f : File) → Parts (p ++ z) f → tail_start f ≡ length p → may_have_index f.blocks ≡ true → is_tail y ≡ true
    → length (p ++ y) ≤ most_bytes → Parts (p ++ y) (judged_as (verdict (offsets f.blocks) y) f)
parts_again p z y f h size m t short =
    let order = in_order (p ++ z) f h in
    let start = blocks_start f in
    let first : f.header.end.0 ≤ length p = omega arith in
    let second : f.comments_end ≤ length p = omega arith in
    let third : start ≤ length p = omega arith in
    let chain_read = rw (drop-append-le start p z third) at h.chain_read in
    let blocks_end : blocks_end start f.blocks ≡ start + length (drop start p) = simp length-drop (omega arith) in
    let blocks = chain_again most_blocks 0 start _ (drop start p) z chain_read blocks_end m y t in
    let free = rw (drop-append-le start p z third) at (start_free f.comments_end (p ++ z) f.tree h.tree_read h.goes_on) in
    let marked = blocks_begin most_blocks 0 start _ (drop start p) z chain_read blocks_end m free y in
    let tree_read = tree_kept f.comments_end p z y second f.tree h.tree_read third marked in
    let goes-on = goes_on_marked f.comments_end p y f.tree second marked in
    let no-comment = goes_on_no_comment f.comments_end (p ++ y) f.tree tree_read goes-on in
    record {
      short = le-leb _ _ short;
      header_read = header_again p z y f.header h.header_read first;
      comments_read = comments_kept f.header.end.0 p z y first f.comments_end h.comments_read second no-comment;
      tree_read = tree_read;
      goes_on = goes-on;
      tail = y;
      chain_read = rw (drop-append-le start p y third) blocks;
      judged = refl;
    }

-- If the last block of an accepted file is not streamed, the file is the same with another tail after that block,
-- except for the verdict.
pub file_again : (s : Bytes) (f : File) → file s ≡ accepted f → may_have_index f.blocks ≡ true → (y : Bytes) → is_tail y ≡ true
    → length (take (tail_start f) s ++ y) ≤ most_bytes → file (take (tail_start f) s ++ y) ≡ accepted (judged_as (verdict (offsets f.blocks) y) f)
file_again s f e m y t short =
    let parts = file_parts s f e in
    let p = take (tail_start f) s in
    let size : tail_start f ≡ length p = sym (length-take-le (tail_start f) s (in_order s f parts).tail_start) in
    parts_file (p ++ y) _ (parts_again p (drop (tail_start f) s) y f (rw take-append-drop parts) size m t short)

-- If blocks end within a file, no offset of theirs is after the end of the file.
offsets_below : (size : ℕ) (bs : List Block) → AllBlocks (FileBlock size) bs → (i : ℕ) → get_or (offsets bs) i 0 ≤ size
offsets_below size [] h i = omega arith
offsets_below size (b ∷ bs) h zero = omega (arith, h.0.end)
offsets_below size (b ∷ bs) h (suc i) = offsets_below size bs h.1 i

-- The offsets of an accepted file's blocks fit into 32 bits.
offsets_small : (s : Bytes) (f : File) → IsBytes s → file s ≡ accepted f → (i : ℕ) → get_or (offsets f.blocks) i 0 < 2 ^ 32
offsets_small s f bytes e i =
    omega (
      arith,
      leb-true (length s) most_bytes (file_parts s f e).short,
      offsets_below (length s) f.blocks (file_bounds s f bytes e) i,
    )

-- The offsets of an accepted file's blocks have at most ten digits.
offsets_digits : (s : Bytes) (f : File) → IsBytes s → file s ≡ accepted f → (i : ℕ) → get_or (offsets f.blocks) i 0 < 10 ^ 10
offsets_digits s f bytes e i = omega (arith, offsets_small s f bytes e i)

-- An accepted file has at most `most_blocks` offsets.
offsets_few : (s : Bytes) (f : File) → file s ≡ accepted f → length (offsets f.blocks) ≤ most_blocks
offsets_few s f e =
    omega (
      arith,
      length-map f.blocks (λ (b : Block). b.at.0),
      blocks_few most_blocks 0 (blocks_start f) _ (drop (blocks_start f) s) (file_parts s f e).chain_read,
    )

-- If a file may have an index, it has an offset.
some_offset : (bs : List Block) → may_have_index bs ≡ true → 1 ≤ length (offsets bs)
unfolding may_have_index
some_offset [] h = absurd (true≢false (sym h))
some_offset (b ∷ bs) h = omega arith

-- The index that is written is a tail.
text_is_tail : (e : LineEnd) (ns : List ℕ) → is_tail (index_text e ns) ≡ true
unfolding index_text rendering
text_is_tail e ns = refl

-- The index that is written for what is found in a file.
abbrev text_of : File → Bytes
text_of f = index_text f.header.line_end (offsets f.blocks)

-- The file, cut after its last block and followed by the index that is written for it, is accepted with the same parts,
-- and its index is good.
pub indexed_again : (s : Bytes) (f : File) → IsBytes s → file s ≡ accepted f → may_have_index f.blocks ≡ true
    → length (take (tail_start f) s ++ text_of f) ≤ most_bytes → file (take (tail_start f) s ++ text_of f) ≡ accepted (judged_as Good f)
indexed_again s f bytes e m short =
    let k = f.header.line_end in
    let ns = offsets f.blocks in
    file_again s f e m (index_text k ns) (text_is_tail k ns) short
    ∙ ap (λ (v : Verdict). accepted (judged_as v f)) (index_is_good ns (index_text k ns) (offsets_digits s f bytes e) (text_is_index k ns (some_offset f.blocks m)))

-- If `P` holds for the index of every accepted file that may have one, it holds for what the writer gives.
written_holds : (s : Bytes) (P : Bytes → Type 0)
    → ((f : File) → file s ≡ accepted f → may_have_index f.blocks ≡ true → P (text_of f))
    → (t : Bytes) → index_for s ≡ accepted t → P t
unfolding index_for
written_holds s P h t =
    accepted_holds P (index_for s) t (accepts_bind P (file s) _ λ f e. accepts_need P (may_have_index f.blocks) NoIndexPossible 0 _ λ m. h f e m)

module _ (s : Bytes) (bytes : IsBytes s) where
  -- The index that is written is a good index of the file.
  pub index_good : (t : Bytes) → index_for s ≡ accepted t → GoodAfter s t
  index_good = written_holds s (GoodAfter s) λ f e m. record { found = f; is = e; good = indexed_again s f bytes e m }

  -- The index that is written has at most `most_index` bytes.
  pub index_short : (t : Bytes) → index_for s ≡ accepted t → length t ≤ most_index
  index_short =
      written_holds s (λ t. length t ≤ most_index) λ f e m.
      text_at_most f.header.line_end (offsets f.blocks) (some_offset f.blocks m) (offsets_few s f e) (offsets_small s f bytes e)

-- The verdict on a file's index is good exactly if what follows the last block is an index of the blocks' offsets.
pub record GoodExactly (s : Bytes) (f : File) : Type 0 where
  pub lists : f.verdict ≡ Good → IsIndex (offsets f.blocks) (drop (tail_start f) s)
  pub good : IsIndex (offsets f.blocks) (drop (tail_start f) s) → f.verdict ≡ Good

-- `GoodExactly` holds for every accepted file.
pub good_exactly : (s : Bytes) (f : File) → IsBytes s → file s ≡ accepted f → GoodExactly s f
good_exactly s f bytes e =
    let parts = file_parts s f e in
    let ns = offsets f.blocks in
    let judged : verdict ns (drop (tail_start f) s) ≡ f.verdict = ap (verdict ns) (sym (file_tail s f parts)) ∙ parts.judged in
    record {
      lists = λ h. good_is_index ns (drop (tail_start f) s) (judged ∙ h);
      good = λ h. sym judged ∙ index_is_good ns (drop (tail_start f) s) (offsets_digits s f bytes e) h;
    }
