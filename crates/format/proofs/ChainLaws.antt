-- The blocks of a chain, with the space between them, are a front part of the bytes. They are the same with another
-- tail after the last of them.
use Rattle.std.proofs.Common.{◌≡◌, ℕ, zero, suc, ◌+◌, ◌≤◌, Bool, true, false, not, ◌&&◌, eqb, leb, List, [], ◌∷◌, ◌++◌, length, take, drop, sym, refl, ap, ◌∙◌, subst, true≢false, append_assoc, append-nil, arith, length-append, length-drop, take-append-drop, length-take-le, drop-drop, take_at, drop_at, leb-true}
use Rattle.std.specs.Prelude.{None, Some}
use lib.Seq.{take-append_seam, drop-append_seam, take-append-le, drop-append-le}
use Rattle.format.specs.declared.block.Block.{Block}
use Rattle.format.specs.declared.refusal.Reason.TheVariants.{TooManyBlocks}
use Rattle.format.specs.Bytes.{Bytes, begins}
use Rattle.format.specs.Outcome.{accepted, refused, refusal}
use Rattle.format.specs.Block.{flags, least_block, is_streamed, block_with, block, sound_block, Sound}
use Rattle.format.specs.Comments.{index_line}
use Rattle.format.specs.Tree.{mark, free_space}
use Rattle.format.specs.Chain.{Chain, extent, is_tail, ended, linked, next_block, tail, linked_at, chain, blocks_end}
use Rattle.format.specs.IndexWriter.{may_have_index}
use Rattle.format.proofs.ReadLaws.{Between}
use Rattle.format.proofs.LocalLaws.{free_space_again}
use Rattle.format.proofs.BlockLaws.{BlockIs, accepted_block, sound_accepted}
use Rattle.format.proofs.InductionLaws.{accepted_chain}
use Rattle.format.proofs.NextLaws.{Next, next_tail, next_mark}

-- A field within the first `least_block` bytes of a block is the same with anything after them.
header_field : (p y z : Bytes) → least_block ≤ length p → (n w : ℕ) → leb (n + w) least_block ≡ true → take w (drop n (p ++ y)) ≡ take w (drop n (p ++ z))
header_field p y z h n w q =
    let inside : n + w ≤ least_block = leb-true _ _ q in
    let before : n ≤ length p = omega arith in
    let room : w ≤ length (drop n p) = simp length-drop (omega arith) in
    rw (drop-append-le n p y, drop-append-le n p z, take-append-le w (drop n p) y, take-append-le w (drop n p) z)

-- If a block is not streamed, it is the same with anything after its allocated space.
block_again_lem : (i n : ℕ) (p y z : Bytes) (b : Block) → length p ≡ extent b → is_streamed b.flags ≡ false
    → block i n (p ++ z) ≡ accepted b → block i n (p ++ y) ≡ accepted b
unfolding sound_block block_with
block_again_lem i n p y z b size plain read =
    let known = accepted_block read in
    let streamed : is_streamed (flags (p ++ z)) ≡ false = rw (← known.same_flags) plain in
    let sizes = known.sound.sizes streamed in
    let extent-is = known.plain streamed in
    let same-fields = header_field p y z (omega (arith, known.header_least)) in
    let sound : Sound (p ++ y) = record {
      least = simp same-fields known.sound.least;
      whole = simp (same-fields, length-append) (omega arith);
      sizes = λ k. record {
        used = simp same-fields sizes.used;
        data_size = simp same-fields sizes.data_size;
        allocated = simp (same-fields, length-append) (omega arith);
      };
    } in
    let same_block : sound_block i n (p ++ y) ≡ sound_block i n (p ++ z) = simp (sound_block, same-fields, streamed) in
    sound_accepted i n (p ++ y) sound ∙ ap accepted (same_block ∙ sym known.is)

-- The blocks of `c`, at most `k`, are a front part of `t` together with the space between them, and the tail of `c` is
-- the rest. If there is a block `b` such that the last of `b` and these blocks is not streamed, they are the same with
-- another tail.
record ChainFront (k i n : ℕ) (t : Bytes) (c : Chain) : Type 0 where
  front : Bytes
  whole : t ≡ front ++ c.tail
  end : blocks_end n c.blocks ≡ n + length front
  few : length c.blocks ≤ k
  marked : may_have_index c.blocks ≡ true → free_space t ≡ 0 → (y : Bytes) → begins mark (front ++ y) ≡ true
  local : (b : Block) → may_have_index (b ∷ c.blocks) ≡ true → (y : Bytes) → is_tail y ≡ true
      → chain k i n (front ++ y) ≡ accepted (record { blocks = c.blocks; tail = y })

-- If no block follows, the outcome of the chain is that of the tail.
pub chain_none : (k i n : ℕ) (t : Bytes) → next_block t ≡ None → chain k i n t ≡ tail n t
unfolding chain
chain_none zero i n t h = rw (h, chain)
chain_none (suc k) i n t h = rw (h, chain)

-- If a block follows and no further block is allowed, the chain is refused at its mark.
pub chain_many : (i n g : ℕ) (t : Bytes) → next_block t ≡ Some g → chain zero i n t ≡ refused (refusal TooManyBlocks (n + g))
unfolding chain
chain_many i n g t h = rw (h, chain)

-- If a block follows and is allowed, the chain continues at its mark.
pub chain_next : (k i n g : ℕ) (t : Bytes) → next_block t ≡ Some g → chain (suc k) i n t ≡ linked_at i (n + g) (drop g t) (chain k (i + 1))
unfolding chain
chain_next k i n g t h = rw (h, chain)

-- A tail is read as a chain of no blocks.
pub no_blocks : (k i n : ℕ) (y : Bytes) → is_tail y ≡ true → chain k i n y ≡ accepted (ended y)
unfolding tail
no_blocks k i n y h = chain_none k i n y (next_tail y h) ∙ rw (tail, h)

-- For a chain of no blocks, the front part is empty and the tail is all of `t`.
tail_front : (k i n : ℕ) (t : Bytes) → ChainFront k i n t (ended t)
unfolding blocks_end may_have_index
tail_front k i n t =
    record { front = []; whole = refl; end = omega arith; few = omega arith; marked = λ h. absurd (true≢false (sym h)); local = λ b h. no_blocks k i n }

-- If a streamed block follows after `g` bytes, the front part is all of `t`.
streamed_front : (k i n g : ℕ) (t : Bytes) (b : Block) → Next t g → block i (n + g) (drop g t) ≡ accepted b → is_streamed b.flags ≡ true
    → ChainFront (suc k) i n t (linked b (ended []))
unfolding blocks_end may_have_index
streamed_front k i n g t b next read s =
    let known = accepted_block read in
    record {
      front = t;
      whole = sym (append-nil t);
      end = omega (arith, known.at, known.streamed (rw (← known.same_flags) s), length-drop g t, next.inside);
      few = omega arith;
      marked = λ q. absurd (true≢false (sym q ∙ ap not s));
      local = λ a q. absurd (true≢false (sym q ∙ ap not s));
    }

-- If `s` is at least as long as `p`, what follows `s` does not matter for whether the bytes begin with `p`.
begins_front : (p s y z : Bytes) → length p ≤ length s → begins p (s ++ y) ≡ begins p (s ++ z)
begins_front [] s y z h = refl
begins_front (a ∷ p) [] y z h = absurd (omega arith)
begins_front (a ∷ p) (b ∷ s) y z h = ap (λ (x : Bool). eqb a b && x) (begins_front p s y z (omega arith))

-- The bytes `q`, in which no mark begins, are followed by the bytes `p` of the block `b`.
module _ (k i n : ℕ) (q p z : Bytes) (b : Block) (size : length p ≡ extent b) (unindexed : begins index_line (q ++ (p ++ z)) ≡ false)
    (free : free_space (q ++ (p ++ z)) ≡ length q) (marked : begins mark (p ++ z) ≡ true)
    (read : block i (n + length q) (p ++ z) ≡ accepted b) (unstreamed : is_streamed b.flags ≡ false) where
  known : BlockIs i (n + length q) (p ++ z) b
  known = accepted_block read

  -- The bytes `p` begin with the mark, whatever follows them.
  marked_again : (u : Bytes) → begins mark (p ++ u) ≡ true
  marked_again u = begins_front mark p u z (omega (arith, known.header_least)) ∙ marked

  -- If the bytes `u` are read as the chain `d`, then `q`, `p` and `u` together are read as the block `b` followed by
  -- `d`.
  linked_again : (u : Bytes) (d : Chain) → chain k (i + 1) (n + length q + extent b) u ≡ accepted d → chain (suc k) i n (q ++ (p ++ u)) ≡ accepted (linked b d)
  unfolding linked_at
  linked_again u d h =
      let gap = free_space_again q (p ++ z) (p ++ u) free (marked_again u) in
      let enough : length index_line ≤ length (q ++ p) = simp length-append (omega (arith, known.header_least)) in
      let index : begins index_line (q ++ (p ++ u)) ≡ false
      = ap (begins index_line) (sym (append_assoc q p u)) ∙ begins_front index_line (q ++ p) u z enough ∙ ap (begins index_line) (append_assoc q p z) ∙ unindexed in
      let same_block = block_again_lem i (n + length q) p u z b size unstreamed read in
      let here : linked_at i (n + length q) (p ++ u) (chain k (i + 1)) ≡ accepted (linked b d)
      = rw (same_block, linked_at, unstreamed, drop_at p u (extent b) size, h) in
      let after : next_block (q ++ (p ++ u)) ≡ Some (length q)
      = next_mark (q ++ (p ++ u)) index (simp length-append (omega (arith, gap, known.header_least))) ∙ ap Some gap in
      chain_next k i n (length q) (q ++ (p ++ u)) after
      ∙ ap (λ (v : Bytes). linked_at i (n + length q) v (chain k (i + 1))) (drop-append_seam q (p ++ u))
      ∙ here

  -- If the blocks of `c` are a front part of `z`, then `b` and the blocks of `c` are a front part of `q`, `p` and `z`
  -- together.
  linked_front : (c : Chain) → ChainFront k (i + 1) (n + length q + extent b) z c → ChainFront (suc k) i n (q ++ (p ++ z)) (linked b c)
  unfolding blocks_end may_have_index
  linked_front c f = record {
    front = q ++ (p ++ f.front);
    whole = ap (λ (x : Bytes). q ++ (p ++ x)) f.whole ∙ sym (grouped c.tail);
    end = ap (λ (x : ℕ). blocks_end (x + extent b) c.blocks) known.at ∙ f.end ∙ simp length-append (omega arith);
    few = omega (arith, f.few);
    marked = λ m e y. no_gap q (sym free ∙ e) y;
    local = λ a m y t. rw (grouped y) (linked_again (f.front ++ y) _ (f.local b m y t));
  }
    where
      grouped : (y : Bytes) → q ++ (p ++ f.front) ++ y ≡ q ++ (p ++ (f.front ++ y))
      grouped y = append_assoc q (p ++ f.front) y ∙ ap (λ (x : Bytes). q ++ x) (append_assoc p f.front y)

      no_gap : (q : Bytes) → length q ≡ 0 → (y : Bytes) → begins mark (q ++ (p ++ f.front) ++ y) ≡ true
      no_gap [] e y = rw (append_assoc p f.front y) (marked_again (f.front ++ y))
      no_gap (a ∷ q) e y = absurd (omega arith)

-- If a block that is not streamed follows after `g` bytes, it is a front part of `t` together with the blocks after it.
plain_front : (k i n g : ℕ) (t : Bytes) (b : Block) (c : Chain) → Next t g → block i (n + g) (drop g t) ≡ accepted b → is_streamed b.flags ≡ false
    → ChainFront k (i + 1) (n + g + extent b) (drop (extent b) (drop g t)) c → ChainFront (suc k) i n t (linked b c)
plain_front k i n g t b c next read e f =
    let u = drop g t in
    let outer : take g t ++ u ≡ t = take-append-drop g t in
    let inner : take (extent b) u ++ drop (extent b) u ≡ u = take-append-drop (extent b) u in
    let gap : length (take g t) ≡ g = length-take-le g t (omega (arith, next.inside)) in
    let size = length-take-le (extent b) u (accepted_block read).inside in
    subst (λ (s : Bytes). ChainFront (suc k) i n s (linked b c)) (ap (λ (v : Bytes). take g t ++ v) inner ∙ outer)
    (linked_front k i n (take g t) (take (extent b) u) (drop (extent b) u) b size
    (rw (inner, outer) next.unindexed) (rw (inner, outer, gap) next.free) (rw inner next.marked)
    (rw (inner, gap) read) e c (rw gap f))

-- If the last of some blocks is not streamed, there is a block that can be put before them so that this remains so.
with_first : (bs : List Block) → may_have_index bs ≡ true → (b : Block) × (may_have_index (b ∷ bs) ≡ true)
unfolding may_have_index
with_first [] h = absurd (true≢false (sym h))
with_first (b ∷ bs) h = (b, h)

module _ (k i n : ℕ) (c : Chain) where
  -- The blocks of an accepted chain are a front part of `t`.
  accepted_front : (t : Bytes) → chain k i n t ≡ accepted c → ChainFront k i n t c
  accepted_front t =
      accepted_chain {P = ChainFront} (record { no_block = λ k i n t h. tail_front k i n t; streamed_block = streamed_front; plain_block = plain_front })

  -- An accepted chain has no more blocks than are allowed.
  pub blocks_few : (t : Bytes) → chain k i n t ≡ accepted c → length c.blocks ≤ k
  blocks_few t e = (accepted_front t e).few

  -- The last block of an accepted chain ends within the bytes.
  pub blocks_bounds : (t : Bytes) → chain k i n t ≡ accepted c → Between n (n + length t) (blocks_end n c.blocks)
  blocks_bounds t e = let f = accepted_front t e in omega (arith, simp length-append at (ap length f.whole))

  -- The tail of an accepted chain begins where its last block ends.
  pub tail_after : (s : Bytes) → chain k i n (drop n s) ≡ accepted c → c.tail ≡ drop (blocks_end n c.blocks) s
  tail_after s e =
      let f = accepted_front (drop n s) e in
      sym (drop-append_seam f.front c.tail) ∙ ap (drop (length f.front)) (sym f.whole) ∙ drop-drop (length f.front) n s
      ∙ ap (λ (m : ℕ). drop m s) (sym f.end)

  module _ (p z : Bytes) (e : chain k i n (p ++ z) ≡ accepted c) (size : blocks_end n c.blocks ≡ n + length p) (h : may_have_index c.blocks ≡ true) where
    -- The blocks, with the space between them, are exactly `p`.
    same_front : (accepted_front (p ++ z) e).front ≡ p
    same_front =
        let f = accepted_front (p ++ z) e in
        let same_length : length f.front ≡ length p = omega (arith, f.end) in
        sym (take_at f.front c.tail (length p) same_length) ∙ ap (take (length p)) (sym f.whole) ∙ take-append_seam p z

    -- If there is no space before the first block, the bytes begin with its mark, whatever follows `p`.
    pub blocks_begin : free_space (p ++ z) ≡ 0 → (y : Bytes) → begins mark (p ++ y) ≡ true
    blocks_begin g y = subst (λ (x : Bytes). begins mark (x ++ y) ≡ true) same_front ((accepted_front (p ++ z) e).marked h g y)

    -- If the last block is not streamed, the blocks are the same with another tail.
    pub chain_again : (y : Bytes) → is_tail y ≡ true → chain k i n (p ++ y) ≡ accepted (record { blocks = c.blocks; tail = y })
    chain_again y q =
        let (b, m) = with_first c.blocks h in
        subst (λ (x : Bytes). chain k i n (x ++ y) ≡ accepted (record { blocks = c.blocks; tail = y })) same_front ((accepted_front (p ++ z) e).local b m y q)
