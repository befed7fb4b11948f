-- Laws about the chain of blocks: one for each return of a link and of the walk. At every step the blocks walked so
-- far, followed by the chain from there on, are the whole chain.
use Prim.Native.Nat.{ℕ, suc, ◌+◌, ◌-◌, ◌^◌, ◌≤◌, ◌<◌}
use native.Mathlib.Numerals.{add-one}
use native.Mathlib.Omega.{arith}
use mathlib.Core.Path.{◌≡◌, refl, sym, ap, subst, ◌∙◌}
use mathlib.Core.Bool.{Bool, true, false}
use mathlib.Core.List.{List, [], ◌∷◌, ◌++◌, append-nil, map-append}
use lib.ListN.{length, take, drop, get_or, set, replicate, drop_of_length-le, length-set, length-append, length-drop, length-map}
use lib.Seq.{set_at, append_snoc, drop-drop, drop-cons}
use mir.Syntax.{w64}
use mir.Val.{Fits}
use Rattle.format.specs.declared.block.Block.{Block}
use Rattle.std.specs.Prelude.{Result, Ok, Err, is_err}
use Rattle.format.specs.declared.refusal.Reason.{Reason}
use Rattle.format.specs.declared.refusal.Reason.TheVariants.{TooManyBlocks, StrayTail}
use Rattle.format.specs.Bytes.{Bytes, begins, all_zero}
use Rattle.format.specs.Outcome.{Refusal, Outcome, accepted, refused, refusal, ◌>>=◌}
use Rattle.format.specs.Comments.{index_line}
use Rattle.format.specs.Tree.{mark, free_space}
use Rattle.format.specs.Block.{flags, allocated_size, is_streamed, content_start, block, sound_block}
use Rattle.format.specs.Chain.{Chain, most_blocks, ended, linked, tail, linked_at, chain}
use Rattle.format.specs.File.{offsets, table_of}
use Rattle.format.proofs.ByteLaws.{begins_true}
use Rattle.format.proofs.NextLaws.{next_index, next_none, next_mark, next_here}
use Rattle.format.proofs.BlockLaws.{BlockIs, accepted_block, sound_accepted}
use Rattle.format.proofs.ChainLaws.{chain_none, chain_many, chain_next, no_blocks}
use Rattle.mark.specs.Mark.{MarkFound}
use Rattle.blocks.specs.declared.step.Link.{Link}
use Rattle.blocks.specs.declared.step.Link.TheVariants as Link·is
use Rattle.blocks.specs.declared.step.ChainFound.{ChainFound}
use Rattle.format.proofs.PartLaws.{part_all}
use Rattle.blocks.specs.Block.{Checked, sound_link}
use Rattle.blocks.proofs.BlockLaws.{block_sound}
use Rattle.blocks.specs.Chain.{onward, TailBegins, Follows, NextMark, BlockBegins, LinkIs, Chained, WalkedAlone, WalkedTo, WalkedInside, Walked}

module _ (s : Bytes) (n : ℕ) where
  -- If a mark is at offset `n`, the next block begins there.
  pub next_at_once : (y : Bool) → y ≡ begins mark (drop n s) → y ≡ true → NextMark s n n
  next_at_once y mark-is h = record {
    some_block = λ l.
        record { gap = 0; next = next_here (drop n s) (sym mark-is ∙ h) (simp length-drop (omega arith)); at = omega arith; inside = omega arith };
    no_block = λ l. next_none (drop n s) (simp length-drop (omega arith));
  }

  module _ (x : Bool) (index_is : x ≡ begins index_line (drop n s)) where
    -- If the bytes at offset `n` begin like an index, no block follows.
    pub next_at_index : x ≡ true → NextMark s n (length s)
    next_at_index h = record { some_block = λ l. absurd (omega arith); no_block = λ l. next_index (drop n s) (sym index_is ∙ h) }

    -- If the bytes at offset `n` do not begin like an index, the next block begins at the first mark from `n` on, if
    -- there is one.
    pub next_found : x ≡ false → (m : ℕ) → MarkFound s n m → n ≤ length s → NextMark s n m
    next_found h m found l = record {
      some_block = λ p. record {
        gap = free_space (drop n s);
        next = next_mark (drop n s) (sym index_is ∙ h) (simp length-drop (omega (arith, found.is)));
        at = found.is;
        inside = omega arith;
      };
      no_block = λ p. next_none (drop n s) (simp length-drop (omega (arith, found.is)));
    }

-- Bytes that begin like an index are not only zeros.
index_other : (t : Bytes) → begins index_line t ≡ true → all_zero t ≡ false
index_other t h = ap all_zero (begins_true index_line t h)

module _ (s : Bytes) (i n m : ℕ) (next : NextMark s n m) where
  -- If the next mark `m` is inside the file, a block follows there.
  pub link_follows : m < length s → Follows s n m
  link_follows h = next.some_block h

  module _ (none : length s ≤ m) where
    -- If there is no next mark, the tail begins at `n`.
    onward_tail : onward s i n ≡ tail n (drop n s)
    onward_tail = chain_none (most_blocks - i) i n (drop n s) (next.no_block none)

    module _ (x : Bool) (index_is : x ≡ begins index_line (drop n s)) where
      -- If the bytes at `n` begin like an index, the tail begins there and is not only zeros.
      pub link_index : x ≡ true → TailBegins s i n false
      unfolding tail
      link_index h =
          let index = sym index_is ∙ h in
          record { is = onward_tail ∙ rw (tail, index_other (drop n s) index, index); tail = index_other (drop n s) index }

      module _ (z : Bool) (zeros-is : z ≡ all_zero (take (length s - n) (drop n s))) where
        -- `z` is whether the bytes from `n` on are only zeros.
        zeros_on : all_zero (drop n s) ≡ z
        zeros_on = sym (zeros-is ∙ ap all_zero (part_all s n))

        -- If nothing is left at `n`, or only zeros, the tail begins there and is only zeros.
        pub link_zeros : z ≡ true → TailBegins s i n true
        unfolding tail
        link_zeros h = record { is = onward_tail ∙ rw (tail, zeros_on ∙ h); tail = zeros_on ∙ h }

        -- If anything else is at `n`, the chain is refused there with 17.
        pub link_other : (r : Refusal) → r ≡ refusal StrayTail n → x ≡ false → z ≡ false → onward s i n ≡ refused r
        unfolding tail
        link_other r e h k = onward_tail ∙ rw (tail, zeros_on ∙ k, sym index_is ∙ h, e)

module _ (s : Bytes) (i n m : ℕ) (here : Follows s n m) where
  -- If no further block is allowed, the chain is refused with 16 at the mark `m`.
  pub mark_many : (r : Refusal) → r ≡ refusal TooManyBlocks m → most_blocks ≤ i → onward s i n ≡ refused r
  mark_many r e h =
      let none : most_blocks - i ≡ 0 = omega arith in
      rw (none, e, here.at) (chain_many i n here.gap (drop n s) here.next)

  module _ (few : i < most_blocks) where
    -- If a further block is allowed, the chain goes on with the block at the mark `m`.
    onward_linked : onward s i n ≡ linked_at i m (drop m s) (chain (most_blocks - (i + 1)) (i + 1))
    onward_linked =
        let one_more : most_blocks - i ≡ suc (most_blocks - (i + 1)) = omega arith in
        ap (λ (k : ℕ). chain k i n (drop n s)) one_more
        ∙ chain_next (most_blocks - (i + 1)) i n here.gap (drop n s) here.next
        ∙ ap (λ (t : Bytes). linked_at i (n + here.gap) t (chain (most_blocks - (i + 1)) (i + 1))) (drop-drop here.gap n s)
        ∙ ap (λ (j : ℕ). linked_at i j (drop j s) (chain (most_blocks - (i + 1)) (i + 1))) (sym here.at)

    -- If the check of the block fails, the chain is refused for that reason at the mark `m`.
    pub mark_refused : (a : Result (Unit {0}) Reason) (x : Reason) (r : Refusal) → Checked (take (length s - m) (drop m s)) a → a ≡ Err x → r ≡ refusal x m
        → onward s i n ≡ refused r
    unfolding linked_at
    mark_refused a x r checked h e =
        let fails : (i n : ℕ) → block i n (take (length s - m) (drop m s)) ≡ refused (refusal x n) = rw h at checked in
        let block_is : block i m (drop m s) ≡ refused r = ap (block i m) (sym (part_all s m)) ∙ fails i m ∙ ap refused (sym e) in
        onward_linked ∙ rw (block_is, linked_at)

    -- If the check passes, the chain goes on where the block leads.
    pub mark_block : (a : Result (Unit {0}) Reason) (u : Unit {0}) (r : Link) → Checked (take (length s - m) (drop m s)) a → a ≡ Ok u
        → r ≡ sound_link (take (length s - m) (drop m s)) → LinkIs s i n m (accepted r)
    unfolding linked_at sound_link
    mark_block a u r checked z h = subst (λ (x : Link). LinkIs s i n m (accepted x)) (sym (h ∙ ap sound_link (part_all s m))) (go (is_streamed (flags (drop m s))) refl)
      where
        read : block i m (drop m s) ≡ accepted (sound_block i m (drop m s))
        read = sound_accepted i m (drop m s) (rw (part_all s m) at (block_sound _ a u checked z))

        known : BlockIs i m (drop m s) (sound_block i m (drop m s))
        known = accepted_block read

        go : (y : Bool) → is_streamed (flags (drop m s)) ≡ y
            → LinkIs s i n m (accepted (elim y [ true ↦ Link·is.Streamed | false ↦ Link·is.Block (content_start (drop m s) + allocated_size (drop m s)) ]))
        go true k =
            record { first = sound_block i m (drop m s); is = onward_linked ∙ rw (read, linked_at, known.same_flags, k); at = known.at; few = few }
        go false k =
            let size = known.plain k in (
              record {
                first = sound_block i m (drop m s);
                is = onward_linked ∙ rw (read, linked_at, known.same_flags, k, size, drop-drop (content_start (drop m s) + allocated_size (drop m s)) m s);
                at = known.at;
                few = few;
              },
              omega (arith, known.inside, size, length-drop m s, here.inside),
            )

-- The chain `o` with the blocks `bs` put before it.
abbrev in_front : List Block → Outcome Chain → Outcome Chain
in_front bs o = ◌>>=◌ o (λ c. accepted (record { blocks = bs ++ c.blocks; tail = c.tail }))

-- If no blocks are put before a chain, it stays the same.
in_front_none : (o : Outcome Chain) → o ≡ in_front [] o
in_front_none (accepted c) = refl
in_front_none (refused r) = refl

-- A block may be the first of the chain or the last of the blocks put before it: the result is the same.
in_front_next : (bs : List Block) (b : Block) (o : Outcome Chain) → in_front bs (◌>>=◌ o (λ c. accepted (linked b c))) ≡ in_front (bs ++ (b ∷ [])) o
in_front_next bs b (accepted c) = rw (append_snoc bs b c.blocks)
in_front_next bs b (refused r) = refl

-- The state of a walk from offset `first` on: `i` blocks are walked, the front of the table `out` holds where they
-- begin, and `o` is the chain after them.
pub record Walking (s : Bytes) (before out : List ℕ) (first i : ℕ) (o : Outcome Chain) : Type 0 where
  pub blocks : List Block
  pub is : onward s 0 first ≡ in_front blocks o
  pub count : length blocks ≡ i
  pub few : i ≤ most_blocks
  pub kept : out ≡ table_of before blocks
  pub room : length before ≡ most_blocks
  pub size : length out ≡ length before

-- At the start no block is walked.
pub walk_begins : (s : Bytes) (before : List ℕ) (first : ℕ) → length before ≡ most_blocks → Walking s before before first 0 (onward s 0 first)
walk_begins s before first room =
    record { blocks = []; is = in_front_none (onward s 0 first); count = refl; few = omega arith; kept = refl; room = room; size = refl }

-- Putting where `b` begins after the offsets of the blocks `bs` gives the table of `bs` and `b`.
table_next : (before : List ℕ) (bs : List Block) (b : Block) → length bs < length before
    → set (table_of before bs) (length bs) b.at.0 ≡ table_of before (bs ++ (b ∷ []))
table_next before bs b h =
    let size : length (offsets bs) ≡ length bs = length-map bs (λ (a : Block). a.at.0) in
    ap (λ (l : List ℕ). set (offsets bs ++ l) (length bs) b.at.0) (drop-cons before (length bs) 0 h)
    ∙ (set_at (offsets bs) (get_or before (length bs) 0) (drop (suc (length bs)) before) b.at.0 (length bs) size
    ∙ rw (length-append, add-one, map-append, append_snoc))

-- If no block follows the walked blocks, they are all blocks of the chain.
walk_ends : (s : Bytes) (before out : List ℕ) (first i : ℕ) (o : Outcome Chain) (w : Walking s before out first i o) (t : Bytes) → o ≡ accepted (ended t)
    → Chained (onward s 0 first) before out i (record { blocks = w.blocks; tail = t })
walk_ends s before out first i o w t e = record {
  is = w.is ∙ ap (in_front w.blocks) e ∙ rw (append-nil w.blocks);
  count = w.count;
  few = w.few;
  kept = w.kept;
}

module _ (s : Bytes) (i n m : ℕ) (r : Outcome Link) (link : LinkIs s i n m r) where
  -- If the link is a streamed block, it begins at the mark `m`.
  streamed_here : r ≡ accepted Link·is.Streamed → BlockBegins s i n m (accepted (ended []))
  streamed_here h = rw h at link

  -- If the link is a streamed block, it is within the limit on blocks.
  pub streamed_few : r ≡ accepted Link·is.Streamed → i < most_blocks
  streamed_few h = (streamed_here h).few

  module _ (e : ℕ) (h : r ≡ accepted (Link·is.Block e)) where
    -- A block that is not streamed begins at the mark `m`; its allocated space ends `e` bytes after that.
    block_here : LinkIs s i n m (accepted (Link·is.Block e))
    block_here = rw h at link

    -- It is within the limit on blocks.
    pub block_few : i < most_blocks
    block_few = block_here.0.few

    -- Fewer blocks are allowed after it, so the measure decreases.
    pub block_less : most_blocks - (i + 1) < most_blocks - i
    block_less = omega (arith, block_few)

    -- It ends inside the file.
    pub block_inside : m + e ≤ length s
    block_inside = block_here.1

    -- The offset of its end fits into 64 bits.
    pub block_fits : length s < 2 ^ 64 → Fits w64 (m + e)
    block_fits q = omega (arith, block_inside)

module _ (s : Bytes) (before out : List ℕ) (first i n m : ℕ) (w : Walking s before out first i (onward s i n)) (r : Outcome Link) (link : LinkIs s i n m r) where
  -- If the chain is refused here, the whole chain has the same refusal.
  pub walk_refused : (x : Refusal) → r ≡ refused x → onward s 0 first ≡ refused x
  walk_refused x h = w.is ∙ ap (in_front w.blocks) (rw h at link)

  -- If only zeros follow the walked blocks, the chain ends without an index.
  pub walk_zeros : r ≡ accepted Link·is.Zeros → WalkedAlone (onward s 0 first) before out i
  walk_zeros h =
      let t : TailBegins s i n true = rw h at link in
      record { c = _; chained = walk_ends s before out first i _ w (drop n s) t.is; zeros = t.tail }

  -- If the bytes after the walked blocks begin like an index, the chain ends there, at offset `n`.
  pub walk_index : r ≡ accepted Link·is.Index → n ≤ length s → WalkedTo s (onward s 0 first) before out i n
  walk_index h inside =
      let t : TailBegins s i n false = rw h at link in
      record { c = _; chained = walk_ends s before out first i _ w (drop n s) t.is; zeros = t.tail; tail = refl; inside = inside }

  module _ (out' : List ℕ) (keep : out' ≡ set out i m) where
    -- If a block follows and the table keeps where it begins, one more block is walked.
    walk_next : (o : Outcome Chain) → BlockBegins s i n m o → Walking s before out' first (i + 1) o
    walk_next o b = record {
      blocks = w.blocks ++ (b.first ∷ []);
      is = w.is ∙ ap (in_front w.blocks) b.is ∙ in_front_next w.blocks b.first o;
      count = rw (length-append, w.count);
      few = omega (arith, b.few);
      kept = rw (keep, w.kept, ← w.count, ← b.at) (table_next before w.blocks b.first (omega (arith, w.count, w.room, b.few)));
      room = w.room;
      size = rw (keep, length-set) w.size;
    }

    -- A streamed block is the last of the chain.
    pub walk_streamed : r ≡ accepted Link·is.Streamed → WalkedAlone (onward s 0 first) before out' (i + 1)
    walk_streamed h =
        let next = walk_next (accepted (ended [])) (streamed_here s i n m r link h) in
        record { c = _; chained = walk_ends s before out' first (i + 1) _ next [] refl; zeros = refl }

    -- After any other block the chain goes on.
    pub walk_block : (e : ℕ) → r ≡ accepted (Link·is.Block e) → Walking s before out' first (i + 1) (onward s (i + 1) (m + e))
    walk_block e h = walk_next (onward s (i + 1) (m + e)) (block_here s i n m r link e h).0

-- If the walk begins after the end of the file, there are no blocks.
pub walk_outside : (s : Bytes) (before : List ℕ) (first : ℕ) → length s < first → WalkedAlone (onward s 0 first) before before 0
walk_outside s before first h = record {
  c = ended [];
  chained = record { is = rw (drop_of_length-le s {i = first} (omega arith)) (no_blocks most_blocks 0 first [] refl); count = refl; few = omega arith; kept = refl };
  zeros = refl;
}

module _ (s : Bytes) (o : Outcome Chain) (before out : List ℕ) (x : Outcome ChainFound) (is : WalkedInside s o before out x) where
  -- If the chain is accepted, the answer of `walk_inside` is passed on.
  pub told_walked : is_err x ≡ false → Walked s o before out x
  told_walked h = go x is h
    where
      go : (y : Outcome ChainFound) → WalkedInside s o before out y → is_err y ≡ false → Walked s o before out y
      go (accepted w) k e = k
      go (refused r) k e = cc

  -- If the chain is refused, the table keeps only zeros.
  pub told_refused : is_err x ≡ true → Walked s o before (replicate most_blocks 0) x
  told_refused h = go x is h
    where
      go : (y : Outcome ChainFound) → WalkedInside s o before out y → is_err y ≡ true → Walked s o before (replicate most_blocks 0) y
      go (accepted w) k e = cc
      go (refused r) k e = record { is = k; none_kept = refl }
