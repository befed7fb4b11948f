-- Laws about the walk: one for each call and each return. At every step, delivering what is left delivers all that had
-- to be delivered.
use Prim.Native.Nat.{ℕ, suc, ◌+◌, ◌*◌, ◌-◌, ◌≤◌, ◌<◌}
use native.Mathlib.Nat.{le_refl}
use native.Mathlib.Numerals.{add-one}
use native.Mathlib.Omega.{arith}
use mathlib.Core.Path.{◌≡◌, refl, sym, ap, ◌∙◌}
use mathlib.Core.Bool.{Bool, true, false}
use mathlib.Core.List.{List, [], ◌∷◌, ◌++◌}
use lib.ListN.{length, take, drop, get_or, length-take, length-drop}
use lib.Seq.{drop-drop}
use mir.Syntax.{w8}
use mir.Val.{Fits}
use borrow.Author.Tests.{le-leb}
use Rattle.format.specs.declared.block.Block.{Block}
use Rattle.format.specs.declared.block.Record.{Record}
use Rattle.format.specs.declared.offset.OutermostOffset.{OutermostOffset}
use Rattle.format.specs.Bytes.{Bytes, wrapped}
use Rattle.format.specs.Block.{header_size, flags, compression, used_size, least_block, is_streamed, is_compressed, content_start, bytes_left, block_with, sound_block, Sound}
use Rattle.format.specs.Chain.{most_blocks}
use Rattle.format.specs.File.{most_bytes}
use Rattle.format.specs.Nest.{deepest, content_at, Inside, inside, walked, walk}
use Rattle.format.proofs.ChainLaws.{blocks_few}
use Rattle.format.proofs.FileLaws.{blocks_start, file_parts}
use Rattle.blocks.specs.declared.again.Content.{Content}
use Rattle.file.specs.Layout.{Kept}
use Rattle.blocks.specs.Again.{reported, content_again}
use Rattle.format.proofs.PartLaws.{part_all}
use Rattle.blocks.proofs.AgainLaws.{reported_left, reported_stored, block_again_lem}
use Rattle.file.proofs.KeptLaws.{Each, kept_each}
use Rattle.visit.specs.declared.content.Found.{Found}
use Rattle.visit.specs.declared.sink.Form.{Form}
use Rattle.visit.specs.Content.{reads, inside_of, records_left, file_records, Opens, ContentIs}
use Rattle.visit.specs.Sink.{block_record, Delivered}
use Rattle.visit.proofs.ContentLaws.{nothing_left}
use Rattle.visit.proofs.SinkLaws.{delivered_none, delivered_append, delivered_length}
use Rattle.nest.specs.Walk.{inside_at, record_of, records_at}

-- The number of blocks of an accepted file is within the limit.
pub kept_few : {s : Bytes} {offsets : List ℕ} {blocks : ℕ} → Kept s offsets blocks → blocks ≤ most_blocks
kept_few {s} kept =
    let f = kept.f in
    let few = blocks_few most_blocks 0 (blocks_start f) _ (drop (blocks_start f) s) (file_parts s f kept.is).chain_read in
    omega (arith, kept.count)

-- The measure decreases from a file to the content of one of its blocks, and from the content to the blocks in it (the
-- next law).
pub less_inside : (depth blocks k t : ℕ) → 66 * (deepest - depth) + blocks ≡ t → k < blocks → 66 * (deepest - depth) < t
less_inside depth blocks k t e h = omega arith

pub less_opened : {c : Bytes} {offsets : List ℕ} {depth blocks t n : ℕ} {compressed : Bool} → 66 * (deepest - depth) ≡ t
    → Opens depth compressed c offsets blocks → n ≡ blocks → 66 * (deepest - (depth + 1)) + n < t
less_opened e opens same = omega (arith, opens.higher, kept_few opens.kept)

-- A sound block has the header size and the compression name of its header.
module _ (i n : ℕ) (t : Bytes) where
  by_streamed : {A : Type 0} (field : Block → A) (x : A) → ((a u d : ℕ) → field (block_with i n t a u d) ≡ x) → field (sound_block i n t) ≡ x
  unfolding sound_block
  by_streamed field x h = go (is_streamed (flags t)) refl
    where
      go : (y : Bool) → is_streamed (flags t) ≡ y → field (sound_block i n t) ≡ x
      go true k = rw (sound_block, k) (h _ _ _)
      go false k = rw (sound_block, k) (h _ _ _)

  sound_header : (sound_block i n t).header_size ≡ header_size t
  unfolding block_with
  sound_header = by_streamed (λ (b : Block). b.header_size) (header_size t) (λ a u d. refl)

  sound_compression : (sound_block i n t).compression ≡ compression t
  unfolding block_with
  sound_compression = by_streamed (λ (b : Block). b.compression) (compression t) (λ a u d. refl)

same_offset : (x y : OutermostOffset) → x.0 ≡ y.0 → x ≡ y
same_offset x y h = ap (λ (m : ℕ). record { 0 = m }) h

-- The state of a walk: `k` blocks of a file are walked, and the next record has number `n`. Delivering the records that
-- are left delivers all records of the file.
pub record Walking (depth start : ℕ) (s : Bytes) (blocks : ℕ) (form : Form) (number : ℕ) (before out : Bytes) (k n : ℕ) : Type 0 where
  pub few : k ≤ blocks
  pub size : length out ≡ length before
  pub onward : (after : Bytes) (x : ℕ) → Delivered form n out (records_left depth start s k) after x
      → Delivered form number before (file_records depth start s) after x

pub walking_start : (depth start : ℕ) (s : Bytes) (blocks : ℕ) (form : Form) (number : ℕ) (before : Bytes)
    → Walking depth start s blocks form number before before 0 number
walking_start depth start s blocks form number before = record { few = omega arith; size = refl; onward = λ after x h. h }

module _ {depth start : ℕ} {s : Bytes} {form : Form} {number : ℕ} {before out : Bytes} {k n : ℕ} {offsets : List ℕ}
    (w : Walking depth start s (length offsets) form number before out k n) (kept : Kept s offsets (length offsets)) where
  -- If no block is left, all records of the file are delivered.
  pub walking_done : length offsets ≤ k → Delivered form number before (file_records depth start s) out n
  walking_done h = w.onward out n (rw (nothing_left kept depth start k h) (delivered_none form n out))

  module _ (h : k < length offsets) where
    each : Each s kept.f.blocks k (get_or offsets k 0)
    each = kept_each kept h

    -- The next block begins inside the file.
    pub walking_inside : get_or offsets k 0 ≤ length s
    walking_inside = each.inside

    -- The next block is sound.
    pub walking_sound : Sound (take (length s - get_or offsets k 0) (drop (get_or offsets k 0) s))
    walking_sound = rw part_all each.is.sound

    pub walking_ordinal : Fits w8 k
    walking_ordinal = omega (arith, kept_few kept)

    module _ (room : start + length s ≤ most_bytes) (here : OutermostOffset) (here-is : here.0 ≡ wrapped start (get_or offsets k 0)) where
      here_at : here.0 ≡ start + get_or offsets k 0
      here_at = omega (arith, each.inside)

      -- The rest of the file from the next block on is within the size limit of the outermost file.
      pub walking_room : here.0 + length (take (length s - get_or offsets k 0) (drop (get_or offsets k 0) s)) ≤ most_bytes
      walking_room = rw (part_all, length-drop) (omega (arith, here_at, each.inside))

      -- What is inside the block is the same whether it is read from the block's bytes or from the file's bytes.
      inside_same : inside_at depth here each.b (drop (get_or offsets k 0) s) ≡ inside (reads depth) start s each.b
      unfolding inside_of inside
      inside_same =
          let t = drop (get_or offsets k 0) s in
          let b = each.b in
          let header = ap (λ (x : Block). x.header_size) each.is.is ∙ sound_header k (get_or offsets k 0) t in
          let place : here.0 + content_start t ≡ start + content_at b = omega (arith, here_at, each.is.at, header) in
          let at : get_or offsets k 0 + content_start t ≡ content_at b = omega (arith, each.is.at, header) in
          let part : drop (content_start t) t ≡ drop (content_at b) s = drop-drop (content_start t) (get_or offsets k 0) s ∙ ap (λ (m : ℕ). drop m s) at in
          let z = is_compressed b.compression in
          ap (λ (m : ℕ). inside_of depth m z (take b.used (drop (content_start t) t))) place
          ∙ ap (λ (u : Bytes). inside_of depth (start + content_at b) z (take b.used u)) part

      -- The block's records in the walk of the file are the records that are read from the block's bytes.
      first_records : walked depth start each.b (inside (reads depth) start s each.b)
          ≡ records_at depth here k (get_or offsets k 0) (drop (get_or offsets k 0) s)
      unfolding walked
      first_records =
          let t = drop (get_or offsets k 0) s in
          let place : start + each.b.at.0 ≡ here.0 = omega (arith, here_at, each.is.at) in
          let own : (b : Block) → b ≡ sound_block k (get_or offsets k 0) t
          → (record_of depth here b (inside_at depth here b t).state ∷ (inside_at depth here b t).records) ≡ records_at depth here k (get_or offsets k 0) t
          = λ b e. rw e in
          rw (← inside_same, same_offset (record { 0 = start + each.b.at.0 }) here place) (own each.b each.is.is)

      -- The records that are left begin with the records of the next block.
      next_records : records_left depth start s k ≡ records_at depth here k (get_or offsets k 0) (drop (get_or offsets k 0) s) ++ records_left depth start s (suc k)
      unfolding records_left walk
      next_records =
          let others : List Record = walk (reads depth) depth start s (drop (suc k) kept.f.blocks) in
          rw (records_left, kept.is, each.next) (ap (λ (l : List Record). l ++ others) first_records)

      pub walking_next : (mid : ℕ) (between : Bytes)
          → Delivered form n out (records_at depth here k (get_or offsets k 0) (take (length s - get_or offsets k 0) (drop (get_or offsets k 0) s))) between mid
          → Walking depth start s (length offsets) form number before between (k + 1) mid
      walking_next mid between h' = record {
        few = omega arith;
        size = delivered_length h' ∙ w.size;
        onward = λ after x g. w.onward after x (rw next_records (delivered_append (rw part_all at h') (rw add-one at g)));
      }

-- `c` describes the content of the sound block that `t` begins with.
pub record ContentLies (t : Bytes) (c : Content) : Type 0 where
  pub from : c.from ≡ content_start t
  pub order : c.from ≤ c.to
  pub inside : c.to ≤ length t
  pub used : (i n : ℕ) → c.to - c.from ≡ (sound_block i n t).used
  pub compressed : (i n : ℕ) → c.compressed ≡ is_compressed (sound_block i n t).compression

pub content_lies : (t : Bytes) → Sound t → (c : Content) → c ≡ content_again t → ContentLies t c
unfolding content_again sound_block block_with
content_lies t sound c e = rw is (record {
  from = refl;
  order = omega arith;
  inside = omega (arith, sound.whole, fits (is_streamed (flags t)) refl);
  used = λ i n. omega (arith, used_is i n (is_streamed (flags t)) refl);
  compressed = λ i n. ap is_compressed (sym (sound_compression i n t));
})
  where
    fits : (y : Bool) → is_streamed (flags t) ≡ y → reported t (used_size t) ≤ bytes_left t
    fits true k = rw (reported_left t (used_size t) k) (le_refl (bytes_left t))
    fits false k = let sizes = sound.sizes k in rw (reported_stored t (used_size t) k) (omega (arith, sizes.used, sizes.allocated))

    used_is : (i n : ℕ) (y : Bool) → is_streamed (flags t) ≡ y → reported t (used_size t) ≡ (sound_block i n t).used
    used_is i n true k = rw (reported_left t (used_size t) k, sound_block, k)
    used_is i n false k = rw (reported_stored t (used_size t) k, sound_block, k)

    is : c ≡ record { from = content_start t; to = content_start t + reported t (used_size t); compressed = is_compressed (compression t) }
    is =
        e
        ∙ rw (
          content_again,
          le-leb least_block (length t) (omega (arith, sound.least, sound.whole)),
          le-leb (content_start t) (length t) sound.whole,
          le-leb (reported t (used_size t)) (bytes_left t) (fits (is_streamed (flags t)) refl),
        )

module _ {t : Bytes} (sound : Sound t) {c : Content} (is : c ≡ content_again t) where
  -- The content of a sound block is a part of its bytes.
  pub content_order : c.from ≤ c.to
  content_order = (content_lies t sound c is).order

  pub content_inside : c.to ≤ length t
  content_inside = (content_lies t sound c is).inside

  module _ {depth : ℕ} {before offsets : List ℕ} {found : Found} (found_is : ContentIs depth c.compressed (take (c.to - c.from) (drop c.from t)) before offsets found) where
    -- If blocks were found in the content, it is an accepted file and is opened.
    pub found_opens : (found.blocks ≡ 0 → ⊥) → Opens depth c.compressed (take (c.to - c.from) (drop c.from t)) offsets found.blocks
    found_opens h = found_is.some h

    pub deeper_fits : (found.blocks ≡ 0 → ⊥) → Fits w8 (depth + 1)
    deeper_fits h = omega (arith, (found_opens h).higher)

    module _ (i n : ℕ) (here : OutermostOffset) where
      -- What was found about the content is what is inside the block.
      inside_is : inside_of depth (here.0 + content_start t) c.compressed (take (c.to - c.from) (drop c.from t)) ≡ inside_at depth here (sound_block i n t) t
      inside_is = let lies = content_lies t sound c is in rw (lies.compressed i n, lies.used i n, lies.from)

      state_is : (inside_at depth here (sound_block i n t) t).state ≡ found.inner
      state_is = ap (λ (x : Inside). x.state) (sym inside_is) ∙ found_is.state (here.0 + content_start t)

      -- If nothing inside must be walked, the block's own record is the only one.
      pub content_alone : found.blocks ≡ 0 → {form : Form} {k x : ℕ} {out after : Bytes}
          → Delivered form k out (block_record depth here i n t found.inner ∷ []) after x → Delivered form k out (records_at depth here i n t) after x
      content_alone h d =
          let none = ap (λ (x : Inside). x.records) (sym inside_is) ∙ found_is.none h (here.0 + content_start t) in
          rw (state_is, none, ← block_again_lem t sound i n) d

      module _ (h : found.blocks ≡ 0 → ⊥) where
        module _ (room : here.0 + length t ≤ most_bytes) (content : OutermostOffset) (content-is : content.0 ≡ wrapped here.0 c.from) where
          content_at_lem : content.0 ≡ here.0 + content_start t
          content_at_lem = let lies = content_lies t sound c is in omega (arith, lies.from, lies.order, lies.inside)

          -- The content is within the size limit of the outermost file.
          pub content_room : content.0 + length (take (c.to - c.from) (drop c.from t)) ≤ most_bytes
          content_room =
              let lies = content_lies t sound c is in
              simp (length-take, length-drop) (omega (arith, content_at_lem, lies.from, lies.order, lies.inside))

          -- Delivering the block's own record and then the records inside delivers all records of the block.
          pub content_walked : {form : Form} {k mid x : ℕ} {out between after : Bytes}
              → Delivered form k out (block_record depth here i n t found.inner ∷ []) between mid
              → Delivered form mid between (file_records (depth + 1) content.0 (take (c.to - c.from) (drop c.from t))) after x
              → Delivered form k out (records_at depth here i n t) after x
          content_walked d e =
              let all = ap (λ (x : Inside). x.records) (sym inside_is) ∙ (found_opens h).records (here.0 + content_start t) in
              rw (state_is, all, ← block_again_lem t sound i n) (delivered_append d (rw content_at_lem at e))
