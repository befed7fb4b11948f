-- Laws about the index that is written: one for each return.
use Prim.Native.Nat.{ℕ, zero, suc, ◌-◌, ◌≤◌, ◌<◌}
use native.Mathlib.Omega.{arith}
use mathlib.Core.Path.{◌≡◌, refl, sym, ap, ◌∙◌}
use mathlib.Core.Bool.{Bool, true, false, not}
use mathlib.Core.List.{List, [], ◌∷◌}
use Rattle.std.specs.Prelude.{None, Some, slice_get}
use lib.ListN.{length, take, drop, get_or}
use lib.Seq.{take-length}
use borrow.Author.Tests.{le-leb}
use mir.Syntax.{w8}
use mir.Val.{Fits}
use Rattle.format.specs.declared.layout.Layout.{Layout}
use Rattle.format.specs.declared.line.LineEnd.{LineEnd}
use Rattle.format.specs.declared.block.Block.{Block}
use Rattle.format.specs.declared.refusal.Reason.TheVariants.{NoIndexPossible}
use Rattle.format.specs.Bytes.{Bytes, IsBytes}
use Rattle.format.specs.Outcome.{Refusal, Outcome, accepted, refused, refusal}
use Rattle.format.specs.Block.{is_streamed}
use Rattle.format.specs.Chain.{most_blocks}
use Rattle.format.specs.Index.{index_text}
use Rattle.format.specs.File.{layout_of, layout}
use Rattle.format.specs.IndexWriter.{may_have_index, index_for}
use Rattle.format.proofs.ChainLaws.{blocks_few}
use Rattle.format.proofs.FileLaws.{blocks_start, file_parts}
use Rattle.format.proofs.WriterLaws.{index_good, index_short}
use Rattle.format.proofs.PartLaws.{part_all}
use Rattle.blocks.specs.Again.{streamed_again}
use Rattle.blocks.proofs.AgainLaws.{sound_streamed}
use Rattle.file.specs.Open.{file_offsets}
use Rattle.file.specs.Opened.{EndsAs}
use Rattle.file.specs.Layout.{Kept}
use Rattle.file.proofs.KeptLaws.{Each, kept_each}
use Rattle.file.proofs.LayoutLaws.{file_refused, open_is_kept}
use Rattle.format.specs.Promise.{Written, IndexWritten}
use Rattle.put.proofs.WrittenLaws.{written_refused, Taken, written_taken}
use Rattle.index.specs.Text.{offsets_index}

-- The last block decides whether there may be an index: there may, unless it is streamed.
last_decides : (bs : List Block) (j : ℕ) (b : Block) → length bs ≡ suc j → slice_get bs j ≡ Some b → may_have_index bs ≡ not (is_streamed b.flags)
unfolding may_have_index
last_decides [] j b n h = absurd (omega arith)
last_decides (a ∷ []) zero b n h = let same : a ≡ b = cc in rw same
last_decides (a ∷ []) (suc j) b n h = absurd (omega arith)
last_decides (a ∷ c ∷ bs) zero b n h = absurd (omega arith)
last_decides (a ∷ c ∷ bs) (suc j) b n h = last_decides (c ∷ bs) j b (omega arith) h

-- An element that is found is at that position, and one that is not found is after the end.
found_at : (l : List ℕ) (i n : ℕ) → Some n ≡ slice_get l i → (i < length l) × (n ≡ get_or l i 0)
found_at [] i n h = cc
found_at (x ∷ l) zero n h = let same : n ≡ x = cc in (omega arith, same)
found_at (x ∷ l) (suc i) n h = let (less, same) = found_at l i n h in (omega arith, same)

not_found : (l : List ℕ) (i : ℕ) → None ≡ slice_get l i → length l ≤ i
not_found [] i h = omega arith
not_found (x ∷ l) zero h = cc
not_found (x ∷ l) (suc i) h = let less = not_found l i h in omega arith

module _ (s : Bytes) (out : List ℕ) (is_open : file_offsets s ≡ accepted out) where
  -- What is kept of an open file.
  h : Kept s out (length out)
  h = open_is_kept s out is_open

  -- If the blocks may have an index, it lists the offsets that are kept; otherwise the index is refused with 22.
  index_is : (b : Bool) → may_have_index h.f.blocks ≡ b
      → index_for s ≡ elim b [ true ↦ accepted (index_text h.f.header.line_end out) | false ↦ refused (refusal NoIndexPossible 0) ]
  unfolding index_for
  index_is true e = rw (index_for, h.is, e, ← h.begin, take-length)
  index_is false e = rw (index_for, h.is, e)

  -- The file's header ends as that of the layout that is reported.
  same_ending : (l : Layout) → layout s ≡ accepted l → h.f.header ≡ l.header
  unfolding layout layout_of
  same_ending l told = cc (rw (h.is, layout) at told)

  -- If the file has no block, the index is refused with 22.
  pub no_block : None ≡ slice_get out (length out - 1) → (before : Bytes) (x : Outcome ℕ) → x ≡ refused (refusal NoIndexPossible 0) → Written (index_for s) before before x
  unfolding may_have_index
  no_block p before = written_refused (index_for s) before (refusal NoIndexPossible 0) (index_is false (none_may h.f.blocks (omega (arith, h.count, not_found out (length out - 1) p))))
    where
      none_may : (bs : List Block) → length bs ≡ 0 → may_have_index bs ≡ false
      none_may [] q = refl
      none_may (b ∷ bs) q = absurd (omega arith)

  -- There are no more blocks than a file may have, so the index of their offsets is accepted.
  part_index : (k : LineEnd) → offsets_index k out ≡ accepted (index_text k out)
  unfolding offsets_index
  part_index k =
      let few = blocks_few most_blocks 0 (blocks_start h.f) _ (drop (blocks_start h.f) s) (file_parts s h.f h.is).chain_read in
      rw (offsets_index, le-leb (length out) most_blocks (omega (arith, h.count)))

  module _ (n : ℕ) (last : Some n ≡ slice_get out (length out - 1)) where
    there : length out - 1 < length out
    there = (found_at out (length out - 1) n last).0

    -- The table keeps where the last block begins.
    last_each : Each s h.f.blocks (length out - 1) n
    last_each = rw (found_at out (length out - 1) n last).1 (kept_each h there)

    -- The last block begins inside the file.
    pub last_inside : n ≤ length s
    last_inside = last_each.inside

    module _ (x : Bool) (read : x ≡ streamed_again (take (length s - n) (drop n s))) where
      -- The last block's header, read again, tells whether there may be an index.
      last_may : (t : Bool) → not x ≡ t → may_have_index h.f.blocks ≡ t
      last_may t q =
          let told : x ≡ is_streamed last_each.b.flags
          = rw (read, part_all) (sound_streamed _ last_each.is.sound) ∙ ap is_streamed (sym last_each.is.same_flags) in
          last_decides h.f.blocks (length out - 1) last_each.b (omega (arith, h.count, there)) last_each.found ∙ ap not (sym told) ∙ q

      -- If the last block is streamed, the index is refused with 22.
      pub last_streamed : x ≡ true → (before : Bytes) (y : Outcome ℕ) → y ≡ refused (refusal NoIndexPossible 0) → Written (index_for s) before before y
      last_streamed q before = written_refused (index_for s) before (refusal NoIndexPossible 0) (index_is false (last_may false (rw q)))

      -- If the last block is not streamed, writing the index of the kept offsets is writing the index of the file.
      pub last_plain : x ≡ false → (k : LineEnd) → EndsAs s k → (before after : Bytes) (y : Outcome ℕ) → Written (offsets_index k out) before after y
          → Written (index_for s) before after y
      last_plain q k ends before after y w =
          rw (index_is true (last_may true (rw q)), same_ending ends.l ends.read, ← ends.is) (rw (part_index k) at w)

-- What is written is a good index, and it is short enough.
module _ (s : Bytes) (known : (i : ℕ) → Fits w8 (get_or s i 0)) where
  pub index_written : (out after : Bytes) (r : Outcome ℕ) → Written (index_for s) out after r → IndexWritten s out after r
  index_written out after r w = record {
    written = w;
    good = λ n e. index_good s bytes (take n after) (taken n e).is;
    short = λ n e. omega (arith, (taken n e).size, index_short s bytes (take n after) (taken n e).is);
  }
    where
      bytes : IsBytes s
      bytes i = (known i).fits

      taken : (n : ℕ) → r ≡ accepted n → Taken (index_for s) after n
      taken n e = written_taken (index_for s) out after n (rw e at w)

  -- If the file is refused, its refusal is the answer, and nothing is written.
  pub index_refused : (r : Refusal) → layout s ≡ refused r → (out : Bytes) → IndexWritten s out out (refused r)
  unfolding index_for
  index_refused r e out =
      index_written out out (refused r) (written_refused (index_for s) out r (rw (file_refused s (layout s) refl r e, index_for)) (refused r) refl)

  -- The same for the bytes of an open file.
  pub index_open : (t : Bytes) → t ≡ s → (out after : Bytes) (x : Outcome ℕ) → Written (index_for t) out after x → IndexWritten s out after x
  index_open t same out after x w = index_written out after x (rw same at w)
