-- Laws about the layout of a file: one for each return of its steps.
use Prim.Native.Nat.{ℕ, ◌-◌, ◌≤◌, ◌<◌}
use Rattle.std.specs.Prelude.{Option, None, Some, is_some, is_err}
use native.Mathlib.Omega.{arith}
use mathlib.Core.Path.{◌≡◌, refl, sym, ap, ◌∙◌}
use mathlib.Core.List.{List}
use mathlib.Core.Bool.{Bool, true, false, not, true≢false}
use lib.ListN.{length, take, drop, replicate, drop_of_length-le, length-map}
use lib.Seq.{drop-cons, take-length}
use borrow.Author.Tests.{le-leb, lt-leb, not-true, not-false}
use Rattle.format.specs.declared.layout.Header.{Header}
use Rattle.format.specs.declared.layout.Tree.{Tree}
use Rattle.format.specs.declared.layout.Layout.{Layout}
use Rattle.format.specs.declared.layout.Verdict.{Verdict}
use Rattle.format.specs.declared.layout.Verdict.TheVariants.{Absent}
use Rattle.format.specs.declared.refusal.Reason.TheVariants.{FileTooLong, NeitherTreeNorBlock}
use Rattle.format.specs.Bytes.{Bytes, begins}
use Rattle.format.specs.Outcome.{Refusal, Outcome, accepted, refused, refusal, ◌>>=◌}
use Rattle.format.specs.Line.{lines}
use Rattle.format.specs.Header.{header}
use Rattle.format.specs.Comments.{comments}
use Rattle.format.specs.Tree.{tree, mark}
use Rattle.format.specs.Chain.{Chain, most_blocks, chain}
use Rattle.format.specs.Index.{indexed, judged, verdict}
use Rattle.format.specs.File.{File, most_bytes, first_block, goes_on, offsets, table_of, body, file, offset_table, layout_of, layout, block_at}
use Rattle.format.proofs.ChainLaws.{blocks_few}
use Rattle.format.proofs.FileLaws.{blocks_start, file_parts}
use Rattle.blocks.specs.declared.step.ChainFound.{ChainFound}
use Rattle.blocks.specs.Chain.{Chained, WalkedAlone, WalkedTo, WalkRefused, WalkedAs, Walked}
use Rattle.format.specs.declared.block.Block.{Block}
use Rattle.file.specs.Open.{file_offsets}
use Rattle.file.specs.Layout.{file_with, layout_with, chain_verdict, TailInside, ChainInside, FrontRead, Judged, Kept}
use Rattle.format.proofs.PartLaws.{part_all}
use Rattle.file.proofs.KeptLaws.{table_kept, enough_kept}

-- If the outcome is a refusal, that refusal is the right answer.
refused_judged : (o : Outcome File) (before out : List ℕ) (r : Refusal) → o ≡ refused r → (y : Outcome Layout) → y ≡ refused r → Judged o before out y
refused_judged o before out r h y e = record { is = rw (h, e); kept = λ f q. cc }

-- If the outcome is an accepted file and `out` is the table of its blocks, the file's layout is the right answer.
accepted_judged : (o : Outcome File) (before out : List ℕ) (l : Layout) (f : File) → o ≡ accepted f → l ≡ layout_of f → out ≡ table_of before f.blocks
    → Judged o before out (accepted l)
accepted_judged o before out l f h e k = record { is = rw (h, e); kept = λ g q. let same : f ≡ g = cc in rw same at k }

-- What a walk along the chain found: the chain `c` was walked, the verdict on its tail is that on what was found, and where
-- the tail begins is inside the file.
pub record Found (s : Bytes) (o : Outcome Chain) (before out : List ℕ) (w : ChainFound) : Type 0 where
  pub c : Chain
  pub chained : Chained o before out w.blocks c
  pub verdict_is : chain_verdict s out w ≡ verdict (offsets c.blocks) c.tail
  pub inside : TailInside s w.tail

-- A file that is too long is refused with 1.
pub file_long : (s : Bytes) → most_bytes < length s → (r : Refusal) → r ≡ refusal FileTooLong 0 → (before out : List ℕ) → Judged (file s) before out (refused r)
unfolding file
file_long s h r e before out = refused_judged (file s) before out r (rw (lt-leb (length s) most_bytes h, file, e)) (refused r) refl

module _ (s : Bytes) (few : length s ≤ most_bytes) (before out : List ℕ) where
  -- If the header is refused, the file is refused in the same way.
  pub header_refused : (x : Outcome Header) → x ≡ header s → (r : Refusal) → x ≡ refused r → (y : Outcome Layout) → y ≡ refused r
      → Judged (file s) before out y
  unfolding file body
  header_refused x read r e y told =
      let is : header s ≡ refused r = sym read ∙ e in
      refused_judged (file s) before out r (rw (le-leb (length s) most_bytes few, file, body, is)) y told

  module _ (h : Header) (header_is : header s ≡ accepted h) where
    -- If the comments are refused, so is the file.
    pub comments_refused : (x : Outcome ℕ) → x ≡ comments h.end.0 (lines (drop h.end.0 s)) → (r : Refusal) → x ≡ refused r → (y : Outcome Layout) → y ≡ refused r
        → Judged (file s) before out y
    unfolding file body
    comments_refused x read r e y told =
        let is : comments h.end.0 (lines (drop h.end.0 s)) ≡ refused r = sym read ∙ e in
        refused_judged (file s) before out r (rw (le-leb (length s) most_bytes few, file, body, header_is, is)) y told

    -- If the tree is refused, so is the file.
    pub tree_refused : (n : ℕ) → comments h.end.0 (lines (drop h.end.0 s)) ≡ accepted n → (x : Outcome (Option Tree)) → x ≡ tree n s → (r : Refusal) → x ≡ refused r → (y : Outcome Layout) → y ≡ refused r
        → Judged (file s) before out y
    unfolding file body
    tree_refused n comments_is x read r e y told =
        let is : tree n s ≡ refused r = sym read ∙ e in
        refused_judged (file s) before out r (rw (le-leb (length s) most_bytes few, file, body, header_is, comments_is, is)) y told

-- What was read of the front of a file.
pub front_read : (s : Bytes) → length s ≤ most_bytes → (h : Header) → header s ≡ accepted h → (n : ℕ) → comments h.end.0 (lines (drop h.end.0 s)) ≡ accepted n
    → (t : Option Tree) → tree n s ≡ accepted t → FrontRead s h n t
front_read s few h a n b t c = record { few = few; header_read = a; comments_read = b; tree_read = c }

module _ (s : Bytes) (h : Header) (n : ℕ) (t : Option Tree) (front : FrontRead s h n t) where
  -- If there is no tree, and neither a block nor the end of the file is where the comments end, the file is refused with
  -- 7 there.
  pub blocks_none : (b : Bool) → b ≡ goes_on t (drop n s) → not b ≡ true → (r : Refusal) → r ≡ refusal NeitherTreeNorBlock n → (before out : List ℕ)
      → Judged (file s) before out (refused r)
  unfolding file body
  blocks_none b goes q r e before out =
      let is : goes_on t (drop n s) ≡ false = sym goes ∙ not-true b q in
      refused_judged (file s) before out r
      (rw (le-leb (length s) most_bytes front.few, file, body, front.header_read, front.comments_read, front.tree_read, is, e)) (refused r) refl

  module _ (b : Bool) (goes : b ≡ goes_on t (drop n s)) (on : not b ≡ false) where
    -- The chain of blocks decides about the rest of the file.
    file_chain : (o : Outcome Chain) → chain most_blocks 0 (first_block n t) (drop (first_block n t) s) ≡ o
        → file s ≡ ◌>>=◌ o (λ c. accepted (file_with h n t c))
    unfolding file body
    file_chain o e =
        let is : goes_on t (drop n s) ≡ true = sym goes ∙ not-false b on in
        rw (le-leb (length s) most_bytes front.few, file, body, front.header_read, front.comments_read, front.tree_read, is, e)

    module _ (first : ℕ) (first_is : first ≡ first_block n t) (before out : List ℕ) (x : Outcome ChainFound)
        (walked : Walked s (chain most_blocks 0 first (drop first s)) before out x) where
      -- If the chain is refused, so is the file.
      pub chain_refused : (r : Refusal) → x ≡ refused r → (y : Outcome Layout) → y ≡ refused r
          → Judged (file s) before out y
      chain_refused r e y told =
          let w : WalkRefused (chain most_blocks 0 first (drop first s)) out r = rw e at walked in
          refused_judged (file s) before out r (file_chain (refused r) (rw (← first_is) w.is)) y told

      module _ (w : ChainFound) (e : x ≡ accepted w) where
        -- What the walk found, and the chain that it walked.
        found : Found s (chain most_blocks 0 first (drop first s)) before out w
        unfolding verdict
        found = go w.tail refl (rw e at walked)
          where
            go : (m : Option ℕ) → w.tail ≡ m → WalkedAs s (chain most_blocks 0 first (drop first s)) before out w
                → Found s (chain most_blocks 0 first (drop first s)) before out w
            go None q k =
                let a : WalkedAlone (chain most_blocks 0 first (drop first s)) before out w.blocks = rw q at k in
                record { c = a.c; chained = a.chained; verdict_is = rw (q, verdict, a.zeros); inside = rw q tt }
            go (Some m) q k =
                let a : WalkedTo s (chain most_blocks 0 first (drop first s)) before out w.blocks m = rw q at k in
                let begin : take w.blocks out ≡ offsets a.c.blocks = table_kept w.blocks before out a.c.blocks a.chained.count a.chained.kept in
                record { c = a.c; chained = a.chained; verdict_is = rw (q, verdict, a.zeros, begin, a.tail); inside = rw q a.inside }

        -- It is inside the file.
        pub chain_inside : ChainInside s out w
        chain_inside =
            let k = found in
            let begin : take w.blocks out ≡ offsets k.c.blocks = table_kept w.blocks before out k.c.blocks k.chained.count k.chained.kept in
            record { few = enough_kept out w.blocks k.c.blocks k.chained.count begin; limit = k.chained.few; tail = k.inside }

        -- With the verdict on what follows, the layout with these parts is the answer.
        pub chain_judged : (v : Verdict) → v ≡ chain_verdict s out w → (l : Layout) → l ≡ layout_with h n t w.blocks v → Judged (file s) before out (accepted l)
        unfolding layout_of
        chain_judged v q l p =
            let k = found in
            accepted_judged (file s) before out l (file_with h n t k.c) (file_chain (accepted k.c) (rw (← first_is) k.chained.is)) (rw (p, k.chained.count, q, k.verdict_is)) k.chained.kept

-- Whether a file may go on: with a tree, at its end, or with a block.
pub goes_tree : (s : Bytes) (t : Option Tree) (at : ℕ) (b : Bool) → b ≡ is_some t → b ≡ true → true ≡ goes_on t (drop at s)
unfolding goes_on
goes_tree s (Some x) at b e h = refl
goes_tree s None at b e h = cc

pub goes_end : (s : Bytes) (t : Option Tree) (at : ℕ) (b : Bool) → b ≡ is_some t → b ≡ false → length s ≤ at → true ≡ goes_on t (drop at s)
unfolding goes_on
goes_end s (Some x) at b e h l = cc
goes_end s None at b e h l = rw (drop_of_length-le s l)

pub goes_mark : (s : Bytes) (t : Option Tree) (at : ℕ) (b : Bool) → b ≡ is_some t → b ≡ false → at < length s → (m : Bool) → m ≡ begins mark (drop at s)
    → m ≡ goes_on t (drop at s)
unfolding goes_on
goes_mark s (Some x) at b e h l m k = cc
goes_mark s None at b e h l m k = rw (drop-cons s at 0 l) (rw (drop-cons s at 0 l) at k)

-- The first block begins after the tree's room or, without a tree, where the comments end.
pub first_none : (n : ℕ) (t : Option Tree) → t ≡ None → n ≡ first_block n t
unfolding first_block
first_none n t e = rw e

pub first_room : (n : ℕ) (t : Option Tree) (x : Tree) → t ≡ Some x → x.room_end.0 ≡ first_block n t
unfolding first_block
first_room n t x e = rw e

module _ (s : Bytes) (before out : List ℕ) (a : Outcome Layout) (judged : Judged (file s) before out a) where
  -- The right answer for the file states the layout of the file, or its refusal.
  pub layout_judged : a ≡ layout s
  unfolding layout
  layout_judged = judged.is

module _ (s : Bytes) (a : Outcome Layout) (judged : a ≡ layout s) where
  -- If the answer is a refusal, it is the refusal of the file.
  pub file_refused : (r : Refusal) → a ≡ refused r → file s ≡ refused r
  unfolding layout
  file_refused r e = go (file s) refl
    where
      go : (o : Outcome File) → file s ≡ o → o ≡ refused r
      go (accepted f) h = let clash = sym (e) ∙ rw (layout, h) at judged in cc
      go (refused q) h = let same : ◌≡◌ {A = Outcome Layout} (refused r) (refused q) = sym (e) ∙ rw (layout, h) at judged in cc

  -- If the answer is a layout, the table keeps where the blocks of the file begin.
  pub blocks_kept : (before out : List ℕ) → out ≡ offset_table before (file s) → (l : Layout) → a ≡ accepted l → Kept s out l.blocks
  unfolding layout_of layout offset_table
  blocks_kept before out kept l e = go (file s) refl
    where
      go : (o : Outcome File) → file s ≡ o → Kept s out l.blocks
      go (accepted f) h =
          let same : accepted l ≡ accepted (layout_of f) = sym (e) ∙ rw (layout, h) at judged in
          let count : length f.blocks ≡ l.blocks = cc in
          record { f = f; is = h; count = count; begin = table_kept l.blocks before out f.blocks count (rw h at kept) }
      go (refused q) h =
          let clash : accepted l ≡ refused q = sym (e) ∙ rw (layout, h) at judged in
          let z : ◌≡◌ {A = ℕ} 0 1 = cc in
          absurd (omega arith)

module _ (s : Bytes) (before out : List ℕ) (a : Outcome Layout) (judged : Judged (file s) before out a) where
  -- If the file is accepted, the table that was kept is its table.
  pub table_accepted : is_err a ≡ false → out ≡ offset_table before (file s)
  unfolding offset_table
  table_accepted e = go (file s) refl
    where
      go : (o : Outcome File) → file s ≡ o → out ≡ offset_table before o
      go (accepted f) h = judged.kept f h
      go (refused q) h =
          let is : a ≡ refused q = judged.is ∙ rw h in
          absurd (true≢false (sym (rw is) ∙ e))

  -- If the file is refused, its table is only zeros.
  pub table_refused : is_err a ≡ true → replicate most_blocks 0 ≡ offset_table before (file s)
  unfolding offset_table
  table_refused e = go (file s) refl
    where
      go : (o : Outcome File) → file s ≡ o → replicate most_blocks 0 ≡ offset_table before o
      go (accepted f) h =
          let is : a ≡ accepted (layout_of f) = judged.is ∙ rw h in
          absurd (true≢false (sym e ∙ rw is))
      go (refused q) h = refl

-- If a file is kept, its offsets are those that the table keeps.
pub kept_opens : (s : Bytes) (out : List ℕ) (blocks : ℕ) → Kept s out blocks → file_offsets s ≡ accepted (take blocks out)
unfolding file_offsets
kept_opens s out blocks kept = rw (file_offsets, kept.is, kept.begin)

-- The table has an entry for each block of a file that is kept.
pub kept_enough : (s : Bytes) (out : List ℕ) (blocks : ℕ) → Kept s out blocks → blocks ≤ length out
kept_enough s out blocks kept = enough_kept out blocks kept.f.blocks kept.count kept.begin

-- A file that is open is kept.
pub open_is_kept : (s : Bytes) (out : List ℕ) → file_offsets s ≡ accepted out → Kept s out (length out)
unfolding file_offsets
open_is_kept s out h = go (file s) refl
  where
    go : (o : Outcome File) → file s ≡ o → Kept s out (length out)
    go (accepted f) e =
        let same : accepted (offsets f.blocks) ≡ accepted out = sym (rw (file_offsets, e)) ∙ h in
        let is : offsets f.blocks ≡ out = cc in
        record {
          f = f;
          is = e;
          count = sym (length-map f.blocks (λ (b : Block). b.at.0)) ∙ ap length is;
          begin = take-length out ∙ sym is;
        }
    go (refused r) e =
        let clash : refused r ≡ accepted out = sym (rw (file_offsets, e)) ∙ h in
        cc

-- An open file has no more blocks than a file may have.
pub open_few : (s : Bytes) (out : List ℕ) → file_offsets s ≡ accepted out → length out ≤ most_blocks
open_few s out h =
    let kept = open_is_kept s out h in
    let few = blocks_few most_blocks 0 (blocks_start kept.f) _ (drop (blocks_start kept.f) s) (file_parts s kept.f kept.is).chain_read in
    omega (arith, kept.count)

-- If a file is refused, there is no block in it.
pub block_refused : (s : Bytes) (j : ℕ) (r : Refusal) → layout s ≡ refused r → refused r ≡ block_at s j
unfolding block_at
block_refused s j r e = rw (file_refused s (layout s) refl r e, block_at)

-- The verdict on what follows the chain: nothing does (this law), or an index is judged (the next law).
pub verdict_absent : (s : Bytes) (out : List ℕ) (c : ChainFound) → c.tail ≡ None → Absent ≡ chain_verdict s out c
verdict_absent s out c e = rw e

pub verdict_tail : (s : Bytes) (out : List ℕ) (c : ChainFound) (n : ℕ) → c.tail ≡ Some n → (v : Verdict)
    → v ≡ judged (take c.blocks out) (indexed (lines (take (length s - n) (drop n s)))) → v ≡ chain_verdict s out c
verdict_tail s out c n e v h = rw (e, h, part_all s n)
