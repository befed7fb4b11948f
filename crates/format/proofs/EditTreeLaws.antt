-- A file with another tree, followed by spaces: what comes before the tree reads as it did, and the tree is the text.
use Rattle.std.proofs.Common.{◌≡◌, ℕ, ◌+◌, ◌≤◌, true, List, ◌++◌, length, take, drop, replicate, sym, refl, ap, ◌∙◌, append_assoc, add-zero, arith, length-append, drop-drop, take_at, drop_at, eqb-true, le-leb}
use Rattle.std.specs.Prelude.{Option, None, Some}
use lib.ListN.{length-replicate}
use lib.Seq.{slice, drop-append_seam}
use Rattle.format.specs.declared.block.Block.{Block}
use Rattle.format.specs.declared.layout.Tree.{Tree}
use Rattle.format.specs.declared.layout.Verdict.{Verdict}
use Rattle.format.specs.Bytes.{Bytes}
use Rattle.format.specs.Outcome.{Outcome, accepted, refused}
use Rattle.format.specs.Line.{lines}
use Rattle.format.specs.Tree.{tree_end, free_space, with_room, tree, tree_at}
use Rattle.format.specs.Chain.{most_blocks, chain}
use Rattle.format.specs.Index.{verdict}
use Rattle.format.specs.File.{most_bytes, File, first_block, goes_on, offsets, file}
use Rattle.format.specs.Edit.{ends_at, is_one_tree}
use Rattle.format.proofs.OutcomeLaws.{accepted_holds, accepts_bind}
use Rattle.format.proofs.LocalLaws.{header_again, comments_kept, tree_anywhere, free_space_spaces, goes_on_no_comment, start_free}
use Rattle.format.proofs.FileLaws.{blocks_start, Parts, file_parts, in_order}

-- If a text is exactly one tree, that tree ends where the text ends.
pub one_tree_end : (t : Bytes) → is_one_tree t ≡ true → tree_end 0 (lines t) ≡ accepted (Some (length t))
unfolding is_one_tree ends_at
one_tree_end t = ends (tree_end 0 (lines t))
  where
    ends : (o : Outcome (Option ℕ)) → ends_at (length t) o ≡ true → o ≡ accepted (Some (length t))
    ends (refused r) h = cc
    ends (accepted None) h = cc
    ends (accepted (Some m)) h = ap (λ (n : ℕ). accepted (Some n)) (eqb-true m (length t) h)

-- The tree, if there is one, begins at offset `n`.
abbrev BeginsAt : ℕ → Option Tree → Type 0
BeginsAt n None = Unit {0}
BeginsAt n (Some t) = n ≡ t.start.0

-- A tree that is read at offset `n` begins there.
tree_begins_at : (n : ℕ) (s : Bytes) (t : Option Tree) → tree n s ≡ accepted t → BeginsAt n t
unfolding tree with_room
tree_begins_at n s t = accepted_holds (BeginsAt n) (tree n s) t (accepts_bind _ (tree_end n (lines (drop n s))) _ with_room_lem)
  where
    with_room_lem : (o : Option ℕ) → tree_end n (lines (drop n s)) ≡ accepted o → BeginsAt n (with_room n s o)
    with_room_lem None q = tt
    with_room_lem (Some k) q = refl

-- The room of the file `s`, which is accepted as `f`. It goes from `n`, where the comments end, to `m`, where the first
-- block begins.
pub record FileRoom (s : Bytes) (f : File) (n m : ℕ) : Type 0 where
  pub begin : f.comments_end ≡ n
  pub first : blocks_start f ≡ m
  pub full : free_space (drop m s) ≡ 0
  pub order : n ≤ m
  pub inside : m ≤ length s

-- If an accepted file has a tree, its room is from the end of the comments to the first block.
pub file_room : (s : Bytes) (f : File) → file s ≡ accepted f → (n e m : ℕ) → f.tree ≡ tree_at n e m → FileRoom s f n m
unfolding first_block
file_room s f read n e m q =
    let parts = file_parts s f read in
    let order = in_order s f parts in
    let begin = tree_begins_at f.comments_end s (tree_at n e m) (parts.tree_read ∙ ap accepted q) in
    let first : blocks_start f ≡ m = ap (first_block f.comments_end) q in
    let full = rw first at (start_free f.comments_end s f.tree parts.tree_read parts.goes_on) in
    record { begin = begin; first = first; full = full; order = omega arith; inside = omega arith }

-- The bytes `p`, then the tree `t`, `k` spaces and `y`.
abbrev pub treed : Bytes → Bytes → ℕ → Bytes → Bytes
treed p t k y = p ++ (t ++ (replicate k 32 ++ y))

-- A file with the header and the comments of `f`, and with another tree, other blocks and another verdict.
abbrev pub with_tree : File → Option Tree → List Block → Verdict → File
with_tree f t bs v = record { header = f.header; comments_end = f.comments_end; tree = t; blocks = bs; verdict = v }

module _ (n : ℕ) (p t : Bytes) (k : ℕ) (y : Bytes) (size : length p ≡ n) where
  -- The spaces and `y` follow the tree.
  pub treed_after : drop (n + length t) (treed p t k y) ≡ replicate k 32 ++ y
  treed_after = sym (drop-drop (length t) n _) ∙ ap (drop (length t)) (drop_at p _ n size) ∙ drop-append_seam t _

  -- The bytes `y` follow the spaces.
  pub treed_rest : drop (n + length t + k) (treed p t k y) ≡ y
  treed_rest = sym (drop-drop k (n + length t) _) ∙ ap (drop k) treed_after ∙ drop_at (replicate k 32) y k (length-replicate k 32)

  -- The bytes `p` come before the tree.
  pub treed_front : take n (treed p t k y) ≡ p
  treed_front = take_at p _ n size

  -- The bytes of the tree are the text.
  pub treed_text : slice n (n + length t) (treed p t k y) ≡ t
  treed_text =
      let before : length (p ++ t) ≡ n + length t = simp length-append (omega arith) in
      ap (drop n) (rw append_assoc at (take_at (p ++ t) (replicate k 32 ++ y) (n + length t) before)) ∙ drop_at p t n size

  -- The bytes between the tree and `y` are spaces.
  pub treed_spaces : slice (n + length t) (n + length t + k) (treed p t k y) ≡ replicate k 32
  treed_spaces =
      let before : length (p ++ t) ≡ n + length t = simp length-append (omega arith) in
      let whole : length (p ++ t ++ replicate k 32) ≡ n + length t + k = simp (length-append, length-replicate) (omega arith) in
      ap (drop (n + length t)) (simp append_assoc at (take_at (p ++ t ++ replicate k 32) y (n + length t + k) whole))
      ∙ rw append_assoc at (drop_at (p ++ t) (replicate k 32) (n + length t) before)

  -- If `t` is one tree and `y` does not begin with free space, the tree is read and its room ends after the spaces.
  pub treed_tree : is_one_tree t ≡ true → free_space y ≡ 0 → tree n (treed p t k y) ≡ accepted (tree_at n (n + length t) (n + length t + k))
  unfolding tree with_room
  treed_tree one full =
      rw (
        drop_at p _ n size,
        tree_anywhere t (one_tree_end t one) n (replicate k 32 ++ y),
        treed_after,
        free_space_spaces,
        full,
        add-zero,
      )

-- Let the comments of a file end where `p` ends. Then `Parts` holds for `p`, one tree `t`, `k` spaces and `y` together:
-- the header and the comments are the same, the tree is `t`, and the blocks are those in `y`.
pub treed_parts : (n : ℕ) (p z : Bytes) (f : File) → Parts (p ++ z) f → f.comments_end ≡ n → length p ≡ n
    → (t : Bytes) → is_one_tree t ≡ true
    → (k : ℕ) (y : Bytes) → free_space y ≡ 0 → length (treed p t k y) ≤ most_bytes
    → (m : ℕ) → n + length t + k ≡ m
    → (bs : List Block) (tail : Bytes) → chain most_blocks 0 m y ≡ accepted (record { blocks = bs; tail = tail })
    → (v : Verdict) → verdict (offsets bs) tail ≡ v
    → Parts (treed p t k y) (with_tree f (tree_at n (n + length t) m) bs v)
unfolding first_block goes_on
treed_parts n p z f h begin size t one k y full short m room bs tail blocks v judged =
    let order = in_order (p ++ z) f h in
    let first : f.header.end.0 ≤ length p = omega arith in
    let tree_read : tree f.comments_end (treed p t k y) ≡ accepted (tree_at n (n + length t) m)
    = rw (begin, ← room) (treed_tree n p t k y size one full) in
    let no-comment = goes_on_no_comment f.comments_end (treed p t k y) _ tree_read refl in
    record {
      short = le-leb _ _ short;
      header_read = header_again p z _ f.header h.header_read first;
      comments_read = comments_kept f.header.end.0 p z _ first f.comments_end h.comments_read (omega arith) no-comment;
      tree_read = tree_read;
      goes_on = refl;
      tail = tail;
      chain_read = rw (← room, treed_rest n p t k y size, room) blocks;
      judged = judged;
    }
