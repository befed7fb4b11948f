-- No refusal has the number 0, and its place is within the bytes that are read or at their end. This is shown step by
-- step: first for one file by itself, then for all that is asked about a file or a stored outline.
use Rattle.std.proofs.Common.{◌≡◌, ℕ, zero, suc, ◌+◌, ◌*◌, ◌/◌, ◌≤◌, Bool, true, false, leb, List, length, take, drop, refl, ap, arith, length-append, length-drop}
use Rattle.std.specs.Prelude.{Option, None, Some}
use Rattle.format.specs.declared.block.Block.{Block}
use Rattle.format.specs.declared.block.Record.{Record}
use Rattle.format.specs.declared.layout.Tree.{Tree}
use Rattle.format.specs.declared.layout.Version.{Version}
use Rattle.format.specs.declared.line.LineEnd.{LineEnd}
use Rattle.format.specs.declared.refusal.Reason.{Reason}
use Rattle.format.specs.declared.refusal.Reason.TheVariants.{FileTooLong, NotAsdf, VersionMalformed, VersionNotOne, CommentNotEnded, IndexAmongComments, NeitherTreeNorBlock, WrongLineBeforeStart, SecondStartLine, TreeNotEnded, HeaderPassesEnd, HeaderTooSmall, UsedAboveAllocated, DataSizeDiffers, AllocatedPassesEnd, TooManyBlocks, StrayTail, EditWithoutTree, TextNotOneTree, TextLongerThanRoom, BufferTooShort, NoIndexPossible, OutlineLength, OutlineRow, NoSuchBlock}
use Rattle.format.specs.Reason.{reason_number}
use Rattle.format.specs.declared.row.Row.{Row}
use Rattle.format.specs.Bytes.{Bytes, text, begins, same}
use Rattle.format.specs.Outcome.{Refusal, Outcome, accepted, refused, need, ◌>>=◌, ◌>>◌}
use Rattle.format.specs.Line.{Lines, unended, line, after_line, lines}
use Rattle.format.specs.Header.{token, header_of, version_line, header}
use Rattle.format.specs.Comments.{comments, index_line}
use Rattle.format.specs.Tree.{end_line, yaml_line, is_start, is_directive, content, directives, tree_end, tree}
use Rattle.format.specs.Block.{block, is_streamed, flags}
use Rattle.format.specs.Chain.{most_blocks, linked, tail, chain}
use Rattle.format.specs.File.{most_bytes, first_block, goes_on, body, file, layout, block_at}
use Rattle.format.specs.Nest.{walk_file, records_from, records, record_count, record_at}
use Rattle.format.specs.Outline.{row_bytes, decode_row, rows, outline, stored_from, stored, stored_count, stored_at, rewritten}
use Rattle.format.specs.Fields.{check_number, layout_bytes, record_table, stored_rows, found_bytes}
use Rattle.format.specs.Check.{check_block, named, checked, checked_number}
use Rattle.format.specs.Lent.{writes}
use Rattle.format.specs.IndexWriter.{index_for}
use Rattle.format.specs.Edit.{edit_tree, edit}
use Rattle.format.proofs.OutcomeLaws.{choice}
use Rattle.format.proofs.ByteLaws.{begins_true}
use Rattle.format.proofs.LineLaws.{join_lines, join_lines_lem}
use Rattle.format.proofs.ReadLaws.{header_bounds, comments_bounds, first_block_bounds}
use Rattle.format.proofs.BlockLaws.{accepted_block}
use Rattle.format.proofs.InductionLaws.{chain_induction}

-- Every reason has a number from 1 on.
pub reason_positive : (x : Reason) → 1 ≤ reason_number x
reason_positive FileTooLong = omega arith
reason_positive NotAsdf = omega arith
reason_positive VersionMalformed = omega arith
reason_positive VersionNotOne = omega arith
reason_positive CommentNotEnded = omega arith
reason_positive IndexAmongComments = omega arith
reason_positive NeitherTreeNorBlock = omega arith
reason_positive WrongLineBeforeStart = omega arith
reason_positive SecondStartLine = omega arith
reason_positive TreeNotEnded = omega arith
reason_positive HeaderPassesEnd = omega arith
reason_positive HeaderTooSmall = omega arith
reason_positive UsedAboveAllocated = omega arith
reason_positive DataSizeDiffers = omega arith
reason_positive AllocatedPassesEnd = omega arith
reason_positive TooManyBlocks = omega arith
reason_positive StrayTail = omega arith
reason_positive EditWithoutTree = omega arith
reason_positive TextNotOneTree = omega arith
reason_positive TextLongerThanRoom = omega arith
reason_positive BufferTooShort = omega arith
reason_positive NoIndexPossible = omega arith
reason_positive OutlineLength = omega arith
reason_positive OutlineRow = omega arith
reason_positive NoSuchBlock = omega arith

-- A proper refusal: its number is not 0, and its place is at most `most`.
pub record Proper (most : ℕ) (r : Refusal) : Type 0 where
  pub number : 1 ≤ reason_number r.reason
  pub place : r.place.0 ≤ most

-- A numbered outcome: it is accepted, or its refusal is proper.
abbrev pub Numbered : {A : Type 0} → ℕ → Outcome A → Type 0
Numbered most (accepted a) = Unit {0}
Numbered most (refused r) = Proper most r

-- An outcome that is numbered up to `near` is numbered up to any larger bound.
pub numbered_more : {A : Type 0} (near most : ℕ) (o : Outcome A) → near ≤ most → Numbered near o → Numbered most o
numbered_more near most (accepted a) l h = tt
numbered_more near most (refused r) l h = omega arith

module _ (most : ℕ) where
  -- The place 0 is always within the bound.
  at_first : 0 ≤ most
  at_first = omega arith

  -- If a step is numbered, and so is what follows when it is accepted, then both together are numbered.
  numbered_bind : {A B : Type 0} (o : Outcome A) (f : A → Outcome B) → Numbered most o → ((a : A) → o ≡ accepted a → Numbered most (f a))
      → Numbered most (◌>>=◌ o f)
  numbered_bind (accepted a) f h k = k a refl
  numbered_bind (refused r) f h k = h

  -- If the refusal of a test is proper, and what follows is numbered when the test holds, then both together are
  -- numbered.
  numbered_need : {A : Type 0} (t : Bool) (x : Reason) (p : ℕ) (o : Outcome A) → p ≤ most → (t ≡ true → Numbered most o)
      → Numbered most (◌>>◌ (need t x p) o)
  numbered_need true x p o l k = k refl
  numbered_need false x p o l k = omega (arith, reason_positive x)

  -- A numbered step remains numbered with the value `b` as its result.
  pub numbered_done : {A B : Type 0} (o : Outcome A) (b : B) → Numbered most o → Numbered most (◌>>◌ o (accepted b))
  numbered_done (accepted a) b h = tt
  numbered_done (refused r) b h = h

  -- A numbered step remains numbered with a value computed from its result.
  numbered_value : {A B : Type 0} (o : Outcome A) (f : A → B) → Numbered most o → Numbered most (◌>>=◌ o (λ a. accepted (f a)))
  numbered_value (accepted a) f h = tt
  numbered_value (refused r) f h = h

  -- Writing a numbered result to a buffer is numbered, even if the buffer is too short.
  pub numbered_writes : (result : Outcome Bytes) (out : Bytes) → Numbered most result → Numbered most (writes result out)
  unfolding writes
  numbered_writes result out h = search (numbered_bind, numbered_need, at_first)

  numbered_header_of : (v : Option Version) (e : LineEnd) (n : ℕ) → 6 ≤ most → Numbered most (header_of v e n)
  unfolding header_of
  numbered_header_of None e n h = omega arith
  numbered_header_of (Some v) e n h = search numbered_need

  numbered_version : (l : Lines) → 6 ≤ most → Numbered most (version_line l)
  unfolding version_line
  numbered_version (unended t) h = omega arith
  numbered_version (line t e l) h = numbered_header_of _ _ _ h

  -- If a line and the lines after it end at `most` or before, so do the lines after it.
  line_inside : (n : ℕ) (t : Bytes) (e : LineEnd) (l : Lines) → n + length (join_lines (line t e l)) ≤ most
      → after_line n t e + length (join_lines l) ≤ most
  unfolding join_lines
  line_inside n t e l h = omega (arith, simp length-append at h)

  numbered_comments : (n : ℕ) (l : Lines) → n + length (join_lines l) ≤ most → Numbered most (comments n l)
  unfolding comments
  numbered_comments n (unended t) h = choice (Numbered most) (begins (text "#") t) _ _ (omega arith) tt
  numbered_comments n (line t e l) h =
      choice (Numbered most) (begins (text "#") t) _ _
      (choice (Numbered most) (same t index_line) _ _ (omega arith) (numbered_comments (after_line n t e) l (line_inside n t e l h)))
      tt

  numbered_content : (n : ℕ) (l : Lines) → n + length (join_lines l) ≤ most → Numbered most (content n l)
  unfolding content
  numbered_content n (unended t) h = omega arith
  numbered_content n (line t e l) h =
      choice (Numbered most) (same t end_line) _ _ tt
      (choice (Numbered most) (is_start t) _ _ (omega arith) (numbered_content (after_line n t e) l (line_inside n t e l h)))

  numbered_directives : (n : ℕ) (l : Lines) → n + length (join_lines l) ≤ most → Numbered most (directives n l)
  unfolding directives
  numbered_directives n (unended t) h = omega arith
  numbered_directives n (line t e l) h =
      let others = line_inside n t e l h in
      choice (Numbered most) (is_start t) _ _ (numbered_content (after_line n t e) l others)
      (choice (Numbered most) (is_directive t) _ _ (numbered_directives (after_line n t e) l others) (omega arith))

  numbered_tree_end : (n : ℕ) (l : Lines) → n + length (join_lines l) ≤ most → Numbered most (tree_end n l)
  unfolding tree_end
  numbered_tree_end n (unended t) h = tt
  numbered_tree_end n (line t e l) h =
      choice (Numbered most) (same t yaml_line) _ _
      (numbered_value (directives (after_line n t e) l) Some (numbered_directives (after_line n t e) l (line_inside n t e l h)))
      tt

  numbered_block : (i n : ℕ) (t : Bytes) → n ≤ most → Numbered most (block i n t)
  unfolding block
  numbered_block i n t h = search (numbered_need, choice {A = Outcome Block} (Numbered most) (is_streamed (flags t))) depth 12

  numbered_tail : (n : ℕ) (t : Bytes) → n ≤ most → Numbered most (tail n t)
  unfolding tail
  numbered_tail n t h = search numbered_need

  numbered_chain : (k i n : ℕ) (t : Bytes) → n + length t ≤ most → Numbered most (chain k i n t)
  numbered_chain = chain_induction {P = λ k i n t o. n + length t ≤ most → Numbered most o} (record {
    no_block = λ k i n t e h. numbered_tail n t (omega arith);
    too_many = λ i n g t next h. omega (arith, next.inside);
    refused_block = λ k i n g t r next read h. rw read at (numbered_block i (n + g) (drop g t) (omega (arith, next.inside)));
    streamed_block = λ k i n g t b next read e h. tt;
    plain_block = λ k i n g t b o next read e others h.
        numbered_value o (linked b) (others (simp length-drop (omega (arith, next.inside, (accepted_block read).inside, length-drop g t))));
  })

  numbered_stored_from : (k n deep : ℕ) (b : Bytes) → n + k * row_bytes ≤ most → Numbered most (stored_from k n deep b)
  unfolding stored_from
  numbered_stored_from zero n deep b h = tt
  numbered_stored_from (suc k) n deep b h =
      let inside : n ≤ most = omega arith in
      let others = numbered_stored_from k (n + row_bytes) ((decode_row (take row_bytes b)).depth + 1) (drop row_bytes b) (omega arith) in
      search (numbered_need, numbered_value)

-- The lines of `s` from offset `n` on end where `s` ends.
lines_inside : (n : ℕ) (s : Bytes) → n ≤ length s → n + length (join_lines (lines (drop n s))) ≤ length s
lines_inside n s h = rw (join_lines_lem (drop n s), length-drop n s) (omega arith)

numbered_header : (s : Bytes) → Numbered (length s) (header s)
unfolding header
numbered_header s =
    numbered_need (length s) (begins token s) NotAsdf 0 _ (omega arith)
    λ e. numbered_version (length s) _ (omega (arith, simp length-append at (ap length (begins_true token s e))))

numbered_tree : (n : ℕ) (s : Bytes) → n ≤ length s → Numbered (length s) (tree n s)
unfolding tree
numbered_tree n s h =
    numbered_value (length s) (tree_end n (lines (drop n s))) _ (numbered_tree_end (length s) n (lines (drop n s)) (lines_inside n s h))

numbered_file : (s : Bytes) → Numbered (length s) (file s)
unfolding file body
numbered_file s =
    let most = length s in
    numbered_need most (leb most most_bytes) FileTooLong 0 _ (omega arith)
    λ short. numbered_bind most (header s) _ (numbered_header s)
    λ h e.
    let n = h.end.0 in
    let header_end : n ≤ most = header_bounds s h e in
    numbered_bind most (comments n (lines (drop n s))) _ (numbered_comments most n (lines (drop n s)) (lines_inside n s header_end))
    λ m f.
    let comments_end_lem : m ≤ most = omega (arith, simp length-drop at (comments_bounds n (drop n s) m f)) in
    numbered_bind most (tree m s) _ (numbered_tree m s comments_end_lem)
    λ t g. numbered_need most (goes_on t (drop m s)) NeitherTreeNorBlock m _ comments_end_lem
    λ q.
    let first : first_block m t ≤ most = omega (arith, first_block_bounds m s t comments_end_lem g) in
    let blocks = numbered_chain most most_blocks 0 (first_block m t) (drop (first_block m t) s) (simp length-drop (omega arith)) in
    search (numbered_value, blocks)

module _ (s : Bytes) where
  -- The layout of a file is accepted, or its refusal is proper.
  pub numbered_layout : Numbered (length s) (layout_bytes s)
  unfolding layout_bytes layout
  numbered_layout = search (numbered_value, numbered_file)

  -- The same for a block of the file, as these numbers.
  pub numbered_block_at : (fields : Block → List ℕ) (i : ℕ) → Numbered (length s) (found_bytes fields (block_at s i))
  unfolding found_bytes block_at
  numbered_block_at fields i = search (numbered_value, numbered_file)

  -- The same for the check of a block's data, as a number.
  pub numbered_checked : (digest : Bytes → Bytes) (i : ℕ) → Numbered (length s) (checked_number digest s i)
  unfolding checked_number checked block_at named
  numbered_checked digest i =
      numbered_value (length s) (checked digest s i) check_number
      (numbered_bind (length s) (block_at s i) _ (numbered_value (length s) (file s) _ (numbered_file s)) λ found e. numbered_named found)
    where
      numbered_named : (found : Option Block) → Numbered (length s) (◌>>=◌ (named found) (λ b. accepted (check_block digest s b)))
      numbered_named None = omega arith
      numbered_named (Some b) = tt

  numbered_records : Numbered (length s) (records s)
  unfolding records records_from walk_file
  numbered_records = search (numbered_value, numbered_file)

  -- The same for the number of records.
  pub numbered_count : Numbered (length s) (record_count s)
  unfolding record_count
  numbered_count = search (numbered_value, numbered_records)

  -- The same for a record, as these numbers.
  pub numbered_record_at : (fields : Record → List ℕ) (k : ℕ) → Numbered (length s) (found_bytes fields (record_at s k))
  unfolding found_bytes record_at
  numbered_record_at fields k = search (numbered_value, numbered_records)

  -- The same for all records.
  pub numbered_table : Numbered (length s) (record_table s)
  unfolding record_table
  numbered_table = search (numbered_value, numbered_records)

  -- The same for the outline.
  pub numbered_outline : Numbered (length s) (outline s)
  unfolding outline rows
  numbered_outline = search (numbered_value, numbered_records)

  -- The same for the index that is written.
  pub numbered_index : Numbered (length s) (index_for s)
  unfolding index_for
  numbered_index = search (numbered_bind, numbered_need, numbered_file, at_first)

  numbered_edit_tree : (t : Bytes) (x : Option Tree) → Numbered (length s) (edit_tree s t x)
  unfolding edit_tree
  numbered_edit_tree t None = omega arith
  numbered_edit_tree t (Some x) = search (numbered_need, at_first)

  -- The same for an edit.
  pub numbered_edit : (t : Bytes) → Numbered (length s) (edit s t)
  unfolding edit
  numbered_edit t = search (numbered_bind, numbered_file, numbered_edit_tree)

module _ (b : Bytes) where
  numbered_stored : Numbered (length b) (stored b)
  unfolding stored
  numbered_stored =
      let inside : 0 + length b / row_bytes * row_bytes ≤ length b = omega arith in
      search (numbered_need, numbered_stored_from, at_first)

  -- The number of stored rows is accepted, or its refusal is proper.
  pub numbered_stored_count : Numbered (length b) (stored_count b)
  unfolding stored_count
  numbered_stored_count = search (numbered_value, numbered_stored)

  -- The same for a stored row, as these numbers.
  pub numbered_stored_at : (fields : Row → List ℕ) (k : ℕ) → Numbered (length b) (found_bytes fields (stored_at b k))
  unfolding found_bytes stored_at
  numbered_stored_at fields k = search (numbered_value, numbered_stored)

  -- The same for all rows written again.
  pub numbered_rewritten : Numbered (length b) (rewritten b)
  unfolding rewritten
  numbered_rewritten = search (numbered_value, numbered_stored)

  -- The same for all rows as numbers.
  pub numbered_stored_rows : Numbered (length b) (stored_rows b)
  unfolding stored_rows
  numbered_stored_rows = search (numbered_value, numbered_stored)
