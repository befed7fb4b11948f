-- What the functions promise: the writers, the edit, the writer of a listing, and the exported functions.
use Rattle.std.specs.Prelude.{◌≡◌, Some, ℕ, ◌+◌, ◌-◌, ◌<◌, ◌≤◌, true, length, take, drop, replicate}
use Rattle.std.proofs.Math.Seq.{slice}
use Rattle.format.specs.declared.refusal.Reason.TheVariants.{BufferTooShort}
use Rattle.format.specs.Bytes.{Bytes}
use Rattle.format.specs.Outcome.{Outcome, accepted, need, ◌>>◌}
use Rattle.format.specs.Lent.{writes, leaves, both_fit, put_if}
use Rattle.format.specs.Tree.{tree_at}
use Rattle.format.specs.File.{File, file}
use Rattle.format.specs.Nest as Nest
use Rattle.format.specs.Outline as Outline
use Rattle.format.specs.IndexWriter.{index_for, most_index, GoodAfter}
use Rattle.format.specs.Edit.{is_one_tree, edit, edit_leaves}
use Rattle.format.specs.Listing.{outline_for, lent_bytes, listing}
use Rattle.format.specs.Export.{least_refusal, word, said}

-- `r` is the answer of a writer that has `result` to write and was lent a buffer. `before` is what the buffer held, and
-- `after` is what the writer left there.
pub record Written (result : Outcome Bytes) (before after : Bytes) (r : Outcome ℕ) : Type 0 where
  pub answer : r ≡ writes result before
  pub buffer : after ≡ leaves result before

-- The same for the outline of the file `s`. What was written is accepted as a stored outline and reads back to the rows
-- of the file.
pub record OutlineWritten (s before after : Bytes) (r : Outcome ℕ) : Type 0 where
  pub written : Written (Outline.outline s) before after r
  pub reads_back : (n : ℕ) → r ≡ accepted n → Outline.stored (take n after) ≡ Outline.rows s

-- The same for the stored outline `b`: what is written from its rows is `b` again.
pub record WrittenAgain (b before after : Bytes) (r : Outcome ℕ) : Type 0 where
  pub written : Written (Outline.rewritten b) before after r
  pub same : (n : ℕ) → r ≡ accepted n → take n after ≡ b

-- The same for the index of the file `s`. What was written is a good index of the file and has at most 809 bytes.
pub record IndexWritten (s before after : Bytes) (r : Outcome ℕ) : Type 0 where
  pub written : Written (index_for s) before after r
  pub good : (n : ℕ) → r ≡ accepted n → GoodAfter s (take n after)
  pub short : (n : ℕ) → r ≡ accepted n → n ≤ most_index

-- The file `s` can be edited to the text `t`.
pub record Editable (s t : Bytes) : Type 0 where
  -- `s` is accepted and has a tree.
  pub before : File
  pub read_before : file s ≡ accepted before
  pub start : ℕ
  pub end : ℕ
  pub room_end : ℕ
  pub tree_before : before.tree ≡ tree_at start end room_end
  -- `t` is exactly one tree and is no longer than the room.
  pub one_tree : is_one_tree t ≡ true
  pub fits : length t ≤ room_end - start

-- `u` is the file `s` edited to the text `t`.
pub record Edited (s t u : Bytes) : Type 0 where
  -- Both files are accepted and have the same length.
  pub before : File
  pub read_before : file s ≡ accepted before
  pub after : File
  pub read_after : file u ≡ accepted after
  pub same_length : length u ≡ length s
  -- The tree starts where it did and is as long as the text. Its room is the same.
  pub start : ℕ
  pub end : ℕ
  pub room_end : ℕ
  pub tree_before : before.tree ≡ tree_at start end room_end
  pub tree_after : after.tree ≡ tree_at start (start + length t) room_end
  -- The tree is the text, byte for byte, and spaces follow up to the end of the room.
  pub is_text : slice start (start + length t) u ≡ t
  pub spaces : slice (start + length t) room_end u ≡ replicate (room_end - start - length t) 32
  -- No byte outside the room has changed.
  pub front : take start u ≡ take start s
  pub rest : drop room_end u ≡ drop room_end s
  -- All else that is reported about the file is the same: the header, the end of the comments, the blocks and the
  -- verdict on the index.
  pub header : after.header ≡ before.header
  pub comments : after.comments_end ≡ before.comments_end
  pub blocks : after.blocks ≡ before.blocks
  pub verdict : after.verdict ≡ before.verdict
  -- What is reported about all blocks in walking order is the same, including the blocks of opened inner files. So are
  -- the bytes of the outline.
  pub records : Nest.records u ≡ Nest.records s
  pub outline : Outline.outline u ≡ Outline.outline s

-- `r` is the answer of the edit of the file `s` to the text `t`, and `after` is what the file holds then.
pub record Done (s t after : Bytes) (r : Outcome (Unit {0})) : Type 0 where
  -- The answer is the defined one. If it is a refusal, so are its number and place.
  pub answer : r ≡ ◌>>◌ (edit s t) (accepted tt)
  -- The bytes are the defined ones. If the answer is a refusal, they are those of `s`.
  pub bytes : after ≡ edit_leaves s (edit s t)
  -- The edit is accepted exactly if the file can be edited to the text.
  pub accepts : Editable s t → r ≡ accepted tt
  pub only : r ≡ accepted tt → Editable s t
  -- If it is accepted, the tree is the text and all else is the same.
  pub edited : r ≡ accepted tt → Edited s t after

-- The outline `b` and the text `t` are put at the start of two buffers if both fit. Otherwise neither buffer changes.
-- `rows` and `out` are the buffers before, and `rows_after` and `out_after` are the same buffers afterwards. `r` is the
-- answer.
pub record BothPut (b t rows out rows_after out_after : Bytes) (r : Outcome ℕ) : Type 0 where
  pub answer : r ≡ ◌>>◌ (need (both_fit b t rows out) BufferTooShort 0) (accepted (length t))
  pub outline_put : rows_after ≡ put_if (both_fit b t rows out) rows b
  pub text_put : out_after ≡ put_if (both_fit b t rows out) out t

-- `r` is the answer of the writer of a listing for the bytes `s`, with its two buffers before and after. Buffers as
-- long as those that the program lends are always long enough.
pub record Listed (s rows out rows_after out_after : Bytes) (r : Outcome ℕ) : Type 0 where
  pub put : BothPut (outline_for s) (listing s) rows out rows_after out_after r
  pub enough : lent_bytes ≤ length rows → lent_bytes ≤ length out → r ≡ accepted (length (listing s))

-- The same with buffers as long as the program's. The first `n` bytes of the second buffer are then the listing.
pub record ListedLent (s rows out rows_after out_after : Bytes) (n : ℕ) : Type 0 where
  pub listed : Listed s rows out rows_after out_after (accepted n)
  pub inside : n ≤ length out_after
  pub size : n ≡ length (take n out_after)
  pub text : take n out_after ≡ listing s

-- `r` is the number that is returned for this answer, and `lent` is how many bytes were lent in all. If they are fewer
-- than 2^56, `r` stands for no other answer.
pub record Returned (answer : Outcome ℕ) (lent r : ℕ) : Type 0 where
  pub is : r ≡ word answer
  pub says : lent < least_refusal → said r ≡ Some answer

-- `r` is returned by a writer that has `result` to write. It was lent the bytes `s` to read, and a buffer. `before` is
-- what the buffer held, and `after` is what the writer left there.
pub record Exported (s : Bytes) (result : Outcome Bytes) (before after : Bytes) (r : ℕ) : Type 0 where
  pub answer : Returned (writes result before) (length s + length before) r
  pub buffer : after ≡ leaves result before

-- The same for the outline of the file `s`. If `r` is not a refusal, what was written is accepted as a stored outline
-- and reads back to the rows of the file.
pub record OutlineExported (s before after : Bytes) (r : ℕ) : Type 0 where
  pub written : Exported s (Outline.outline s) before after r
  pub reads_back : r < least_refusal → Outline.stored (take r after) ≡ Outline.rows s

-- The same for the stored outline `b`. If `r` is not a refusal, what was written from its rows is `b` again.
pub record RewriteExported (b before after : Bytes) (r : ℕ) : Type 0 where
  pub written : Exported b (Outline.rewritten b) before after r
  pub same : r < least_refusal → take r after ≡ b

-- The same for the index of the file `s`. If `r` is not a refusal, what was written is a good index of the file and has
-- at most 809 bytes.
pub record IndexExported (s before after : Bytes) (r : ℕ) : Type 0 where
  pub written : Exported s (index_for s) before after r
  pub good : r < least_refusal → GoodAfter s (take r after)
  pub short : r < least_refusal → r ≤ most_index

-- `r` is returned by the edit of the file `s` to the text `t`, and `after` is what the file holds then.
pub record EditExported (s t after : Bytes) (r : ℕ) : Type 0 where
  -- The answer is 0 or the refusal.
  pub answer : Returned (◌>>◌ (edit s t) (accepted 0)) (length s + length t) r
  -- The bytes are the defined ones. If the answer is a refusal, they are those of `s`.
  pub bytes : after ≡ edit_leaves s (edit s t)
  -- `r` is 0 exactly if the file can be edited to the text.
  pub accepts : Editable s t → r ≡ 0
  pub only : r ≡ 0 → Editable s t
  -- If `r` is 0, the tree is the text and all else is the same.
  pub edited : r ≡ 0 → Edited s t after
