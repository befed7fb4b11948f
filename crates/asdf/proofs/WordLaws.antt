-- Laws about answers that are returned as one number: those of a count, a writer, an outline, a stored outline that is
-- written again, an index and an edit.
use Rattle.std.proofs.Common.{ℕ, ◌+◌, ◌<◌, arith, ◌≡◌, refl, sym, ap, ◌∙◌, length}
use Rattle.std.specs.Result.{result_and}
use Rattle.format.specs.Bytes.{Bytes}
use Rattle.format.specs.Outcome.{Outcome, accepted, refused, ◌>>◌}
use Rattle.format.specs.Outline.{outline, rewritten}
use Rattle.format.specs.IndexWriter.{index_for}
use Rattle.format.specs.Edit.{edit}
use Rattle.format.specs.Promise.{Written, OutlineWritten, WrittenAgain, IndexWritten, Done, Returned, Exported, OutlineExported, RewriteExported, IndexExported, EditExported}
use Rattle.format.specs.Export.{least_refusal, word}
use Rattle.format.proofs.NumberedLaws.{Numbered, numbered_more, numbered_done, numbered_outline, numbered_rewritten, numbered_index, numbered_edit}
use Rattle.format.proofs.WordLaws.{word_large, Counts, returned, returned_writes}

-- The returned number states the count that was asked for.
pub returned_count : (a : Outcome ℕ) (count : Outcome ℕ) (lent : ℕ) → a ≡ count → Counts lent count → Numbered lent count
    → (w : ℕ) → w ≡ word a → Returned count lent w
returned_count a count lent h c n w e = returned count lent c n w (e ∙ ap word h)

module _ (before after : Bytes) (a : Outcome ℕ) (w : ℕ) (e : w ≡ word a) where
  -- The promise of a writer carries over to the number that is returned.
  pub exported_written : (s : Bytes) (result : Outcome Bytes) → Numbered (length s) result → Written result before after a
      → Exported s result before after w
  exported_written s result n h =
      record { answer = returned_writes result before s n w (e ∙ ap word h.answer); buffer = h.buffer }

  -- If the returned number is below 2^56, the writer counted that many bytes.
  small_counted : w < least_refusal → a ≡ accepted w
  small_counted p = from a e
    where
      from : (x : Outcome ℕ) → w ≡ word x → x ≡ accepted w
      from (accepted m) f = ap accepted (sym f)
      from (refused r) f = let large = word_large r in absurd (omega arith)

  -- The outline that was written reads back to the rows of the file.
  pub exported_outline : (s : Bytes) → OutlineWritten s before after a → OutlineExported s before after w
  exported_outline s h = record {
    written = exported_written s (outline s) (numbered_outline s) h.written;
    reads_back = λ p. h.reads_back w (small_counted p);
  }

  -- The stored outline that was written again is the same.
  pub exported_rewrite : (b : Bytes) → WrittenAgain b before after a → RewriteExported b before after w
  exported_rewrite b h = record {
    written = exported_written b (rewritten b) (numbered_rewritten b) h.written;
    same = λ p. h.same w (small_counted p);
  }

  -- The index that was written is good and short.
  pub exported_index : (s : Bytes) → IndexWritten s before after a → IndexExported s before after w
  exported_index s h = record {
    written = exported_written s (index_for s) (numbered_index s) h.written;
    good = λ p. h.good w (small_counted p);
    short = λ p. h.short w (small_counted p);
  }

-- If the value of an outcome is replaced twice, only the second value counts.
done_again : {A B C : Type 0} (o : Outcome A) (b : B) (c : C) → ◌>>◌ (◌>>◌ o (accepted b)) (accepted c) ≡ ◌>>◌ o (accepted c)
done_again (accepted a) b c = refl
done_again (refused r) b c = refl

-- An edit that is done counts 0, which is never more than was lent.
done_none : {A : Type 0} (o : Outcome A) (lent : ℕ) → Counts lent (◌>>◌ o (accepted 0))
done_none (accepted a) lent = omega arith
done_none (refused r) lent = tt

-- An answer after which another is given.
and_then : {A B : Type 0} (a : Outcome A) (b : Outcome B) → result_and a b ≡ ◌>>◌ a b
and_then (accepted u) b = refl
and_then (refused r) b = refl

-- The edit of the file `s` to the text `t` was answered with `a`. If it was done, that counts as 0, and `w` is returned.
module _ (s t after : Bytes) (a : Outcome (Unit {0})) (h : Done s t after a) (x : Outcome ℕ) (counted : x ≡ result_and a (accepted 0)) (w : ℕ)
    (e : w ≡ word x) where
  word_is : w ≡ word (◌>>◌ a (accepted 0))
  word_is = e ∙ ap word (counted ∙ and_then a (accepted 0))

  -- The returned number states the answer of the edit.
  edit_answer_lem : Returned (◌>>◌ (edit s t) (accepted 0)) (length s + length t) w
  edit_answer_lem =
      let done : Outcome ℕ = ◌>>◌ (edit s t) (accepted 0) in
      let lent = length s + length t in
      returned done lent (done_none (edit s t) lent)
      (numbered_more (length s) lent done (omega arith) (numbered_done (length s) (edit s t) 0 (numbered_edit s t)))
      w
      (word_is ∙ ap (λ (o : Outcome (Unit {0})). word (◌>>◌ o (accepted 0))) h.answer ∙ ap word (done_again (edit s t) tt 0))

  -- If 0 is returned, the edit was done.
  zero_edited : w ≡ 0 → a ≡ accepted tt
  zero_edited p = from a word_is
    where
      from : (y : Outcome (Unit {0})) → w ≡ word (◌>>◌ y (accepted 0)) → y ≡ accepted tt
      from (accepted tt) f = refl
      from (refused r) f = let large = word_large r in absurd (omega arith)

  -- If the edit was done, 0 is returned.
  edited_zero : a ≡ accepted tt → w ≡ 0
  edited_zero p = word_is ∙ rw p

  pub exported_edit : EditExported s t after w
  exported_edit = record {
    answer = edit_answer_lem;
    bytes = h.bytes;
    accepts = λ p. edited_zero (h.accepts p);
    only = λ p. h.only (zero_edited p);
    edited = λ p. h.edited (zero_edited p);
  }
