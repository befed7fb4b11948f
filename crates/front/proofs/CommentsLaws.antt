-- Laws about comments: one for each return of the walk over them. The invariant of the walk: the comments from the
-- current offset end where the comments from the first offset end.
use Prim.Native.Nat.{ℕ, ◌-◌}
use mathlib.Core.Path.{◌≡◌, refl, sym, ap, ◌∙◌}
use mathlib.Core.Bool.{Bool, true, false}
use lib.ListN.{take, drop}
use Rattle.format.specs.declared.refusal.Reason.TheVariants.{CommentNotEnded, IndexAmongComments}
use Rattle.format.specs.Bytes.{Bytes, text, begins, same}
use Rattle.format.specs.Outcome.{Refusal, Outcome, accepted, refused, refusal}
use Rattle.format.specs.Line.{lines}
use Rattle.format.specs.Comments.{index_line, comments}
use Rattle.format.proofs.ReadLaws.{no_comments}
use Rattle.scan.specs.declared.line.Line.{Line}
use Rattle.std.specs.Prelude.{Option, None, Some}
use Rattle.scan.specs.Line.{LineRead}
use Rattle.scan.proofs.LineLaws.{FirstLine, unended_lines, ended_first, first_byte}

module _ (s : Bytes) (at : ℕ) (x : Outcome ℕ) (left : comments at (lines (drop at s)) ≡ x) (b : Bool) (h : b ≡ begins (text "#") (drop at s)) where
  -- If no comment begins at `at`, then the comments end there.
  pub comments_done : b ≡ false → accepted at ≡ x
  comments_done p = sym (no_comments at (drop at s) (sym h ∙ p)) ∙ left

  module _ (p : b ≡ true) (r : Option Line) (read : LineRead s at r) where
    -- If a comment begins at `at` and its line does not end, then the comments are refused with number 5 at place `at`.
    pub comments_unended : (y : Refusal) → r ≡ None → y ≡ refusal CommentNotEnded at → refused y ≡ x
    unfolding comments
    comments_unended y e q = ap refused q ∙ rw (unended_lines s at r read e, comments, sym h ∙ p) at left

    module _ (l : Line) (e : r ≡ Some l) (d : Bool) (k : d ≡ same (take (l.text_end - at) (drop at s)) index_line) where
      -- The line that was read is the first line from `at`.
      first : FirstLine s at (take (l.text_end - at) (drop at s)) l.next l.ending
      first = ended_first s at r read l e

      -- Its text begins with `#`.
      hash : begins (text "#") (take (l.text_end - at) (drop at s)) ≡ true
      hash = first_byte 35 s at _ l.next l.ending first refl refl ∙ sym h ∙ p

      -- If the line is the first line of an index, then the comments are refused with number 6 at place `at`.
      pub comments_index : (y : Refusal) → d ≡ true → y ≡ refusal IndexAmongComments at → refused y ≡ x
      unfolding comments
      comments_index y z q = ap refused q ∙ rw (first.cut, comments, hash, sym k ∙ z) at left

      -- Otherwise the line is a comment, and the outcome is the same from the next line.
      pub comments_step : d ≡ false → comments l.next (lines (drop l.next s)) ≡ x
      unfolding comments
      comments_step z = rw (first.cut, comments, hash, sym k ∙ z, ← first.next_is) at left
