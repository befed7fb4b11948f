-- Laws about the tree: one for each return of the walks over lines and of the functions that read a tree.
use Prim.Native.Nat.{ℕ, ◌-◌}
use mathlib.Core.Path.{◌≡◌, refl, sym, ap, ◌∙◌}
use mathlib.Core.Bool.{Bool, true, false, ◌||◌, not}
use Rattle.std.specs.Prelude.{Option, None, Some}
use Rattle.std.specs.Result.{MatchResult}
use lib.ListN.{length, take, drop}
use lib.Dec.{eqb}
use borrow.Author.Tests.{not-true, not-false}
use Rattle.format.specs.declared.line.LineEnd.{LineEnd}
use Rattle.format.specs.declared.refusal.Reason.TheVariants.{WrongLineBeforeStart, SecondStartLine, TreeNotEnded}
use Rattle.format.specs.Bytes.{Bytes, same}
use Rattle.format.specs.Outcome.{Refusal, Outcome, accepted, refused, refusal, ◌>>=◌}
use Rattle.format.specs.Line.{Lines, unended, line, lines}
use Rattle.format.specs.Tree.{yaml_line, end_line, is_start, is_directive, content, directives, tree_end, with_room, tree}
use Rattle.format.specs.Edit.{ends_at, is_one_tree}
use Rattle.scan.specs.declared.line.Line.{Line}
use Rattle.scan.specs.Line.{LineRead, ExactRead}
use Rattle.mark.specs.Mark.{MarkFound}
use Rattle.scan.proofs.LineLaws.{FirstLine, unended_lines, ended_first}
use Rattle.scan.proofs.ExactLaws.{other_text, after_first}

module _ (a b x : Bool) (h : x ≡ a) where
  -- If the first of two tests holds, then one of them does.
  pub either_first : x ≡ true → true ≡ (a || b)
  either_first p = rw (sym h ∙ p)

  -- If the first test does not hold, then the second decides.
  pub either_second : (y : Bool) → x ≡ false → y ≡ b → y ≡ (a || b)
  either_second y p k = rw (sym h ∙ p) k

module _ (s : Bytes) (at : ℕ) (r : Option Line) (read : LineRead s at r) (x : Outcome ℕ) where
  -- If no line is left after the start line to end the tree, then the tree is refused with number 10 at place `at`.
  pub content_unended : content at (lines (drop at s)) ≡ x → (y : Refusal) → r ≡ None → y ≡ refusal TreeNotEnded at → refused y ≡ x
  unfolding content
  content_unended left y e q = ap refused q ∙ rw (unended_lines s at r read e) at left

  -- If no line is left before a start line is found, then the tree is refused with number 10 at place `at`.
  pub directives_unended : directives at (lines (drop at s)) ≡ x → (y : Refusal) → r ≡ None → y ≡ refusal TreeNotEnded at → refused y ≡ x
  unfolding directives
  directives_unended left y e q = ap refused q ∙ rw (unended_lines s at r read e) at left

  module _ (l : Line) (e : r ≡ Some l) where
    -- The line that was read is the first line from `at`.
    first : FirstLine s at (take (l.text_end - at) (drop at s)) l.next l.ending
    first = ended_first s at r read l e

    module _ (left : content at (lines (drop at s)) ≡ x) (b : Bool) (h : b ≡ same (take (l.text_end - at) (drop at s)) end_line) where
      -- If the line is the end line, then the tree ends after it.
      pub content_done : b ≡ true → accepted l.next ≡ x
      unfolding content
      content_done p = rw (first.cut, content, sym h ∙ p, ← first.next_is) at left

      module _ (p : b ≡ false) (d : Bool) (k : d ≡ is_start (take (l.text_end - at) (drop at s))) where
        -- If the line would start a second tree, then the tree is refused with number 9 at place `at`.
        pub content_start_lem : (y : Refusal) → d ≡ true → y ≡ refusal SecondStartLine at → refused y ≡ x
        unfolding content
        content_start_lem y z q = ap refused q ∙ rw (first.cut, content, sym h ∙ p, sym k ∙ z) at left

        -- Otherwise the tree goes on, and the outcome is the same from the next line.
        pub content_step : d ≡ false → content l.next (lines (drop l.next s)) ≡ x
        unfolding content
        content_step z = rw (first.cut, content, sym h ∙ p, sym k ∙ z, ← first.next_is) at left

    module _ (left : directives at (lines (drop at s)) ≡ x) (b : Bool) (h : b ≡ is_start (take (l.text_end - at) (drop at s))) where
      -- If the line is a start line, then the outcome is that of the lines after it.
      pub directives_done : (y : Outcome ℕ) → b ≡ true → y ≡ content l.next (lines (drop l.next s)) → y ≡ x
      unfolding directives
      directives_done y p q = q ∙ rw (first.cut, directives, sym h ∙ p, ← first.next_is) at left

      module _ (p : b ≡ false) (d : Bool) (k : d ≡ is_directive (take (l.text_end - at) (drop at s))) where
        -- If the line is neither a start line nor a directive, then the tree is refused with number 8 at place `at`.
        pub directives_other : (y : Refusal) → not d ≡ true → y ≡ refusal WrongLineBeforeStart at → refused y ≡ x
        unfolding directives
        directives_other y z q = ap refused q ∙ rw (first.cut, directives, sym h ∙ p, sym k ∙ not-true d z) at left

        -- If the line is a directive, then the outcome is the same from the next line.
        pub directives_step : not d ≡ false → directives l.next (lines (drop l.next s)) ≡ x
        unfolding directives
        directives_step z = rw (first.cut, directives, sym h ∙ p, sym k ∙ not-false d z, ← first.next_is) at left

module _ (s : Bytes) (at : ℕ) (r : Option (ℕ × LineEnd)) (read : ExactRead s yaml_line at r) where
  -- If the first line is not that of a tree, then there is no tree to end.
  no_end : r ≡ None → tree_end at (lines (drop at s)) ≡ accepted None
  unfolding tree_end
  no_end p = go (lines (drop at s)) refl
    where
      go : (l : Lines) → lines (drop at s) ≡ l → tree_end at l ≡ accepted None
      go (unended t) h = refl
      go (line t e l) h = rw (other_text s yaml_line at r read t e l p h, tree_end)

  -- If the first line is not that of a tree, then no tree begins here.
  pub tree_none : r ≡ None → accepted None ≡ tree at s
  unfolding tree with_room
  tree_none p = rw (no_end p)

  module _ (next : ℕ) (ending : LineEnd) (p : r ≡ Some (next, ending)) (z : Outcome ℕ) (h : z ≡ directives next (lines (drop next s))) where
    -- The walk over the lines after the first states where the tree ends, or its refusal.
    tree_end_lem : tree_end at (lines (drop at s)) ≡ (do m ← z; accepted (Some m))
    unfolding tree_end
    tree_end_lem =
        let first = after_first s yaml_line at r read next ending p in
        rw (first.cut, tree_end, ← first.next_is, h)

    -- If the walk refuses, then the tree is refused in the same way.
    pub tree_refused : (y : Refusal) → z ≡ refused y → refused y ≡ tree at s
    unfolding tree
    tree_refused y e = rw (tree_end_lem, e)

    -- If the tree ends, then it is read. The free space after it runs up to the first mark, or to the end of the file.
    pub tree_read : (end room : ℕ) → z ≡ accepted end → MarkFound s end room
        → accepted (Some (record { start = record { 0 = at }; end = record { 0 = end }; room_end = record { 0 = room } })) ≡ tree at s
    unfolding tree with_room
    tree_read end room e f = rw (f.is, tree_end_lem, e)

module _ (t : Bytes) (r : Option (ℕ × LineEnd)) (read : ExactRead t yaml_line 0 r) where
  -- If the first line of a text is not that of a tree, then the text is no tree.
  pub one_tree_none : r ≡ None → false ≡ is_one_tree t
  unfolding is_one_tree ends_at
  one_tree_none p = rw (no_end t 0 r read p)

  module _ (next : ℕ) (ending : LineEnd) (p : r ≡ Some (next, ending)) (z : Outcome ℕ) (h : z ≡ directives next (lines (drop next t))) where
    -- The text is exactly one tree if and only if the walk ends where the text ends.
    pub one_tree_walked : (y : Bool) → MatchResult z (λ end. y ≡ eqb end (length t)) (λ e. y ≡ false) → y ≡ is_one_tree t
    unfolding is_one_tree ends_at
    one_tree_walked y m = rw (tree_end_lem t 0 r read next ending p z h) (go z m)
      where
        go : (o : Outcome ℕ) → MatchResult o (λ end. y ≡ eqb end (length t)) (λ e. y ≡ false) → y ≡ ends_at (length t) (do n ← o; accepted (Some n))
        go (accepted end) e = e
        go (refused r) e = e
