-- Laws about the edit of a file: one for each return, and everything that is promised about it.
use Prim.Native.Nat.{ℕ, ◌+◌, ◌-◌, ◌≤◌}
use Rattle.std.specs.Prelude.{Option, None, Some}
use native.Mathlib.Omega.{arith}
use mathlib.Core.Path.{◌≡◌, refl, sym, ◌∙◌}
use mathlib.Core.Bool.{Bool, true, false, not}
use mathlib.Core.List.{◌++◌, append_assoc}
use lib.ListN.{length, take, drop, replicate, length-drop}
use lib.Seq.{length-take-le, drop-drop}
use lib.Dec.{leb}
use borrow.Author.Tests.{not-true, not-false, leb-true}
use Rattle.format.specs.declared.layout.Layout.{Layout}
use Rattle.format.specs.declared.layout.Tree.{Tree}
use Rattle.format.specs.declared.refusal.Reason.TheVariants.{EditWithoutTree, TextNotOneTree, TextLongerThanRoom}
use Rattle.format.specs.Bytes.{Bytes}
use Rattle.format.specs.Outcome.{Refusal, Outcome, accepted, refused, refusal, ◌>>=◌}
use Rattle.format.specs.File.{File, file, layout_of, layout}
use Rattle.format.specs.Edit.{is_one_tree, filled, edit_tree, edit, edit_leaves}
use Rattle.format.specs.Promise.{Done}
use Rattle.format.proofs.OutcomeLaws.{accepted_holds, accepts_bind}
use Rattle.format.proofs.EditTreeLaws.{FileRoom, file_room}
use Rattle.format.proofs.EditLaws.{accepted_editable, editable_accepted, accepted_edited}
use Rattle.edit.specs.Tree.{HasTree}

-- If the edit is refused, returning the refusal and leaving the file unchanged keeps the whole promise.
refused_done : (s t : Bytes) (x : Refusal) → edit s t ≡ refused x → Done s t s (refused x)
unfolding edit_leaves
refused_done s t x e =
    let never : ◌≡◌ {A = Outcome (Unit {0})} (refused x) (accepted tt) → ⊥ = λ h. let z : ◌≡◌ {A = ℕ} 0 1 = cc in omega arith in
    record {
      answer = rw e;
      bytes = rw e;
      accepts = λ h. cc (editable_accepted s t h);
      only = λ h. absurd (never h);
      edited = λ h. absurd (never h);
    }

-- If the edit is accepted, leaving the edited file keeps the whole promise.
accepted_done : (s t u : Bytes) → edit s t ≡ accepted u → Done s t u (accepted tt)
unfolding edit_leaves
accepted_done s t u e =
    record { answer = rw e; bytes = rw e; accepts = λ h. refl; only = λ h. accepted_editable s t u e; edited = λ h. accepted_edited s t u e }

module _ (s : Bytes) (a : Outcome Layout) (h : a ≡ layout s) where
  -- If the file is refused, the edit is refused in the same way.
  pub edit_refused : (t : Bytes) (r : Refusal) → a ≡ refused r → Done s t s (refused r)
  unfolding layout edit
  edit_refused t r e = refused_done s t r (on (file s) (sym h ∙ e))
    where
      on : (o : Outcome File) → ◌>>=◌ o (λ f. accepted (layout_of f)) ≡ refused r → ◌>>=◌ o (λ f. edit_tree s t f.tree) ≡ refused r
      on (accepted f) q = cc
      on (refused x) q = cc

  -- If the layout of the file is read, the file is accepted and has the tree of that layout.
  pub edit_accepted : (l : Layout) → a ≡ accepted l → HasTree s l.tree
  unfolding layout layout_of
  edit_accepted l e =
      accepted_holds (λ k. HasTree s k.tree) (layout s) l (accepts_bind _ (file s) _ (λ f q. record { found = f; read = q; is = refl }))
      (sym h ∙ e)

-- A text that fits is no longer than the room.
pub text_inside : (s t : Bytes) (n m : ℕ) (d : Bool) → not d ≡ false → d ≡ leb (length t) (m - n) → m ≤ length s
    → length t ≤ length (take (m - n) (drop n s))
text_inside s t n m d p fit inside =
    rw (length-take-le (m - n) (drop n s) (simp length-drop (omega arith))) (leb-true (length t) (m - n) (sym fit ∙ not-false d p))

-- If the room holds the text and then spaces, the whole file is as `filled` defines it.
room_filled : (s t : Bytes) (n m : ℕ) (room : Bytes) → room ≡ t ++ replicate (length (take (m - n) (drop n s)) - length t) 32 → n ≤ m → m ≤ length s
    → take n s ++ (room ++ drop (m - n) (drop n s)) ≡ filled s n m t
unfolding filled
room_filled s t n m room e order inside =
    let size : length (take (m - n) (drop n s)) ≡ m - n = length-take-le (m - n) (drop n s) (simp length-drop (omega arith)) in
    let end : n + (m - n) ≡ m = omega arith in
    rw (e, size, drop-drop, end) (simp append_assoc)

module _ (s t : Bytes) (x : Option Tree) (h : HasTree s x) where
  -- The edit of an accepted file is the edit of its tree.
  edit_tree_lem : edit s t ≡ edit_tree s t x
  unfolding edit
  edit_tree_lem = rw (h.read, h.is)

  -- If the file has no tree, the edit is refused with 18.
  pub tree_none : (r : Refusal) → x ≡ None → r ≡ refusal EditWithoutTree 0 → Done s t s (refused r)
  unfolding edit_tree
  tree_none r q e = rw e (refused_done s t _ (rw (edit_tree_lem, q)))

  module _ (k : Tree) (q : x ≡ Some k) where
    room : FileRoom s h.found k.start.0 k.room_end.0
    room = file_room s h.found h.read k.start.0 k.end.0 k.room_end.0 (h.is ∙ q)

    -- The room does not end before it begins.
    pub room_order : k.start.0 ≤ k.room_end.0
    room_order = room.order

    -- The room ends inside the file.
    pub room_inside : k.room_end.0 ≤ length s
    room_inside = room.inside

    module _ (b : Bool) (one : b ≡ is_one_tree t) where
      -- If the text is not exactly one tree, the edit is refused with 19.
      pub text_other : (r : Refusal) → not b ≡ true → r ≡ refusal TextNotOneTree 0 → Done s t s (refused r)
      unfolding edit_tree
      text_other r p f = rw f (refused_done s t _ (rw (edit_tree_lem, q, sym one ∙ not-true b p)))

      module _ (p : not b ≡ false) (d : Bool) (fit : d ≡ leb (length t) (k.room_end.0 - k.start.0)) where
        -- If the text is longer than the room, the edit is refused with 20.
        pub text_long : (r : Refusal) → not d ≡ true → r ≡ refusal TextLongerThanRoom 0 → Done s t s (refused r)
        unfolding edit_tree
        text_long r l f = rw f (refused_done s t _ (rw (edit_tree_lem, q, sym one ∙ not-false b p, sym fit ∙ not-true d l)))

        -- If the text fits and the room is filled with it, the file is edited.
        pub text_put : (Room-after : Bytes) → not d ≡ false
            → Room-after ≡ t ++ replicate (length (take (k.room_end.0 - k.start.0) (drop k.start.0 s)) - length t) 32
            → Done s t (take k.start.0 s ++ (Room-after ++ drop (k.room_end.0 - k.start.0) (drop k.start.0 s))) (accepted tt)
        unfolding edit_tree
        text_put Room-after l f =
            rw (room_filled s t k.start.0 k.room_end.0 Room-after f room_order room_inside)
            (accepted_done s t _ (rw (edit_tree_lem, q, sym one ∙ not-false b p, sym fit ∙ not-false d l)))
