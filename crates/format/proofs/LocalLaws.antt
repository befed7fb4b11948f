-- What a part of a file means depends neither on where it is nor on what follows it.
use Rattle.std.proofs.Common.{◌≡◌, ℕ, suc, ◌+◌, ◌-◌, ◌<◌, ◌≤◌, Bool, true, false, eqb, [], ◌∷◌, ◌++◌, length, take, drop, replicate, sym, refl, ap, ◌∙◌, subst, append_assoc, append-nil, le_refl, add-zero, zero-add, arith, length-drop, take-append-drop, length-take-le, drop-drop, take_at, ne_eqb}
use mathlib.Core.Bool.{and-false}
use Rattle.std.specs.Prelude.{Option, None, Some}
use lib.ListN.{length-replicate}
use lib.Seq.{take-append-le, drop-append-le}
use borrow.Author.Tests.{eqb-false}
use Rattle.format.specs.declared.layout.Header.{Header}
use Rattle.format.specs.declared.layout.Tree.{Tree}
use Rattle.format.specs.Bytes.{Bytes, text, begins, same}
use Rattle.format.specs.Outcome.{accepted}
use Rattle.format.specs.Line.{line_end, Lines, unended, line, lines}
use Rattle.format.specs.Header.{header}
use Rattle.format.specs.Comments.{comments}
use Rattle.format.specs.Tree.{yaml_line, tree_end, mark, free_space, with_room, tree}
use Rattle.format.specs.File.{first_block, goes_on}
use Rattle.format.proofs.OutcomeLaws.{accepted_holds, accepts_bind}
use Rattle.format.proofs.ByteLaws.{same_true, begins_true, begins_append, lacks, lacks_head, lacks_tail, lacks_replicate}
use Rattle.format.proofs.LineLaws.{join_lines, join_lines_lem}
use Rattle.format.proofs.ReadLaws.{Reading, Front, header_front, comments_front, tree_front}

module _ {Next : Bytes → Type 0} {reads : Reading} {n m : ℕ} (l : ℕ) (p z : Bytes) (f : Front Next reads n (p ++ z) m)
    (size : m ≡ n + l) (inside : l ≤ length p) where
  -- What is read of `p` followed by `z` is the first `l` bytes of `p`.
  front_part : f.front ≡ take l p
  front_part =
      sym (take_at f.front f.rest l (omega (arith, f.end))) ∙ ap (take l) (sym f.whole) ∙ take-append-le l p z inside

  -- It reads the same from any offset `k` with any `y` after `p`, provided that the rest of `p` and `y` may come next.
  front_again : (k : ℕ) (y : Bytes) → Next (drop l p ++ y) → reads k (p ++ y) (k + l)
  front_again k y h =
      let again : reads k (take l p ++ (drop l p ++ y)) (k + length (take l p)) = rw front_part at (f.local k (drop l p ++ y) h) in
      rw (← append_assoc, take-append-drop, length-take-le l p inside) at again

-- If what is read of `p` followed by `z` ends within `p`, it reads the same with `y` after `p`, provided that the rest
-- of `p` and `y` may come next.
front_within : {Next : Bytes → Type 0} {reads : Reading} {n m : ℕ} (p z : Bytes) → Front Next reads n (p ++ z) m → m ≤ n + length p
    → (y : Bytes) → Next (drop (m - n) p ++ y) → reads n (p ++ y) m
front_within {reads} {n} {m} p z f inside y next =
    let size : m ≡ n + (m - n) = omega (arith, f.end) in
    subst (reads n (p ++ y)) (sym size) (front_again (m - n) p z f size (omega arith) n y next)

-- If a header ends within `p`, it is the same with anything after `p`.
pub header_again : (p z y : Bytes) (h : Header) → header (p ++ z) ≡ accepted h → h.end.0 ≤ length p → header (p ++ y) ≡ accepted h
header_again p z y h q inside = front_within p z (header_front (p ++ z) h q) (omega arith) y tt

-- A tree is the same at any offset, with anything after it.
tree_again : (n : ℕ) (t z : Bytes) → tree_end n (lines (t ++ z)) ≡ accepted (Some (n + length t)) → (k : ℕ) (y : Bytes)
    → tree_end k (lines (t ++ y)) ≡ accepted (Some (k + length t))
tree_again n t z q k y = front_again (length t) t z (tree_front n (t ++ z) (n + length t) q) refl (le_refl (length t)) k y tt

-- A text that is one tree at offset 0 is one at any offset, with anything after it.
pub tree_anywhere : (t : Bytes) → tree_end 0 (lines t) ≡ accepted (Some (length t)) → (n : ℕ) (z : Bytes)
    → tree_end n (lines (t ++ z)) ≡ accepted (Some (n + length t))
tree_anywhere t q = tree_again 0 t [] (rw (append-nil, zero-add) q)

-- If the bytes do not begin with `%YAML 1.1`, no tree begins there.
pub no_tree : (n : ℕ) (s : Bytes) → begins yaml_line s ≡ false → tree_end n (lines s) ≡ accepted None
unfolding tree_end join_lines
no_tree n s h = on_lines (lines s) (rw join_lines_lem h)
  where
    first : (t x : Bytes) → begins yaml_line (t ++ x) ≡ false → (b : Bool) → same t yaml_line ≡ b → same t yaml_line ≡ false
    first t x q true r = r ∙ sym (begins_append yaml_line x) ∙ ap (λ (u : Bytes). begins yaml_line (u ++ x)) (sym (same_true t yaml_line r)) ∙ q
    first t x q false r = r

    on_lines : (l : Lines) → begins yaml_line (join_lines l) ≡ false → tree_end n l ≡ accepted None
    on_lines (unended t) q = refl
    on_lines (line t e l) q = rw (first t (line_end e ++ join_lines l) q (same t yaml_line) refl, tree_end)

-- If the bytes begin with a mark, no tree begins there.
pub no_tree_mark : (n : ℕ) (s : Bytes) → begins mark s ≡ true → tree_end n (lines s) ≡ accepted None
no_tree_mark n s h = no_tree n s (ap (begins yaml_line) (begins_true mark s h))

-- Bytes without D3 are free space, and the free space of what follows is added to them.
pub free_space_lacks : (p z : Bytes) → lacks 0xD3 p ≡ true → free_space (p ++ z) ≡ length p + free_space z
unfolding free_space
free_space_lacks [] z h = omega arith
free_space_lacks (b ∷ p) z h =
    let other : eqb 0xD3 b ≡ false = ne_eqb 0xD3 b (λ e. eqb-false b 0xD3 (lacks_head 0xD3 b p h) (sym e)) in
    rw (other, free_space) (omega (arith, free_space_lacks p z (lacks_tail 0xD3 b p h)))

-- Spaces are free space, and the free space of what follows is added to them.
pub free_space_spaces : (k : ℕ) (z : Bytes) → free_space (replicate k 32 ++ z) ≡ k + free_space z
free_space_spaces k z = rw length-replicate at (free_space_lacks (replicate k 32) z (lacks_replicate 0xD3 32 k refl))

-- If there is no D3 in the bytes, all of them are free space.
pub free_space_all : (s : Bytes) → lacks 0xD3 s ≡ true → free_space s ≡ length s
unfolding free_space
free_space_all s h = rw (append-nil, add-zero) at (free_space_lacks s [] h)

-- If no mark begins at the byte `b` before `p` and `y`, none begins there with a mark after `p`, since two marks cannot
-- overlap.
mark_apart : (b : ℕ) (p y z : Bytes) → begins mark (b ∷ p ++ y) ≡ false → begins mark (b ∷ p ++ (mark ++ z)) ≡ false
mark_apart b [] y z h = simp and-false
mark_apart b (c ∷ []) y z h = simp and-false
mark_apart b (c ∷ d ∷ []) y z h = simp and-false
mark_apart b (c ∷ d ∷ e ∷ p) y z h = h

-- If the free space of `p` followed by `y` is exactly `p`, it is exactly `p` with a mark after `p`.
free_before : (p y z : Bytes) → free_space (p ++ y) ≡ length p → free_space (p ++ (mark ++ z)) ≡ length p
unfolding free_space
free_before [] y z h = refl
free_before (b ∷ p) y z h = go (begins mark (b ∷ p ++ y)) refl (free_before p y z)
  where
    go : (t : Bool) → begins mark (b ∷ p ++ y) ≡ t → (free_space (p ++ y) ≡ length p → free_space (p ++ (mark ++ z)) ≡ length p)
        → free_space (b ∷ p ++ (mark ++ z)) ≡ suc (length p)
    go true e i = let clash : 0 ≡ suc (length p) = rw (e, free_space) at h in absurd (omega arith)
    go false e i =
        let one : suc (free_space (p ++ y)) ≡ suc (length p) = rw (e, free_space) at h in
        rw (mark_apart b p y z e, free_space) (ap suc (i (omega arith)))

-- If the free space of `p` followed by `y` is exactly `p`, it is exactly `p` with any bytes after `p` that begin with a
-- mark.
pub free_space_again : (p y z : Bytes) → free_space (p ++ y) ≡ length p → begins mark z ≡ true → free_space (p ++ z) ≡ length p
free_space_again p y z h m = subst (λ (x : Bytes). free_space (p ++ x) ≡ length p) (sym (begins_true mark z m)) (free_before p y (drop 4 z) h)

-- If the free space of `p` followed by `y` is the first `l` bytes of `p`, it is the same with `z` after `p` if a mark
-- comes next.
pub free_space_within : (l : ℕ) (p y z : Bytes) → l ≤ length p → free_space (p ++ y) ≡ l → begins mark (drop l p ++ z) ≡ true
    → free_space (p ++ z) ≡ l
free_space_within l p y z inside h m =
    let parts : (x : Bytes) → take l p ++ (drop l p ++ x) ≡ p ++ x = λ x. rw (← append_assoc, take-append-drop) in
    let size : length (take l p) ≡ l = length-take-le l p inside in
    sym (ap free_space (parts z)) ∙ free_space_again (take l p) (drop l p ++ y) (drop l p ++ z) (ap free_space (parts y) ∙ h ∙ sym size) m ∙ size

-- After the free space there is no more free space.
free_space_end : (s : Bytes) → free_space (drop (free_space s) s) ≡ 0
unfolding free_space
free_space_end [] = refl
free_space_end (b ∷ s) = go (begins mark (b ∷ s)) refl (free_space_end s)
  where
    go : (t : Bool) → begins mark (b ∷ s) ≡ t → free_space (drop (free_space s) s) ≡ 0 → free_space (drop (free_space (b ∷ s)) (b ∷ s)) ≡ 0
    go true e i = rw (e, free_space) (rw e)
    go false e i = rw (e, free_space) i

-- If the bytes begin with a mark, there is no free space before it.
pub free_space_mark : (s : Bytes) → begins mark s ≡ true → free_space s ≡ 0
unfolding free_space
free_space_mark [] h = refl
free_space_mark (b ∷ s) h = rw (h, free_space)

-- If free space ends before the end of the bytes, it ends at a mark.
pub free_space_stops : (s : Bytes) → free_space s < length s → begins mark (drop (free_space s) s) ≡ true
unfolding free_space
free_space_stops [] h = absurd (omega arith)
free_space_stops (b ∷ s) h = go (begins mark (b ∷ s)) refl (free_space_stops s)
  where
    go : (t : Bool) → begins mark (b ∷ s) ≡ t → (free_space s < length s → begins mark (drop (free_space s) s) ≡ true)
        → begins mark (drop (free_space (b ∷ s)) (b ∷ s)) ≡ true
    go true e i = rw (e, free_space) e
    go false e i =
        let more : suc (free_space s) < suc (length s) = rw (e, free_space) at h in
        rw (e, free_space) (i (omega arith))

-- There is no free space at the offset where the first block has to begin.
pub start_free : (n : ℕ) (s : Bytes) (t : Option Tree) → tree n s ≡ accepted t → goes_on t (drop n s) ≡ true → free_space (drop (first_block n t) s) ≡ 0
unfolding tree with_room goes_on first_block free_space
start_free n s t =
    accepted_holds (λ u. goes_on u (drop n s) ≡ true → free_space (drop (first_block n u) s) ≡ 0) (tree n s) t
    (accepts_bind _ (tree_end n (lines (drop n s))) _ with_room_lem)
  where
    marked : (u : Bytes) → goes_on None u ≡ true → free_space u ≡ 0
    marked [] h = refl
    marked (b ∷ u) h = free_space_mark (b ∷ u) h

    with_room_lem : (m : Option ℕ) → tree_end n (lines (drop n s)) ≡ accepted m → goes_on (with_room n s m) (drop n s) ≡ true
        → free_space (drop (first_block n (with_room n s m)) s) ≡ 0
    with_room_lem None e h = marked (drop n s) h
    with_room_lem (Some m) e h = ap free_space (sym (drop-drop (free_space (drop m s)) m s)) ∙ free_space_end (drop m s)

-- If a tree is read, the bytes begin with `%YAML 1.1`.
pub tree_begins : (n : ℕ) (s : Bytes) (m : ℕ) → tree_end n (lines s) ≡ accepted (Some m) → begins yaml_line s ≡ true
tree_begins n s m h = go (begins yaml_line s) refl
  where
    go : (t : Bool) → begins yaml_line s ≡ t → begins yaml_line s ≡ true
    go true e = e
    go false e = let z : accepted None ≡ accepted (Some m) = sym (no_tree n s e) ∙ h in cc

-- If a tree or a block begins at the end of the comments, or the file ends there, no comment begins there.
pub goes_on_no_comment : (n : ℕ) (s : Bytes) (t : Option Tree) → tree n s ≡ accepted t → goes_on t (drop n s) ≡ true → begins (text "#") (drop n s) ≡ false
unfolding tree with_room goes_on
goes_on_no_comment n s t =
    accepted_holds (λ u. goes_on u (drop n s) ≡ true → begins (text "#") (drop n s) ≡ false) (tree n s) t
    (accepts_bind _ (tree_end n (lines (drop n s))) _ with_room_lem)
  where
    marked : (u : Bytes) → goes_on None u ≡ true → begins (text "#") u ≡ false
    marked [] h = refl
    marked (b ∷ u) h = ap (begins (text "#")) (begins_true mark (b ∷ u) h)

    with_room_lem : (m : Option ℕ) → tree_end n (lines (drop n s)) ≡ accepted m → goes_on (with_room n s m) (drop n s) ≡ true → begins (text "#") (drop n s) ≡ false
    with_room_lem None e h = marked (drop n s) h
    with_room_lem (Some m) e h = ap (begins (text "#")) (begins_true yaml_line (drop n s) (tree_begins n (drop n s) m e))

module _ (n : ℕ) (p z y : Bytes) (before : n ≤ length p) where
  -- Comments that end within `p` are the same with `y` after `p`, if no `#` comes next.
  pub comments_kept : (m : ℕ) → comments n (lines (drop n (p ++ z))) ≡ accepted m → m ≤ length p → begins (text "#") (drop m (p ++ y)) ≡ false
      → comments n (lines (drop n (p ++ y))) ≡ accepted m
  comments_kept m e inside h =
      let front = comments_front n (drop n p ++ z) m (rw drop-append-le at e) in
      let after : n + (m - n) ≡ m = omega (arith, front.end) in
      let next : begins (text "#") (drop (m - n) (drop n p) ++ y) ≡ false = rw (drop-drop, after, ← drop-append-le m p y inside) h in
      rw drop-append-le (front_within (drop n p) z front (simp length-drop (omega arith)) y next)

  -- If the first block begins within `p` or at its end, and a mark is there with `y` after `p`, then the tree and its
  -- room are the same with `y` after `p`.
  pub tree_kept : (t : Option Tree) → tree n (p ++ z) ≡ accepted t → first_block n t ≤ length p → begins mark (drop (first_block n t) p ++ y) ≡ true
      → tree n (p ++ y) ≡ accepted t
  unfolding tree with_room first_block
  tree_kept t =
      accepted_holds (λ u. first_block n u ≤ length p → begins mark (drop (first_block n u) p ++ y) ≡ true → tree n (p ++ y) ≡ accepted u)
      (tree n (p ++ z)) t (accepts_bind _ (tree_end n (lines (drop n (p ++ z)))) _ with_room_lem)
    where
      with_room_lem : (m : Option ℕ) → tree_end n (lines (drop n (p ++ z))) ≡ accepted m → first_block n (with_room n (p ++ z) m) ≤ length p
          → begins mark (drop (first_block n (with_room n (p ++ z) m)) p ++ y) ≡ true → tree n (p ++ y) ≡ accepted (with_room n (p ++ z) m)
      with_room_lem None e inside h = rw (drop-append-le n p y, no_tree_mark n (drop n p ++ y) h)
      with_room_lem (Some m) e inside h =
          let front = tree_front n (drop n p ++ z) m (rw drop-append-le at e) in
          let end = front_within (drop n p) z front (simp length-drop (omega arith)) y tt in
          let inner : m ≤ length p = omega arith in
          let free = ap free_space (sym (drop-append-le m p z inner)) in
          let room = free_space_within (free_space (drop m (p ++ z))) (drop m p) z y (simp length-drop (omega arith)) free (rw drop-drop h) in
          rw (drop-append-le n p y, end, drop-append-le m p y, room)
