-- Laws about lines: one for each return of the functions that read a line, and what a line that was read states about
-- the bytes.
use Prim.Native.Nat.{ℕ, zero, suc, ◌+◌, ◌-◌, ◌≤◌, ◌<◌}
use native.Mathlib.Numerals.{add-one}
use native.Mathlib.Omega.{arith}
use mathlib.Core.Path.{◌≡◌, refl, sym, ap, ◌∙◌}
use mathlib.Core.Bool.{Bool, true, false, ◌&&◌, and-false}
use mathlib.Core.List.{[], ◌∷◌, ◌++◌}
use lib.ListN.{length, take, drop, get_or, take-append-drop, length-take, length-drop, drop_of_length-le}
use lib.Seq.{take-suc, take_all, take-length, drop-cons, drop-drop, get_or-drop, take_at}
use lib.Dec.{eqb, ltb}
use borrow.Author.Tests.{ltb-true, ltb-false, le-ltb, eqb-true, ne_eqb}
use Rattle.octets.specs.Octets.{index_of, index_after}
use Rattle.std.proofs.Math.Seq.{slice}
use Rattle.format.specs.declared.line.LineEnd.{LineEnd}
use Rattle.format.specs.declared.line.LineEnd.TheVariants.{Lf, Crlf}
use Rattle.format.specs.Bytes.{Bytes, begins}
use Rattle.format.specs.Line.{line_end, Lines, unended, line, after_line, lines}
use Rattle.format.proofs.ByteLaws.{begins_true, lacks, lacks_cons}
use Rattle.format.proofs.LineLaws.{join_lines, ends_in, ends_snoc, IsLine, plain_line, join_lines_lem, lines_unended, lines_line, line_split, lines_after}
use Rattle.scan.proofs.TextLaws.{begins_inside}
use Rattle.scan.specs.declared.line.Line.{Line}
use Rattle.std.specs.Prelude.{Option, Some, None}
use Rattle.scan.specs.Line.{line_at, EndsInside, LineRead}

-- No byte before the first `b` is `b`.
index_lacks : (b : ℕ) (u : Bytes) (n : ℕ) → n ≤ index_of b u → lacks b (take n u) ≡ true
unfolding index_of
index_lacks b u zero h = refl
index_lacks b [] (suc n) h = absurd (omega arith)
index_lacks b (a ∷ u) (suc n) h = go (eqb a b) refl h (index_lacks b u n)
  where
    go : (x : Bool) → eqb a b ≡ x → suc n ≤ index_after x (index_of b u) → (n ≤ index_of b u → lacks b (take n u) ≡ true)
        → lacks b (a ∷ take n u) ≡ true
    go true e h i = absurd (omega arith)
    go false e h i = lacks_cons b a (take n u) e (i (omega arith))

-- If the search for `b` ends before the end of the bytes, the byte there is `b`.
index_found : (b : ℕ) (u : Bytes) → index_of b u < length u → get_or u (index_of b u) 0 ≡ b
unfolding index_of
index_found b [] h = absurd (omega arith)
index_found b (a ∷ u) h = go (eqb a b) refl h (index_found b u)
  where
    go : (x : Bool) → eqb a b ≡ x → index_after x (index_of b u) < suc (length u) → (index_of b u < length u → get_or u (index_of b u) 0 ≡ b)
        → get_or (a ∷ u) (index_after x (index_of b u)) 0 ≡ b
    go true e h i = eqb-true a b e
    go false e h i = i (omega arith)

-- The bytes from `at` to `end` end in `b` exactly if there is one and the last is `b`.
ends_at : (b : ℕ) (s : Bytes) (at end : ℕ) → end ≤ length s
    → ends_in b (take (end - at) (drop at s)) ≡ (ltb at end && eqb (get_or s (end - 1) 0) b)
ends_at b s at end h = go (ltb at end) refl
  where
    go : (x : Bool) → ltb at end ≡ x → ends_in b (take (end - at) (drop at s)) ≡ (ltb at end && eqb (get_or s (end - 1) 0) b)
    go true e =
        let p = ltb-true at end e in
        let more : end - at ≡ suc (end - 1 - at) = omega arith in
        let last : at + (end - 1 - at) ≡ end - 1 = omega arith in
        rw (e, more, take-suc (drop at s) (end - 1 - at) 0 (simp length-drop (omega arith)), ends_snoc, get_or-drop, last)
    go false e =
        let p = ltb-false at end e in
        let none : end - at ≡ 0 = omega arith in
        rw (e, none)

-- If the text of a line is from `at` to `m`, and its line end follows and ends at `next`, then this line is read at
-- `at`.
text_read : (s : Bytes) (at m next : ℕ) (e : LineEnd) → IsLine (take (m - at) (drop at s)) e → drop m s ≡ line_end e ++ drop next s
    → next ≡ m + length (line_end e) → EndsInside (length s) at m next → LineRead s at (Some (record { text_end = m; next = next; ending = e }))
unfolding line_at
text_read s at m next e l d n i =
    let t = take (m - at) (drop at s) in
    let to : at + (m - at) ≡ m = omega arith in
    let size : at + length t ≡ m = simp (length-take, length-drop) (omega arith) in
    let split = rw (drop-drop, to, d) at (sym (take-append-drop (m - at) (drop at s))) in
    record { is = rw (ap lines split ∙ lines_line t e (drop next s) l, size, n); inside = i }

-- No line begins at the end of the bytes or after it.
pub line_none : (s : Bytes) (at : ℕ) → length s ≤ at → LineRead s at None
unfolding line_at lines
line_none s at h = record { is = rw (drop_of_length-le s h); inside = tt }

-- A 0A at the offset ends an empty line.
pub line_empty : (s : Bytes) (at : ℕ) (x : Bool) → x ≡ begins (10 ∷ []) (drop at s) → x ≡ true → LineRead s at (Some (record { text_end = at; next = at + 1; ending = Lf }))
line_empty s at x h e =
    let b = sym h ∙ e in
    let none : at - at ≡ 0 = omega arith in
    let rest = rw drop-drop at (begins_true (10 ∷ []) (drop at s) b) in
    let inside : EndsInside (length s) at at (at + 1) = omega (arith, begins_inside (10 ∷ []) at s b (omega arith)) in
    text_read s at at (at + 1) Lf (rw none (plain_line [] Lf refl refl)) rest refl inside

-- `end` is where the first 0A at or after `at` is, or the end of the bytes.
module _ (s : Bytes) (at end : ℕ) (f : end ≡ at + index_of 10 (slice at (length s) s)) where
  -- The search covers every byte from `at` on.
  found : end ≡ at + index_of 10 (drop at s)
  found = rw (take-length s) at f

  -- No byte from `at` up to `end` is 0A.
  before : (m : ℕ) → m ≤ end → lacks 10 (take (m - at) (drop at s)) ≡ true
  before m h = index_lacks 10 (drop at s) (m - at) (omega (arith, found))

  -- If `end` is before the end of the bytes, the byte there is 0A.
  feed : end < length s → drop end s ≡ 10 ∷ drop (end + 1) s
  feed h =
      let there = rw (get_or-drop, ← found) at (index_found 10 (drop at s) (simp length-drop (omega (arith, found)))) in
      rw (add-one end) (rw there at (drop-cons s end 0 h))

  -- If there is no 0A, the line is unended.
  pub line_unended : end ≡ length s → LineRead s at None
  unfolding line_at
  line_unended h =
      let all = take_all (end - at) (drop at s) (simp length-drop (omega arith)) in
      record { is = rw (lines_unended (drop at s) (rw all at (before end (omega arith)))); inside = tt }

  module _ (q : end ≤ length s) (n : end ≡ length s → ⊥) where
    -- If a 0D is directly before the 0A, it belongs to the line end.
    pub line_crlf : at < end → get_or s (end - 1) 0 ≡ 13 → LineRead s at (Some (record { text_end = end - 1; next = end + 1; ending = Crlf }))
    line_crlf some e =
        let to : suc (end - 1) ≡ end = omega arith in
        let rest = rw (e, to, feed (omega arith)) at (drop-cons s (end - 1) 0 (omega arith)) in
        let text : IsLine (take (end - 1 - at) (drop at s)) Crlf = record { no_feed = before (end - 1) (omega arith); no_return = λ z. cc } in
        text_read s at (end - 1) (end + 1) Crlf text rest (omega arith) (omega arith)

    -- If no 0D is directly before the 0A, the line end is the 0A alone.
    lf_alone : (ltb at end && eqb (get_or s (end - 1) 0) 13) ≡ false → LineRead s at (Some (record { text_end = end; next = end + 1; ending = Lf }))
    lf_alone e =
        let text = plain_line _ Lf (before end (omega arith)) (ends_at 13 s at end q ∙ e) in
        text_read s at end (end + 1) Lf text (feed (omega arith)) refl (omega (arith, found))

    -- So it is if the line is empty, and if the last byte of the line is another one.
    pub line_lf_empty : end ≤ at → LineRead s at (Some (record { text_end = end; next = end + 1; ending = Lf }))
    line_lf_empty h = lf_alone (rw (le-ltb at end h))

    pub line_lf : (get_or s (end - 1) 0 ≡ 13 → ⊥) → LineRead s at (Some (record { text_end = end; next = end + 1; ending = Lf }))
    line_lf h = lf_alone (rw (ne_eqb (get_or s (end - 1) 0) 13 h) (and-false (ltb at end)))

-- The first line from offset `at` on has the text `t` and the line end `e`, and the next line begins at `next`.
pub record FirstLine (s : Bytes) (at : ℕ) (t : Bytes) (next : ℕ) (e : LineEnd) : Type 0 where
  pub cut : lines (drop at s) ≡ line t e (lines (drop next s))
  pub next_is : next ≡ after_line at t e

-- If the first line has the text `t` and the line end `e`, the other lines are the lines of the bytes after it.
pub lines_first : (s : Bytes) (at : ℕ) (t : Bytes) (e : LineEnd) (l : Lines) → lines (drop at s) ≡ line t e l
    → FirstLine s at t (after_line at t e) e
lines_first s at t e l h =
    let over : at + (length t + length (line_end e)) ≡ after_line at t e = omega arith in
    let rest = rw (drop-drop, over) at (lines_after (drop at s) t e l h) in
    record { cut = h ∙ ap (line t e) rest; next_is = refl }

-- If `c` is neither 0A nor 0D, the text of the first line begins with `c` exactly if the bytes do.
pub first_byte : (c : ℕ) (s : Bytes) (at : ℕ) (t : Bytes) (next : ℕ) (e : LineEnd) → FirstLine s at t next e → eqb c 10 ≡ false → eqb c 13 ≡ false
    → begins (c ∷ []) t ≡ begins (c ∷ []) (drop at s)
first_byte c s at t next e f p q = sym (ap (begins (c ∷ [])) (line_split (drop at s) t e _ f.cut) ∙ go t e _)
  where
    go : (t : Bytes) (e : LineEnd) (z : Bytes) → begins (c ∷ []) (t ++ (line_end e ++ z)) ≡ begins (c ∷ []) t
    go [] Lf z = rw p
    go [] Crlf z = rw q
    go (a ∷ t) e z = refl

module _ (s : Bytes) (at : ℕ) (r : Option Line) (read : LineRead s at r) where
  -- If the line that was read is unended, no line ends in the bytes from `at` on.
  pub unended_lines : r ≡ None → lines (drop at s) ≡ unended (drop at s)
  unfolding line_at join_lines
  unended_lines e = go (lines (drop at s)) refl
    where
      go : (l : Lines) → lines (drop at s) ≡ l → lines (drop at s) ≡ unended (drop at s)
      go (unended t) h = h ∙ ap unended (sym (ap join_lines h) ∙ join_lines_lem (drop at s))
      go (line t k l) h = cc (read.is, e, h)

  module _ (found : Line) (e : r ≡ Some found) where
    -- If the line that was read ends, the bytes from `at` up to `text_end` are its text.
    pub ended_first : FirstLine s at (take (found.text_end - at) (drop at s)) found.next found.ending
    unfolding line_at
    ended_first = go (lines (drop at s)) refl
      where
        go : (l : Lines) → lines (drop at s) ≡ l → FirstLine s at (take (found.text_end - at) (drop at s)) found.next found.ending
        go (unended t) h = let z : ◌≡◌ {A = ℕ} 0 1 = cc (read.is, e, h) in absurd (omega arith)
        go (line t d l) h =
            let to : found.text_end ≡ at + length t = cc (read.is, e, h) in
            let over : found.next ≡ after_line at t d = cc (read.is, e, h) in
            let ending : found.ending ≡ d = cc (read.is, e, h) in
            let text = ap (take (found.text_end - at)) (line_split (drop at s) t d l h) ∙ take_at t _ (found.text_end - at) (omega arith) in
            rw (text, over, ending) (lines_first s at t d l h)

    -- The offsets of the line are in order and inside.
    pub ended_inside : EndsInside (length s) at found.text_end found.next
    ended_inside = rw e at read.inside
