-- The lines of a byte string and the byte string determine each other.
use Rattle.std.proofs.Common.{◌≡◌, ℕ, ◌+◌, ◌≤◌, Bool, true, false, eqb, [], ◌∷◌, ◌++◌, length, drop, sym, refl, ap, ◌∙◌, subst, arith, eqb-true}
use lib.Seq.{drop-append-add, drop-append_seam}
use Rattle.format.specs.declared.line.LineEnd.{LineEnd}
use Rattle.format.specs.declared.line.LineEnd.TheVariants.{Lf, Crlf}
use Rattle.format.specs.Bytes.{Bytes}
use Rattle.format.specs.Line.{line_end, Lines, unended, line, lead, lines}
use Rattle.format.proofs.ByteLaws.{lacks, lacks_head, lacks_tail, lacks_cons}

-- A line end has one byte or two.
pub end_length : (e : LineEnd) → (1 ≤ length (line_end e)) × (length (line_end e) ≤ 2)
end_length Lf = (omega arith, omega arith)
end_length Crlf = (omega arith, omega arith)

-- The bytes of these lines, with their line ends.
unfoldable pub join_lines : Lines → Bytes
join_lines (unended t) = t
join_lines (line t e l) = t ++ (line_end e ++ join_lines l)

-- Whether the last byte of `t` is `b`.
abbrev pub ends_in : ℕ → Bytes → Bool
ends_in b [] = false
ends_in b (a ∷ []) = eqb a b
ends_in b (a ∷ c ∷ t) = ends_in b (c ∷ t)

-- A text with the byte `a` added at its end ends in `b` exactly if `a` is `b`.
pub ends_snoc : (b a : ℕ) (s : Bytes) → ends_in b (s ++ (a ∷ [])) ≡ eqb a b
ends_snoc b a [] = refl
ends_snoc b a (c ∷ []) = refl
ends_snoc b a (c ∷ d ∷ s) = ends_snoc b a (d ∷ s)

-- A text that lacks a byte does not end in it.
pub lacks_ends : (b : ℕ) (t : Bytes) → lacks b t ≡ true → ends_in b t ≡ false
lacks_ends b [] h = refl
lacks_ends b (a ∷ []) h = lacks_head b a [] h
lacks_ends b (a ∷ c ∷ t) h = lacks_ends b (c ∷ t) (lacks_tail b a (c ∷ t) h)

-- `t` is the text of a line with the line end `e`. It has no 0A, and if `e` is a lone 0A, no 0D at its end, since that
-- would belong to the line end.
pub record IsLine (t : Bytes) (e : LineEnd) : Type 0 where
  pub no_feed : lacks 10 t ≡ true
  pub no_return : e ≡ Lf → ends_in 13 t ≡ false

-- Every text is the text of a line with its line end, and the bytes after the last line have no 0A.
abbrev pub AreLines : Lines → Type 0
AreLines (unended t) = lacks 10 t ≡ true
AreLines (line t e l) = IsLine t e × AreLines l

-- The bytes of lines with one more byte `b` before them are `b`, followed by the bytes of the lines.
join_lead : (b : ℕ) (l : Lines) → join_lines (lead b l) ≡ b ∷ join_lines l
unfolding join_lines lead
join_lead b (unended t) = refl
join_lead b (line [] Lf l) = go (eqb b 13) refl
  where
    go : (x : Bool) → eqb b 13 ≡ x → join_lines (lead b (line [] Lf l)) ≡ b ∷ 10 ∷ join_lines l
    go true h = rw (h, lead) (cc (eqb-true b 13 h))
    go false h = rw (h, lead)
join_lead b (line [] Crlf l) = refl
join_lead b (line (a ∷ t) e l) = refl

-- The lines of a byte string, joined, are the byte string.
pub join_lines_lem : (s : Bytes) → join_lines (lines s) ≡ s
unfolding join_lines lines
join_lines_lem [] = refl
join_lines_lem (b ∷ s) = go (eqb b 10) refl (join_lines_lem s)
  where
    go : (x : Bool) → eqb b 10 ≡ x → join_lines (lines s) ≡ s → join_lines (lines (b ∷ s)) ≡ b ∷ s
    go true h i = rw (h, lines) (cc (eqb-true b 10 h))
    go false h i = rw (h, lines) (cc (join_lead b (lines s)))

-- Bytes that lack 0A contain no complete line.
pub lines_unended : (z : Bytes) → lacks 10 z ≡ true → lines z ≡ unended z
unfolding lines lead
lines_unended [] h = refl
lines_unended (b ∷ z) h = rw (lacks_head 10 b z h, lines, lines_unended z (lacks_tail 10 b z h))

-- A text that lacks 0A and does not end in 0D is the text of a line with any line end.
pub plain_line : (t : Bytes) (e : LineEnd) → lacks 10 t ≡ true → ends_in 13 t ≡ false → IsLine t e
plain_line t e h k = record { no_feed = h; no_return = λ q. k }

-- The text of a line, without its first byte, is still the text of a line with the same line end.
line_tail : (b : ℕ) (t : Bytes) (e : LineEnd) → IsLine (b ∷ t) e → IsLine t e
line_tail b [] e h = plain_line [] e refl refl
line_tail b (a ∷ t) e h = record { no_feed = lacks_tail 10 b (a ∷ t) h.no_feed; no_return = h.no_return }

-- A byte before a line becomes the first byte of its text, if the result is the text of a line with that line end.
lead_line : (b : ℕ) (t : Bytes) (e : LineEnd) (l : Lines) → IsLine (b ∷ t) e → lead b (line t e l) ≡ line (b ∷ t) e l
unfolding lead
lead_line b [] Lf l h = rw (h.no_return refl, lead)
lead_line b [] Crlf l h = refl
lead_line b (a ∷ t) e l h = refl

-- The lines of a line's text, its line end and further bytes are that line and the lines of those bytes.
pub lines_line : (t : Bytes) (e : LineEnd) (s : Bytes) → IsLine t e → lines (t ++ (line_end e ++ s)) ≡ line t e (lines s)
unfolding lines lead
lines_line [] Lf s h = refl
lines_line [] Crlf s h = refl
lines_line (b ∷ t) e s h =
    rw (lacks_head 10 b t h.no_feed, lines, lines_line t e s (line_tail b t e h)) (lead_line b t e (lines s) h)

-- If `AreLines` holds for `l`, it still holds with one more byte before `l`, unless that byte is 0A.
lead_are_lines : (b : ℕ) (l : Lines) → eqb b 10 ≡ false → AreLines l → AreLines (lead b l)
unfolding lead
lead_are_lines b (unended t) h a = lacks_cons 10 b t h a
lead_are_lines b (line [] Lf l) h a = go (eqb b 13) refl
  where
    go : (x : Bool) → eqb b 13 ≡ x → AreLines (lead b (line [] Lf l))
    go true r = rw (r, lead) (plain_line [] Crlf refl refl, a.1)
    go false r = rw (r, lead) (plain_line (b ∷ []) Lf (lacks_cons 10 b [] h refl) r, a.1)
lead_are_lines b (line [] Crlf l) h a = (record { no_feed = lacks_cons 10 b [] h refl; no_return = λ q. cc }, a.1)
lead_are_lines b (line (c ∷ t) e l) h a =
    (record { no_feed = lacks_cons 10 b (c ∷ t) h a.0.no_feed; no_return = a.0.no_return }, a.1)

-- `AreLines` holds for the lines of every byte string. So none of their texts has a 0A.
pub are_lines : (s : Bytes) → AreLines (lines s)
unfolding lines
are_lines [] = refl
are_lines (b ∷ s) = go (eqb b 10) refl (are_lines s)
  where
    go : (x : Bool) → eqb b 10 ≡ x → AreLines (lines s) → AreLines (lines (b ∷ s))
    go true h i = rw (h, lines) (plain_line [] Lf refl refl, i)
    go false h i = rw (h, lines) (lead_are_lines b (lines s) h i)

-- If `AreLines` holds for `l`, the lines of its joined bytes are `l` again.
pub lines_join : (l : Lines) → AreLines l → lines (join_lines l) ≡ l
unfolding join_lines
lines_join (unended t) h = lines_unended t h
lines_join (line t e l) h = lines_line t e (join_lines l) h.0 ∙ ap (line t e) (lines_join l h.1)

module _ (s t : Bytes) (e : LineEnd) (l : Lines) (h : lines s ≡ line t e l) where
  -- `s` is the first line's text and line end, followed by the bytes of the other lines.
  line_joined : s ≡ t ++ (line_end e ++ join_lines l)
  unfolding join_lines
  line_joined = sym (join_lines_lem s) ∙ ap join_lines h

  -- What follows the first line in `s` is the bytes of the other lines.
  drop_line : drop (length t + length (line_end e)) s ≡ join_lines l
  drop_line =
      ap (drop (length t + length (line_end e))) line_joined
      ∙ drop-append-add t (line_end e ++ join_lines l) (length (line_end e))
      ∙ drop-append_seam (line_end e) (join_lines l)

  -- `s` is the first line's text and line end, followed by the rest of `s` after them.
  pub line_split : s ≡ t ++ (line_end e ++ drop (length t + length (line_end e)) s)
  line_split = line_joined ∙ ap (λ (z : Bytes). t ++ (line_end e ++ z)) (sym drop_line)

  -- The lines after the first are the lines of what follows the first line in `s`.
  pub lines_after : l ≡ lines (drop (length t + length (line_end e)) s)
  lines_after = sym (lines_join l (subst AreLines h (are_lines s)).1) ∙ ap lines (sym drop_line)
