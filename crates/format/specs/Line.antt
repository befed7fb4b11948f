-- Lines. A line ends at the first byte 0A. One 0D directly before it belongs to the line end.
use Rattle.std.specs.Prelude.{ℕ, ◌+◌, true, false, [], ◌∷◌, length, ◌==◌}
use Rattle.format.specs.declared.line.LineEnd.{LineEnd}
use Rattle.format.specs.declared.line.LineEnd.TheVariants.{Lf, Crlf}
use Rattle.format.specs.Bytes.{Bytes}

-- The bytes of a line end.
abbrev pub line_end : LineEnd → Bytes
line_end Lf = 10 ∷ []
line_end Crlf = 13 ∷ 10 ∷ []

-- A byte string cut into lines. Each `line` holds its bytes without the line end, its line end, and the lines after it.
-- `unended` comes last and holds the bytes that no 0A follows.
pub data Lines : Type 0 where
  unended : Bytes → Lines
  line : Bytes → LineEnd → Lines → Lines

-- The offset after the line `t`, which begins at offset `n` and has the line end `e`.
abbrev pub after_line : ℕ → Bytes → LineEnd → ℕ
after_line n t e = n + length t + length (line_end e)

-- The lines when one more byte, `b`, comes before them. `b` is not 0A. If it is 0D directly before an 0A, it becomes
-- part of the line end.
unfoldable pub lead : ℕ → Lines → Lines
lead b (unended t) = unended (b ∷ t)
lead b (line [] Lf l) = elim (b == 13) [ true ↦ line [] Crlf l | false ↦ line (b ∷ []) Lf l ]
lead b (line [] Crlf l) = line (b ∷ []) Crlf l
lead b (line (a ∷ t) e l) = line (b ∷ a ∷ t) e l

-- The lines of a byte string.
unfoldable pub lines : Bytes → Lines
lines [] = unended []
lines (b ∷ s) = elim (b == 10) [ true ↦ line [] Lf (lines s) | false ↦ lead b (lines s) ]
