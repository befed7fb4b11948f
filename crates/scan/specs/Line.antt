-- The first of the lines from an offset on.
use Rattle.std.specs.Prelude.{ℕ, ◌+◌, ◌≤◌, ◌<◌, ◌≡◌, true, false, Option, Some, None, length, drop}
use Rattle.format.specs.declared.line.LineEnd.{LineEnd}
use Rattle.format.specs.Bytes.{Bytes, same}
use Rattle.format.specs.Line.{Lines, unended, line, after_line, lines}
use Rattle.scan.specs.declared.line.Line.{Line}

-- The first of some lines, and how it ends. The lines begin at offset `n`.
unfoldable pub line_at : ℕ → Lines → Option Line
line_at n (unended t) = None
line_at n (line t e l) = Some (record { text_end = n + length t; next = after_line n t e; ending = e })

-- The offsets of a line are in order, and inside the `size` bytes: it begins at `n`, its text ends at `m`, and the next
-- line begins at `next`.
pub record EndsInside (size n m next : ℕ) : Type 0 where
  pub begin : n ≤ m
  pub end : m < next
  pub inside : next ≤ size

-- The offsets in the answer are in order and inside, if it is a line that ends.
abbrev pub LineInside : ℕ → ℕ → Option Line → Type 0
LineInside size n (Some l) = EndsInside size n l.text_end l.next
LineInside size n None = Unit {0}

-- `r` is the line at offset `at` of `s`, if it ends.
pub record LineRead (s : Bytes) (at : ℕ) (r : Option Line) : Type 0 where
  pub is : r ≡ line_at at (lines (drop at s))
  pub inside : LineInside (length s) at r

-- Whether the first of some lines is `word`. The lines begin at offset `n`. If it is, the answer states where the next
-- line begins and how this one ends.
unfoldable pub exact_line : Bytes → ℕ → Lines → Option (ℕ × LineEnd)
exact_line word n (unended t) = None
exact_line word n (line t e l) = elim (same t word) [ true ↦ Some (after_line n t e, e) | false ↦ None ]

-- If the line is the expected one, the next line begins after `n`, and inside the `size` bytes or at their end.
abbrev pub ExactInside : ℕ → ℕ → Option (ℕ × LineEnd) → Type 0
ExactInside size n (Some p) = (n < p.0) × (p.0 ≤ size)
ExactInside size n None = Unit {0}

-- `r` states whether the line at offset `at` of `s` is `word`.
pub record ExactRead (s word : Bytes) (at : ℕ) (r : Option (ℕ × LineEnd)) : Type 0 where
  pub is : r ≡ exact_line word at (lines (drop at s))
  pub inside : ExactInside (length s) at r
