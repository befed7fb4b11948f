-- Parts of a listing's text, and the maximum number of bytes in each.
use Rattle.std.specs.Prelude.{ℕ, ◌+◌, ◌*◌, ◌/◌, length, Option}
use mathlib.Core.List.{List, [], ◌∷◌, ◌++◌, map, flat_map}
use Rattle.format.specs.declared.layout.Tree.{Tree}
use Rattle.format.specs.declared.layout.Verdict.{Verdict}
use Rattle.format.specs.Bytes.{Bytes, text}
use Rattle.format.specs.Numeral.{decimal}
use Rattle.format.specs.Outline.{row_bytes}
use Rattle.format.specs.Listing.{sentence, tree_text, row_text, verdict_word}
use Rattle.outline.specs.Row.{rows_in}
use Rattle.put.specs.Put.{most_decimals}

-- One line: the text `start`, the numbers with a space between each two, and a line end.
abbrev pub line_text : Bytes → List ℕ → Bytes
line_text start ns = start ++ sentence (map decimal ns)

-- The maximum number of bytes in such a line, if the text has `start` bytes and `count` numbers follow.
abbrev pub most_line : ℕ → ℕ → ℕ
most_line start count = start + (most_decimals (text " ") count + 1)

-- A bound for every line except a row's, in bytes: each of these lines is shorter.
abbrev pub most_short : ℕ
most_short = 64

-- The maximum number of bytes in the line of a row. The row is read from sixteen bytes, which hold no long numbers.
abbrev pub most_row : ℕ
most_row = 53

-- One line for each of the first `n` rows of an outline.
abbrev pub row_texts : ℕ → Bytes → Bytes
row_texts n b = flat_map row_text (rows_in n b)

-- The line of a verdict.
abbrev pub verdict_text : Verdict → Bytes
verdict_text v = sentence (text "index" ∷ verdict_word v ∷ [])

-- The lines of a file with the tree `t`, the outline `b` and the verdict `v`.
abbrev pub file_text : Option Tree → Bytes → Verdict → Bytes
file_text t b v = tree_text t ++ row_texts (length b / row_bytes) b ++ verdict_text v

-- The maximum number of bytes in these lines, if there are `count` rows.
abbrev pub most_file : ℕ → ℕ
most_file count = most_short + most_row * count + most_short
