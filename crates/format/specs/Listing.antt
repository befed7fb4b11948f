-- What the program prints, and the outline that is written along with it.
use Rattle.std.specs.Prelude.{Some, ℕ, true, false, List, [], ◌∷◌, ◌++◌, map, length, nat_le, None, Option}
use mathlib.Core.List.{flat_map}
use Rattle.format.specs.declared.layout.Tree.{Tree}
use Rattle.format.specs.declared.layout.Verdict.{Verdict}
use Rattle.format.specs.declared.layout.Verdict.TheVariants.{Absent, Good, IgnoredForm, IgnoredList}
use Rattle.format.specs.declared.row.Row.{Row}
use Rattle.format.specs.Bytes.{Bytes, text}
use Rattle.format.specs.Reason.{reason_number}
use Rattle.format.specs.Outcome.{Outcome, accepted, refused, ◌>>=◌}
use Rattle.format.specs.Numeral.{decimal}
use Rattle.format.specs.File.{file}
use Rattle.format.specs.Fields.{row_fields}
use Rattle.format.specs.Outline.{rows, outline}

-- The length of the longest input that the program takes, in bytes.
abbrev pub most_input : ℕ
most_input = 65536

-- Words with one space between them, and a line end.
unfoldable pub sentence : List Bytes → Bytes
sentence [] = text "\n"
sentence (w ∷ []) = w ++ text "\n"
sentence (w ∷ v ∷ ws) = w ++ text " " ++ sentence (v ∷ ws)

-- The line for the tree: where it begins and ends, or that there is none.
unfoldable pub tree_text : Option Tree → Bytes
tree_text None = sentence (text "tree" ∷ text "none" ∷ [])
tree_text (Some t) = sentence (text "tree" ∷ decimal t.start.0 ∷ decimal t.end.0 ∷ [])

-- The line for a row: its fields as decimal numbers.
unfoldable pub row_text : Row → Bytes
row_text r = sentence (map decimal (row_fields r))

-- The word for a verdict.
unfoldable pub verdict_word : Verdict → Bytes
verdict_word Absent = text "absent"
verdict_word Good = text "good"
verdict_word IgnoredForm = text "ignored-form"
verdict_word IgnoredList = text "ignored-list"

-- The listing of an accepted file: a line for the tree, a line for each row, and a line for the index.
unfoldable pub file_listing : Bytes → Outcome Bytes
file_listing s = do
  f ← file s
  rs ← rows s
  accepted (tree_text f.tree ++ flat_map row_text rs ++ sentence (text "index" ∷ verdict_word f.verdict ∷ []))

-- What is printed: the listing, or one line that reports the refusal.
unfoldable pub printed : Outcome Bytes → Bytes
printed (accepted t) = t
printed (refused r) = sentence (text "refused" ∷ decimal (reason_number r.reason) ∷ decimal r.place.0 ∷ [])

-- What the program prints for the input `s`.
unfoldable pub listing : Bytes → Bytes
listing s = elim (nat_le (length s) most_input) [ true ↦ printed (file_listing s) | false ↦ sentence (text "too long for this program" ∷ []) ]

-- The bytes of an outline, or no bytes if the file is refused.
unfoldable pub outline_bytes : Outcome Bytes → Bytes
outline_bytes (accepted b) = b
outline_bytes (refused r) = []

-- The outline that is written along with the text. It is empty if the file is refused or is longer than the program
-- takes.
unfoldable pub outline_for : Bytes → Bytes
outline_for s = elim (nat_le (length s) most_input) [ true ↦ outline_bytes (outline s) | false ↦ [] ]

-- The length of the buffer that the program lends for each of the two, the text and the outline.
abbrev pub lent_bytes : ℕ
lent_bytes = 65536
