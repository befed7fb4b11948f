-- The block index: the verdict on it, and its text. Its list has one of two styles: all numbers in brackets on the
-- start line, or each number after a dash on its own line.
use Rattle.std.specs.Prelude.{◌≡◌, ℕ, ◌≤◌, true, false, List, [], ◌∷◌, ◌++◌, map, reverse, length, replicate, ◌==◌, Option, None, Some}
use mathlib.Core.List.{flat_map}
use Rattle.format.specs.declared.layout.Verdict.{Verdict}
use Rattle.format.specs.declared.layout.Verdict.TheVariants.{Absent, Good, IgnoredForm, IgnoredList}
use Rattle.format.specs.declared.line.LineEnd.{LineEnd}
use Rattle.format.specs.Bytes.{Bytes, text, same, all_zero}
use Rattle.format.specs.Numeral.{numeral, numerals, both, split, decimal}
use Rattle.format.specs.Line.{Lines, unended, line, lines, line_end}
use Rattle.format.specs.Comments.{index_line}
use Rattle.format.specs.Tree.{yaml_line, end_line}

-- What is left of `s` after `p`, the first argument, if `s` begins with `p`.
unfoldable pub without : Bytes → Bytes → Option Bytes
without [] s = Some s
without (a ∷ p) [] = None
without (a ∷ p) (b ∷ s) = elim (a == b) [ true ↦ without p s | false ↦ None ]

-- `s` without the spaces at its start.
unfoldable pub trim_start : Bytes → Bytes
trim_start [] = []
trim_start (b ∷ s) = elim (b == 32) [ true ↦ trim_start s | false ↦ b ∷ s ]

-- `s` without the spaces at its end.
abbrev pub trim_end : Bytes → Bytes
trim_end s = reverse (trim_start (reverse s))

-- `s` without the spaces at its start and at its end.
abbrev pub trim : Bytes → Bytes
trim s = trim_end (trim_start s)

-- What is between `--- [` at the start of the line `t` and `]` at its end, if it has both.
unfoldable pub in_brackets : Bytes → Option Bytes
in_brackets t =
    elim (without (text "--- [") t) [
      | None ↦ None
      | Some u ↦ elim (without (text "]") (reverse u)) [ None ↦ None | Some v ↦ Some (reverse v) ]
    ]

-- The numbers in the brackets, if there are brackets. Each number has 1 to 10 digits. Commas separate the numbers, and
-- spaces may surround each of them.
unfoldable pub listed : Option Bytes → Option (List ℕ)
listed None = None
listed (Some t) = numerals 10 (map trim (split 44 t))

-- The start line of an index with dashes.
abbrev pub dash_start : Bytes
dash_start = text "---"

-- What comes before each number of an index with dashes.
abbrev pub dash : Bytes
dash = text "- "

-- The number on the line `t` of an index with dashes: 1 to 10 digits, which spaces may follow.
unfoldable pub dashed : Bytes → Option ℕ
dashed t = elim (without dash t) [ None ↦ None | Some u ↦ numeral 10 (trim_end u) ]

-- What `f` finds in the lines after the first line, if the first line is `word`.
unfoldable pub after_word : Bytes → (Lines → Option (List ℕ)) → Lines → Option (List ℕ)
after_word word f (unended t) = None
after_word word f (line t e l) = elim (same t word) [ true ↦ f l | false ↦ None ]

-- The numbers `ns`, if only zero bytes are left.
unfoldable pub with_zeros : Option (List ℕ) → Lines → Option (List ℕ)
with_zeros ns (unended z) = elim (all_zero z) [ true ↦ ns | false ↦ None ]
with_zeros ns (line t e l) = None

-- The numbers on the lines before the end line, one on each. Only zero bytes may follow the end line.
unfoldable pub dash_numbers : Lines → Option (List ℕ)
dash_numbers (unended t) = None
dash_numbers (line t e l) = elim (same t end_line) [ true ↦ with_zeros (Some []) l | false ↦ both (dashed t) (dash_numbers l) ]

-- The numbers, if there is at least one.
unfoldable pub at_least_one : Option (List ℕ) → Option (List ℕ)
at_least_one None = None
at_least_one (Some []) = None
at_least_one (Some (n ∷ ns)) = Some (n ∷ ns)

-- The numbers, read from the start line on. That line decides the style.
unfoldable pub styled : Lines → Option (List ℕ)
styled (unended t) = None
styled (line t e l) =
    elim (same t dash_start) [ true ↦ at_least_one (dash_numbers l) | false ↦ after_word end_line (with_zeros (listed (in_brackets t))) l ]

-- The numbers of an index, if these lines have the form of one.
unfoldable pub indexed : Lines → Option (List ℕ)
indexed l = after_word index_line (after_word yaml_line styled) l

-- The verdict on an index with these numbers; `None` means that it does not have the form. `offsets` holds where the
-- blocks of the file begin.
unfoldable pub judged : List ℕ → Option (List ℕ) → Verdict
judged offsets None = IgnoredForm
judged offsets (Some ns) = elim (same ns offsets) [ true ↦ Good | false ↦ IgnoredList ]

-- The verdict on the tail `t` of a file whose blocks begin at `offsets`.
unfoldable pub verdict : List ℕ → Bytes → Verdict
verdict offsets t = elim (all_zero t) [ true ↦ Absent | false ↦ judged offsets (indexed (lines t)) ]

-- A number of an index in brackets, and how many spaces come before and after it.
pub record Entry : Type 0 where
  pub before : ℕ
  pub number : ℕ
  pub after : ℕ

-- The text of one such number with its spaces.
unfoldable pub entry : Entry → Bytes
entry e = replicate e.before 32 ++ decimal e.number ++ replicate e.after 32

-- The text of all of them, with commas between them.
unfoldable pub entries : List Entry → Bytes
entries [] = []
entries (e ∷ []) = entry e
entries (e ∷ f ∷ es) = entry e ++ text "," ++ entries (f ∷ es)

-- A line of an index with dashes: its number, how many spaces follow the number, and its line end.
pub record DashLine : Type 0 where
  pub number : ℕ
  pub after : ℕ
  pub ending : LineEnd

-- The text of such a line, without its line end.
unfoldable pub dash_text : DashLine → Bytes
dash_text d = dash ++ decimal d.number ++ replicate d.after 32

-- The text of such a line, with its line end.
unfoldable pub dash_line : DashLine → Bytes
dash_line d = dash_text d ++ line_end d.ending

-- A list in one of the two styles, with the line ends of its lines.
pub data StyledList : Type 0 where
  brackets : List Entry → LineEnd → StyledList
  dashes : LineEnd → List DashLine → StyledList

-- The text of a list: its start line and, with dashes, the lines of its numbers.
unfoldable pub styled_text : StyledList → Bytes
styled_text (brackets es e) = text "--- [" ++ entries es ++ text "]" ++ line_end e
styled_text (dashes e ds) = dash_start ++ line_end e ++ flat_map dash_line ds

-- The numbers of a list.
unfoldable pub numbers_of : StyledList → List ℕ
numbers_of (brackets es e) = map (λ (x : Entry). x.number) es
numbers_of (dashes e ds) = map (λ (d : DashLine). d.number) ds

-- An index as it may be written: with any line ends, a list in either style, and zero bytes at its end. `a`, `b` and
-- `d` end the first line, the second line and the end line.
unfoldable pub rendering : LineEnd → LineEnd → StyledList → LineEnd → ℕ → Bytes
rendering a b l d zeros = index_line ++ line_end a ++ yaml_line ++ line_end b ++ styled_text l ++ end_line ++ line_end d ++ replicate zeros 0

-- The numbers with one space after each comma and none elsewhere.
unfoldable pub spaced : List ℕ → List Entry
spaced [] = []
spaced (n ∷ ns) = record { before = 0; number = n; after = 0 } ∷ map (λ m. record { before = 1; number = m; after = 0 }) ns

-- An index as we write it: in brackets, with the same line end for all four lines.
unfoldable pub index_text : LineEnd → List ℕ → Bytes
index_text e offsets = rendering e e (brackets (spaced offsets) e) e 0

-- `t` is an index of these offsets, of which there is at least one: it is the rendering of some line ends, a list of
-- these numbers, and a number of zero bytes at the end.
pub record IsIndex (offsets : List ℕ) (t : Bytes) : Type 0 where
  pub first : LineEnd
  pub second : LineEnd
  pub list : StyledList
  pub last : LineEnd
  pub zeros : ℕ
  pub written : t ≡ rendering first second list last zeros
  pub same_numbers : numbers_of list ≡ offsets
  pub some_number : 1 ≤ length offsets
