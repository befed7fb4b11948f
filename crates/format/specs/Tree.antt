-- The tree, and the free space after it.
use Rattle.std.specs.Prelude.{ℕ, suc, ◌+◌, Bool, true, false, ◌||◌, [], ◌∷◌, drop, Option, None, Some}
use Rattle.format.specs.declared.layout.Tree.{Tree}
use Rattle.format.specs.declared.refusal.Reason.TheVariants.{WrongLineBeforeStart, SecondStartLine, TreeNotEnded}
use Rattle.format.specs.Bytes.{Bytes, text, begins, same}
use Rattle.format.specs.Outcome.{Outcome, accepted, refused, refusal, ◌>>=◌}
use Rattle.format.specs.Line.{Lines, unended, line, after_line, lines}

-- The line with which every tree begins.
abbrev pub yaml_line : Bytes
yaml_line = text "%YAML 1.1"

-- The line with which every tree ends.
abbrev pub end_line : Bytes
end_line = text "..."

-- Whether a line is a start line: `---` alone, or `---`, a space and anything.
abbrev pub is_start : Bytes → Bool
is_start t = same t (text "---") || begins (text "--- ") t

-- Whether a line may come between the first line and the start line: it begins with `%` or `#`.
abbrev pub is_directive : Bytes → Bool
is_directive t = begins (text "%") t || begins (text "#") t

-- Where the tree ends, read from the lines after its start line. These begin at offset `n`.
unfoldable pub content : ℕ → Lines → Outcome ℕ
content n (unended t) = refused (refusal TreeNotEnded n)
content n (line t e l) =
    elim (same t end_line) [
      | true ↦ accepted (after_line n t e)
      | false ↦ elim (is_start t) [ true ↦ refused (refusal SecondStartLine n) | false ↦ content (after_line n t e) l ]
    ]

-- Where the tree ends, read from the lines after its first line. These begin at offset `n`.
unfoldable pub directives : ℕ → Lines → Outcome ℕ
directives n (unended t) = refused (refusal TreeNotEnded n)
directives n (line t e l) =
    elim (is_start t) [
      | true ↦ content (after_line n t e) l
      | false ↦ elim (is_directive t) [ true ↦ directives (after_line n t e) l | false ↦ refused (refusal WrongLineBeforeStart n) ]
    ]

-- Where the tree that begins at offset `n` ends, or `None` if there is no tree. The lines begin at `n`.
unfoldable pub tree_end : ℕ → Lines → Outcome (Option ℕ)
tree_end n (unended t) = accepted None
tree_end n (line t e l) =
    elim (same t yaml_line) [ true ↦ do m ← directives (after_line n t e) l; accepted (Some m) | false ↦ accepted None ]

-- The mark: the first four bytes of a block.
abbrev pub mark : Bytes
mark = 0xD3 ∷ 0x42 ∷ 0x4C ∷ 0x4B ∷ []

-- How many bytes come before the first mark, or before the end if there is no mark.
unfoldable pub free_space : Bytes → ℕ
free_space [] = 0
free_space (b ∷ s) = elim (begins mark (b ∷ s)) [ true ↦ 0 | false ↦ suc (free_space s) ]

-- A tree from offset `n` to offset `e`, whose room ends at offset `m`.
abbrev pub tree_at : ℕ → ℕ → ℕ → Option Tree
tree_at n e m = Some (record { start = record { 0 = n }; end = record { 0 = e }; room_end = record { 0 = m } })

-- The tree of the file `s` from offset `n` to the offset that is given, with its room. `None` means that no tree begins
-- at `n`.
unfoldable pub with_room : ℕ → Bytes → Option ℕ → Option Tree
with_room n s None = None
with_room n s (Some m) = tree_at n m (m + free_space (drop m s))

-- What begins at offset `n` of the file `s`: no tree, or a tree that ends.
unfoldable pub tree : ℕ → Bytes → Outcome (Option Tree)
tree n s = do
  m ← tree_end n (lines (drop n s))
  accepted (with_room n s m)
