-- Comments: zero or more lines that begin with `#`.
use Rattle.std.specs.Prelude.{ℕ, true, false}
use Rattle.format.specs.Bytes.{Bytes, text, begins, same}
use Rattle.format.specs.Outcome.{Outcome, accepted, refused, refusal}
use Rattle.format.specs.Line.{Lines, unended, line, after_line}
use Rattle.format.specs.declared.refusal.Reason.TheVariants.{CommentNotEnded, IndexAmongComments}

-- The first line of a block index.
abbrev pub index_line : Bytes
index_line = text "#ASDF BLOCK INDEX"

-- Where the comments end. The lines begin at offset `n`.
unfoldable pub comments : ℕ → Lines → Outcome ℕ
comments n (unended t) = elim (begins (text "#") t) [ true ↦ refused (refusal CommentNotEnded n) | false ↦ accepted n ]
comments n (line t e l) =
    elim (begins (text "#") t) [
      | true ↦ elim (same t index_line) [ true ↦ refused (refusal IndexAmongComments n) | false ↦ comments (after_line n t e) l ]
      | false ↦ accepted n
    ]
