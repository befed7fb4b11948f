-- The header: `#ASDF`, one space, a version and a line end.
use Rattle.std.specs.Prelude.{ℕ, List, [], ◌∷◌, drop, ◌==◌, Option, None, Some}
use Rattle.format.specs.declared.layout.Version.{Version}
use Rattle.format.specs.declared.layout.Header.{Header}
use Rattle.format.specs.declared.line.LineEnd.{LineEnd}
use Rattle.format.specs.declared.refusal.Reason.TheVariants.{NotAsdf, VersionMalformed, VersionNotOne}
use Rattle.format.specs.Bytes.{Bytes, text, begins}
use Rattle.format.specs.Outcome.{Outcome, accepted, refused, refusal, need, ◌>>◌}
use Rattle.format.specs.Numeral.{numerals, split}
use Rattle.format.specs.Line.{Lines, unended, line, after_line, lines}

-- The six bytes with which a file begins.
abbrev pub token : Bytes
token = text "#ASDF "

-- The version with these numbers, if there are exactly three.
unfoldable pub version_of : Option (List ℕ) → Option Version
version_of None = None
version_of (Some []) = None
version_of (Some (x ∷ [])) = None
version_of (Some (x ∷ y ∷ [])) = None
version_of (Some (x ∷ y ∷ z ∷ [])) = Some (record { major = x; minor = y; patch = z })
version_of (Some (x ∷ y ∷ z ∷ w ∷ r)) = None

-- A version: three decimal numbers of 1 to 4 digits, joined by points.
unfoldable pub version : Bytes → Option Version
version t = version_of (numerals 4 (split 46 t))

-- The header with this version, if there is one. `e` is the line end of its line, and `n` is the offset after that line
-- end.
unfoldable pub header_of : Option Version → LineEnd → ℕ → Outcome Header
header_of None e n = refused (refusal VersionMalformed 6)
header_of (Some v) e n = do
  need (v.major == 1) VersionNotOne 6
  accepted (record { version = v; line_end = e; end = record { 0 = n } })

-- The header, read from the lines after the six bytes of `token`. The version is the whole of the first line.
unfoldable pub version_line : Lines → Outcome Header
version_line (unended t) = refused (refusal VersionMalformed 6)
version_line (line t e l) = header_of (version t) e (after_line 6 t e)

-- The header of the file `s`.
unfoldable pub header : Bytes → Outcome Header
header s = do
  need (begins token s) NotAsdf 0
  version_line (lines (drop 6 s))
