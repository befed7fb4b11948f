-- Laws about the length of a row's line: a row that is read from sixteen bytes has at most 53 bytes of text.
use Prim.Native.Nat.{ℕ, ◌+◌, ◌^◌, ◌≤◌, ◌<◌}
use native.Mathlib.Nat.{mod-lt}
use native.Mathlib.Omega.{arith}
use mathlib.Core.Path.{◌≡◌, ◌∙◌}
use mathlib.Core.List.{List, [], ◌∷◌, ◌++◌, map}
use lib.ListN.{length, length-append}
use Rattle.format.specs.declared.row.Row.{Row}
use Rattle.format.specs.Bytes.{Bytes, text, bit}
use Rattle.format.specs.Numeral.{decimal}
use Rattle.format.specs.Outline.{kind_number, sum, row_from, unpacked, decode_row}
use Rattle.format.specs.Listing.{sentence, row_text}
use Rattle.listing.specs.Text.{most_row}
use Rattle.format.proofs.NumeralLaws.{decimal_is}
use Rattle.format.proofs.RowLaws.{kind_lt, RowFits, bit_lt}

-- How many bytes the numbers take after a word, each with a space before it.
abbrev digits : List ℕ → ℕ
digits [] = 0
digits (n ∷ ns) = 1 + length (decimal n) + digits ns

line_length : (w : Bytes) (ns : List ℕ) → length (sentence (w ∷ map decimal ns)) ≡ length w + digits ns + 1
unfolding sentence
line_length w [] = length-append w (text "\n") ∙ omega arith
line_length w (n ∷ ns) =
    length-append (w ++ text " ") (sentence (decimal n ∷ map decimal ns)) ∙ omega (arith, length-append w (text " "), line_length (decimal n) ns)

-- A number below ten to the power of `k` has at most `k` digits.
few : (k x : ℕ) → 1 ≤ k → x < 10 ^ k → length (decimal x) ≤ k
few k x = (decimal_is x).few k

-- The fields of a row that is read from bytes fit into their bits.
row_fits : (b : Bytes) → RowFits (decode_row b)
unfolding decode_row row_from unpacked sum
row_fits b = record {
  depth = mod-lt _ (omega arith);
  ordinal = mod-lt _ (omega arith);
  header_size_lem = mod-lt _ (omega arith);
  at = mod-lt _ (omega arith);
  allocated = mod-lt _ (omega arith);
  used = mod-lt _ (omega arith);
}

-- A row whose fields fit has short numbers, and so a short line.
fitting_short : (r : Row) → RowFits r → length (row_text r) ≤ most_row
unfolding row_text
fitting_short r h =
    let flag1 = bit_lt r.streamed in
    let flag2 = bit_lt r.compressed in
    let flag3 = bit_lt r.checksum in
    omega (
      arith,
      line_length (decimal r.depth) (r.ordinal ∷ r.at.0 ∷ r.header_size ∷ r.allocated ∷ r.used ∷ bit r.streamed ∷ bit r.compressed ∷ bit r.checksum ∷ kind_number r.inner ∷ []),
      few 1 r.depth (omega arith) (omega (arith, h.depth)),
      few 3 r.ordinal (omega arith) (omega (arith, h.ordinal)),
      few 10 r.at.0 (omega arith) (omega (arith, h.at)),
      few 5 r.header_size (omega arith) (omega (arith, h.header_size_lem)),
      few 10 r.allocated (omega arith) (omega (arith, h.allocated)),
      few 10 r.used (omega arith) (omega (arith, h.used)),
      few 1 (bit r.streamed) (omega arith) (omega arith),
      few 1 (bit r.compressed) (omega arith) (omega arith),
      few 1 (bit r.checksum) (omega arith) (omega arith),
      few 1 (kind_number r.inner) (omega arith) (omega (arith, kind_lt r.inner)),
    )

pub row_short : (b : Bytes) → length (row_text (decode_row b)) ≤ most_row
row_short b = fitting_short (decode_row b) (row_fits b)
