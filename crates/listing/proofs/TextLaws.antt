-- Laws about the lines of a listing: one law for each part that is put.
use Prim.Native.Nat.{ℕ, suc, ◌+◌, ◌*◌, ◌-◌, ◌/◌, ◌^◌, ◌≤◌, ◌<◌}
use Rattle.std.specs.Prelude.{Option, None, Some}
use native.Mathlib.Omega.{arith}
use mathlib.Core.Path.{◌≡◌, refl, sym, ap, ◌∙◌}
use mathlib.Core.List.{List, [], ◌∷◌, ◌++◌, map, flat_map, append_assoc}
use lib.ListN.{length, drop, get_or}
use lib.Seq.{drop-drop}
use Rattle.std.proofs.Common.{take_all, IsSome}
use borrow.Author.Tests.{le-leb}
use Rattle.format.specs.declared.layout.Tree.{Tree}
use Rattle.format.specs.declared.layout.Verdict.{Verdict}
use Rattle.format.specs.declared.row.Row.{Row}
use Rattle.format.specs.Bytes.{Bytes, text}
use Rattle.format.specs.Fields.{row_fields}
use Rattle.format.specs.Numeral.{decimal}
use Rattle.format.specs.Outcome.{Refusal, refused}
use Rattle.format.specs.Outline.{decode_row, row_bytes}
use Rattle.format.specs.Listing.{sentence, tree_text, row_text, printed}
use Rattle.format.specs.Reason.{reason_number}
use Rattle.put.specs.Put.{PutWhole, PutAt, PutDecimals, decimals}
use Rattle.put.proofs.PartLaws.{whole_put, nothing_put, parts_put, put_same, decimals_put_lem}
use Rattle.outline.specs.Row.{row_at}
use Rattle.outline.proofs.StoredLaws.{chunk_is}
use Rattle.std.specs.Simd.{first_chunks}
use Rattle.listing.specs.Text.{line_text, most_line, most_short, most_row, row_texts, verdict_text, file_text, most_file}
use Rattle.listing.proofs.ShortLaws.{row_short}

-- Numbers with a space between each two, followed by a line end, are a `sentence`.
sentence_decimals : (ns : List ℕ) → decimals (text " ") ns ++ text "\n" ≡ sentence (map decimal ns)
unfolding sentence decimals
sentence_decimals [] = refl
sentence_decimals (n ∷ []) = refl
sentence_decimals (n ∷ m ∷ ns) = rw (← sentence_decimals (m ∷ ns)) (append_assoc (decimal n ++ text " ") (decimals (text " ") (m ∷ ns)) (text "\n"))

-- If a text, numbers and a line end are put one after another, a line is put.
pub line_put : (out a b c : Bytes) (at p q r : ℕ) (start : Bytes) (ns : List ℕ) → PutWhole out a at start (length start) p
    → PutDecimals a b p (text " ") ns q
    → PutWhole b c q (text "\n") 1 r
    → PutAt out c at (line_text start ns) (most_line (length start) (length ns)) r
line_put out a b c at p q r start ns one two three =
    put_same (ap (λ (t : Bytes). start ++ t) (sentence_decimals ns)) (omega arith) (parts_put (whole_put one) (parts_put (decimals_put_lem two) (whole_put three)))

module _ (out after : Bytes) (x : ℕ) where
  -- The line of a refusal is put.
  pub refused_put : (r : Refusal) → PutAt out after 0 (line_text (text "refused ") (reason_number r.reason ∷ r.place.0 ∷ [])) (most_line 8 2) x
      → PutAt out after 0 (printed (refused r)) most_short x
  unfolding printed sentence
  refused_put r = put_same refl (omega arith)

  -- The line of a tree is put. Case: there is no tree. Case: there is one.
  pub no_tree_put : (t : Option Tree) → t ≡ None → PutWhole out after 0 (text "tree none\n") 10 x → PutAt out after 0 (tree_text t) most_short x
  unfolding tree_text sentence
  no_tree_put t e put = rw e (put_same refl (omega arith) (whole_put put))

  pub tree_put : (t : Option Tree) (k : Tree) → t ≡ Some k → PutAt out after 0 (line_text (text "tree ") (k.start.0 ∷ k.end.0 ∷ [])) (most_line 5 2) x
      → PutAt out after 0 (tree_text t) most_short x
  unfolding tree_text sentence
  tree_put t k is put = rw is (put_same refl (omega arith) put)

  -- The line of a verdict is put.
  pub verdict_put : (at : ℕ) (v w : Verdict) → v ≡ w → PutWhole out after at (verdict_text w) (length (verdict_text w)) x → length (verdict_text w) ≤ most_short
      → PutAt out after at (verdict_text v) most_short x
  verdict_put at v w e put few = rw e (put_same refl few (whole_put put))

-- The line of a row is put.
pub row_put : (out after : Bytes) (at x : ℕ) (r : Row) (numbers : List ℕ) → numbers ≡ row_fields r
    → PutAt out after at (line_text [] numbers) (most_line 0 (length numbers)) x
    → PutAt out after at (row_text r) (most_line 0 10) x
unfolding row_text
row_put out after at x r numbers e put = rw e at put

-- `x` is the answer of the function that reads a row from the start of sixteen bytes.
module _ (bytes : Bytes) (size : length bytes ≡ row_bytes) (x : Option Row) (read : x ≡ row_at bytes 0) where
  is_there : x ≡ Some (decode_row bytes)
  unfolding row_at
  is_there = read ∙ rw (row_at, le-leb (0 + row_bytes) (length bytes) (omega arith), take_all row_bytes bytes (omega arith))

  -- The row exists, so it is found.
  pub row_there : IsSome x
  row_there = rw is_there

  -- If the line of the row that was read is put, then the line of the row in the bytes is put, and it is short.
  pub row_in_put : (r : Row) → x ≡ Some r → (out after : Bytes) (at y : ℕ) → PutAt out after at (row_text r) (most_line 0 10) y
      → PutAt out after at (row_text (decode_row bytes)) most_row y
  row_in_put r e out after at y put =
      let same : Some r ≡ Some (decode_row bytes) = sym e ∙ is_there in
      let row : r ≡ decode_row bytes = cc in
      let whole = rw row at put in
      record { buffer = whole.buffer; size = whole.size; end = whole.end; few = row_short bytes }

-- The lines of the first `n` rows of an outline are put.
abbrev PutRows : Bytes → Bytes → ℕ → ℕ → Bytes → ℕ → Type 0
PutRows out after at n b r = PutAt out after at (row_texts n b) (most_row * n) r

-- The invariant: the rows from `k` on remain to be put. Once they are put, all rows are put.
pub record Rows (before : Bytes) (at : ℕ) (b out : Bytes) (end k : ℕ) : Type 0 where
  pub inside : k ≤ length b / row_bytes
  pub size : length out ≡ length before
  pub fits : end < 2 ^ 64
  pub left : {after : Bytes} {r : ℕ} → PutRows out after end (length b / row_bytes - k) (drop (k * row_bytes) b) r
      → PutRows before after at (length b / row_bytes) b r

module _ (before : Bytes) (at : ℕ) (b : Bytes) where
  -- At the start, all rows are left.
  pub rows_start : at < 2 ^ 64 → Rows before at b before at 0
  rows_start h = record { inside = omega arith; size = refl; fits = h; left = λ {after} {r} put. let all : length b / row_bytes - 0 ≡ length b / row_bytes = omega arith in rw all at put }

  -- The parts of sixteen bytes hold a row each.
  module _ (parts : List Bytes) (split : parts ≡ first_chunks row_bytes (length b / row_bytes) b) (many : length parts ≡ length b / row_bytes)
      (out : Bytes) (end k : ℕ) (h : Rows before at b out end k) where
    -- Case: another row is left. Once it is put, the invariant holds for `k + 1`.
    pub rows_step : k < length parts → (after : Bytes) (r : ℕ) → PutAt out after end (row_text (decode_row (get_or parts k []))) most_row r
        → Rows before at b after r (k + 1)
    unfolding flat_map
    rows_step p after r put = record {
      inside = omega arith;
      size = put.size ∙ h.size;
      fits = omega (arith, put.end);
      left = λ rest.
          let n = length b / row_bytes - (k + 1) in
          let more : length b / row_bytes - k ≡ suc n = omega arith in
          let next : (k + 1) * row_bytes ≡ k * row_bytes + row_bytes = omega arith in
          let row = rw (split, chunk_is (length b / row_bytes) k b [] (omega arith)) at put in
          h.left (rw (more, drop-drop) (put_same refl (omega arith) (parts_put row (rw next at rest))));
    }

    -- Case: no row is left, so all rows are put.
    pub rows_done : length parts ≤ k → PutRows before out at (length b / row_bytes) b end
    unfolding flat_map
    rows_done p =
        let no_row : length b / row_bytes - k ≡ 0 = omega arith in
        h.left (rw no_row (nothing_put h.fits))

-- If the tree, the rows and the verdict are put one after another, all lines of the file are put.
pub file_put : (out a c after : Bytes) (p q r : ℕ) (t : Option Tree) (b : Bytes) (v : Verdict) → PutAt out a 0 (tree_text t) most_short p
    → PutRows a c p (length b / row_bytes) b q
    → PutAt c after q (verdict_text v) most_short r
    → PutAt out after 0 (file_text t b v) (most_file (length b / row_bytes)) r
file_put out a c after p q r t b v one two three = parts_put (parts_put one two) three
