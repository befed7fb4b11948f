-- Laws about the text of an index and its parts.
use Prim.Native.Nat.{ℕ, ◌≤◌, ◌<◌}
use native.Mathlib.Omega.{arith}
use mathlib.Core.Path.{◌≡◌, refl, sym, ap}
use mathlib.Core.List.{List, [], ◌∷◌, ◌++◌, map, append_assoc, append-nil}
use lib.ListN.{length, take}
use borrow.Author.Tests.{le-leb, lt-leb}
use Rattle.format.specs.declared.line.LineEnd.{LineEnd}
use Rattle.format.specs.declared.line.LineEnd.TheVariants.{Lf, Crlf}
use Rattle.format.specs.declared.refusal.Reason.TheVariants.{NoIndexPossible}
use Rattle.format.specs.Bytes.{Bytes, text}
use Rattle.format.specs.Chain.{most_blocks}
use Rattle.format.specs.Line.{line_end}
use Rattle.format.specs.Tree.{end_line}
use Rattle.format.specs.Numeral.{decimal}
use Rattle.format.specs.Index.{Entry, entry, entries, styled_text, rendering, spaced, index_text}
use Rattle.format.specs.Outcome.{Outcome, refused, accepted, refusal}
use Rattle.format.specs.Promise.{Written}
use Rattle.put.specs.Put.{PutWhole, PutAt, PutDecimals, decimals}
use Rattle.put.proofs.PartLaws.{whole_put, parts_put, put_same, decimals_put_lem}
use Rattle.put.proofs.WrittenLaws.{written_refused, own_bytes}
use Rattle.index.specs.Text.{offsets_index, front_text, back_text, most_front, most_back, comma, most_text}

-- The entry of a number that follows another.
abbrev next : ℕ → Entry
next m = record { before = 1; number = m; after = 0 }

-- Such an entry is a space and the number.
next_entry : (m : ℕ) → entry (next m) ≡ text " " ++ decimal m
unfolding entry
next_entry m = append-nil (32 ∷ decimal m)

-- If an entry is `p` and a number, then this entry and those after it are `p` and all the numbers, with a comma and a
-- space between each two.
entries_decimals : (e : Entry) (p : Bytes) (n : ℕ) → entry e ≡ p ++ decimal n → (ns : List ℕ) → entries (e ∷ map next ns) ≡ p ++ decimals comma (n ∷ ns)
unfolding entries decimals
entries_decimals e p n h [] = h
entries_decimals e p n h (m ∷ ns) = rw (entries_decimals (next m) (text " ") m (next_entry m) ns, h) (simp append_assoc)

-- A list has a comma and a space between each two numbers.
list_decimals : (ns : List ℕ) → entries (spaced ns) ≡ decimals comma ns
unfolding spaced entries entry decimals
list_decimals [] = refl
list_decimals (n ∷ ns) = entries_decimals (record { before = 0; number = n; after = 0 }) [] n (append-nil (decimal n)) ns

-- The pieces of text that follow a list can be joined into one.
after_list : (l e : Bytes) → l ++ text "]" ++ e ++ end_line ++ e ++ [] ≡ l ++ (text "]" ++ e ++ end_line ++ e)
after_list l e = simp (append_assoc, append-nil)

-- An index is its list with the text before it and the text after it.
index_parts : (e : LineEnd) (ns : List ℕ) → front_text e ++ (decimals comma ns ++ back_text e) ≡ index_text e ns
unfolding index_text rendering styled_text
index_parts Lf ns = rw (← list_decimals ns) (ap (λ (t : Bytes). front_text Lf ++ t) (sym (after_list (entries (spaced ns)) (line_end Lf))))
index_parts Crlf ns = rw (← list_decimals ns) (ap (λ (t : Bytes). front_text Crlf ++ t) (sym (after_list (entries (spaced ns)) (line_end Crlf))))

-- The texts around the list are short, with either line end.
front_few : (e : LineEnd) → length (front_text e) ≤ most_front
front_few Lf = omega arith
front_few Crlf = omega arith

back_few : (e : LineEnd) → length (back_text e) ≤ most_back
back_few Lf = omega arith
back_few Crlf = omega arith

-- If the three parts are put one after another, then the index is put.
pub index_put : (e : LineEnd) (front back : Bytes) → front ≡ front_text e → back ≡ back_text e → (out a b c : Bytes) (ns : List ℕ) (from to r : ℕ)
    → PutWhole out a 0 front (length front) from → PutDecimals a b from comma ns to → PutWhole b c to back (length back) r
    → length ns ≤ most_blocks → PutAt out c 0 (index_text e ns) most_text r
index_put e front back p q out a b c ns from to r one two three few =
    let before = put_same {k = most_front} p (rw p (front_few e)) (whole_put one) in
    let after = put_same {k = most_back} q (rw q (back_few e)) (whole_put three) in
    put_same (index_parts e ns) (omega arith) (parts_put before (parts_put (decimals_put_lem two) after))

module _ (k : LineEnd) (ns : List ℕ) where
  -- If there are too many offsets, then the writer refuses with number 22 at place 0 and leaves the buffer unchanged.
  pub index_many : most_blocks < length ns → (out : Bytes) (x : Outcome ℕ) → x ≡ refused (refusal NoIndexPossible 0) → Written (offsets_index k ns) out out x
  unfolding offsets_index
  index_many h out = written_refused (offsets_index k ns) out (refusal NoIndexPossible 0) (rw (offsets_index, lt-leb (length ns) most_blocks h))

  -- If the text is put into a buffer that is long enough, and written from there, then the index is written.
  pub index_own : length ns ≤ most_blocks → (own after : Bytes) (n : ℕ) → PutAt own after 0 (index_text k ns) most_text n → length own ≡ most_text
      → (out out-after : Bytes) (x : Outcome ℕ) → Written (accepted (take n after)) out out-after x → Written (offsets_index k ns) out out-after x
  unfolding offsets_index
  index_own few own after n put room out out-after x w =
      rw (offsets_index, le-leb (length ns) most_blocks few, ← own_bytes own after (index_text k ns) most_text n put room (omega arith)) w
