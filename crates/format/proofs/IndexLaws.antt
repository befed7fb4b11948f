-- An index is good exactly if it is a rendering of the blocks' offsets. The index that is written here is one.
use Rattle.std.proofs.Common.{◌≡◌, ℕ, suc, ◌+◌, ◌-◌, ◌*◌, ◌^◌, ◌<◌, ◌≤◌, Bool, true, false, eqb, List, [], ◌∷◌, ◌++◌, map, reverse, length, get_or, replicate, sym, refl, ap, ◌∙◌, ap₂, append_assoc, map-id, arith, length-append}
use mathlib.Core.List.{flat_map, map-map, reverse-cons, reverse-append, reverse-reverse}
use Rattle.std.specs.Prelude.{Option, None, Some}
use lib.ListN.{length-map, length-replicate}
use Rattle.format.specs.declared.layout.Verdict.TheVariants.{Absent, Good, IgnoredList}
use Rattle.format.specs.declared.line.LineEnd.{LineEnd}
use Rattle.format.specs.Bytes.{Bytes, text, same, all_zero}
use Rattle.format.specs.Numeral.{is_digit, numeral, both, numerals, split, decimal}
use Rattle.format.specs.Line.{line_end, Lines, unended, line, lines}
use Rattle.format.specs.Comments.{index_line}
use Rattle.format.specs.Tree.{yaml_line, end_line}
use Rattle.format.specs.Index.{without, trim, in_brackets, listed, dash_start, after_word, with_zeros, dash_numbers, at_least_one, styled, indexed, judged, verdict, Entry, entry, entries, dash_line, StyledList, brackets, dashes, styled_text, numbers_of, rendering, spaced, index_text, IsIndex}
use Rattle.format.proofs.ByteLaws.{same_true, eq_same, zeros_all_zero, without_some, lacks, lacks_append, lacks_replicate}
use Rattle.format.proofs.LineLaws.{end_length, join_lines, join_lines_lem, IsLine, plain_line, AreLines, ends_snoc, lines_join}
use Rattle.format.proofs.NumeralLaws.{decimal_is, decimal_lacks, joined_lacks, numeral_decimal, numeral_text, both_some, joined, AllLack, split_joined, split_parts}
use Rattle.format.proofs.SpaceLaws.{trim_padded, trim_text}
use Rattle.format.proofs.DashLaws.{dashed_numbers, dash_lines, end_lines, zeros_read, dashes_read, some_read, some_again, dash_join, dashes_are_lines, dashes_again}
use Rattle.format.proofs.OutcomeLaws.{none_is_not_some}

-- The line of a list in brackets, with `u` between the brackets.
abbrev list_line : Bytes → Bytes
list_line u = text "--- [" ++ (u ++ text "]")

-- If `u` is found between the brackets of a line, the line is `u` in brackets.
brackets_some : (c u : Bytes) → in_brackets c ≡ Some u → c ≡ list_line u
unfolding in_brackets
brackets_some c u h = outer (without (text "--- [") c) refl
  where
    inner : (w : Bytes) (o : Option Bytes) → without (text "]") (reverse w) ≡ o → without (text "--- [") c ≡ Some w → c ≡ list_line u
    inner w None e k = let n : None ≡ Some u = rw (k, e, in_brackets) at h in cc
    inner w (Some v) e k =
        let found : Some (reverse v) ≡ Some u = rw (k, e, in_brackets) at h in
        let back : w ≡ reverse (93 ∷ v) = sym (reverse-reverse w) ∙ ap reverse (without_some (text "]") (reverse w) v e) in
        cc (without_some (text "--- [") c w k, reverse-cons 93 v)

    outer : (o : Option Bytes) → without (text "--- [") c ≡ o → c ≡ list_line u
    outer None e = let n : None ≡ Some u = rw (e, in_brackets) at h in cc
    outer (Some w) e = inner w (without (text "]") (reverse w)) refl e

-- In the line with `u` between the brackets, `u` is found there.
brackets_of : (u : Bytes) → in_brackets (list_line u) ≡ Some u
unfolding in_brackets without
brackets_of u = rw (reverse-append u (text "]"), in_brackets) (ap Some (reverse-reverse u))

-- The numbers of these entries.
abbrev numbers : List Entry → List ℕ
numbers es = map (λ (e : Entry). e.number) es

-- Entries are written with commas between them.
entries_joined : (es : List Entry) → entries es ≡ joined 44 (map entry es)
unfolding entries joined
entries_joined [] = refl
entries_joined (e ∷ []) = refl
entries_joined (e ∷ f ∷ es) = append_assoc (entry e) (text ",") (entries (f ∷ es)) ∙ ap (λ (t : Bytes). entry e ++ (44 ∷ t)) (entries_joined (f ∷ es))

-- `ps` are the texts of entries with these numbers.
record AreEntries (ps : List Bytes) (ns : List ℕ) : Type 0 where
  list : List Entry
  written : map entry list ≡ ps
  same_numbers : numbers list ≡ ns

-- The number `n`, with as many spaces before and after it as `p` has.
abbrev entry_of : Bytes → ℕ → Entry
entry_of p n = record { before = (trim_padded p).before; number = n; after = (trim_padded p).after }

-- If a part is read as a number when it is trimmed, it is the text of an entry with that number.
entry_written : (p : Bytes) (n : ℕ) → numeral 10 (trim p) ≡ Some n → entry (entry_of p n) ≡ p
unfolding entry
entry_written p n h = rw (← numeral_text 10 (trim p) n h) (sym (trim_padded p).padded)

-- If parts are read as numbers when they are trimmed, they are the texts of entries with these numbers.
all_entries : (ps : List Bytes) (ns : List ℕ) → numerals 10 (map trim ps) ≡ Some ns → AreEntries ps ns
unfolding numerals
all_entries [] ns h = record { list = []; written = refl; same_numbers = cc }
all_entries (p ∷ ps) ns h =
    let (n, ms, first, others, whole) = both_some (numeral 10 (trim p)) (numerals 10 (map trim ps)) ns h in
    let rest = all_entries ps ms others in
    record {
      list = entry_of p n ∷ rest.list;
      written = ap₂ (λ (q : Bytes) (qs : List Bytes). q ∷ qs) (entry_written p n first) rest.written;
      same_numbers = ap (λ (ks : List ℕ). n ∷ ks) rest.same_numbers ∙ whole;
    }

-- `t` is a list of entries with these numbers, at least one.
record IsList (t : Bytes) (ns : List ℕ) : Type 0 where
  list : List Entry
  written : entries list ≡ t
  same_numbers : numbers list ≡ ns
  some_number : 1 ≤ length list

-- If the text between brackets is read as numbers, it is a list of entries with these numbers.
list_read : (t : Bytes) (ns : List ℕ) → listed (Some t) ≡ Some ns → IsList t ns
unfolding listed
list_read t ns h =
    let parts = split_parts 44 t in
    let es = all_entries (split 44 t) ns h in
    record {
      list = es.list;
      written = entries_joined es.list ∙ ap (joined 44) es.written ∙ parts.whole;
      same_numbers = es.same_numbers;
      some_number = omega (arith, parts.some_part, ap length es.written, length-map es.list entry);
    }

-- If a line is read as numbers in brackets, it has a text between brackets, and that text is read as these numbers.
line_read : (c : Bytes) (ns : List ℕ) → listed (in_brackets c) ≡ Some ns → (u : Bytes) × (c ≡ list_line u) × (listed (Some u) ≡ Some ns)
unfolding listed
line_read c ns h = go (in_brackets c) refl
  where
    go : (o : Option Bytes) → in_brackets c ≡ o → (u : Bytes) × (c ≡ list_line u) × (listed (Some u) ≡ Some ns)
    go None e = absurd (none_is_not_some ns (rw (e, listed) at h))
    go (Some u) e = (u, brackets_some c u e, rw e at h)

-- The lines of a list, followed by the lines `l`.
unfoldable list_lines : StyledList → Lines → Lines
list_lines (brackets es e) l = line (list_line (entries es)) e l
list_lines (dashes e ds) l = line dash_start e (dash_lines ds l)

-- The lines of an index.
abbrev index_lines : LineEnd → LineEnd → StyledList → LineEnd → ℕ → Lines
index_lines a b x d zeros = line index_line a (line yaml_line b (list_lines x (end_lines d zeros)))

-- If numbers are found after a word, the first line is that word, and `f` finds the numbers in the lines after it.
word_read : (word : Bytes) (f : Lines → Option (List ℕ)) (l : Lines) (ns : List ℕ) → after_word word f l ≡ Some ns
    → (e : LineEnd) × (m : Lines) × (l ≡ line word e m) × (f m ≡ Some ns)
unfolding after_word
word_read word f (unended t) ns h = absurd (none_is_not_some ns h)
word_read word f (line t e l) ns h = go (same t word) refl
  where
    go : (x : Bool) → same t word ≡ x → (k : LineEnd) × (m : Lines) × (line t e l ≡ line word k m) × (f m ≡ Some ns)
    go true q = (e, l, ap (λ (u : Bytes). line u e l) (same_true t word q), rw (q, after_word) at h)
    go false q = absurd (none_is_not_some ns (rw (q, after_word) at h))

-- `l` consists of the lines of a list with these numbers, at least one, followed by the end of an index.
record ReadList (l : Lines) (ns : List ℕ) : Type 0 where
  list : StyledList
  last : LineEnd
  zeros : ℕ
  lined : l ≡ list_lines list (end_lines last zeros)
  same_numbers : numbers_of list ≡ ns
  some_number : 1 ≤ length ns

-- If lines are read as a list in either style, `ReadList` holds for them.
styled_read : (l : Lines) (ns : List ℕ) → styled l ≡ Some ns → ReadList l ns
unfolding styled list_lines numbers_of
styled_read (unended t) ns h = absurd (none_is_not_some ns h)
styled_read (line t e l) ns h = go (same t dash_start) refl
  where
    go : (x : Bool) → same t dash_start ≡ x → ReadList (line t e l) ns
    go true q =
        let (found, some_number) = some_read (dash_numbers l) ns (rw (q, styled) at h) in
        let r = dashes_read l ns found in
        record {
          list = dashes e r.list;
          last = r.last;
          zeros = r.zeros;
          lined = ap (λ (u : Bytes). line u e l) (same_true t dash_start q) ∙ ap (line dash_start e) r.lined;
          same_numbers = r.same_numbers;
          some_number = some_number;
        }
    go false q =
        let (d, m, ended, found) = word_read end_line _ l ns (rw (q, styled) at h) in
        let (k, z, inner) = zeros_read (listed (in_brackets t)) m ns found in
        let (u, bracketed, read) = line_read t ns inner in
        let es = list_read u ns read in
        record {
          list = brackets es.list e;
          last = d;
          zeros = k;
          lined = cc (bracketed, ended, z, es.written);
          same_numbers = es.same_numbers;
          some_number = omega (arith, es.some_number, length-map es.list (λ (x : Entry). x.number), ap length es.same_numbers);
        }

-- The text of a list, followed by the bytes of `l`, is the bytes of the list's lines followed by `l`.
list_join : (x : StyledList) (l : Lines) → styled_text x ++ join_lines l ≡ join_lines (list_lines x l)
unfolding styled_text list_lines join_lines
list_join (brackets es e) l = grouped (text "--- [") (entries es) (text "]") (line_end e) (join_lines l)
  where
    grouped : (a b c d z : Bytes) → a ++ b ++ c ++ d ++ z ≡ a ++ (b ++ c) ++ (d ++ z)
    grouped a b c d z = simp append_assoc
list_join (dashes e ds) l =
    grouped dash_start (line_end e) (flat_map dash_line ds) (join_lines l) ∙ ap (λ (z : Bytes). dash_start ++ (line_end e ++ z)) (sym (dash_join ds l))
  where
    grouped : (a b c z : Bytes) → a ++ b ++ c ++ z ≡ a ++ (b ++ (c ++ z))
    grouped a b c z = simp append_assoc

-- A rendering is the bytes of its lines.
rendering_join : (a b : LineEnd) (x : StyledList) (d : LineEnd) (zeros : ℕ) → rendering a b x d zeros ≡ join_lines (index_lines a b x d zeros)
unfolding rendering join_lines
rendering_join a b x d zeros =
    grouped index_line (line_end a) yaml_line (line_end b) (styled_text x) end_line (line_end d) (replicate zeros 0)
    ∙ ap (λ (t : Bytes). index_line ++ (line_end a ++ (yaml_line ++ (line_end b ++ t)))) (list_join x (end_lines d zeros))
  where
    grouped : (i a y b x e d z : Bytes) → i ++ a ++ y ++ b ++ x ++ e ++ d ++ z ≡ i ++ (a ++ (y ++ (b ++ (x ++ (e ++ (d ++ z))))))
    grouped i a y b x e d z = simp append_assoc

-- If what is found is judged good, it is the offsets.
judged_good : (offsets : List ℕ) (o : Option (List ℕ)) → judged offsets o ≡ Good → o ≡ Some offsets
unfolding judged
judged_good offsets None h = cc
judged_good offsets (Some ns) h = go (same ns offsets) refl
  where
    go : (x : Bool) → same ns offsets ≡ x → Some ns ≡ Some offsets
    go true e = ap Some (same_true ns offsets e)
    go false e = let z : IgnoredList ≡ Good = rw (e, judged) at h in cc

-- If the verdict on a tail is good, the tail is read as an index of the offsets.
good_read : (offsets : List ℕ) (t : Bytes) → verdict offsets t ≡ Good → indexed (lines t) ≡ Some offsets
unfolding verdict
good_read offsets t h = go (all_zero t) refl
  where
    go : (x : Bool) → all_zero t ≡ x → indexed (lines t) ≡ Some offsets
    go true e = let z : Absent ≡ Good = rw (e, verdict) at h in cc
    go false e = judged_good offsets (indexed (lines t)) (rw (e, verdict) at h)

-- If a tail is read as an index of the offsets, it is a rendering of them.
read_is_index : (offsets : List ℕ) (t : Bytes) → indexed (lines t) ≡ Some offsets → IsIndex offsets t
unfolding indexed
read_is_index offsets t h =
    let (a, l, first, then) = word_read index_line _ (lines t) offsets h in
    let (b, m, second, rest) = word_read yaml_line _ l offsets then in
    let r = styled_read m offsets rest in
    record {
      first = a;
      second = b;
      list = r.list;
      last = r.last;
      zeros = r.zeros;
      written =
          sym (join_lines_lem t)
          ∙ ap join_lines (first ∙ ap (line index_line a) (second ∙ ap (line yaml_line b) r.lined))
          ∙ sym (rendering_join a b r.list r.last r.zeros);
      same_numbers = r.same_numbers;
      some_number = r.some_number;
    }

-- If the verdict on a tail is good, the tail is a rendering of the offsets.
pub good_is_index : (offsets : List ℕ) (t : Bytes) → verdict offsets t ≡ Good → IsIndex offsets t
good_is_index offsets t h = read_is_index offsets t (good_read offsets t h)

-- The texts of entries lack every byte that is neither a digit nor a space.
entries_lack : (b : ℕ) → eqb 32 b ≡ false → is_digit b ≡ false → (es : List Entry) → AllLack b (map entry es)
unfolding entry
entries_lack b h k [] = tt
entries_lack b h k (e ∷ es) =
    let before = lacks_replicate b 32 e.before h in
    let after = lacks_replicate b 32 e.after h in
    let number = lacks_append b (replicate e.before 32) (decimal e.number) before (decimal_lacks b e.number k) in
    (lacks_append b (replicate e.before 32 ++ decimal e.number) (replicate e.after 32) number after, entries_lack b h k es)

-- The line of a list in brackets is the text of a line with any line end.
list_is_line : (es : List Entry) (e : LineEnd) → IsLine (list_line (entries es)) e
list_is_line es e =
    let u = entries es in
    let lack : lacks 10 u ≡ true = rw entries_joined (joined_lacks 10 44 (map entry es) refl (entries_lack 10 refl refl es)) in
    let whole = lacks_append 10 (text "--- [") (u ++ text "]") refl (lacks_append 10 u (text "]") lack refl) in
    plain_line (list_line u) e whole (ends_snoc 13 93 (text "--- [" ++ u))

-- If `AreLines` holds for `l`, it still holds with the lines of a list before `l`.
list_are_lines : (x : StyledList) (l : Lines) → AreLines l → AreLines (list_lines x l)
unfolding list_lines
list_are_lines (brackets es e) l h = (list_is_line es e, h)
list_are_lines (dashes e ds) l h = (plain_line dash_start e refl refl, dashes_are_lines ds l h)

-- `AreLines` holds for the lines of an index.
index_are_lines : (a b : LineEnd) (x : StyledList) (d : LineEnd) (zeros : ℕ) → AreLines (index_lines a b x d zeros)
index_are_lines a b x d zeros =
    let end : AreLines (end_lines d zeros) = (plain_line end_line d refl refl, lacks_replicate 10 0 zeros refl) in
    (plain_line index_line a refl refl, (plain_line yaml_line b refl refl, list_are_lines x (end_lines d zeros) end))

-- The lines of a rendering are the lines of an index.
lines_rendering : (a b : LineEnd) (x : StyledList) (d : LineEnd) (zeros : ℕ) → lines (rendering a b x d zeros) ≡ index_lines a b x d zeros
lines_rendering a b x d zeros = ap lines (rendering_join a b x d zeros) ∙ lines_join (index_lines a b x d zeros) (index_are_lines a b x d zeros)

-- If there is an entry, the text of the entries is split at its commas into the text of each entry.
split_entries : (es : List Entry) → 1 ≤ length es → split 44 (entries es) ≡ map entry es
split_entries [] h = absurd (omega arith)
split_entries (e ∷ es) h = ap (split 44) (entries_joined (e ∷ es)) ∙ split_joined 44 (entry e) (map entry es) (entries_lack 44 refl refl (e ∷ es))

-- The text of an entry, trimmed, is its number in decimal.
trim_entry : (e : Entry) → trim (entry e) ≡ decimal e.number
unfolding entry
trim_entry e = trim_text e.before (decimal e.number) e.after (decimal_is e.number).some_digit (decimal_lacks 32 e.number refl)

-- If their numbers have at most ten digits, entries are read as their numbers.
read_entries : (es : List Entry) → ((i : ℕ) → get_or (numbers es) i 0 < 10 ^ 10) → numerals 10 (map trim (map entry es)) ≡ Some (numbers es)
unfolding numerals both
read_entries [] h = refl
read_entries (e ∷ es) h = rw (trim_entry e, numeral_decimal 10 e.number (omega arith) (h 0), read_entries es (λ i. h (suc i)))

-- If there is a number and all have at most ten digits, the lines of an index are read as its numbers.
read_lines : (a b : LineEnd) (x : StyledList) (d : LineEnd) (zeros : ℕ) → 1 ≤ length (numbers_of x) → ((i : ℕ) → get_or (numbers_of x) i 0 < 10 ^ 10)
    → indexed (index_lines a b x d zeros) ≡ Some (numbers_of x)
unfolding indexed after_word styled with_zeros list_lines listed numbers_of
read_lines a b (brackets es c) d zeros p h =
    let some-entry : 1 ≤ length es = omega (arith, length-map es (λ (e : Entry). e.number)) in
    rw (zeros_all_zero zeros, with_zeros, brackets_of (entries es), split_entries es some-entry) (read_entries es h)
read_lines a b (dashes c ds) d zeros p h =
    ap at_least_one (dashes_again ds d zeros h) ∙ some_again (dashed_numbers ds) p

-- If a tail that is not all zero is read as the offsets, the verdict on it is good.
read_good : (offsets : List ℕ) (t : Bytes) → all_zero t ≡ false → indexed (lines t) ≡ Some offsets → verdict offsets t ≡ Good
unfolding verdict judged
read_good offsets t z h = rw (z, verdict, h, eq_same offsets offsets refl, judged)

-- A rendering of numbers of at most ten digits, at least one, is a good index of them.
rendering_good : (a b : LineEnd) (x : StyledList) (d : LineEnd) (zeros : ℕ) → 1 ≤ length (numbers_of x) → ((i : ℕ) → get_or (numbers_of x) i 0 < 10 ^ 10)
    → verdict (numbers_of x) (rendering a b x d zeros) ≡ Good
unfolding rendering
rendering_good a b x d zeros p h =
    read_good (numbers_of x) (rendering a b x d zeros) refl (ap indexed (lines_rendering a b x d zeros) ∙ read_lines a b x d zeros p h)

-- If the offsets have at most ten digits, a rendering of them is a good index.
pub index_is_good : (offsets : List ℕ) (t : Bytes) → ((i : ℕ) → get_or offsets i 0 < 10 ^ 10) → IsIndex offsets t → verdict offsets t ≡ Good
index_is_good offsets t h i =
    ap₂ verdict (sym i.same_numbers) i.written
    ∙ rendering_good i.first i.second i.list i.last i.zeros (rw i.same_numbers i.some_number) (λ k. rw i.same_numbers (h k))

-- A number after a comma, as it is written here.
abbrev next : ℕ → Entry
next m = record { before = 1; number = m; after = 0 }

-- The numbers of the entries that are written are the offsets.
spaced_numbers : (offsets : List ℕ) → numbers (spaced offsets) ≡ offsets
unfolding spaced
spaced_numbers [] = refl
spaced_numbers (n ∷ ns) = ap (λ (ms : List ℕ). n ∷ ms) (map-map (λ (e : Entry). e.number) next ns ∙ map-id ns)

-- If there is an offset, the index that is written is an index of the offsets.
pub text_is_index : (e : LineEnd) (offsets : List ℕ) → 1 ≤ length offsets → IsIndex offsets (index_text e offsets)
unfolding index_text numbers_of
text_is_index e offsets h = record {
  first = e;
  second = e;
  list = brackets (spaced offsets) e;
  last = e;
  zeros = 0;
  written = refl;
  same_numbers = spaced_numbers offsets;
  some_number = h;
}

-- How many digits these numbers have together.
unfoldable pub digit_count : List ℕ → ℕ
digit_count [] = 0
digit_count (n ∷ ns) = length (decimal n) + digit_count ns

-- An entry is as long as its spaces and its digits together.
entry_length : (e : Entry) → length (entry e) ≡ e.before + length (decimal e.number) + e.after
unfolding entry
entry_length e = simp (length-append, length-replicate)

-- Each number after the first takes its digits, a comma and a space.
entries_length : (e : Entry) (ns : List ℕ) → length (entries (e ∷ map next ns)) ≡ length (entry e) + digit_count ns + 2 * length ns
unfolding entries digit_count
entries_length e [] = omega arith
entries_length e (n ∷ ns) = simp length-append (omega (arith, entry_length (next n), entries_length (next n) ns))

-- The index that is written is as long as its words, its four line ends and its digits together, with a comma and a
-- space between each two numbers.
pub text_length : (e : LineEnd) (offsets : List ℕ) → 1 ≤ length offsets
    → length (index_text e offsets) ≡ 35 + 4 * length (line_end e) + digit_count offsets + 2 * (length offsets - 1)
unfolding index_text rendering styled_text spaced digit_count
text_length e [] h = absurd (omega arith)
text_length e (n ∷ ns) h =
    let first : Entry = record { before = 0; number = n; after = 0 } in
    simp length-append (omega (arith, entry_length first, entries_length first ns))

-- Numbers below 2^32 have at most ten digits each.
digits_at_most : (ns : List ℕ) → ((i : ℕ) → get_or ns i 0 < 2 ^ 32) → digit_count ns ≤ 10 * length ns
unfolding digit_count
digits_at_most [] h = omega arith
digits_at_most (n ∷ ns) h =
    omega (arith, (decimal_is n).few 10 (omega arith) (omega (arith, h 0)), digits_at_most ns (λ i. h (suc i)))

-- The index of 1 to 64 offsets below 2^32 takes at most 809 bytes.
pub text_at_most : (e : LineEnd) (offsets : List ℕ) → 1 ≤ length offsets → length offsets ≤ 64 → ((i : ℕ) → get_or offsets i 0 < 2 ^ 32)
    → length (index_text e offsets) ≤ 809
text_at_most e offsets some_number few small = omega (arith, text_length e offsets some_number, end_length e, digits_at_most offsets small)
