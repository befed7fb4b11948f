-- Laws about the listing that is written: one law for each return.
use Prim.Native.Nat.{ℕ, ◌/◌, ◌≤◌, ◌<◌}
use native.Mathlib.Omega.{arith}
use mathlib.Core.Path.{◌≡◌, refl, sym, ap, ◌∙◌}
use mathlib.Core.Bool.{Bool, true, false, and-false}
use mathlib.Core.List.{List, []}
use lib.ListN.{length, take, get_or, length-take}
use lib.Dec.{leb}
use borrow.Author.Tests.{le-leb, lt-leb, leb-true, leb-false}
use mir.Syntax.{w8}
use mir.Val.{Fits}
use Rattle.format.specs.declared.layout.Layout.{Layout}
use Rattle.format.specs.declared.row.Row.{Row}
use Rattle.format.specs.declared.refusal.Reason.TheVariants.{BufferTooShort}
use Rattle.format.specs.Bytes.{Bytes, IsBytes, text}
use Rattle.format.specs.File.{File, file, layout, layout_of}
use Rattle.format.specs.Lent.{writes, leaves, both_fit}
use Rattle.format.specs.Outcome.{Refusal, Outcome, accepted, refused, refusal, ◌>>=◌}
use Rattle.format.specs.Outline.{row_bytes, outline_of, rows, outline, stored}
use Rattle.format.specs.Listing.{most_input, sentence, file_listing, printed, listing, outline_bytes, outline_for, lent_bytes}
use Rattle.format.specs.Promise.{Written, OutlineWritten, BothPut, Listed, ListedLent}
use Rattle.format.proofs.ByteLaws.{and_right}
use Rattle.format.proofs.OutcomeLaws.{accepted_holds, accepts_bind}
use Rattle.format.proofs.OutlineLaws.{refused_no_rows, accepted_rows, read_back}
use Rattle.put.proofs.PutLaws.{placed_none, placed_nothing}
use Rattle.put.specs.Put.{PutWhole, PutAt}
use Rattle.put.proofs.WrittenLaws.{written_placed, own_bytes, Taken, written_taken}
use Rattle.outline.specs.Row.{rows_in}
use Rattle.outline.proofs.StoredLaws.{Read, read_stored}
use Rattle.listing.specs.Listing.{most_outline, Outlined, BothShort, Short}
use Rattle.listing.specs.Text.{most_short, file_text, most_file}
use Rattle.format.proofs.FewLaws.{rows_few}

-- If a line was put into a buffer of its own and is written from there, then the line itself is written, and it is
-- short.
pub line_written : (t own after : Bytes) (n : ℕ) → PutAt own after 0 t most_short n → length own ≡ most_short → (out out-after : Bytes) (x : Outcome ℕ)
    → Written (accepted (take n after)) out out-after x → Short t out out-after x
line_written t own after n put room out out-after x w =
    record { written = rw (own_bytes own after t most_short n put room (omega arith)) at w; short = omega (arith, put.few) }

-- The outline `b` and the text `t` are written into the buffers `rows` and `out`.
module _ (b t rows out : Bytes) where
  neither : both_fit b t rows out ≡ false → (x : Outcome ℕ) → x ≡ refused (refusal BufferTooShort 0) → BothPut b t rows out rows out x
  neither e x is = record { answer = rw (is, e); outline_put = rw e; text_put = rw e }

  module _ (small : length b ≤ most_outline) (a after : Bytes) (n : ℕ) (measured : PutAt a after 0 t (most_file (length b / row_bytes)) n) where
    text_few : length t ≤ lent_bytes
    text_few = omega (arith, measured.few)

    text_length : n ≡ length t
    text_length = omega (arith, measured.end, text_few)

    -- Case: the outline does not fit.
    pub outline_long : length rows < length b → (x : Outcome ℕ) → x ≡ refused (refusal BufferTooShort 0) → BothShort b t rows out rows out x
    outline_long h x is = record {
      put = neither (rw (lt-leb (length b) (length rows) h)) x is;
      outline_short = omega arith;
      text_short = text_few;
    }

    -- Case: the text does not fit.
    pub text_long : length out < n → (x : Outcome ℕ) → x ≡ refused (refusal BufferTooShort 0) → BothShort b t rows out rows out x
    text_long h x is = record {
      put = neither (rw (lt-leb (length t) (length out) (omega (arith, text_length))) (and-false (leb (length b) (length rows)))) x is;
      outline_short = omega arith;
      text_short = text_few;
    }

    -- Case: both fit and are put.
    pub both_put : length b ≤ length rows → n ≤ length out → (rows-after : Bytes) → (p : ℕ) → PutWhole rows rows-after 0 b (length b) p → (out-after : Bytes) (k r : ℕ)
        → PutAt out out-after 0 t k r
        → BothShort b t rows out rows-after out-after (accepted n)
    both_put h g rows-after p e out-after k r put =
        let one = le-leb (length b) (length rows) h in
        let two = le-leb (length t) (length out) (omega (arith, text_length)) in
        record {
          put = record {
            answer = rw (one, two) (ap accepted text_length);
            outline_put = rw (one, two) e.buffer;
            text_put = rw (one, two) (put.buffer (omega (arith, text_length)) (omega (arith, text_few)));
          };
          outline_short = omega arith;
          text_short = text_few;
        }

-- A text that is written alone is a text with an empty outline.
no_outline : (t rows out after : Bytes) (r : Outcome ℕ) → Short t out after r → BothShort [] t rows out rows after r
unfolding writes leaves
no_outline t rows out after r h =
    record { put = by_test (leb (length t) (length out)) refl; outline_short = omega arith; text_short = h.short }
  where
    by_test : (x : Bool) → leb (length t) (length out) ≡ x → BothPut [] t rows out rows after r
    by_test true e = record {
      answer = rw (le-leb 0 (length rows) (omega arith)) h.written.answer;
      outline_put = rw (le-leb 0 (length rows) (omega arith), e) (placed_nothing rows 0 (omega arith));
      text_put = rw (le-leb 0 (length rows) (omega arith), e) h.written.buffer;
    }
    by_test false e = record {
      answer = rw (le-leb 0 (length rows) (omega arith)) h.written.answer;
      outline_put = rw (le-leb 0 (length rows) (omega arith), e);
      text_put =
          rw (le-leb 0 (length rows) (omega arith), e)
          (h.written.buffer ∙ sym (placed_none out 0 t (omega (arith, leb-false (length t) (length out) e))));
    }

-- If the outline and the text that were put are those of `s`, the listing of `s` is written.
is_listed : (s b t rows out rows-after out-after : Bytes) (r : Outcome ℕ) → outline_for s ≡ b → listing s ≡ t
    → BothShort b t rows out rows-after out-after r
    → Listed s rows out rows-after out-after r
is_listed s b t rows out rows-after out-after r e f h = record {
  put = rw (e, f) h.put;
  enough = λ p q.
      rw f
      (h.put.answer ∙ rw (le-leb (length b) (length rows) (omega (arith, h.outline_short)), le-leb (length t) (length out) (omega (arith, h.text_short))));
}

-- Case: the input is too long.
pub listed_long : (s rows out after : Bytes) (r : Outcome ℕ) → most_input < length s
    → Written (accepted (text "too long for this program\n")) out after r
    → Listed s rows out rows after r
unfolding outline_for listing sentence
listed_long s rows out after r h w =
    let e = lt-leb (length s) most_input h in
    let short : Short (text "too long for this program\n") out after r = record { written = w; short = omega arith } in
    is_listed s [] (text "too long for this program\n") rows out rows after r (rw (outline_for, e)) (rw (listing, e)) (no_outline _ rows out after r short)

-- The file that has the layout `l`, and its rows.
record OfLayout (s : Bytes) (l : Layout) : Type 0 where
  f : File
  is : file s ≡ accepted f
  tree : l.tree ≡ f.tree
  verdict : l.verdict ≡ f.verdict
  file_rows : List Row
  rows_are : rows s ≡ accepted file_rows

-- The file was read, and its outline was written into a buffer of `most_outline` bytes.
pub outlined_by : (s before own : Bytes) (a : Outcome Layout) (w : Outcome ℕ) → a ≡ layout s → OutlineWritten s before own w
    → length before ≡ most_outline
    → Outlined s a w own
outlined_by s before own a w read outlined room = record { read = read; before = before; room = room; outlined = outlined }

module _ (s : Bytes) (short : length s ≤ most_input) (a : Outcome Layout) (w : Outcome ℕ) (own : Bytes) (h : Outlined s a w own) where
  is_short : leb (length s) most_input ≡ true
  is_short = le-leb (length s) most_input short

  -- Case: the file is refused.
  module _ (r : Refusal) (e : a ≡ refused r) where
    refused_file : file s ≡ refused r
    unfolding layout
    refused_file = go (file s) refl (sym h.read ∙ e)
      where
        go : (o : Outcome File) → file s ≡ o → ◌>>=◌ o (λ f. accepted (layout_of f)) ≡ refused r → file s ≡ refused r
        go (accepted f) q c = cc
        go (refused x) q c = cc

    pub listed_refused : (rows out after : Bytes) (x : Outcome ℕ) → Short (printed (refused r)) out after x → Listed s rows out rows after x
    unfolding outline_for outline_bytes listing file_listing outline
    listed_refused rows out after x put =
        is_listed s [] (printed (refused r)) rows out rows after x (rw (outline_for, is_short, outline, refused_no_rows s r refused_file))
        (rw (listing, is_short, file_listing, refused_file))
        (no_outline _ rows out after x put)

  -- Case: the file is accepted.
  module _ (l : Layout) (e : a ≡ accepted l) (known : (i : ℕ) → Fits w8 (get_or s i 0)) where
    bytes : IsBytes s
    bytes i = (known i).fits

    of : OfLayout s l
    unfolding layout layout_of
    of =
        accepted_holds (OfLayout s) (layout s) l
        (accepts_bind (OfLayout s) (file s) _ λ f e.
        let rs = accepted_rows s f e in
        record { f = f; is = e; tree = refl; verdict = refl; file_rows = rs.0; rows_are = rs.1 })
        (sym h.read ∙ e)

    -- `b` is the outline of the file.
    module _ (b : Bytes) (is : outline s ≡ accepted b) where
      rows_read : Read b of.file_rows
      rows_read = accepted_holds (Read b) (stored b) of.file_rows (read_stored b) (read_back s b bytes is ∙ of.rows_are)

      outline_few : length b ≤ most_outline
      outline_few = omega (arith, rows_read.size, accepted_holds _ (rows s) of.file_rows (rows_few s) of.rows_are)

      same_rows : rows_in (length b / row_bytes) b ≡ of.file_rows
      same_rows =
          let count : length b / row_bytes ≡ length of.file_rows = omega (arith, rows_read.size) in
          rw count (sym rows_read.rows)

      text_is : listing s ≡ file_text l.tree b l.verdict
      unfolding listing file_listing printed
      text_is =
          let found : listing s ≡ file_text of.f.tree b of.f.verdict = rw (listing, is_short, file_listing, of.is, of.rows_are, same_rows) in
          found ∙ ap (λ t. file_text t b of.f.verdict) (sym of.tree) ∙ ap (file_text l.tree b) (sym of.verdict)

      outline_is : outline_for s ≡ b
      unfolding outline_for outline_bytes
      outline_is = rw (outline_for, is_short, is)

    -- Case: the outline is refused. This cannot happen, because its buffer is long enough.
    pub outline_refused : (r : Refusal) → w ≡ refused r → (rows out : Bytes) → Listed s rows out rows out (refused r)
    unfolding outline writes
    outline_refused r q rows out =
        let whole : outline s ≡ accepted (outline_of of.file_rows) = rw (outline, of.rows_are) in
        let fits = le-leb (length (outline_of of.file_rows)) (length h.before) (omega (arith, h.room, outline_few (outline_of of.file_rows) whole)) in
        let clash : refused r ≡ accepted (length (outline_of of.file_rows)) = rw (q, whole, writes, fits) at h.outlined.written.answer in
        let z : ◌≡◌ {A = ℕ} 0 1 = cc in
        absurd (omega arith)

    -- Case: the outline is written. It is the first `n` bytes of the buffer.
    module _ (n : ℕ) (q : w ≡ accepted n) where
      outline_taken : Taken (outline s) own n
      outline_taken = written_taken (outline s) h.before own n (rw q at h.outlined.written)

      pub outline_length : length (take n own) ≡ n
      outline_length = outline_taken.size

      pub outline_small : length (take n own) ≤ most_outline
      outline_small = outline_few (take n own) outline_taken.is

      pub outline_listed : (rows out rows-after out-after : Bytes) (r : Outcome ℕ)
          → BothShort (take n own) (file_text l.tree (take n own) l.verdict) rows out rows-after out-after r
          → Listed s rows out rows-after out-after r
      outline_listed rows out rows-after out-after r =
          is_listed s _ _ rows out rows-after out-after r (outline_is (take n own) outline_taken.is) (text_is (take n own) outline_taken.is)

-- What the answer `x` for the listing of `s` means.
module _ (s rows out rows-after out-after : Bytes) (x : Outcome ℕ) (h : Listed s rows out rows-after out-after x) where
  module _ (n : ℕ) (e : x ≡ accepted n) where
    text_written : Written (accepted (listing s)) out out-after (accepted n)
    text_written = by_test (both_fit (outline_for s) (listing s) rows out) refl
      where
        by_test : (t : Bool) → both_fit (outline_for s) (listing s) rows out ≡ t → Written (accepted (listing s)) out out-after (accepted n)
        by_test true q =
            let count : accepted n ≡ accepted (length (listing s)) = rw (e, q) at h.put.answer in
            let same : n ≡ length (listing s) = cc in
            let fits = leb-true _ _ (and_right (leb (length (outline_for s)) (length rows)) _ q) in
            written_placed (accepted (listing s)) out (listing s) refl fits out-after (rw q at h.put.text_put) n same
        by_test false q =
            let clash : accepted n ≡ refused (refusal BufferTooShort 0) = rw (e, q) at h.put.answer in
            let z : ◌≡◌ {A = ℕ} 0 1 = cc in
            absurd (omega arith)

    text_taken : Taken (accepted (listing s)) out-after n
    text_taken = written_taken (accepted (listing s)) out out-after n text_written

    -- The first `n` bytes of the buffer are the listing.
    pub shown : ListedLent s rows out rows-after out-after n
    shown = record {
      listed = rw (← e) h;
      inside = omega (arith, text_taken.size, length-take n out-after);
      size = sym text_taken.size;
      text = let same = text_taken.is in cc;
    }

  -- With buffers as long as the program's, the answer is never a refusal.
  pub never_refused : (r : Refusal) → x ≡ refused r → length rows ≡ lent_bytes → length out ≡ lent_bytes → ⊥
  never_refused r e p q =
      let clash : refused r ≡ accepted (length (listing s)) = rw e at (h.enough (omega arith) (omega arith)) in
      let z : ◌≡◌ {A = ℕ} 0 1 = cc in
      omega arith
