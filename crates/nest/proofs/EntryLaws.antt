-- Laws about what a whole walk leaves: a count, one record, or what is put for each record.
use Prim.Native.Nat.{ℕ, zero, suc, ◌+◌, ◌*◌, ◌-◌, ◌/◌, ◌^◌, ◌≤◌, ◌<◌}
use native.Mathlib.Omega.{arith}
use native.Mathlib.Nat.{zero-add, sub-zero, mul-zero, add-mul, suc-mul, one-mul, zero-mul, mul_comm, div-lt_iff_lt-mul, le-div_iff_mul-le}
use mathlib.Core.Path.{◌≡◌, refl, sym, ap, ◌∙◌}
use mathlib.Core.Bool.{Bool, true, false}
use mathlib.Core.List.{List, [], ◌∷◌, ◌++◌, map, flat_map}
use Rattle.std.specs.Prelude.{Option, None, slice_get}
use lib.ListN.{length, take, get_or, length-append}
use lib.Dec.{eqb}
use borrow.Author.Tests.{leb-true, eqb-true, eqb-false, ne_eqb}
use mir.Syntax.{w8, w64}
use mir.Val.{Fits}
use Rattle.format.specs.declared.block.Record.{Record}
use Rattle.format.specs.declared.offset.OutermostOffset.{OutermostOffset}
use Rattle.format.specs.declared.refusal.Reason.TheVariants.{BufferTooShort}
use Rattle.format.specs.Bytes.{Bytes, wrapped}
use Rattle.format.specs.Block.{least_block}
use Rattle.format.specs.Outcome.{Refusal, Outcome, accepted, refused, refusal}
use Rattle.format.specs.File.{most_bytes, layout}
use Rattle.format.specs.Nest.{deepest, records, record_count, record_at}
use Rattle.format.specs.Fields.{record_fields, record_bytes, encode_record, record_table, found_numbers, found_bytes}
use Rattle.format.specs.Lent.{placed}
use Rattle.format.specs.Outline.{row_of, encode_row, outline_of, rows, outline}
use Rattle.format.specs.Promise.{Written, OutlineWritten}
use Rattle.format.proofs.FileLaws.{file_parts}
use Rattle.format.proofs.FewLaws.{Few, records_few}
use Rattle.format.proofs.OutcomeLaws.{accepted_holds}
use Rattle.format.proofs.OutlineLaws.{read_back}
use Rattle.format.proofs.RowLaws.{encoded_length}
use Rattle.put.proofs.PutLaws.{placed_nothing, placed_none, placed_length, placed_append}
use Rattle.put.proofs.WrittenLaws.{written_refused, written_short, written_placed, written_taken}
use Rattle.file.specs.declared.open.OpenFile.{OpenFile}
use Rattle.file.specs.Layout.{Kept}
use Rattle.file.proofs.LayoutLaws.{file_refused, open_is_kept}
use Rattle.visit.specs.declared.sink.Form.{Form}
use Rattle.visit.specs.declared.sink.Form.TheVariants.{Rows, Table, One}
use Rattle.visit.specs.Content.{file_records}
use Rattle.visit.specs.Sink.{encoded, width, all_encoded, delivery, number_after, put_all, Delivered}
use Rattle.visit.proofs.ContentLaws.{refused_records, accepted_records}
use Rattle.visit.proofs.SinkLaws.{record_length}
use Rattle.nest.specs.Walk.{all_records}

module _ {s : Bytes} {offsets : List ℕ} {blocks : ℕ} (kept : Kept s offsets blocks) where
  -- The records of an accepted file are the records that the walk finds at depth 0, from offset 0 on.
  all_are : records s ≡ accepted (file_records 0 0 s)
  unfolding records
  all_are = accepted_records kept 0 0

  pub accepted_all : records s ≡ accepted (all_records s)
  unfolding all_records
  accepted_all = rw (all_records, all_are)

  short : length s ≤ most_bytes
  short = leb-true (length s) most_bytes (file_parts s kept.f kept.is).short

  -- The length of the file limits how many records it has.
  all_few : Few s (all_records s)
  unfolding records
  all_few = accepted_holds (Few s) (records s) (all_records s) (records_few deepest 0 0 s) accepted_all

  -- A whole file is within the size limit, so its walk may begin.
  pub walk_room : (o : OutermostOffset) → o.0 ≡ 0 → o.0 + length s ≤ most_bytes
  walk_room o e = omega (arith, short)

  -- The walk of a whole file takes all its records.
  pub walk_whole : (form : Form) (x : ℕ) (out after : Bytes) (o : OutermostOffset) → o.0 ≡ 0
      → Delivered form 0 out (file_records 0 o.0 s) after x → Delivered form 0 out (all_records s) after x
  unfolding all_records
  walk_whole form x out after o z h = rw (all_records, all_are) (rw z at h)

-- The number after the records is the first number plus how many records there are, if that fits into 64 bits.
number_after_lem : (n : ℕ) (rs : List Record) → n + length rs < 2 ^ 64 → number_after n rs ≡ n + length rs
unfolding number_after
number_after_lem n [] h = omega arith
number_after_lem n (r ∷ rs) h = number_after_lem (wrapped n 1) rs (omega arith) ∙ omega arith

-- After the wanted record has come, nothing more is put.
put_after : (w n : ℕ) (out : Bytes) (rs : List Record) → n + length rs < 2 ^ 64 → w < n → put_all (One w) n out rs ≡ out
unfolding put_all
put_after w n out [] few h = refl
put_after w n out (r ∷ rs) few h =
    let same : placed out (n * 0) (delivery (One w) n r) ≡ out =
    rw (mul-zero n, delivery, ne_eqb w n (λ e. omega arith)) (sym (placed_nothing out 0 (omega arith))) in
    rw same (put_after w (wrapped n 1) out rs (omega arith) (omega arith))

-- If one record is wanted, that record is put at the start, or nothing if there is no such record.
put_one : (w n : ℕ) (out : Bytes) (rs : List Record) → n + length rs < 2 ^ 64 → n ≤ w
    → put_all (One w) n out rs ≡ placed out 0 (found_numbers record_fields (slice_get rs (w - n)))
unfolding put_all found_numbers encode_record
put_one w n out [] few h = placed_nothing out 0 (omega arith)
put_one w n out (r ∷ rs) few h = by_test (eqb w n) refl (λ out. put_one w (wrapped n 1) out rs)
  where
    by_test : (t : Bool) → eqb w n ≡ t
        → ((out : Bytes) → wrapped n 1 + length rs < 2 ^ 64 → wrapped n 1 ≤ w
        → put_all (One w) (wrapped n 1) out rs ≡ placed out 0 (found_numbers record_fields (slice_get rs (w - wrapped n 1))))
        → put_all (One w) n out (r ∷ rs) ≡ placed out 0 (found_numbers record_fields (slice_get (r ∷ rs) (w - n)))
    by_test true e rest =
        let same = eqb-true w n e in
        let first : w - n ≡ 0 = omega arith in
        rw (mul-zero n, delivery, e, first) (put_after w (wrapped n 1) (placed out 0 (encode_record r)) rs (omega arith) (omega arith))
    by_test false e rest =
        let differ = eqb-false w n e in
        let next : w - n ≡ suc (w - wrapped n 1) = omega arith in
        rw (mul-zero n, delivery, e, ← placed_nothing out 0 (omega arith), next) (rest out (omega arith) (omega arith))

-- If `k` is not below the number of records, there is no record `k`.
no_record : (rs : List Record) (k : ℕ) → length rs ≤ k → slice_get rs k ≡ None
no_record [] k h = refl
no_record (r ∷ rs) zero h = absurd (omega arith)
no_record (r ∷ rs) (suc k) h = no_record rs k (omega arith)

-- If `k` is below the number of records, there is a record `k`, and it takes `record_bytes` bytes.
record_there : (rs : List Record) (k : ℕ) → k < length rs → length (found_numbers record_fields (slice_get rs k)) ≡ record_bytes
unfolding found_numbers encode_record
record_there [] k h = absurd (omega arith)
record_there (r ∷ rs) zero h = record_length r
record_there (r ∷ rs) (suc k) h = record_there rs k (omega arith)

module _ {s : Bytes} {offsets : List ℕ} {blocks : ℕ} (kept : Kept s offsets blocks) (out after : Bytes) (x : ℕ) where
  -- A walk counts the records of an accepted file.
  pub counted : (form : Form) → Delivered form 0 out (all_records s) after x → x ≡ length (all_records s)
  counted form h =
      let few = all_few kept in
      h.next ∙ number_after_lem 0 (all_records s) (omega (arith, short kept)) ∙ omega arith

  -- Case: one record is wanted.
  module _ (w : ℕ) (d : Delivered (One w) 0 out (all_records s) after x) where
    abbrev found : Option Record
    found = slice_get (all_records s) w

    one_is : found_bytes record_fields (record_at s w) ≡ accepted (found_numbers record_fields found)
    unfolding found_bytes record_at
    one_is = rw (found_bytes, record_at, accepted_all kept)

    one_put : after ≡ placed out 0 (found_numbers record_fields found)
    one_put =
        let few = all_few kept in
        d.buffer ∙ put_one w 0 out (all_records s) (omega (arith, short kept)) (omega arith) ∙ rw (sub-zero w)

    -- If there is no such record, nothing is written.
    pub one_none : x ≤ w → Written (found_bytes record_fields (record_at s w)) out after (accepted 0)
    unfolding found_numbers encode_record
    one_none h =
        let none_there : found ≡ None = no_record (all_records s) w (omega (arith, counted (One w) d)) in
        let nothing : found_numbers record_fields found ≡ [] = rw none_there in
        written_placed _ out [] (one_is ∙ ap accepted nothing) (omega arith) after (one_put ∙ rw nothing) 0 refl

    module _ (h : w < x) where
      one_length : length (found_numbers record_fields found) ≡ record_bytes
      one_length = record_there (all_records s) w (omega (arith, counted (One w) d))

      one_room : length after ≡ length out
      one_room = ap length one_put ∙ placed_length out 0 (found_numbers record_fields found)

      -- If the record does not fit, the answer is refusal 21.
      pub one_short : length after < record_bytes → (a : Outcome ℕ) → a ≡ refused (refusal BufferTooShort 0) → Written (found_bytes record_fields (record_at s w)) out after a
      one_short g a e =
          let same : after ≡ out = one_put ∙ sym (placed_none out 0 (found_numbers record_fields found) (omega (arith, one_length, one_room))) in
          rw same (written_short _ out (found_numbers record_fields found) one_is (omega (arith, one_length, one_room)) a e)

      -- If the record fits, it is put.
      pub one_written : record_bytes ≤ length after → Written (found_bytes record_fields (record_at s w)) out after (accepted record_bytes)
      one_written g = written_placed _ out (found_numbers record_fields found) one_is (omega (arith, one_length, one_room)) after one_put record_bytes (sym one_length)

-- Unless only one record is wanted, what is put for a record has the width of the form.
encoded_width : (form : Form) (r : Record) → 1 ≤ width form → length (encoded form r) ≡ width form
encoded_width Rows r h = encoded_length (row_of r)
encoded_width Table r h = record_length r
encoded_width (One w) r h = absurd (omega arith)

-- What is put for all records has that width times their number.
all_length : (form : Form) (rs : List Record) → 1 ≤ width form → length (all_encoded form rs) ≡ width form * length rs
unfolding all_encoded flat_map
all_length form [] h = omega arith
all_length form (r ∷ rs) h = rw (length-append) (omega (arith, encoded_width form r h, all_length form rs h))

-- Unless only one record is wanted, the record's number does not change what is put.
delivery_is : (form : Form) (n : ℕ) (r : Record) → 1 ≤ width form → delivery form n r ≡ encoded form r
delivery_is Rows n r h = refl
delivery_is Table n r h = refl
delivery_is (One w) n r h = absurd (omega arith)

-- If the records fit, they are put one after another.
put_encoded : (form : Form) (n : ℕ) (out : Bytes) (rs : List Record) → 1 ≤ width form → n + length rs < 2 ^ 64
    → (n + length rs) * width form ≤ length out → put_all form n out rs ≡ placed out (n * width form) (all_encoded form rs)
unfolding put_all all_encoded flat_map
put_encoded form n out [] wide few fit = placed_nothing out (n * width form) (omega arith)
put_encoded form n out (r ∷ rs) wide few fit =
    let w = width form in
    let one : wrapped n 1 ≡ n + 1 = omega arith in
    let size = encoded_width form r wide in
    let all = all_length form rs wide in
    let spread : (n + suc (length rs)) * w ≡ n * w + w + w * length rs =
    rw (add-mul n (suc (length rs)) w, suc-mul (length rs) w, mul_comm (length rs) w) (omega arith) in
    let same : n + 1 + length rs ≡ n + length (r ∷ rs) = omega arith in
    let next : (n + 1) * w ≡ n * w + length (encoded form r) = rw (size, add-mul n 1 w) (omega (arith, one-mul w)) in
    rw (one, delivery_is form n r wide)
    (put_encoded form (n + 1) (placed out (n * w) (encoded form r)) rs wide (omega arith) (rw (same, placed_length) fit)
    ∙ rw next (placed_append out (n * w) (encoded form r) (all_encoded form rs) (omega arith)))

-- The number of bytes that the records take fits into 64 bits, so it can be returned.
fits_width : (form : Form) (n : ℕ) → n ≤ most_bytes → Fits w64 (width form * n)
fits_width Rows n h = omega arith
fits_width Table n h = omega arith
fits_width (One w) n h = rw (zero-mul n) (omega arith)

pub told_fits : {s : Bytes} {offsets : List ℕ} {blocks : ℕ} → Kept s offsets blocks → {form : Form} {each n : ℕ} {out after : Bytes}
    → Delivered form 0 out (all_records s) after n → each ≡ width form → Fits w64 (each * n)
told_fits kept {form} {each} {n} {out} {after} d e =
    rw e (fits_width form n (omega (arith, counted kept out after n form d, all_few kept, short kept)))

module _ {s : Bytes} {offsets : List ℕ} {blocks : ℕ} (kept : Kept s offsets blocks) (form : Form) (wide : 1 ≤ width form) {each : ℕ} (width_is : each ≡ width form) where
  pub each_some : 0 < each
  each_some = omega arith

  -- What is put for all records takes `each` bytes for each record.
  all_bytes : length (all_encoded form (all_records s)) ≡ length (all_records s) * each
  all_bytes = rw (all_length form (all_records s) wide, width_is) (mul_comm (width form) (length (all_records s)))

  -- Case: the buffer is long enough for all records.
  module _ {out after : Bytes} {n : ℕ} (d : Delivered form 0 out (all_records s) after n) (h : length (all_records s) ≤ length out / each) where
    all_room : length (all_records s) * each ≤ length out
    all_room = (le-div_iff_mul-le each_some).0 h

    all_put : Written (accepted (all_encoded form (all_records s))) out after (accepted (each * n))
    all_put =
        let rs = all_records s in
        let few = all_few kept in
        let fit : (0 + length rs) * width form ≤ length out = rw (zero-add (length rs), ← width_is) all_room in
        let put = put_encoded form 0 out rs wide (omega (arith, short kept)) fit in
        written_placed _ out (all_encoded form rs) refl (rw all_bytes all_room) after (d.buffer ∙ put ∙ rw (zero-mul (width form))) (each * n)
        (mul_comm each n ∙ ap (λ (m : ℕ). m * each) (counted kept out after n form d) ∙ sym all_bytes)

  -- Case: the buffer has places for as many blocks as the file can have, so it is long enough.
  module _ {out after : Bytes} {n : ℕ} (d : Delivered form 0 out (all_records s) after n) (h : length s / least_block ≤ length out / each) where
    sure : length (all_records s) ≤ length out / each
    sure = let few = all_few kept in omega arith

    pub sure_put : Written (accepted (all_encoded form (all_records s))) out after (accepted (each * n))
    sure_put = all_put d sure

  -- Case: the walk into the function's own buffer has counted `n` records.
  module _ (out : Bytes) {own made : Bytes} {n : ℕ} (d : Delivered form 0 own (all_records s) made n) where
    -- If there are more records than the lent buffer has places for, the answer is refusal 21.
    pub measured_short : length out / each < n → (a : Outcome ℕ) → a ≡ refused (refusal BufferTooShort 0)
        → Written (accepted (all_encoded form (all_records s))) out out a
    measured_short h =
        let many : length out < length (all_records s) * each = (div-lt_iff_lt-mul each_some).0 (rw (counted kept own made n form d) at h) in
        written_short _ out (all_encoded form (all_records s)) refl (rw all_bytes many)

    module _ (h : n ≤ length out / each) where
      enough : length (all_records s) ≤ length out / each
      enough = rw (counted kept own made n form d) at h

      -- If the records fit, a second walk puts them.
      pub measured_put : {after : Bytes} {x : ℕ} → Delivered form 0 out (all_records s) after x
          → Written (accepted (all_encoded form (all_records s))) out after (accepted (each * n))
      measured_put {after} {x} g =
          let same : x ≡ n = counted kept out after x form g ∙ sym (counted kept own made n form d) in
          rw (← same) (all_put g enough)

      -- Case: all records are in the function's own buffer, so no second walk is needed.
      module _ (size : ℕ) (own_size : length own ≡ size) (All-there : n ≤ size / each) where
        g : n ≤ length own / each
        g = rw own_size All-there

        pub own_put : {after : Bytes} {r : Outcome ℕ} → Written (accepted (take (each * n) made)) out after r
            → Written (accepted (all_encoded form (all_records s))) out after r
        own_put w =
            let mine = all_put d (rw (counted kept own made n form d) at g) in
            rw (written_taken _ own made (each * n) mine).is w

-- The outline has a row for each record.
rows_encoded : (rs : List Record) → outline_of (map row_of rs) ≡ all_encoded Rows rs
unfolding outline_of all_encoded flat_map
rows_encoded [] = refl
rows_encoded (r ∷ rs) = ap (λ (b : Bytes). encode_row (row_of r) ++ b) (rows_encoded rs)

-- If an outline is written, it reads back to the rows of the file.
back : (s : Bytes) → ((i : ℕ) → Fits w8 (get_or s i 0)) → (out after : Bytes) (x : Outcome ℕ) → Written (outline s) out after x → OutlineWritten s out after x
back s known out after x w =
    record {
      written = w;
      reads_back = λ n e. let t = written_taken (outline s) out after n (rw e at w) in read_back s (take n after) (λ i. (known i).fits) t.is;
    }

-- The answers of the public functions, for a file that is refused.
module _ (s : Bytes) (r : Refusal) (e : layout s ≡ refused r) where
  -- Its records are refused in the same way.
  no_records : records s ≡ refused r
  unfolding records
  no_records = refused_records deepest 0 0 s r (file_refused s (layout s) refl r e)

  pub count_refused : refused r ≡ record_count s
  unfolding record_count
  count_refused = rw (record_count, no_records)

  pub record_refused : (w : ℕ) (out : Bytes) → Written (found_bytes record_fields (record_at s w)) out out (refused r)
  unfolding found_bytes record_at
  record_refused w out = written_refused (found_bytes record_fields (record_at s w)) out r (rw (found_bytes, record_at, no_records)) _ refl

  pub outline_refused : ((i : ℕ) → Fits w8 (get_or s i 0)) → (out : Bytes) → OutlineWritten s out out (refused r)
  unfolding outline rows
  outline_refused known out = back s known out out _ (written_refused (outline s) out r (rw (outline, rows, no_records)) _ refl)

  pub table_refused : (out : Bytes) → Written (record_table s) out out (refused r)
  unfolding record_table
  table_refused out = written_refused (record_table s) out r (rw (record_table, no_records)) _ refl

-- The answers of the public functions, for a file that is open.
module _ (s : Bytes) (file : OpenFile) (same : file.bytes.now ≡ s) where
  kept_here : Kept s file.offsets.now (length file.offsets.now)
  kept_here = open_is_kept s file.offsets.now (rw same at file.kept)

  pub count_accepted : (n : ℕ) → n ≡ length (all_records file.bytes.now) → accepted n ≡ record_count s
  unfolding record_count
  count_accepted n c = rw (record_count, accepted_all kept_here, c, same)

  pub record_written : (w : ℕ) (out after : Bytes) (x : Outcome ℕ) → Written (found_bytes record_fields (record_at file.bytes.now w)) out after x
      → Written (found_bytes record_fields (record_at s w)) out after x
  record_written w out after x h = rw same at h

  pub outline_written : ((i : ℕ) → Fits w8 (get_or s i 0)) → (out after : Bytes) (x : Outcome ℕ)
      → Written (accepted (all_encoded Rows (all_records file.bytes.now))) out after x → OutlineWritten s out after x
  unfolding outline rows all_encoded
  outline_written known out after x w =
      back s known out after x (rw (outline, rows, accepted_all kept_here, rows_encoded (all_records s)) (rw same at w))

  pub table_written : (out after : Bytes) (x : Outcome ℕ) → Written (accepted (all_encoded Table (all_records file.bytes.now))) out after x
      → Written (record_table s) out after x
  unfolding record_table all_encoded
  table_written out after x w = rw (record_table, accepted_all kept_here) (rw same at w)
