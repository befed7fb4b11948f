-- Laws about writing the rows of a stored outline. They are put one after another in a form, and an accepted outline is
-- written again as it was.
use Rattle.std.proofs.Common.{ℕ, suc, ◌+◌, ◌*◌, ◌-◌, ◌/◌, ◌≤◌, ◌<◌, add_comm, suc-mul, div-lt_iff_lt-mul, le-div_iff_mul-le, arith, ◌≡◌, refl, sym, ap, ◌∙◌, List, [], ◌∷◌, map, length, take, drop, get_or, length-append, w8, Fits, add-one, drop-cons, drop_of_length-le, length-drop}
use mathlib.Core.List.{flat_map}
use Rattle.std.specs.Result.{IsErrAnd}
use Rattle.std.proofs.lemmas.Result.{err_from_is_err_and}
use Rattle.format.specs.declared.row.Row.{Row}
use Rattle.format.specs.declared.refusal.Reason.TheVariants.{BufferTooShort}
use Rattle.format.specs.Bytes.{Bytes}
use Rattle.format.specs.Lent.{placed}
use Rattle.format.specs.Outcome.{Refusal, Outcome, accepted, refused, refusal, ◌>>=◌}
use Rattle.format.specs.Outline.{encode_row, decode_row, outline_of, stored, rewritten}
use Rattle.format.specs.Promise.{Written, WrittenAgain}
use Rattle.format.proofs.OutlineLaws.{same_bytes}
use Rattle.put.proofs.PutLaws.{placed_append, placed_nothing}
use Rattle.put.proofs.WrittenLaws.{written_refused, written_short, written_placed, written_taken}
use Rattle.outline.specs.Form.{rows_in_form, stored_in}

-- Rows in a form, one after another. Each is in its own sixteen bytes.
abbrev pub all_of : (Row → Bytes) → List Bytes → Bytes
all_of form rows = rows_in_form form (map decode_row rows)

-- The invariant of the writer: the first `k` rows are put. Putting the others after them gives the same buffer as
-- putting all rows at its start.
pub record Putting (form : Row → Bytes) (each : ℕ) (rows : List Bytes) (before out : Bytes) (k : ℕ) : Type 0 where
  pub left : placed out (k * each) (all_of form (drop k rows)) ≡ placed before 0 (all_of form rows)

-- The invariant holds at the start, where no row is put yet.
pub rows_start : (form : Row → Bytes) (each : ℕ) (rows : List Bytes) (out : Bytes) → Putting form each rows out out 0
rows_start form each rows out = record { left = let none : 0 * each ≡ 0 = omega arith in rw none }

-- Every row takes `each` bytes in the form.
module _ (form : Row → Bytes) (each : ℕ) (long : (r : Row) → length (form r) ≡ each) where
  -- Hence `n` rows take `n` times as many bytes.
  pub rows_length : (rows : List Bytes) → length (all_of form rows) ≡ length rows * each
  unfolding rows_in_form flat_map
  rows_length [] = sym (omega arith)
  rows_length (b ∷ rows) = rw (length-append, long, rows_length rows, suc-mul) (add_comm each (length rows * each))

  module _ (rows : List Bytes) (before out : Bytes) (k : ℕ) (h : Putting form each rows before out k) (room : length rows * each ≤ length before)
      (size : length out ≡ length before) where
    -- If row `k` is put, then the invariant also holds after that row.
    pub rows_step : k < length rows → (r : Row) (at : ℕ) (after : Bytes) → r ≡ decode_row (get_or rows k []) → at ≡ each
        → after ≡ placed out (k * at) (form r)
        → Putting form each rows before after (k + 1)
    unfolding rows_in_form flat_map
    rows_step p r at after e w f =
        let others = all_of form (drop (suc k) rows) in
        let next : suc k * each ≡ k * each + each = suc-mul k each in
        let many : length rows * each ≡ (k + 1 + (length rows - suc k)) * each = ap (λ (n : ℕ). n * each) (omega arith) in
        let fits : k * each + length (form r) + length others ≤ length out
        = rw (long r, rows_length (drop (suc k) rows), length-drop (suc k) rows) (omega (arith, many)) in
        let both = rw (long r) at (placed_append out (k * each) (form r) others fits) in
        let rest = rw (drop-cons rows k [] p, ← e) at h.left in
        record { left = rw (add-one k, next, f, w) (both ∙ rest) }

    -- If no row is left, then all rows are put.
    pub rows_done : k ≤ length rows → length rows ≤ k → out ≡ placed before 0 (all_of form rows)
    unfolding rows_in_form flat_map
    rows_done p q =
        let none : drop k rows ≡ [] = drop_of_length-le rows q in
        let all : k ≡ length rows = omega arith in
        placed_nothing out (k * each) (rw (all, size) room) ∙ rw none at h.left

-- If the outline is refused, then the writer gives the same refusal and leaves the buffer unchanged.
pub write_refused : (form : Row → Bytes) (b out : Bytes) (r : Refusal) → stored b ≡ refused r → (x : Outcome ℕ) → IsErrAnd x (λ e. e ≡ r)
    → Written (stored_in form b) out out x
unfolding stored_in
write_refused form b out r h x e =
    let same = err_from_is_err_and x e in
    written_refused (stored_in form b) out r (rw (stored_in, h)) x (same.1 ∙ ap refused same.2)

module _ (form : Row → Bytes) (each : ℕ) (long : (r : Row) → length (form r) ≡ each) (some : 0 < each) (b : Bytes) (rows : List Bytes)
    (h : stored b ≡ accepted (map decode_row rows)) where
  are_rows : stored_in form b ≡ accepted (all_of form rows)
  unfolding stored_in
  are_rows = rw (stored_in, h)

  module _ (out : Bytes) where
    -- If there is no room for the rows, then the writer refuses with number 21 at place 0 and leaves the buffer
    -- unchanged.
    pub write_long : (n : ℕ) → n ≡ each → length out / n < length rows → (x : Refusal) → x ≡ refusal BufferTooShort 0
        → Written (stored_in form b) out out (refused x)
    write_long n e p x f =
        let fewer : length out < length rows * each = (div-lt_iff_lt-mul some).0 (rw e at p) in
        written_short (stored_in form b) out (all_of form rows) are_rows (rw (rows_length form each long rows) fewer) (refused x) (ap refused f)

    -- If the rows are put at the start of the buffer, then they are written, and the answer is how many bytes they have.
    pub write_done : (n : ℕ) → n ≡ each → length rows ≤ length out / n → (m : ℕ) → m ≡ each → (after : Bytes) → after ≡ placed out 0 (all_of form rows)
        → Written (stored_in form b) out after (accepted (length rows * m))
    write_done n e p m d after f =
        let room : length rows * each ≤ length out = (le-div_iff_mul-le some).0 (rw e at p) in
        let size = rows_length form each long rows in
        written_placed (stored_in form b) out (all_of form rows) are_rows (rw size room) after f (length rows * m) (rw (d, size))

-- If an outline is written in the form in which it is stored, then the result is the same outline.
pub written_again : (b before after : Bytes) (a : Outcome ℕ) → ((i : ℕ) → Fits w8 (get_or b i 0)) → Written (stored_in encode_row b) before after a
    → WrittenAgain b before after a
unfolding stored_in rows_in_form rewritten outline_of
written_again b before after a known w = record { written = w; same = λ n e. from (stored b) refl n (written_taken _ before after n (rw e at w)).is }
  where
    from : (o : Outcome (List Row)) → stored b ≡ o → (n : ℕ) → ◌>>=◌ o (λ rs. accepted (outline_of rs)) ≡ accepted (take n after) → take n after ≡ b
    from (accepted rs) q n t = cc (same_bytes b rs (λ i. (known i).fits) q)
    from (refused r) q n t = cc
