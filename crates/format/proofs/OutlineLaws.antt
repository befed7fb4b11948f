-- Stored outlines: accepted bytes are written again unchanged, and an outline of a file is read back to the rows of the
-- file.
use Rattle.std.proofs.Common.{◌≡◌, ℕ, zero, suc, ◌+◌, ◌*◌, ◌/◌, ◌%◌, ◌≤◌, Bool, true, false, eqb, leb, List, [], ◌∷◌, ◌++◌, map, length, take, drop, refl, append-nil, arith, length-append, length-drop, take-append-drop, length-take-le, take_at, drop_at, eqb-true, leb-true}
use mathlib.Core.List.{flat_map}
use Rattle.format.specs.declared.row.Row.{Row}
use Rattle.format.specs.declared.refusal.Reason.TheVariants.{FileTooLong, OutlineLength}
use Rattle.format.specs.Bytes.{Bytes, IsBytes}
use Rattle.format.specs.Outcome.{Refusal, Outcome, accepted, refused, refusal, ◌>>=◌}
use Rattle.format.specs.File.{File, most_bytes, file}
use Rattle.format.specs.Nest.{deepest, opened, walk, walk_file, records_from, records}
use Rattle.format.specs.Outline.{row_of, encode_row, decode_row, outline_of, rows, outline, stored_from, stored}
use Rattle.format.proofs.OutcomeLaws.{Accepts, accepted_holds, accepts_bind, accepts_need}
use Rattle.format.proofs.PackLaws.{is_bytes_take, is_bytes_drop}
use Rattle.format.proofs.RowLaws.{encoded_length, decode_encode, encode_decode}
use Rattle.format.proofs.WalkLaws.{Kept, Leads, records_lead}

-- The rows `rs` are written as the bytes `b`.
abbrev Writes : Bytes → List Row → Type 0
Writes b rs = outline_of rs ≡ b

-- If the rows after the first are written as they were read, so are all rows.
same_step : (b : Bytes) (o : Outcome (List Row)) (rs : List Row) → IsBytes b → 16 ≤ length b → Accepts (Writes (drop 16 b)) o
    → o ≡ accepted rs → Writes b (decode_row (take 16 b) ∷ rs)
unfolding outline_of flat_map
same_step b o rs h l after e =
    rw (encode_decode (take 16 b) (is_bytes_take 16 b h) (length-take-le 16 b l), accepted_holds (Writes (drop 16 b)) o rs after e)
    (take-append-drop 16 b)

-- If `k` rows are accepted, they are written as they were read.
same_from : (k n most : ℕ) (b : Bytes) → IsBytes b → length b ≡ k * 16 → Accepts (Writes b) (stored_from k n most b)
unfolding stored_from outline_of flat_map
same_from zero n most [] h l = refl
same_from zero n most (x ∷ b) h l = absurd (omega arith)
same_from (suc k) n most b h l =
    let after = same_from k (n + 16) ((decode_row (take 16 b)).depth + 1) (drop 16 b) (is_bytes_drop 16 b h) (simp length-drop (omega arith)) in
    let long : 16 ≤ length b = omega arith in
    search (accepts_need, accepts_bind, same_step)

-- If bytes are accepted as a stored outline, writing their rows gives the same bytes.
pub same_bytes : (b : Bytes) (rs : List Row) → IsBytes b → stored b ≡ accepted rs → outline_of rs ≡ b
unfolding stored
same_bytes b rs h =
    accepted_holds (Writes b) (stored b) rs
    (accepts_need _ _ OutlineLength 0 _
    λ (e : eqb (length b % 16) 0 ≡ true). same_from (length b / 16) 0 0 b h (omega (arith, eqb-true (length b % 16) 0 e)))

-- If a file is refused, its rows are refused in the same way.
pub refused_no_rows : (s : Bytes) (r : Refusal) → file s ≡ refused r → rows s ≡ refused r
unfolding rows records records_from walk_file
refused_no_rows s r e = rw e

-- If a file is accepted, it has rows.
pub accepted_rows : (s : Bytes) (f : File) → file s ≡ accepted f → (rs : List Row) × (rows s ≡ accepted rs)
unfolding rows records records_from walk_file
accepted_rows s f e = (map row_of (walk (λ n t. opened (records_from 6 1 n t)) 0 0 s f.blocks), rw e)

-- A file that is too long is refused.
too_long : (s : Bytes) → leb (length s) most_bytes ≡ false → file s ≡ refused (refusal FileTooLong 0)
unfolding file
too_long s e = rw e

-- The rows of a file keep the rules of stored rows.
rows_kept : (s : Bytes) → IsBytes s → Accepts (Kept 0) (rows s)
unfolding rows records
rows_kept s bytes = by_length (leb (length s) most_bytes) refl
  where
    by_length : (t : Bool) → leb (length s) most_bytes ≡ t → Accepts (Kept 0) (rows s)
    by_length true e =
        let lead = records_lead deepest 0 0 s bytes (omega (arith, leb-true (length s) most_bytes e)) (omega arith) in
        accepts_bind (Kept 0) (records_from deepest 0 0 s) _
        λ rs q. rw append-nil at (accepted_holds (Leads 0) _ rs lead q [] (λ m h. tt) 0 (omega arith))
    by_length false e = rw (refused_no_rows s (refusal FileTooLong 0) (too_long s e)) tt

-- An outline has sixteen bytes for each row.
outline_length : (rs : List Row) → length (outline_of rs) ≡ length rs * 16
unfolding outline_of flat_map
outline_length [] = omega arith
outline_length (r ∷ rs) = simp (length-append, encoded_length) (omega (arith, outline_length rs))

-- Rows that keep the rules are read back from their bytes.
read_from : (rs : List Row) (n most : ℕ) → Kept most rs → stored_from (length rs) n most (outline_of rs) ≡ accepted rs
unfolding stored_from outline_of flat_map
read_from [] n most h = refl
read_from (r ∷ rs) n most h =
    let first : take 16 (encode_row r ++ outline_of rs) ≡ encode_row r = take_at (encode_row r) _ 16 (encoded_length r) in
    let others : drop 16 (encode_row r ++ outline_of rs) ≡ outline_of rs = drop_at (encode_row r) _ 16 (encoded_length r) in
    rw (first, others, decode_encode r h.0.fits, h.0.rule, read_from rs (n + 16) (r.depth + 1) h.1)

-- If rows keep the rules, their outline is accepted as a stored outline and gives them back.
read_rows : (rs : List Row) → Kept 0 rs → stored (outline_of rs) ≡ accepted rs
unfolding stored
read_rows rs h =
    let whole : length (outline_of rs) % 16 ≡ 0 = omega (arith, outline_length rs) in
    let count : length (outline_of rs) / 16 ≡ length rs = omega (arith, outline_length rs) in
    rw (whole, count) (read_from rs 0 0 h)

-- Every outline of a file is read back to the rows of the file.
pub read_back : (s b : Bytes) → IsBytes s → outline s ≡ accepted b → stored b ≡ rows s
unfolding outline
read_back s b bytes = from (rows s) (rows_kept s bytes)
  where
    from : (o : Outcome (List Row)) → Accepts (Kept 0) o → ◌>>=◌ o (λ rs. accepted (outline_of rs)) ≡ accepted b → stored b ≡ o
    from (accepted rs) h e = cc (read_rows rs h)
    from (refused r) h e = cc
