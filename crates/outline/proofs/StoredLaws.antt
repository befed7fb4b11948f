-- Laws about counted outlines: if the rows of a stored outline are counted, then they are the rows in its bytes,
-- sixteen bytes for each.
use Rattle.std.proofs.Common.{ℕ, zero, suc, ◌+◌, ◌*◌, ◌/◌, ◌%◌, ◌≤◌, ◌<◌, arith, ◌≡◌, refl, ap, ◌∙◌, true, Option, None, Some, MatchOption, Bor, List, ◌∷◌, map, length, take, drop, get_or, length-drop, drop-drop, eqb, eqb-true}
use Rattle.std.specs.Option.{IfSome, IsSomeAnd}
use Rattle.std.specs.List.{HoldsAt}
use Rattle.std.specs.Result.{IsErrAnd}
use Rattle.std.proofs.lemmas.List.{length-map}
use Rattle.std.proofs.lemmas.Option.{slice_get-map, slice_get_past, slice_get_read}
use Rattle.std.proofs.lemmas.Result.{err_from_is_err_and}
use Rattle.std.specs.Simd.{first_chunks}
use Rattle.format.specs.declared.refusal.Reason.TheVariants.{OutlineLength}
use Rattle.format.specs.declared.row.Row.{Row}
use Rattle.format.specs.Bytes.{Bytes}
use Rattle.format.specs.Outcome.{Refusal, Outcome, accepted, refused, ◌>>=◌}
use Rattle.format.specs.Outline.{row_bytes, decode_row, stored_from, stored, stored_count, stored_at}
use Rattle.outline.specs.Row.{rows_in}
use Rattle.format.proofs.OutcomeLaws.{Accepts, accepted_holds, accepts_bind, accepts_need}

-- `rs` are all the rows in `b`.
pub record Read (b : Bytes) (rs : List Row) : Type 0 where
  pub size : length b ≡ length rs * row_bytes
  pub rows : rs ≡ rows_in (length rs) b

-- If `rs` are all the rows after the first sixteen bytes, then the row in these bytes and `rs` are all the rows in `b`.
read_next : (b : Bytes) (o : Outcome (List Row)) (rs : List Row) → row_bytes ≤ length b → Accepts (Read (drop row_bytes b)) o → o ≡ accepted rs
    → Read b (decode_row (take row_bytes b) ∷ rs)
read_next b o rs h others e =
    let after = accepted_holds (Read (drop row_bytes b)) o rs others e in
    record {
      size = omega (arith, length-drop row_bytes b, after.size);
      rows = ap (λ (l : List Row). decode_row (take row_bytes b) ∷ l) after.rows;
    }

-- If `b` has the length of `k` rows and they are accepted, then the accepted rows are all the rows in `b`.
read_from : (k n most : ℕ) (b : Bytes) → length b ≡ k * row_bytes → Accepts (Read b) (stored_from k n most b)
unfolding stored_from
read_from zero n most b h = record { size = h; rows = refl }
read_from (suc k) n most b h =
    let others = read_from k (n + row_bytes) ((decode_row (take row_bytes b)).depth + 1) (drop row_bytes b) (omega (arith, length-drop row_bytes b)) in
    let long : row_bytes ≤ length b = omega arith in
    search (accepts_need, accepts_bind, read_next)

-- If a whole outline is accepted, then its rows are all the rows in its bytes.
pub read_stored : (b : Bytes) → Accepts (Read b) (stored b)
unfolding stored
read_stored b =
    accepts_need _ _ OutlineLength 0 _
    λ (e : eqb (length b % row_bytes) 0 ≡ true). read_from (length b / row_bytes) 0 0 b (omega (arith, eqb-true (length b % row_bytes) 0 e))

-- `b` is an outline of `n` rows, which are the rows in its bytes.
pub record HasRows (b : Bytes) (n : ℕ) : Type 0 where
  pub size : length b ≡ n * row_bytes
  pub is : stored b ≡ accepted (rows_in n b)

-- If `n` rows are counted, then the outline has these `n` rows.
pub has_rows : (b : Bytes) (n : ℕ) → accepted n ≡ stored_count b → HasRows b n
unfolding stored_count
has_rows b n h = go (stored b) refl (read_stored b) h
  where
    go : (o : Outcome (List Row)) → stored b ≡ o → Accepts (Read b) o → accepted n ≡ ◌>>=◌ o (λ rs. accepted (length rs)) → HasRows b n
    go (accepted rs) q read c =
        let l : n ≡ length rs = cc in
        record { size = rw l read.size; is = rw l (q ∙ ap accepted read.rows) }
    go (refused r) q read c = cc

-- If the count is refused, then the outline is refused in the same way.
pub no_rows : (b : Bytes) (r : Refusal) → refused r ≡ stored_count b → stored b ≡ refused r
unfolding stored_count
no_rows b r h = go (stored b) refl h
  where
    go : (o : Outcome (List Row)) → stored b ≡ o → refused r ≡ ◌>>=◌ o (λ rs. accepted (length rs)) → stored b ≡ refused r
    go (accepted rs) q c = cc
    go (refused t) q c = cc

-- If `k` is below `n`, then part `k` of the `n` parts with which `b` begins are its own sixteen bytes.
pub chunk_is : (n k : ℕ) (b d : Bytes) → k < n → get_or (first_chunks row_bytes n b) k d ≡ take row_bytes (drop (k * row_bytes) b)
chunk_is zero k b d h = absurd (omega arith)
chunk_is (suc n) zero b d h = refl
chunk_is (suc n) (suc k) b d h =
    let e : suc k * row_bytes ≡ row_bytes + k * row_bytes = omega arith in
    rw (chunk_is n k (drop row_bytes b) d (omega arith), drop-drop (k * row_bytes) row_bytes b, e)

-- The rows with which `b` begins are in its parts of sixteen bytes.
rows_parts : (n : ℕ) (b : Bytes) → rows_in n b ≡ map decode_row (first_chunks row_bytes n b)
rows_parts zero b = refl
rows_parts (suc n) b = ap (λ (rs : List Row). decode_row (take row_bytes b) ∷ rs) (rows_parts n (drop row_bytes b))

-- If the parts are counted as rows, then the outline has the rows in them.
pub rows_judged : (b : Bytes) (rows : List Bytes) → rows ≡ first_chunks row_bytes (length b / row_bytes) b → length rows ≡ length b / row_bytes
    → accepted (length rows) ≡ stored_count b
    → stored b ≡ accepted (map decode_row rows)
rows_judged b rows split size h = (has_rows b (length rows) h).is ∙ ap accepted (rw (size, rows_parts (length b / row_bytes) b, split))

-- An outline that is refused is refused in the same way when its rows are counted or one is read.
module _ (b : Bytes) (r : Refusal) (h : stored b ≡ refused r) where
  pub count_refused : (x : Outcome ℕ) → IsErrAnd x (λ e. e ≡ r) → x ≡ stored_count b
  unfolding stored_count
  count_refused x e = let same = err_from_is_err_and x e in rw (stored_count, h, same.1, same.2)

  pub row_refused : (k : ℕ) (x : Outcome (Option Row)) → IsErrAnd x (λ e. e ≡ r) → x ≡ stored_at b k
  unfolding stored_at
  row_refused k x e = let same = err_from_is_err_and x e in rw (stored_at, h, same.1, same.2)

-- An outline has the rows in these parts.
module _ (b : Bytes) (rows : List Bytes) (h : stored b ≡ accepted (map decode_row rows)) where
  -- They are counted.
  pub count_rows : accepted (length rows) ≡ stored_count b
  unfolding stored_count
  count_rows = rw (stored_count, h, length-map)

  -- If the row in part `k` is read, where there is such a part, then it is the one asked for.
  pub row_found : (k : ℕ) (part : Option (Bor Bytes)) (row : Option Row)
      → MatchOption part (length rows ≤ k) (λ x. (k < length rows) × HoldsAt {X = Bytes} (λ y. x.now ≡ y) rows k)
      → IfSome part (λ x. x.now ≡ get_or rows k x.now)
      → MatchOption part (row ≡ None) (λ x. IsSomeAnd row (λ r. r ≡ decode_row x.now))
      → accepted row ≡ stored_at b k
  unfolding stored_at
  row_found k None row p q e = rw (stored_at, h, e, slice_get-map decode_row rows k, slice_get_past rows k p)
  row_found k (Some x) None p q e = absurd e
  row_found k (Some x) (Some r) p q e =
      rw (stored_at, h, slice_get-map decode_row rows k, slice_get_read rows (length rows) k x.now refl p.0 q, e)
