-- Laws about judging a stored outline. The invariant: continuing the count at any row gives the count of the whole
-- outline.
use Rattle.std.proofs.Common.{ℕ, suc, ◌+◌, ◌*◌, ◌-◌, ◌/◌, ◌%◌, ◌≤◌, ◌<◌, zero-add, mod-lt, arith, ◌≡◌, refl, sym, ap, ◌∙◌, Bool, true, false, ◌==◌, List, [], ◌∷◌, map, length, drop, get_or, drop-drop, w8, Fits}
use Rattle.std.specs.Simd.{first_chunks}
use Rattle.format.specs.declared.row.Row.{Row}
use Rattle.format.specs.declared.refusal.Reason.TheVariants.{OutlineLength, OutlineRow}
use Rattle.format.specs.Bytes.{Bytes}
use Rattle.format.specs.Outcome.{Refusal, Outcome, accepted, refused, refusal, need, ◌>>=◌, ◌>>◌}
use Rattle.format.specs.Outline.{row_bytes, row_from, unpacked, decode_row, is_row, stored_from, stored, stored_count}
use Rattle.outline.proofs.StoredLaws.{chunk_is, no_rows, rows_judged}

-- A depth that is read from a row has three bits, so it is below 8.
depth_small : (b : Bytes) → (decode_row b).depth < 8
unfolding decode_row row_from unpacked
depth_small b = mod-lt _ (omega arith)

-- Hence a depth that is one higher fits into a byte.
pub depth_fits : (r : Row) (b : Bytes) → r ≡ decode_row b → Fits w8 (r.depth + 1)
depth_fits r b e = rw e (omega (arith, depth_small b))

-- The number of rows in `o`, added to the `n` rows that were counted before.
abbrev pub counted_from : ℕ → Outcome (List Row) → Outcome ℕ
counted_from n o = do
  rs ← o
  accepted (n + length rs)

-- The invariant of the count: the first `k` rows are accepted, and continuing the count after them gives the count of the
-- whole outline.
pub record Counting (b : Bytes) (k most : ℕ) : Type 0 where
  pub left : counted_from k (stored_from (length b / row_bytes - k) (k * row_bytes) most (drop (k * row_bytes) b)) ≡ stored_count b

-- If no rows were counted before, then the count is the number of rows in `o`.
counted_alone : (o : Outcome (List Row)) → counted_from 0 o ≡ ◌>>=◌ o (λ rs. accepted (length rs))
counted_alone (accepted rs) = ap accepted (zero-add (length rs))
counted_alone (refused r) = refl

-- `rest` are the bytes after the last whole row, and `x` says whether there are none.
module _ (b rest : Bytes) (x : Bool) (size : length rest ≡ length b % row_bytes) (test : x ≡ length rest == 0) where
  -- If there are some, then the outline is refused with number 23 at place 0.
  pub count_parts : x ≡ false → (r : Refusal) → r ≡ refusal OutlineLength 0 → stored b ≡ refused r
  unfolding stored
  count_parts e r f = rw (f, stored, ← size, ← test, e)

  -- If there are none, then the invariant holds where no row is read yet.
  pub count_start : x ≡ true → Counting b 0 0
  unfolding stored_count stored
  count_start e =
      let all : length b / row_bytes - 0 ≡ length b / row_bytes = omega arith in
      record { left = rw (all, stored_count, stored, ← size, ← test, e) (counted_alone (stored_from (length b / row_bytes) 0 0 b)) }

-- The row `r` and the rows after it. If the test `x` on `r` fails, the refusal is number 24 at place `at`.
abbrev row_and : Bool → ℕ → Row → Outcome (List Row) → Outcome (List Row)
row_and x at r others = do
  need x OutlineRow at
  rs ← others
  accepted (r ∷ rs)

-- A row that passes the test and precedes others adds one to the count.
counted_next : (n at : ℕ) (r : Row) (others : Outcome (List Row)) → counted_from n (row_and true at r others) ≡ counted_from (n + 1) others
counted_next n at r (accepted rs) = ap accepted (omega arith)
counted_next n at r (refused e) = refl

module _ (b : Bytes) (rows : List Bytes) (split : rows ≡ first_chunks row_bytes (length b / row_bytes) b) (size : length rows ≡ length b / row_bytes)
    (k most : ℕ) (h : Counting b k most) where
  module _ (p : k < length rows) (r : Row) (is : r ≡ decode_row (get_or rows k [])) (x : Bool) (test : x ≡ is_row most r) where
    -- Continuing the count with row `k` and the rows after it gives the count of the whole outline.
    next_row : counted_from k (row_and x (k * row_bytes) r (stored_from (length b / row_bytes - (k + 1)) ((k + 1) * row_bytes) (r.depth + 1) (drop ((k + 1) * row_bytes) b)))
        ≡ stored_count b
    unfolding stored_from
    next_row =
        let more : length b / row_bytes - k ≡ suc (length b / row_bytes - (k + 1)) = omega arith in
        let next : (k + 1) * row_bytes ≡ k * row_bytes + row_bytes = omega arith in
        let chunk = chunk_is (length b / row_bytes) k b [] (omega arith) in
        rw (test, is, split, chunk, next, ← drop-drop row_bytes (k * row_bytes) b) (rw more at h.left)

    -- If it breaks the rules, then the outline is refused with number 24 at the offset of that row.
    pub count_bad : x ≡ false → (f : Refusal) → f ≡ refusal OutlineRow (k * row_bytes) → stored b ≡ refused f
    count_bad e f g = no_rows b f (rw g (rw e at next_row))

    -- If it keeps the rules, then the invariant also holds after that row.
    pub count_step : x ≡ true → Counting b (k + 1) (r.depth + 1)
    count_step e = record { left = rw (← counted_next k (k * row_bytes) r _) (rw e at next_row) }

  -- If all rows are read, then they are the rows of the outline.
  pub count_done : k ≤ length rows → length rows ≤ k → stored b ≡ accepted (map decode_row rows)
  unfolding stored_from
  count_done p q =
      let none : length b / row_bytes - k ≡ 0 = omega arith in
      let all : k + 0 ≡ length rows = omega arith in
      rows_judged b rows split size (ap accepted (sym all) ∙ rw none at h.left)
