-- What the steps of the search by fours promise. A test may err on one side only: if its answer is false, what it looks
-- for is not there.
use Rattle.std.specs.Prelude.{ℕ, ◌+◌, ◌*◌, ◌%◌, ◌≤◌, ◌<◌, ◌≡◌, Bool, true, drop, get_or}
use Rattle.format.specs.Bytes.{Bytes, begins}
use Rattle.format.specs.Tree.{mark as Tree·mark}
use Rattle.mark.specs.Mark.{Skipped}

-- `r` is where the first mark begins among the four bytes from `n` on, or the offset after them if none does.
pub record FirstIn (t : Bytes) (n r : ℕ) : Type 0 where
  pub skipped : Skipped t n r
  pub order : r ≤ n + 4
  pub here : r < n + 4 → begins Tree·mark (drop r t) ≡ true

-- Of the first `k` groups of four bytes, no fourth byte is above `r`.
pub record FourthsUpTo (t : Bytes) (k r : ℕ) : Type 0 where
  pub most : (j : ℕ) → j < k → get_or t (4 * j + 3) 0 ≤ r

-- `b` is a byte of a mark.
pub record IsOfMark (b : ℕ) : Type 0 where
  pub place : ℕ
  pub few : place < 4
  pub is : b ≡ get_or Tree·mark place 0

-- If `p` holds for a number below `k`, then `r` is true.
pub record Told (p : ℕ → Type 0) (k : ℕ) (r : Bool) : Type 0 where
  pub tells : (i : ℕ) → i < k → p i → r ≡ true

-- If `b` is a byte of a mark, then `r` is true.
pub record InMark (b : ℕ) (r : Bool) : Type 0 where
  pub tells : IsOfMark b → r ≡ true

-- Byte `i` is a fourth byte, and it is a byte of a mark.
abbrev pub fourth_of_mark : Bytes → ℕ → Type 0
fourth_of_mark t i = (i % 4 ≡ 3) × IsOfMark (get_or t i 0)

-- A mark begins at byte `i`.
abbrev pub begins_mark : Bytes → ℕ → Type 0
begins_mark t i = begins Tree·mark (drop i t) ≡ true
