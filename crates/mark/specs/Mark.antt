-- The search for a mark.
use Rattle.std.specs.Prelude.{ℕ, ◌+◌, ◌≤◌, ◌≡◌, length, drop}
use Rattle.format.specs.Bytes.{Bytes}
use Rattle.format.specs.Tree.{free_space}

-- `r` is where the first mark at or after offset `at` begins, or the end if there is none.
pub record MarkFound (s : Bytes) (at r : ℕ) : Type 0 where
  pub is : r ≡ at + free_space (drop at s)
  pub after : at ≤ r
  pub inside : at ≤ length s → r ≤ length s

-- The bytes from `from` up to `r` can be skipped: the first mark from `r` on is the first from `from` on.
pub record Skipped (t : Bytes) (from r : ℕ) : Type 0 where
  pub is : r + free_space (drop r t) ≡ from + free_space (drop from t)
  pub after : from ≤ r
  pub inside : r ≤ length t
