-- The search for a byte.
use Rattle.std.specs.Prelude.{ℕ, ◌+◌, ◌≤◌, ◌≡◌, Bool, false, length}
use Rattle.std.specs.List.{list_any}
use Rattle.octets.specs.Octets.{index_of}
use Rattle.std.proofs.Math.Seq.{slice}
use Rattle.format.specs.Bytes.{Bytes}

-- Every call that returns gives what `test` gives.
abbrev pub Computes : (ℕ → Bool → Type 0) → (ℕ → Bool) → Type 0
Computes call test = (x : ℕ) (r : Bool) → call x r → r ≡ test x

-- From offset `at` up to `r`, no byte of `s` passes the test.
pub record PassedOver (test : ℕ → Bool) (s : Bytes) (at r : ℕ) : Type 0 where
  pub onward : at ≤ r
  pub inside : r ≤ length s
  pub none : list_any test (slice at r s) ≡ false

-- Where the first `b` at or after offset `at` is, or the end if there is none.
abbrev pub first_from : ℕ → Bytes → ℕ → ℕ
first_from b s at = at + index_of b (slice at (length s) s)
