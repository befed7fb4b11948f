-- Laws about numbers that are put at the start of a buffer.
use Rattle.std.proofs.Common.{ℕ, ◌*◌, ◌/◌, ◌≤◌, ◌<◌, arith, ◌≡◌, refl, List, length}
use Rattle.format.specs.declared.refusal.Reason.TheVariants.{BufferTooShort}
use Rattle.format.specs.Bytes.{Bytes}
use Rattle.format.specs.Outcome.{Outcome, refused, accepted, refusal}
use Rattle.format.specs.Fields.{number_bytes}
use Rattle.format.specs.Lent.{placed}
use Rattle.format.specs.Promise.{Written}
use Rattle.put.proofs.NumberLaws.{numbers_length}
use Rattle.put.proofs.WrittenLaws.{written_short, written_placed}

module _ (out : Bytes) (ns : List ℕ) where
  -- Case: the buffer is too short.
  pub numbers_short : length out / 8 < length ns → (a : Outcome ℕ) → a ≡ refused (refusal BufferTooShort 0) → Written (accepted (number_bytes ns)) out out a
  numbers_short h = let l = numbers_length ns in written_short (accepted (number_bytes ns)) out (number_bytes ns) refl (omega arith)

  -- Case: all numbers fit and are put.
  pub numbers_put : length ns ≤ length out / 8 → (after : Bytes) → after ≡ placed out 0 (number_bytes ns)
      → Written (accepted (number_bytes ns)) out after (accepted (8 * length ns))
  numbers_put h after p =
      let l = numbers_length ns in
      written_placed (accepted (number_bytes ns)) out (number_bytes ns) refl (omega arith) after p (8 * length ns) (omega arith)
