-- The number that an exported function returns.
use Rattle.std.specs.Prelude.{Option, None, Some, ℕ, ◌+◌, ◌*◌, ◌/◌, ◌%◌, ◌^◌, true, false, nat_lt}
use Rattle.format.specs.Reason.{reason_number, reason_with}
use Rattle.format.specs.Outcome.{Outcome, accepted, refused, refusal}

-- The smallest number that is a refusal: the top byte, of eight, is not zero.
abbrev pub least_refusal : ℕ
least_refusal = 2 ^ 56

-- An answer as one number: a count, or a refusal with its number in the top byte and its place below.
abbrev pub word : Outcome ℕ → ℕ
word (accepted n) = n
word (refused r) = reason_number r.reason * least_refusal + r.place.0 % least_refusal

-- The refusal whose reason has the number `n`, at place `p`, if there is such a reason.
unfoldable pub refused_with : ℕ → ℕ → Option (Outcome ℕ)
refused_with n p = elim (reason_with n) [ None ↦ None | Some x ↦ Some (refused (refusal x p)) ]

-- What a number says when it is read as the C header does: a count if the top byte is zero, otherwise a refusal. If the
-- top byte is the number of no reason, it says nothing.
abbrev pub said : ℕ → Option (Outcome ℕ)
said r = elim (nat_lt r least_refusal) [ true ↦ Some (accepted r) | false ↦ refused_with (r / least_refusal) (r % least_refusal) ]
