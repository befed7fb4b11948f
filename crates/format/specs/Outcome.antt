-- An outcome: what was asked for, or a refusal with its reason and place. The steps are taken in order, and the first
-- one that refuses decides.
use Rattle.std.specs.Prelude.{ℕ, Bool, true, false, Result}
pub use Rattle.std.specs.Prelude.{Ok as accepted, Err as refused}
use Rattle.format.specs.declared.refusal.Reason.{Reason}
use Rattle.format.specs.declared.refusal.Refusal.{Refusal as Refusal·is}

-- A refusal with one of the reasons.
abbrev pub Refusal : Type 0
Refusal = Refusal·is Reason

-- Either what was asked for, of type `A`, or a refusal.
abbrev pub Outcome : Type 0 → Type 0
Outcome A = Result A Refusal

-- The refusal for the reason `x` at place `p`. docs/REFUSALS.md lists the reasons.
abbrev pub refusal : {R : Type 0} → R → ℕ → Refusal·is R
refusal x p = record { reason = x; place = record { 0 = p } }

-- One step and then another, `f`, which takes the result of the first. If the first step refuses, its refusal is the
-- outcome.
abbrev pub ◌>>=◌ : {A B : Type 0} → Outcome A → (A → Outcome B) → Outcome B
◌>>=◌ (accepted a) f = f a
◌>>=◌ (refused r) f = refused r

-- The same when the second step does not need the result of the first.
abbrev pub ◌>>◌ : {A B : Type 0} → Outcome A → Outcome B → Outcome B
◌>>◌ (accepted a) b = b
◌>>◌ (refused r) b = refused r

-- Refuses for the reason `x` at place `p` unless the test holds.
abbrev pub need : Bool → Reason → ℕ → Outcome (Unit {0})
need true x p = accepted tt
need false x p = refused (refusal x p)
