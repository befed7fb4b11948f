-- What holds for every value that an outcome can accept, shown step by step.
use Rattle.std.proofs.Common.{◌≡◌, ℕ, Bool, true, false, refl}
use Rattle.std.specs.Prelude.{Option, None, Some}
use Rattle.format.specs.declared.refusal.Reason.{Reason}
use Rattle.format.specs.Outcome.{Outcome, accepted, refused, need, ◌>>=◌, ◌>>◌}

-- If the outcome is accepted, `P` holds for its value.
abbrev pub Accepts : {A : Type 0} → (A → Type 0) → Outcome A → Type 0
Accepts P (accepted a) = P a
Accepts P (refused r) = Unit {0}

-- If `Accepts P` holds for an outcome, and the outcome accepts `a`, then `P` holds for `a`.
pub accepted_holds : {A : Type 0} (P : A → Type 0) (o : Outcome A) (a : A) → Accepts P o → o ≡ accepted a → P a
accepted_holds P o a h e = rw e at h

-- The proof for what follows a step may use that the step was accepted.
pub accepts_bind : {A B : Type 0} (P : B → Type 0) (o : Outcome A) (f : A → Outcome B)
    → ((a : A) → o ≡ accepted a → Accepts P (f a)) → Accepts P (◌>>=◌ o f)
accepts_bind P (accepted a) f h = h a refl
accepts_bind P (refused r) f h = tt

-- The proof for what follows a test may use that the test holds.
pub accepts_need : {A : Type 0} (P : A → Type 0) (t : Bool) (x : Reason) (p : ℕ) (o : Outcome A)
    → (t ≡ true → Accepts P o) → Accepts P (◌>>◌ (need t x p) o)
accepts_need P true x p o h = h refl
accepts_need P false x p o h = tt

-- The proof for each branch of a choice may use the result of its test.
pub accepts_choice : {A : Type 0} (P : A → Type 0) (t : Bool) (x y : Outcome A) → (t ≡ true → Accepts P x) → (t ≡ false → Accepts P y)
    → Accepts P (elim t [ true ↦ x | false ↦ y ])
accepts_choice P true x y h k = h refl
accepts_choice P false x y h k = k refl

-- If `P` holds for every value that an outcome accepts, then `Accepts P` holds for the outcome.
pub accepts_each : {A : Type 0} (P : A → Type 0) (o : Outcome A) → ((a : A) → o ≡ accepted a → P a) → Accepts P o
accepts_each P (accepted a) h = h a refl
accepts_each P (refused r) h = tt

-- If `P` holds for both branches of a choice, it holds for the choice.
pub choice : {A : Type 0} (P : A → Type 0) (t : Bool) (x y : A) → P x → P y → P (elim t [ true ↦ x | false ↦ y ])
choice P true x y h k = h
choice P false x y h k = k

-- If `P` holds for the branch where nothing is found, and for the branch where something is found, it holds for the
-- choice.
pub found_choice : {A B : Type 0} (P : B → Type 0) (o : Option A) (x : B) (f : A → B) → (o ≡ None → P x) → ((a : A) → o ≡ Some a → P (f a))
    → P (elim o [ None ↦ x | Some a ↦ f a ])
found_choice P None x f h k = h refl
found_choice P (Some a) x f h k = k a refl

-- Nothing is not something.
pub none_is_not_some : {A : Type 0} (x : A) → None ≡ Some x → ⊥
none_is_not_some x e = cc
