-- Laws about splitting bytes: the parts that the library's `split` yields are those of the definition. Bytes without a
-- point are no version.
use Prim.Native.Nat.{ℕ, suc, ◌+◌, ◌≤◌}
use native.Mathlib.Omega.{arith}
use mathlib.Core.Path.{◌≡◌, refl, subst, sym, ◌∙◌}
use mathlib.Core.Bool.{Bool, true, false}
use mathlib.Core.List.{List, [], ◌∷◌}
use lib.ListN.{length}
use lib.Seq.{take-length}
use lib.Dec.{eqb}
use denote.Ref.{Bor}
use denote.Param.Members.{Mut}
use Rattle.std.specs.Fn.{CalledAt}
use Rattle.std.specs.Iterator.Runs.{Run, EachRunFrom}
use Rattle.std.specs.Prelude.{Option, None, Some}
use Rattle.std.proofs.Math.Seq.{slice}
use Rattle.std.specs.List.{slice_split, onto_first}
use Rattle.std.specs.Slice.Iter.{split_rest, split_done, split_callee, split_steps}
use Rattle.std.proofs.lemmas.Iterator.{YieldsList}
use Rattle.std.proofs.lemmas.Iterator.Splits.{YieldsList-from_slice_split}
use Rattle.std.proofs.lemmas.List.Splits.{length-slice_split}
use Rattle.format.specs.Bytes.{Bytes}
use Rattle.format.specs.Numeral.{numerals, both, split, lead_first}
use Rattle.format.specs.Header as Header
use Rattle.octets.specs.Octets.{index_of, index_after}

-- Among at least one part, one more byte goes to the start of the first.
lead_some : (a : ℕ) (ps : List Bytes) → 1 ≤ length ps → lead_first a ps ≡ onto_first a ps
unfolding lead_first
lead_some a [] h = absurd (omega arith)
lead_some a (p ∷ ps) h = refl

-- The parts of a byte string that is cut at each `b` are those that the library's `split` gives.
pub split_parts : (b : ℕ) (s : Bytes) → split b s ≡ slice_split (λ x. eqb x b) s
unfolding split
split_parts b [] = refl
split_parts b (a ∷ s) = go (eqb a b) refl (split_parts b s)
  where
    go : (x : Bool) → eqb a b ≡ x → split b s ≡ slice_split (λ x. eqb x b) s → split b (a ∷ s) ≡ slice_split (λ x. eqb x b) (a ∷ s)
    go true e i = rw (e, split, i)
    go false e i = rw (e, split, i) (lead_some a _ (omega (arith, length-slice_split (λ x. eqb x b) s)))

-- The library's `split` at each byte for which a closure tests equality with `b` yields the parts of the definition. The
-- first three facts are what the call of `split` ensures.
pub split_yields : {F : Type 0} {s : _} (g : Mut F (Bor ℕ × Unit {0}) Bool) (b : ℕ) {f : F} (t : Bytes) → split_rest s ≡ t → split_done s ≡ false → split_callee s ≡ f
    → ((x : ℕ) (r : Bool) (q : F) → CalledAt g f x r q → (q ≡ f) × (r ≡ eqb x b)) → YieldsList (split_steps g) (λ x. x.now) s (split b t)
split_yields g b t rest done callee tests =
    subst (YieldsList (split_steps g) (λ x. x.now) _) (sym (split_parts b t)) (YieldsList-from_slice_split g (λ x. eqb x b) t rest done callee tests)

-- The same where the iterator is called by hand. What the call of `split` ensures of its runs tells which closure it is.
pub split_starts : {F : Type 0} {s : _} {g : Mut F (Bor ℕ × Unit {0}) Bool} {P : Run (split_steps g) → Type 0} → EachRunFrom (split_steps g) s P → (b : ℕ) {f : F} (t : Bytes)
    → split_rest s ≡ t → split_done s ≡ false → split_callee s ≡ f → ((x : ℕ) (r : Bool) (q : F) → CalledAt g f x r q → (q ≡ f) × (r ≡ eqb x b))
    → YieldsList (split_steps g) (λ x. x.now) s (split b t)
split_starts {g = g} runs b t rest done callee tests = split_yields g b t rest done callee tests

-- Bytes without a point are one part.
one_part : (t : Bytes) → index_of 46 t ≡ length t → split 46 t ≡ t ∷ []
unfolding split lead_first index_of
one_part [] h = refl
one_part (a ∷ t) h = go (eqb a 46) refl h (one_part t)
  where
    go : (x : Bool) → eqb a 46 ≡ x → index_after x (index_of 46 t) ≡ suc (length t) → (index_of 46 t ≡ length t → split 46 t ≡ t ∷ [])
        → split 46 (a ∷ t) ≡ (a ∷ t) ∷ []
    go true e k i = absurd (omega (arith, k))
    go false e k i = rw (e, split, i (omega (arith, k)), lead_first)

-- If `t` has no point, then it is one part, and no version.
pub version_without_point : (t : Bytes) (first : ℕ) → first ≡ 0 + index_of 46 (slice 0 (length t) t) → first ≡ length t → None ≡ Header.version t
unfolding Header.version Header.version_of numerals both
version_without_point t first f e =
    let found : 0 + index_of 46 t ≡ length t = rw (take-length t) at (sym f ∙ e) in
    let none : index_of 46 t ≡ length t = omega (arith, found) in
    rw (one_part t none) (sym (one _))
  where
    one : (o : Option ℕ) → Header.version_of (both o (Some [])) ≡ None
    one None = refl
    one (Some x) = refl
