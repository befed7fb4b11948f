-- Laws about what is put for a layout, a block or a row: one law for each return.
use Rattle.std.proofs.Common.{◌≡◌, ℕ, List, [], Option, None, Some, MatchOption, refl, ap, ◌∙◌, arith}
use Rattle.std.specs.Option.{IsSomeAnd}
use Rattle.std.specs.Result.{IsErrAnd}
use Rattle.std.proofs.lemmas.Result.{err_from_is_err_and}
use Rattle.format.specs.declared.layout.Layout.{Layout}
use Rattle.format.specs.Bytes.{Bytes}
use Rattle.format.specs.Outcome.{Refusal, Outcome, accepted, refused}
use Rattle.format.specs.File.{layout}
use Rattle.format.specs.Fields.{number_bytes, layout_fields, layout_bytes, found_numbers, found_bytes}
use Rattle.format.specs.Promise.{Written}
use Rattle.put.proofs.PutLaws.{placed_nothing}
use Rattle.put.proofs.WrittenLaws.{written_refused, written_placed}

-- A refusal is passed on, and changes no byte of the buffer.
passed_on : (result : Outcome Bytes) (out : Bytes) (r : Refusal) → result ≡ refused r → (x : Outcome ℕ) → IsErrAnd x (λ e. e ≡ r)
    → Written result out out x
passed_on result out r h x e = let same = err_from_is_err_and x e in written_refused result out r h x (same.1 ∙ ap refused same.2)

module _ (s out : Bytes) where
  -- Case: the file is refused.
  pub layout_refused : (r : Refusal) → refused r ≡ layout s → (x : Outcome ℕ) → IsErrAnd x (λ e. e ≡ r) → Written (layout_bytes s) out out x
  unfolding layout_bytes
  layout_refused r h = passed_on (layout_bytes s) out r (rw (layout_bytes, ← h))

  -- Case: the file is accepted, and its layout is put.
  pub layout_put : (l : Layout) → accepted l ≡ layout s → (ns : List ℕ) → ns ≡ layout_fields l → (after : Bytes) (x : Outcome ℕ)
      → Written (accepted (number_bytes ns)) out after x
      → Written (layout_bytes s) out after x
  unfolding layout_bytes
  layout_put l h ns n after x w = rw (layout_bytes, ← h, ← n) w

-- If nothing was found, nothing is put.
pub none_put : (out : Bytes) (found : Option (List ℕ)) → found ≡ None → Written (accepted (found_numbers (λ ns. ns) found)) out out (accepted 0)
unfolding found_numbers
none_put out found e = rw e (written_placed (accepted []) out [] refl (omega arith) out (placed_nothing out 0 (omega arith)) 0 refl)

-- If numbers were found, they are put.
pub some_put : (out after : Bytes) (found : Option (List ℕ)) (ns : List ℕ) → found ≡ Some ns → (x : Outcome ℕ) → Written (accepted (number_bytes ns)) out after x
    → Written (accepted (found_numbers (λ ns. ns) found)) out after x
unfolding found_numbers
some_put out after found ns e x w = rw e w

-- A block or a row is asked for by its number. The answer states whether there is one.
module _ {A : Type 0} (fields : A → List ℕ) (result : Outcome (Option A)) (out : Bytes) where
  -- Case: the file or the stored outline is refused.
  pub found_refused : (r : Refusal) → refused r ≡ result → (x : Outcome ℕ) → IsErrAnd x (λ e. e ≡ r) → Written (found_bytes fields result) out out x
  unfolding found_bytes
  found_refused r h = passed_on (found_bytes fields result) out r (rw (found_bytes, ← h))

  -- Case: it is accepted. The numbers of what was found are put.
  pub found_put : (found : Option A) → accepted found ≡ result → (numbers : Option (List ℕ))
      → MatchOption found (numbers ≡ None) (λ y. IsSomeAnd numbers (λ ns. ns ≡ fields y))
      → (after : Bytes) (x : Outcome ℕ) → Written (accepted (found_numbers (λ ns. ns) numbers)) out after x
      → Written (found_bytes fields result) out after x
  unfolding found_bytes found_numbers
  found_put None h numbers e after x w = rw (found_bytes, ← h) (rw e at w)
  found_put (Some y) h None e after x w = absurd e
  found_put (Some y) h (Some ns) e after x w = rw (found_bytes, ← h) (rw e at w)
