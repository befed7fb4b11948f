-- Laws about removing spaces at the start and at the end: one for each exit path of the loops.
use mathlib.Core.Path.{◌≡◌, refl, sym, ap, ◌∙◌}
use mathlib.Core.Bool.{Bool, true, false}
use mathlib.Core.List.{[], ◌∷◌, reverse, reverse-reverse}
use lib.Dec.{eqb}
use borrow.Author.Tests.{eqb-true, eqb-false}
use denote.Ref.{Bor}
use Rattle.std.specs.Prelude.{Option, None, Some}
use Rattle.format.specs.Bytes.{Bytes}
use Rattle.format.specs.Index.{without, trim_start, trim_end}
use Rattle.index.proofs.StripLaws.{Stripped, StrippedLast, stripped, stripped_last}

-- If the first byte is a space, then trimming removes it and goes on. Otherwise it removes nothing.
start_trim : (s : Bytes) → trim_start s ≡ elim (without (32 ∷ []) s) [ None ↦ s | Some u ↦ trim_start u ]
unfolding trim_start without
start_trim [] = refl
start_trim (b ∷ s) = go (eqb b 32) (eqb 32 b) refl refl
  where
    go : (x y : Bool) → eqb b 32 ≡ x → eqb 32 b ≡ y → trim_start (b ∷ s) ≡ elim (without (32 ∷ []) (b ∷ s)) [ None ↦ b ∷ s | Some u ↦ trim_start u ]
    go true true e f = rw (e, f, trim_start, without)
    go false false e f = rw (e, f, trim_start, without)
    go true false e f = absurd (eqb-false 32 b f (sym (eqb-true b 32 e)))
    go false true e f = absurd (eqb-false b 32 e (sym (eqb-true 32 b f)))

module _ (t : Bytes) (r : Option (Bor Bytes)) (x : Bytes) where
  module _ (first : Stripped (32 ∷ []) t r) (left : trim_start t ≡ x) where
    -- If the first byte is a space, then trimming the bytes after it gives the same.
    pub start_step : (u : Bor Bytes) → r ≡ Some u → trim_start u.now ≡ x
    start_step u e = sym (rw (← stripped (32 ∷ []) t r first, e) at (start_trim t)) ∙ left

    -- If the first byte is no space, then all bytes stay.
    pub start_done : r ≡ None → t ≡ x
    start_done e = sym (rw (← stripped (32 ∷ []) t r first, e) at (start_trim t)) ∙ left

  module _ (last : StrippedLast 32 t r) (left : trim_end t ≡ x) where
    -- If the last byte is a space, then trimming the bytes before it gives the same.
    pub end_step : (u : Bor Bytes) → r ≡ Some u → trim_end u.now ≡ x
    end_step u e = ap reverse (sym (rw (← stripped_last 32 t r last, e) at (start_trim (reverse t)))) ∙ left

    -- If the last byte is no space, then all bytes stay.
    pub end_done : r ≡ None → t ≡ x
    end_done e = sym (reverse-reverse t) ∙ ap reverse (sym (rw (← stripped_last 32 t r last, e) at (start_trim (reverse t)))) ∙ left
