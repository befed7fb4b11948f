-- Laws about taking a word from the start of bytes, or a byte from their end, by the library's methods.
use Prim.Native.Nat.{ℕ, ◌+◌, ◌-◌}
use native.Mathlib.Omega.{arith}
use mathlib.Core.Path.{◌≡◌, refl, sym, ap, ◌∙◌}
use mathlib.Core.Bool.{Bool, true, false, ◌&&◌}
use mathlib.Core.List.{[], ◌∷◌, ◌++◌, reverse, reverse-append}
use lib.ListN.{length, take, drop, take-append-drop, length-drop}
use lib.Dec.{eqb}
use lib.Pointwise.{pointwise}
use borrow.Author.Tests.{eqb-true, eqb-false, eq-eqb, ne_eqb}
use denote.Ref.{Bor}
use Rattle.std.specs.Prelude.{Option, None, Some}
use Rattle.std.specs.Option.{MatchOption, option_map}
use Rattle.format.specs.Bytes.{Bytes}
use Rattle.format.specs.Index.{without}
use Rattle.index.specs.Verdict.{bytes_in}

-- The order of two numbers does not matter to the test whether they are equal.
eqb_swap : (a b : ℕ) → eqb a b ≡ eqb b a
eqb_swap a b = go (eqb a b) refl
  where
    go : (x : Bool) → eqb a b ≡ x → x ≡ eqb b a
    go true e = sym (eq-eqb b a (sym (eqb-true a b e)))
    go false e = sym (ne_eqb b a (λ k. eqb-false a b e (sym k)))

-- What is left after a word is there exactly if the first bytes are those of the word.
without_first : (p s : Bytes) → without p s ≡ elim (pointwise eqb (take (length p) s) p) [ true ↦ Some (drop (length p) s) | false ↦ None ]
unfolding without
without_first [] s = refl
without_first (a ∷ p) [] = refl
without_first (a ∷ p) (b ∷ s) = go (eqb a b) refl (without_first p s)
  where
    go : (x : Bool) → eqb a b ≡ x → without p s ≡ elim (pointwise eqb (take (length p) s) p) [ true ↦ Some (drop (length p) s) | false ↦ None ]
        → without (a ∷ p) (b ∷ s) ≡ elim (eqb b a && pointwise eqb (take (length p) s) p) [ true ↦ Some (drop (length p) s) | false ↦ None ]
    go true e i = rw (e, without, ← eqb_swap a b, e) i
    go false e i = rw (e, without, ← eqb_swap a b, e)

-- What is left before a last byte `b` is there exactly if there is a last byte and it is `b`.
without_snoc : (b : ℕ) (u d : Bytes) → length d ≡ 1
    → without (b ∷ []) (reverse (u ++ d)) ≡ elim (pointwise eqb d (b ∷ [])) [ true ↦ Some (reverse u) | false ↦ None ]
unfolding without
without_snoc b u [] h = absurd (omega arith)
without_snoc b u (x ∷ []) h = rw (reverse-append u (x ∷ [])) (go (eqb b x) refl)
  where
    go : (y : Bool) → eqb b x ≡ y → without (b ∷ []) (x ∷ reverse u) ≡ elim (eqb x b && true) [ true ↦ Some (reverse u) | false ↦ None ]
    go true e = rw (e, without, ← eqb_swap b x, e)
    go false e = rw (e, without, ← eqb_swap b x, e)
without_snoc b u (x ∷ y ∷ d) h = absurd (omega arith)

without_last : (b : ℕ) (s : Bytes) → without (b ∷ []) (reverse s)
    ≡ elim (pointwise eqb (drop (length s - 1) s) (b ∷ [])) [ true ↦ Some (reverse (take (length s - 1) s)) | false ↦ None ]
unfolding without
without_last b [] = refl
without_last b (a ∷ s) =
    let one : length (drop (length (a ∷ s) - 1) (a ∷ s)) ≡ 1 = simp length-drop (omega arith) in
    ap (λ (t : Bytes). without (b ∷ []) (reverse t)) (sym (take-append-drop (length (a ∷ s) - 1) (a ∷ s)))
    ∙ without_snoc b (take (length (a ∷ s) - 1) (a ∷ s)) (drop (length (a ∷ s) - 1) (a ∷ s)) one

-- `r` is what the library's `strip_prefix` returns for the word `p`.
abbrev pub Stripped : Bytes → Bytes → Option (Bor Bytes) → Type 0
Stripped p s r =
    MatchOption r (pointwise eqb (take (length p) s) p ≡ false)
    (λ x. (pointwise eqb (take (length p) s) p ≡ true) × (x.now ≡ drop (length p) s) × (length x.now + length p ≡ length s))

pub stripped : (p s : Bytes) (r : Option (Bor Bytes)) → Stripped p s r → bytes_in r ≡ without p s
stripped p s None h = sym (without_first p s ∙ rw h)
stripped p s (Some x) h = ap Some h.1 ∙ sym (without_first p s ∙ rw h.0)

-- `r` is what the library's `strip_suffix` returns for the byte `b`.
abbrev pub StrippedLast : ℕ → Bytes → Option (Bor Bytes) → Type 0
StrippedLast b s r =
    MatchOption r (pointwise eqb (drop (length s - 1) s) (b ∷ []) ≡ false)
    (λ x. (pointwise eqb (drop (length s - 1) s) (b ∷ []) ≡ true) × (x.now ≡ take (length s - 1) s) × (length x.now + 1 ≡ length s))

pub stripped_last : (b : ℕ) (s : Bytes) (r : Option (Bor Bytes)) → StrippedLast b s r → option_map reverse (bytes_in r) ≡ without (b ∷ []) (reverse s)
stripped_last b s None h = sym (without_last b s ∙ rw h)
stripped_last b s (Some x) h = ap (λ t. Some (reverse t)) h.1 ∙ sym (without_last b s ∙ rw h.0)
