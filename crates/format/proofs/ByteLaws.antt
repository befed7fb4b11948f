-- The tests on byte strings decide what their names say.
use Rattle.std.proofs.Common.{◌≡◌, ℕ, zero, suc, Bool, true, false, not, ◌&&◌, eqb, [], ◌∷◌, ◌++◌, reverse, length, drop, replicate, refl, eq-eqb, eqb-true}
use mathlib.Core.List.{reverse-cons}
use Rattle.std.specs.Prelude.{None, Some}
use borrow.Author.Tests.{not-true}
use Rattle.format.specs.Bytes.{Bytes, begins, same, all_zero}
use Rattle.format.specs.Index.{without}

-- If both of two tests hold, the first holds.
pub and_left : (a b : Bool) → (a && b) ≡ true → a ≡ true
and_left true b h = refl
and_left false b h = h

-- If both of two tests hold, the second holds.
pub and_right : (a b : Bool) → (a && b) ≡ true → b ≡ true
and_right true b h = h
and_right false b h = cc

-- If each of two tests holds, both hold together.
pub and_both : (a b : Bool) → a ≡ true → b ≡ true → (a && b) ≡ true
and_both a b p q = rw p q

-- If `same` holds for two byte strings, they are equal.
pub same_true : (s t : Bytes) → same s t ≡ true → s ≡ t
same_true [] [] h = refl
same_true [] (b ∷ t) h = cc
same_true (a ∷ s) [] h = cc
same_true (a ∷ s) (b ∷ t) h = cc (eqb-true a b (and_left _ _ h), same_true s t (and_right (eqb a b) _ h))

-- If two byte strings are equal, `same` holds for them.
pub eq_same : (s t : Bytes) → s ≡ t → same s t ≡ true
eq_same s t e = rw e (itself t)
  where
    itself : (t : Bytes) → same t t ≡ true
    itself [] = refl
    itself (b ∷ t) = and_both (eqb b b) (same t t) (eq-eqb b b refl) (itself t)

-- If `s` begins with `p`, then `s` is `p` followed by the rest of `s`.
pub begins_true : (p s : Bytes) → begins p s ≡ true → s ≡ p ++ drop (length p) s
begins_true [] s h = refl
begins_true (a ∷ p) [] h = cc
begins_true (a ∷ p) (b ∷ s) h = cc (eqb-true a b (and_left _ _ h), begins_true p s (and_right (eqb a b) _ h))

-- `p` followed by any bytes begins with `p`.
pub begins_append : (p s : Bytes) → begins p (p ++ s) ≡ true
begins_append [] s = refl
begins_append (a ∷ p) s = and_both (eqb a a) (begins p (p ++ s)) (eq-eqb a a refl) (begins_append p s)

-- If `without p s` gives `u`, then `s` is `p` followed by `u`.
pub without_some : (p s u : Bytes) → without p s ≡ Some u → s ≡ p ++ u
unfolding without
without_some [] s u h = cc
without_some (a ∷ p) [] u h = cc
without_some (a ∷ p) (b ∷ s) u h = go (eqb a b) refl (without_some p s u)
  where
    go : (x : Bool) → eqb a b ≡ x → (without p s ≡ Some u → s ≡ p ++ u) → b ∷ s ≡ a ∷ (p ++ u)
    go true e i = cc (eqb-true a b e, i (rw (e, without) at h))
    go false e i = let n : None ≡ Some u = rw (e, without) at h in cc

-- If `all_zero` holds for `z`, then `z` consists of zeros, one for each of its bytes.
pub all_zero_true : (z : Bytes) → all_zero z ≡ true → z ≡ replicate (length z) 0
all_zero_true [] h = refl
all_zero_true (b ∷ z) h = cc (eqb-true b 0 (and_left _ _ h), all_zero_true z (and_right (eqb b 0) _ h))

-- `all_zero` holds for any number of zeros.
pub zeros_all_zero : (n : ℕ) → all_zero (replicate n 0) ≡ true
zeros_all_zero zero = refl
zeros_all_zero (suc n) = zeros_all_zero n

-- Whether no byte of `t` is `b`.
abbrev pub lacks : ℕ → Bytes → Bool
lacks b [] = true
lacks b (a ∷ t) = not (eqb a b) && lacks b t

-- If a text lacks `b`, its first byte is not `b`.
pub lacks_head : (b a : ℕ) (t : Bytes) → lacks b (a ∷ t) ≡ true → eqb a b ≡ false
lacks_head b a t h = not-true (eqb a b) (and_left _ _ h)

-- If a text lacks `b`, so does the rest of it after its first byte.
pub lacks_tail : (b a : ℕ) (t : Bytes) → lacks b (a ∷ t) ≡ true → lacks b t ≡ true
lacks_tail b a t h = and_right (not (eqb a b)) _ h

-- If a text lacks `b`, it also lacks `b` with a byte other than `b` before it.
pub lacks_cons : (b a : ℕ) (t : Bytes) → eqb a b ≡ false → lacks b t ≡ true → lacks b (a ∷ t) ≡ true
lacks_cons b a t h q = rw h q

-- If each of two texts lacks `b`, so does one followed by the other.
pub lacks_append : (b : ℕ) (s t : Bytes) → lacks b s ≡ true → lacks b t ≡ true → lacks b (s ++ t) ≡ true
lacks_append b [] t h k = k
lacks_append b (a ∷ s) t h k = lacks_cons b a (s ++ t) (lacks_head b a s h) (lacks_append b s t (lacks_tail b a s h) k)

-- If a text lacks `b`, so does the reversed text.
pub lacks_reverse : (b : ℕ) (t : Bytes) → lacks b t ≡ true → lacks b (reverse t) ≡ true
lacks_reverse b [] h = refl
lacks_reverse b (a ∷ t) h =
    rw reverse-cons (lacks_append b (reverse t) (a ∷ []) (lacks_reverse b t (lacks_tail b a t h)) (lacks_cons b a [] (lacks_head b a t h) refl))

-- Any number of copies of a byte other than `b` lacks `b`.
pub lacks_replicate : (b a n : ℕ) → eqb a b ≡ false → lacks b (replicate n a) ≡ true
lacks_replicate b a zero e = refl
lacks_replicate b a (suc n) e = lacks_cons b a (replicate n a) e (lacks_replicate b a n e)
