-- Laws about bytes that are put into a buffer.
use Rattle.std.proofs.Common.{◌≡◌, ℕ, suc, ◌+◌, ◌-◌, ◌<◌, ◌≤◌, Bool, true, false, leb, [], ◌∷◌, ◌++◌, length, set, take, drop, sym, refl, ◌∙◌, add-zero, arith, length-append, append_assoc, drop-drop, le-leb, leb-true}
use lib.Seq.{sets, sets-eq, length-sets, set_comm}
use borrow.Author.Tests.{lt-leb}
use Rattle.format.specs.Bytes.{Bytes}
use Rattle.format.specs.Lent.{placed}

-- The last of several bytes may be put first.
pub sets_last : (out : Bytes) (n : ℕ) (bytes : Bytes) (b : ℕ) → sets out n (bytes ++ (b ∷ [])) ≡ sets (set out (n + length bytes) b) n bytes
sets_last out n [] b = rw (add-zero n)
sets_last out n (a ∷ bytes) b =
    let e : suc n + length bytes ≡ n + suc (length bytes) = omega arith in
    rw (sets_last (set out n a) (suc n) bytes b, e, set_comm out n (n + suc (length bytes)) a b (omega arith))

-- If bytes fit, placing them is the same as setting them one after another.
pub placed_sets : (out : Bytes) (n : ℕ) (bytes : Bytes) → n + length bytes ≤ length out → placed out n bytes ≡ sets out n bytes
unfolding placed
placed_sets out n bytes h = rw (placed, le-leb (n + length bytes) (length out) h) (sym (sets-eq bytes out n h))

-- Bytes and others after them can be set in two steps.
sets_append : (out : Bytes) (n : ℕ) (bytes others : Bytes) → sets out n (bytes ++ others) ≡ sets (sets out n bytes) (n + length bytes) others
sets_append out n [] others = rw (add-zero n)
sets_append out n (a ∷ bytes) others =
    let e : suc n + length bytes ≡ n + suc (length bytes) = omega arith in
    rw (sets_append (set out n a) (suc n) bytes others, e)

-- Placing no bytes changes nothing.
pub placed_nothing : (out : Bytes) (n : ℕ) → n ≤ length out → out ≡ placed out n []
placed_nothing out n h = sym (placed_sets out n [] (omega arith))

-- Placing bytes does not change the length of a buffer.
pub placed_length : (out : Bytes) (n : ℕ) (bytes : Bytes) → length (placed out n bytes) ≡ length out
unfolding placed
placed_length out n bytes = by_test (leb (n + length bytes) (length out)) refl
  where
    by_test : (t : Bool) → leb (n + length bytes) (length out) ≡ t → length (placed out n bytes) ≡ length out
    by_test true e = rw (placed_sets out n bytes (leb-true (n + length bytes) (length out) e), length-sets)
    by_test false e = rw (placed, e)

-- If both fit, placing bytes and then others directly after them is the same as placing them together.
pub placed_append : (out : Bytes) (n : ℕ) (bytes others : Bytes) → n + length bytes + length others ≤ length out
    → placed (placed out n bytes) (n + length bytes) others ≡ placed out n (bytes ++ others)
placed_append out n bytes others h =
    let both : n + length (bytes ++ others) ≤ length out = rw length-append (omega arith) in
    let first = placed_sets out n bytes (omega arith) in
    let second = placed_sets (sets out n bytes) (n + length bytes) others (rw length-sets h) in
    rw (first, second, placed_sets out n (bytes ++ others) both) (sym (sets_append out n bytes others))

-- The same holds for a buffer `mid` in which the first bytes are already placed.
pub placed_after : (out mid after : Bytes) (at n : ℕ) (bytes others : Bytes) → mid ≡ placed out at bytes → length bytes ≡ n
    → after ≡ placed mid (at + n) others → at + n + length others ≤ length out → after ≡ placed out at (bytes ++ others)
placed_after out mid after at n bytes others e l f h =
    let next : after ≡ placed (placed out at bytes) (at + length bytes) others = rw (← e, l) f in
    next ∙ placed_append out at bytes others (rw l h)

module _ (out : Bytes) (at : ℕ) (bytes : Bytes) where
  -- If bytes do not fit, placing them changes nothing.
  pub placed_none : length out < at + length bytes → out ≡ placed out at bytes
  unfolding placed
  placed_none h = rw (placed, lt-leb (at + length bytes) (length out) h)

  -- Case: the bytes begin after the end of the buffer.
  pub placed_outside : length out < at → out ≡ placed out at bytes
  placed_outside h = placed_none (omega arith)

  -- Case: the bytes end after the end of the buffer.
  pub placed_long : (n : ℕ) → length out - at < n → length bytes ≡ n → out ≡ placed out at bytes
  placed_long n h e = placed_none (omega arith)

  -- If they do not fit, placing them changes nothing. Here `x` is the test whether `n` bytes fit.
  pub placed_not : (n : ℕ) (x : Bool) → x ≡ leb (at + n) (length out) → x ≡ false → length bytes ≡ n → out ≡ placed out at bytes
  unfolding placed
  placed_not n x h e l = rw (placed, l, ← h, e)

  -- If they fit, copying them into a part of the buffer places them.
  pub placed_copied : (part : Bytes) (k : ℕ) → part ≡ bytes → length bytes ≡ k → at + k ≤ length out → take at out ++ (part ++ drop k (drop at out)) ≡ placed out at bytes
  unfolding placed
  placed_copied part k e l h = rw (placed, e, ← l, le-leb (at + length bytes) (length out) (omega arith), drop-drop, append_assoc)
