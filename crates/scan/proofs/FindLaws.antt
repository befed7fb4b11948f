-- Laws about the search for a byte: the flag that a block has the byte, the blocks that are passed over, and the search
-- after bytes that have no `b`.
use Prim.Native.Nat.{ℕ, suc, ◌+◌, ◌-◌, ◌≤◌, ◌<◌}
use native.Mathlib.Omega.{arith}
use mathlib.Core.Path.{◌≡◌, refl, sym, ap, ◌∙◌}
use mathlib.Core.Bool.{Bool, true, false, ◌||◌}
use mathlib.Core.List.{[], ◌∷◌, ◌++◌}
use lib.ListN.{length, take, drop, take-append-drop}
use lib.Seq.{drop-append-le, length-take-le, length-slice, slice_empty, take-length, take-take}
use lib.Dec.{eqb}
use Rattle.octets.specs.Octets.{index_of, index_after}
use Rattle.std.proofs.Math.Seq.{slice}
use Rattle.format.specs.Bytes.{Bytes}
use Rattle.scan.specs.Find.{PassedOver, first_from}
use Rattle.std.specs.Prelude.{◌==◌}
use Rattle.std.specs.List.{list_any}
use Rattle.std.proofs.lemmas.List.{drop-take}
use Rattle.std.proofs.lemmas.List.Folds.{list_any-append}

-- If `b` is in `u`, the first `b` in `u ++ v` is the first `b` in `u`.
index_in : (b : ℕ) (u v : Bytes) → index_of b u < length u → index_of b (u ++ v) ≡ index_of b u
unfolding index_of
index_in b [] v h = absurd (omega arith)
index_in b (a ∷ u) v h = go (eqb a b) h (index_in b u v)
  where
    go : (x : Bool) → index_after x (index_of b u) < suc (length u) → (index_of b u < length u → index_of b (u ++ v) ≡ index_of b u)
        → index_after x (index_of b (u ++ v)) ≡ index_after x (index_of b u)
    go true h i = refl
    go false h i = ap suc (i (omega arith))

-- If `b` is not in `u`, the search in `u ++ v` goes on after `u`.
index_past : (b : ℕ) (u v : Bytes) → length u ≤ index_of b u → index_of b (u ++ v) ≡ length u + index_of b v
unfolding index_of
index_past b [] v h = omega arith
index_past b (a ∷ u) v h = go (eqb a b) h (index_past b u v)
  where
    go : (x : Bool) → suc (length u) ≤ index_after x (index_of b u) → (length u ≤ index_of b u → index_of b (u ++ v) ≡ length u + index_of b v)
        → index_after x (index_of b (u ++ v)) ≡ suc (length u) + index_of b v
    go true h i = absurd (omega arith)
    go false h i = omega (arith, i (omega arith))

-- If no byte of `u` is `b`, the search in `u` reaches the end.
has_none : (b : ℕ) (u : Bytes) → list_any (λ a. a == b) u ≡ false → length u ≤ index_of b u
unfolding index_of
has_none b [] n = omega arith
has_none b (a ∷ u) n = go (eqb a b) n (has_none b u)
  where
    go : (x : Bool) → (x || list_any (λ c. c == b) u) ≡ false → (list_any (λ c. c == b) u ≡ false → length u ≤ index_of b u)
        → suc (length u) ≤ index_after x (index_of b u)
    go true n i = let z : ◌≡◌ {A = ℕ} 0 1 = cc in absurd (omega arith)
    go false n i = omega (arith, i n)

-- The bytes from `at` on are the bytes from `at` up to `to`, followed by the bytes from `to` on.
pub slice_drop : (s : Bytes) (at to : ℕ) → at ≤ to → to ≤ length s → drop at s ≡ slice at to s ++ drop to s
slice_drop s at to p q =
    let inside : at ≤ length (take to s) = rw (length-take-le to s q) p in
    rw (← drop-append-le at (take to s) (drop to s) inside, take-append-drop)

-- Laws about the bytes from `at` up to `to`.
module _ (b : ℕ) (s : Bytes) (at to : ℕ) (p : at ≤ to) (q : to ≤ length s) where
  size : length (slice at to s) ≡ to - at
  size = length-slice at to s q

  -- The search from `at` goes through these bytes and then through the bytes from `to` on.
  first_cut : first_from b s at ≡ at + index_of b (slice at to s ++ slice to (length s) s)
  first_cut = rw (take-length, slice_drop s at to p q)

  -- If the first `b` is not one of these bytes, the search from `to` finds the same `b` as the search from `at`.
  first_past : to - at ≤ index_of b (slice at to s) → first_from b s to ≡ first_from b s at
  first_past h = omega (arith, size, first_cut, index_past b (slice at to s) (slice to (length s) s) (omega (arith, size)))

-- `n` is where the search for `b` ends among the next `k` bytes.
module _ (b : ℕ) (s : Bytes) (at k : ℕ) (p : at ≤ length s) (q : k ≤ length s - at) (n : ℕ) (e : n ≡ at + index_of b (slice at (at + k) s)) where
  -- If `n` is among these bytes, the first `b` is there.
  pub first_near : n < at + k → n ≡ first_from b s at
  first_near h =
      let near = slice at (at + k) s in
      let sized = size b s at (at + k) (omega arith) (omega arith) in
      omega (arith, first_cut b s at (at + k) (omega arith) (omega arith), index_in b near (slice (at + k) (length s) s) (omega arith))

  -- Otherwise the first `b` is the first one after these bytes.
  pub first_far : (r : ℕ) → at + k ≤ n → r ≡ first_from b s (at + k) → r ≡ first_from b s at
  first_far r h g = g ∙ first_past b s at (at + k) (omega arith) (omega arith) (omega arith)

-- The first `b` after bytes that were passed over is also the first `b` from `at` on.
pub first_skipped : (b : ℕ) (s : Bytes) (at to r : ℕ) → PassedOver (λ a. a == b) s at to → r ≡ first_from b s to → r ≡ first_from b s at
first_skipped b s at to r k g =
    g ∙ first_past b s at to k.onward k.inside (omega (arith, size b s at to k.onward k.inside, has_none b (slice at to s) k.none))

module _ (test : ℕ → Bool) (s : Bytes) (at : ℕ) where
  -- At the start nothing has been passed over.
  pub skip_none : at ≤ length s → PassedOver test s at at
  skip_none h = record { onward = omega arith; inside = h; none = rw (slice_empty at s) }

  -- If no byte of the next block of `k` bytes passes the test, it can be passed over.
  pub skip_block : (i k : ℕ) (x : Bool) → PassedOver test s at i → k ≤ length s - i → x ≡ list_any test (take (i + k - i) (drop i s)) → x ≡ false
      → PassedOver test s at (i + k)
  skip_block i k x d h e n =
      let onward = d.onward in
      let inside = d.inside in
      let whole : i ≤ length (take (i + k) s) = rw (length-take-le (i + k) s (omega arith)) (omega arith) in
      let cut = slice_drop (take (i + k) s) at i onward whole in
      let both = list_any-append test (slice at i s) (slice i (i + k) s) in
      let size : i + k - i ≡ k = omega arith in
      record {
        onward = omega arith;
        inside = omega arith;
        none = rw (cut, take-take i (i + k) s (omega arith), both, d.none, drop-take i k s) (sym (rw size at e) ∙ n);
      }
