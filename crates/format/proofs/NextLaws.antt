-- Where the next block begins: at the first mark, unless an index begins immediately.
use Rattle.std.proofs.Common.{◌≡◌, ℕ, ◌<◌, ◌≤◌, Bool, true, false, ltb, length, drop, sym, refl, ap, ◌∙◌, arith, ltb-true, le-ltb, lt-ltb}
use mathlib.Core.Bool.{or-false}
use Rattle.std.specs.Prelude.{None, Some}
use Rattle.format.specs.Bytes.{Bytes, begins, all_zero}
use Rattle.format.specs.Comments.{index_line}
use Rattle.format.specs.Tree.{mark, free_space}
use Rattle.format.specs.Chain.{is_tail, mark_ahead, next_block}
use Rattle.format.proofs.ByteLaws.{begins_true, all_zero_true, lacks_replicate}
use Rattle.format.proofs.LocalLaws.{free_space_all, free_space_mark, free_space_stops}

-- Bytes that begin with a mark do not begin with an index.
mark_unindexed : (t : Bytes) → begins mark t ≡ true → begins index_line t ≡ false
mark_unindexed t h = ap (begins index_line) (begins_true mark t h)

module _ (t : Bytes) where
  -- If `t` begins with an index, no block follows.
  pub next_index : begins index_line t ≡ true → next_block t ≡ None
  unfolding next_block
  next_index h = rw (h, next_block)

  -- If there is no mark in `t`, no block follows.
  pub next_none : length t ≤ free_space t → next_block t ≡ None
  unfolding next_block mark_ahead
  next_none h = go (begins index_line t) refl
    where
      go : (x : Bool) → begins index_line t ≡ x → next_block t ≡ None
      go true e = next_index e
      go false e = rw (e, next_block, le-ltb (free_space t) (length t) h, mark_ahead)

  -- No block follows in a tail.
  pub next_tail : is_tail t ≡ true → next_block t ≡ None
  next_tail h = go (begins index_line t) refl
    where
      go : (x : Bool) → begins index_line t ≡ x → next_block t ≡ None
      go true e = next_index e
      go false e =
          let zeros : all_zero t ≡ true = sym (or-false (all_zero t)) ∙ rw e at h in
          next_none (omega (arith, free_space_all t (rw (all_zero_true t zeros) (lacks_replicate 0xD3 0 (length t) refl))))

  -- If `t` does not begin with an index and there is a mark in it, the next block is at the first mark.
  pub next_mark : begins index_line t ≡ false → free_space t < length t → next_block t ≡ Some (free_space t)
  unfolding next_block mark_ahead
  next_mark e h = rw (e, next_block, lt-ltb (free_space t) (length t) h, mark_ahead)

  -- If `t` begins with a mark, a block follows immediately.
  pub next_here : begins mark t ≡ true → 0 < length t → next_block t ≡ Some 0
  next_here h l =
      let free = free_space_mark t h in
      next_mark (mark_unindexed t h) (omega (arith, free)) ∙ ap Some free

-- The next block begins after `g` bytes of `t`.
pub record Next (t : Bytes) (g : ℕ) : Type 0 where
  pub is : next_block t ≡ Some g
  pub unindexed : begins index_line t ≡ false
  pub free : free_space t ≡ g
  pub inside : g < length t
  pub marked : begins mark (drop g t) ≡ true

-- If a block follows after `g` bytes, the first mark is there, and `t` does not begin with an index.
pub next_is : (t : Bytes) (g : ℕ) → next_block t ≡ Some g → Next t g
unfolding next_block mark_ahead
next_is t g h = go (begins index_line t) refl (ltb (free_space t) (length t)) refl
  where
    go : (x : Bool) → begins index_line t ≡ x → (y : Bool) → ltb (free_space t) (length t) ≡ y → Next t g
    go true e y q = let clash : None ≡ Some g = sym (next_index t e) ∙ h in let z : ◌≡◌ {A = ℕ} 0 1 = cc in absurd (omega arith)
    go false e true q =
        let room = ltb-true (free_space t) (length t) q in
        let same : Some (free_space t) ≡ Some g = sym (next_mark t e room) ∙ h in
        let free : free_space t ≡ g = cc in
        record { is = h; unindexed = e; free = free; inside = rw free at room; marked = rw free at (free_space_stops t room) }
    go false e false q =
        let clash : None ≡ Some g = rw (e, next_block, q, mark_ahead) at h in
        let z : ◌≡◌ {A = ℕ} 0 1 = cc in
        absurd (omega arith)
