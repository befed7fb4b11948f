-- The search as the library says it, by what comes before the first `b`.
use Rattle.std.proofs.Common.{◌≡◌, ℕ, ◌+◌, ◌<◌, ◌≤◌, ◌-◌, not, ◌==◌, List, [], ◌∷◌, Option, Some, None, length, take, drop, min, refl, sym, ◌∙◌, arith, length-take, drop_of_length-le}
use Rattle.std.specs.List.{position_or_len, position}
use Rattle.std.proofs.lemmas.List.{take_min, drop-take}
use Rattle.std.proofs.lemmas.List.Sums.{prefix_len-le-length}
use Rattle.std.proofs.Math.Seq.{slice, length-slice}
use Rattle.octets.specs.Octets.{index_of}

-- The library counts the same bytes.
index_position : (b : ℕ) (s : List ℕ) → position_or_len (λ a. a == b) s ≡ index_of b s
unfolding index_of
index_position b [] = refl
index_position b (a ∷ s) = grind (arith, index_position b s)

-- If there is a `b`, the library says how many bytes come before it.
position_some : (b : ℕ) (s : List ℕ) (i : ℕ) → position (λ a. a == b) s ≡ Some i → i ≡ index_of b s
position_some b s i e = grind (arith, index_position b s)

-- If there is none, all bytes come before it.
position_none : (b : ℕ) (s : List ℕ) → position (λ a. a == b) s ≡ None → length s ≡ index_of b s
position_none b s e = grind (arith, index_position b s, prefix_len-le-length (λ x. not (x == b)) s)

module _ (b : ℕ) (s : List ℕ) (from to end : ℕ) (least : end ≡ min to (length s)) where
  -- If nothing comes after `from`, nothing comes before the first `b`.
  pub search_short : end ≤ from → from ≡ from + index_of b (slice from to s)
  unfolding index_of
  search_short h =
      let short : length (take to s) ≤ from = simp length-take (omega arith) in
      rw (drop_of_length-le (take to s) short) (omega arith)

  module _ (order : from < end) (r : Option ℕ) (is : r ≡ position (λ a. a == b) (take (end - from) (drop from s))) where
    part : take (end - from) (drop from s) ≡ slice from to s
    part =
        let to_end : from + (end - from) ≡ end = omega arith in
        sym (drop-take from (end - from) s) ∙ rw (to_end, least, take_min to s)

    -- The first `b` of the part is the first from `from` on.
    pub search_found : (i : ℕ) → r ≡ Some i → from + i ≡ from + index_of b (slice from to s)
    search_found i e = omega (arith, rw part at (position_some b (take (end - from) (drop from s)) i (sym is ∙ e)))

    -- If the part has none, the search ends where the part ends.
    pub search_end : r ≡ None → end ≡ from + index_of b (slice from to s)
    search_end e =
        let all = rw part at (position_none b (take (end - from) (drop from s)) (sym is ∙ e)) in
        let size : length (slice from to s) ≡ end - from = rw (← take_min to s, ← least) (length-slice from end s (omega arith)) in
        omega (arith, all, size)
