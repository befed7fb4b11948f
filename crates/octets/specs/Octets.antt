-- The search for a byte.
use Rattle.std.specs.Prelude.{ℕ, zero, suc, Bool, true, false, List, [], ◌∷◌, ◌==◌}

-- How many elements come before one, if one more comes first. That one is not looked for (`false`), or it is the one.
abbrev pub index_after : Bool → ℕ → ℕ
index_after true n = zero
index_after false n = suc n

-- How many elements of a list come before the first `b`: all of them, if there is none.
unfoldable pub index_of : ℕ → List ℕ → ℕ
index_of b [] = zero
index_of b (a ∷ u) = index_after (a == b) (index_of b u)
