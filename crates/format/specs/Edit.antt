-- The edit that replaces a tree in place.
use Rattle.std.specs.Prelude.{ℕ, ◌-◌, Bool, false, ◌++◌, length, take, drop, replicate, ◌==◌, nat_le, Option, None, Some}
use Rattle.format.specs.declared.layout.Tree.{Tree}
use Rattle.format.specs.declared.refusal.Reason.TheVariants.{EditWithoutTree, TextNotOneTree, TextLongerThanRoom}
use Rattle.format.specs.Bytes.{Bytes}
use Rattle.format.specs.Outcome.{Outcome, accepted, refused, refusal, need, ◌>>=◌, ◌>>◌}
use Rattle.format.specs.Line.{lines}
use Rattle.format.specs.Tree.{tree_end}
use Rattle.format.specs.File.{file}

-- Whether there is a tree and it ends at offset `n`. The second argument is what `tree_end` gives.
unfoldable pub ends_at : ℕ → Outcome (Option ℕ) → Bool
ends_at n (refused r) = false
ends_at n (accepted None) = false
ends_at n (accepted (Some m)) = m == n

-- Whether `t` is exactly one tree, with nothing before or after it.
unfoldable pub is_one_tree : Bytes → Bool
is_one_tree t = ends_at (length t) (tree_end 0 (lines t))

-- The bytes `s` with `t`, and then spaces, from offset `n` to offset `m`.
unfoldable pub filled : Bytes → ℕ → ℕ → Bytes → Bytes
filled s n m t = take n s ++ t ++ replicate (m - n - length t) 32 ++ drop m s

-- The file `s` with the text `t` in place of this tree.
unfoldable pub edit_tree : Bytes → Bytes → Option Tree → Outcome Bytes
edit_tree s t None = refused (refusal EditWithoutTree 0)
edit_tree s t (Some x) = do
  need (is_one_tree t) TextNotOneTree 0
  need (nat_le (length t) (x.room_end.0 - x.start.0)) TextLongerThanRoom 0
  accepted (filled s x.start.0 x.room_end.0 t)

-- The file `s` with the text `t` in place of its tree.
unfoldable pub edit : Bytes → Bytes → Outcome Bytes
edit s t = do
  f ← file s
  edit_tree s t f.tree

-- What the lent file holds after the edit: the edited bytes, or those of `s` if the edit is refused.
unfoldable pub edit_leaves : Bytes → Outcome Bytes → Bytes
edit_leaves s (accepted t) = t
edit_leaves s (refused r) = s
