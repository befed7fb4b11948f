-- Laws about the lists of numbers in which a file and a block are reported.
use Rattle.std.proofs.Common.{◌≡◌, ℕ, List, [], ◌∷◌, ◌++◌, get_or, refl, Option, None, Some}
use Rattle.format.specs.declared.block.Record.{Record}
use Rattle.format.specs.declared.block.Inner.{Inner}
use Rattle.format.specs.declared.block.Inner.TheVariants.{Plain, Opened, Refused, TooDeep}
use Rattle.format.specs.declared.layout.Layout.{Layout}
use Rattle.format.specs.declared.layout.Tree.{Tree}
use Rattle.format.specs.Fields.{block_fields, layout_fields, line_end_number, record_fields, refusal_fields, tree_fields, verdict_number}
use Rattle.format.specs.Outline.{inner_number}

-- A list that begins with numbers 0 and 1 of `refusal_fields i` begins with all of `refusal_fields i`.
two_fields : (i : Inner) (others : List ℕ) → get_or (refusal_fields i) 0 0 ∷ get_or (refusal_fields i) 1 0 ∷ others ≡ refusal_fields i ++ others
two_fields Plain others = refl
two_fields Opened others = refl
two_fields (Refused r) others = refl
two_fields TooDeep others = refl

-- The numbers of a record are its depth, its offset, the number of its inner state, the two of the refusal and the ten
-- of the block.
pub record_numbers : (r : Record) (two ten : List ℕ) → two ≡ refusal_fields r.inner → ten ≡ block_fields r.block → (at inner : ℕ) → at ≡ r.at.0
    → inner ≡ inner_number r.inner
    → r.depth ∷ at ∷ inner ∷ get_or two 0 0 ∷ get_or two 1 0 ∷ get_or ten 0 0 ∷ get_or ten 1 0 ∷ get_or ten 2 0 ∷ get_or ten 3 0 ∷ get_or ten 4 0 ∷ get_or ten 5 0 ∷ get_or ten 6 0 ∷ get_or ten 7 0 ∷ get_or ten 8 0 ∷ get_or ten 9 0 ∷ []
    ≡ record_fields r
unfolding record_fields
record_numbers r two ten f g at inner e h = rw (f, g, e, h, two_fields r.inner (block_fields r.block))

-- A list that begins with numbers 0 to 3 of `tree_fields t` begins with all of `tree_fields t`.
four_fields : (t : Option Tree) (others : List ℕ)
    → get_or (tree_fields t) 0 0 ∷ get_or (tree_fields t) 1 0 ∷ get_or (tree_fields t) 2 0 ∷ get_or (tree_fields t) 3 0 ∷ others ≡ tree_fields t ++ others
four_fields None others = refl
four_fields (Some t) others = refl

-- The numbers of a layout contain the four numbers of its tree, between the end of the comments and the number of
-- blocks.
pub layout_four : (l : Layout) (four : List ℕ) → four ≡ tree_fields l.tree → (v : ℕ) → v ≡ verdict_number l.verdict
    → (k : ℕ) → k ≡ line_end_number l.header.line_end
    → l.header.version.major ∷ l.header.version.minor ∷ l.header.version.patch ∷ l.header.end.0 ∷ l.comments_end.0
    ∷ get_or four 0 0
    ∷ get_or four 1 0
    ∷ get_or four 2 0
    ∷ get_or four 3 0
    ∷ l.blocks
    ∷ v
    ∷ k
    ∷ []
    ≡ layout_fields l
unfolding layout_fields
layout_four l four f v e k d = rw (f, e, d, four_fields l.tree (l.blocks ∷ verdict_number l.verdict ∷ line_end_number l.header.line_end ∷ []))
