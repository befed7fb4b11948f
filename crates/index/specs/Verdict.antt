-- The numbers of an index, and their comparison with the offsets that the walk over the blocks found.
use Rattle.std.specs.Prelude.{ℕ, ◌≡◌, Bool, true, false, ◌&&◌, List, Option, None, Some, drop}
use denote.Ref.{Bor}
use Rattle.std.specs.Option.{option_map}
use Rattle.std.specs.Slice.Iter.{iter_rest}
use Rattle.format.specs.Bytes.{Bytes, same}
use Rattle.format.specs.Line.{lines}
use Rattle.format.specs.Tree.{end_line}
use Rattle.format.specs.Index.{listed, after_word, with_zeros, dash_numbers, at_least_one}
use Rattle.index.specs.declared.list.Comparison.{Comparison}
use Rattle.index.specs.declared.form.Numbers.{Numbers}
use Rattle.index.specs.declared.form.Numbers.TheVariants.{InBrackets, AfterDashes}

-- The bytes of a slice, if there is one.
abbrev pub bytes_in : Option (Bor Bytes) → Option Bytes
bytes_in s = option_map (λ b. b.now) s

-- The numbers that were found, if they have the form of a list.
abbrev pub numbers_in : Option Numbers → Option (List ℕ)
numbers_in None = None
numbers_in (Some (InBrackets t)) = listed (Some t.now)
numbers_in (Some (AfterDashes t)) = at_least_one (dash_numbers (lines t.now))

-- `r` states whether an index ends at offset `at`. Its numbers, whatever they are, count only if it does.
pub record EndRead (t : Bytes) (at : ℕ) (r : Bool) : Type 0 where
  pub is : (ns : Option (List ℕ)) → after_word end_line (with_zeros ns) (lines (drop at t)) ≡ elim r [ true ↦ ns | false ↦ None ]

-- Whether the numbers so far agree, and the other numbers are the offsets that are left.
abbrev pub agrees : Comparison → List ℕ → Bool
agrees c ns = c.agree && same ns (iter_rest c.left)

-- Whether the numbers are these offsets, if there are numbers.
abbrev pub compared : List ℕ → Option (List ℕ) → Option Bool
compared offsets numbers = option_map (λ ns. same ns offsets) numbers
