-- Laws about the comparison of the numbers of a list with the offsets: one for each return.
use Prim.Native.Nat.{ℕ, ◌+◌, ◌<◌}
use native.Mathlib.Numerals.{add-one}
use mathlib.Core.Path.{◌≡◌, refl, sym, ap, ◌∙◌}
use mathlib.Core.Bool.{Bool, true, false}
use mathlib.Core.List.{List, [], ◌∷◌, map}
use lib.ListN.{length, drop, get_or}
use lib.Seq.{drop-cons, drop-length}
use Rattle.std.specs.Prelude.{Option, None, Some}
use Rattle.std.specs.Option.{option_map}
use Rattle.format.specs.Bytes.{Bytes, same}
use Rattle.format.specs.Numeral.{both, numerals, split}
use Rattle.format.specs.declared.layout.Verdict.{Verdict}
use Rattle.format.specs.declared.layout.Verdict.TheVariants.{Good, IgnoredForm, IgnoredList}
use Rattle.format.specs.Index.{trim, listed, judged}
use Rattle.scan.specs.Number.{NumeralRead}
use Rattle.index.specs.declared.list.Comparison.{Comparison}
use Rattle.index.specs.Verdict.{agrees, compared}

-- Whether all numbers agree, after the comparison so far, if the numbers that are left are numbers.
abbrev pub agreed : Comparison → Option (List ℕ) → Option Bool
agreed before o = option_map (agrees before) o

-- One more number and one more offset can be left out on both sides.
pub agreed_next : (before next : Comparison) (x : ℕ) → ((ns : List ℕ) → agrees next ns ≡ agrees before (x ∷ ns)) → (o : Option (List ℕ))
    → agreed before (both (Some x) o) ≡ agreed next o
unfolding both
agreed_next before next x h None = refl
agreed_next before next x h (Some ns) = ap Some (sym (h ns))

-- At first, all of the numbers and all of the offsets are left.
pub agreed_first : (offsets : List ℕ) (first : Comparison) → ((ns : List ℕ) → agrees first ns ≡ same ns offsets) → (o : Option (List ℕ)) → agreed first o ≡ compared offsets o
agreed_first offsets first h None = refl
agreed_first offsets first h (Some ns) = ap Some (h ns)

-- Before the first part, all of the parts are left.
pub list_begin : (offsets : List ℕ) (first : Comparison) → ((ns : List ℕ) → agrees first ns ≡ same ns offsets) → (list : Bytes)
    → agreed first (numerals 10 (map trim (drop 0 (split 44 list)))) ≡ compared offsets (listed (Some list))
unfolding listed
list_begin offsets first h list = agreed_first offsets first h (numerals 10 (map trim (split 44 list)))

-- `k` of the parts were read, and `v` is the answer for the parts that are left.
module _ (ps : List Bytes) (k : ℕ) (before : Comparison) (v : Option Bool) (so_far : agreed before (numerals 10 (map trim (drop k ps))) ≡ v) where
  -- If no part is left, then the comparison so far decides.
  pub list_done : k ≡ length ps → (b : Bool) → b ≡ agrees before [] → Some b ≡ v
  unfolding numerals
  list_done h b e = ap Some e ∙ rw (h, drop-length) at so_far

  module _ (x : Bytes) (h : k < length ps) (part : x ≡ get_or ps k x) (t : Bytes) (is : t ≡ trim x) (r : Option ℕ) (read : NumeralRead t 10 r) where
    -- The numbers that are left are the number of this part and those of the other parts.
    next_number : numerals 10 (map trim (drop k ps)) ≡ both r (numerals 10 (map trim (drop (k + 1) ps)))
    unfolding numerals
    next_number = rw (drop-cons ps k x h, ← part, add-one k, ← is, ← read.is)

    -- If this part is no number, then there are no numbers.
    pub list_malformed : r ≡ None → (b : Option Bool) → b ≡ None → b ≡ v
    unfolding both
    list_malformed e b n = n ∙ rw (next_number, e) at so_far

    -- If this part is a number, then the parts after it decide.
    pub list_step : (n : ℕ) → r ≡ Some n → (next : Comparison) → ((ns : List ℕ) → agrees next ns ≡ agrees before (n ∷ ns))
        → agreed next (numerals 10 (map trim (drop (k + 1) ps))) ≡ v
    list_step n e next a = sym (agreed_next before next n a _) ∙ rw (next_number, e) at so_far

-- The verdict that an answer stands for.
abbrev pub verdict_of : Option Bool → Verdict
verdict_of None = IgnoredForm
verdict_of (Some x) = elim x [ true ↦ Good | false ↦ IgnoredList ]

-- The verdict on numbers is what their comparison with the offsets stands for.
pub judged_compared : (offsets : List ℕ) (o : Option (List ℕ)) (r : Option Bool) → r ≡ compared offsets o → (x : Option Bool) → r ≡ x → verdict_of x ≡ judged offsets o
unfolding judged
judged_compared offsets o r h x e = ap verdict_of (sym e ∙ h) ∙ go o
  where
    go : (o : Option (List ℕ)) → verdict_of (compared offsets o) ≡ judged offsets o
    go None = refl
    go (Some ns) = refl
