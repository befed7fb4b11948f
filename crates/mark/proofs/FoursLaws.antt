-- One law for each return from the search by fours. The search rests on this: the four bytes of a mark differ, so a
-- byte of a mark tells how far it is from the beginning of the mark.
use Prim.Native.Nat.{ℕ, zero, suc, ◌+◌, ◌-◌, ◌*◌, ◌/◌, ◌%◌, ◌≤◌, ◌<◌}
use native.Mathlib.Nat.{add-zero}
use native.Mathlib.Omega.{arith}
use mathlib.Core.Path.{◌≡◌, refl, sym, ap, ◌∙◌}
use mathlib.Core.Bool.{Bool, true, false, not, true≢false}
use mathlib.Core.List.{[], ◌∷◌, ◌++◌}
use mathlib.Mathlib.Data.Bool.Basic.{eq-false_of_not-eq-true}
use lib.ListN.{length, take, drop, get_or, drop_of_length-le, length-drop}
use Rattle.std.specs.Array.{IsFirstChunk}
use Rattle.std.proofs.lemmas.List.{drop-take, take_rest}
use lib.Seq.{get_or-drop, drop-drop}
use lib.Bits.{bit_or, or_add_and, and_le_l, and_le_r}
use lib.Dec.{eqb}
use borrow.Author.Tests.{eqb-true, eqb-false, not-true}
use Rattle.octets.specs.Octets.{index_of}
use Rattle.std.proofs.Math.Seq.{slice}
use Rattle.format.specs.Bytes.{Bytes, begins}
use Rattle.format.specs.Tree.{mark, free_space}
use Rattle.format.proofs.ByteLaws.{begins_true, and_both, and_left, and_right}
use Rattle.format.proofs.LocalLaws.{free_space_mark}
use Rattle.scan.proofs.TextLaws.{begins_inside}
use Rattle.mark.specs.Mark.{Skipped}
use Rattle.mark.specs.Fours.{FirstIn, FourthsUpTo, IsOfMark, Told, fourth_of_mark, begins_mark}
use Rattle.mark.proofs.MarkLaws.{mark_none_here, skip_none}

-- What holds for positions 0, 1, 2 and 3 holds for every position in a mark.
four_places : (p : ℕ → Type 0) → p 0 → p 1 → p 2 → p 3 → (j : ℕ) → j < 4 → p j
four_places p a b c d zero q = a
four_places p a b c d (suc zero) q = b
four_places p a b c d (suc (suc zero)) q = c
four_places p a b c d (suc (suc (suc zero))) q = d
four_places p a b c d (suc (suc (suc (suc j)))) q = absurd (omega arith)

-- No byte of a mark is below 42.
mark_high : (j : ℕ) → j < 4 → 0x42 ≤ get_or mark j 0
mark_high = four_places (λ j. 0x42 ≤ get_or mark j 0) (omega arith) (omega arith) (omega arith) (omega arith)

-- Each byte of a mark is at only one position in it.
mark_place : (j : ℕ) → j < 4 → index_of (get_or mark j 0) mark ≡ j
unfolding index_of
mark_place = four_places (λ j. index_of (get_or mark j 0) mark ≡ j) refl refl refl refl

-- If a mark begins at `p`, the byte at `p + j` is byte `j` of the mark.
mark_byte : (t : Bytes) (p : ℕ) → begins mark (drop p t) ≡ true → (j : ℕ) → j < 4 → get_or t (p + j) 0 ≡ get_or mark j 0
mark_byte t p h j q =
    sym (get_or-drop p t j 0)
    ∙ ap (λ (l : Bytes). get_or l j 0) (begins_true mark (drop p t) h)
    ∙ four_places (λ j. get_or (mark ++ drop 4 (drop p t)) j 0 ≡ get_or mark j 0) refl refl refl refl j q

-- Hence each of the four bytes from `p` on is a byte of a mark.
byte_of_mark : (t : Bytes) (p q : ℕ) → begins mark (drop p t) ≡ true → p ≤ q → q < p + 4 → IsOfMark (get_or t q 0)
byte_of_mark t p q h a b =
    let there : p + (q - p) ≡ q = omega arith in
    record { place = q - p; few = omega arith; is = rw there at (mark_byte t p h (q - p) (omega arith)) }

-- What bytes begin with, as many of them begin with too.
begins_taken : (k s : Bytes) (n : ℕ) → length k ≤ n → begins k s ≡ true → begins k (take n s) ≡ true
begins_taken [] s n h e = refl
begins_taken (a ∷ k) [] n h e = absurd (true≢false (sym e))
begins_taken (a ∷ k) (b ∷ s) zero h e = absurd (omega arith)
begins_taken (a ∷ k) (b ∷ s) (suc n) h e = and_both _ _ (and_left _ _ e) (begins_taken k s n (omega arith) (and_right (eqb a b) _ e))

-- If no mark begins at one of the next `k` bytes, they can be skipped.
skip_on : (t : Bytes) (from i k : ℕ) → Skipped t from i → i + k ≤ length t → ((p : ℕ) → i ≤ p → p < i + k → begins mark (drop p t) ≡ true → ⊥)
    → Skipped t from (i + k)
skip_on t from i zero before h never = rw add-zero before
skip_on t from i (suc k) before h never =
    let less = skip_on t from i k before (omega arith) (λ p a b. never p a (omega arith)) in
    let none = eq-false_of_not-eq-true (never (i + k) (omega arith) (omega arith)) in
    let one = mark_none_here t (i + k) _ less.is none (omega arith) in
    let e : i + suc k ≡ i + k + 1 = omega arith in
    rw e (record { is = one; after = omega (arith, before.after); inside = omega arith })

-- If no mark begins at one of the next four bytes, the result is the offset after them.
first_none : (t : Bytes) (i : ℕ) → i + 4 ≤ length t → ((p : ℕ) → i ≤ p → p < i + 4 → begins mark (drop p t) ≡ true → ⊥) → FirstIn t i (i + 4)
first_none t i room never =
    record { skipped = skip_on t i i 4 (skip_none t i (omega arith)) room never; order = omega arith; here = λ p. absurd (omega arith) }

-- The search four by four. The bytes before `i` are skipped.
module _ (t : Bytes) (from i : ℕ) (before : Skipped t from i) where
  module _ (r : ℕ) (first : FirstIn t i r) where
    together : r + free_space (drop r t) ≡ from + free_space (drop from t)
    together = first.skipped.is ∙ before.is

    -- If a mark begins at one of the next four bytes, its offset is the result.
    pub fours_here : r < i + 4 → r ≡ from + free_space (drop from t)
    fours_here h = omega (arith, together, free_space_mark (drop r t) (first.here h))

  -- If fewer than four bytes are left, they hold no mark, and the result is the end.
  pub fours_end : length t - i < 4 → length t ≡ from + free_space (drop from t)
  unfolding free_space
  fours_end h =
      let none = skip_on t from i (length t - i) before (omega (arith, before.inside)) (λ p a b m. omega (arith, begins_inside mark p t m (omega arith))) in
      let e : i + (length t - i) ≡ length t = omega (arith, before.inside) in
      let all : length t ≤ i + (length t - i) = omega arith in
      omega (arith, e, none.is, ap free_space (drop_of_length-le t all))

-- The search along blocks of 64 bytes. The bytes before `i` are skipped.
module _ (t : Bytes) (i : ℕ) (before : Skipped t 0 i) where
  -- If no mark begins in the 64 bytes at `i`, they are skipped.
  pub block_on : (block : Bytes) (x : Bool) → IsFirstChunk (take (length t - i) (drop i t)) block 67 → Told (begins_mark block) 64 x → x ≡ false → Skipped t 0 (i + 64)
  block_on block x chunk told none = skip_on t 0 i 64 before (omega (arith, room)) λ p a b m.
      let there : i + (p - i) ≡ p = omega arith in
      let split : p - i + (67 - (p - i)) ≡ 67 = omega arith in
      let taken = rw split at (drop-take (p - i) (67 - (p - i)) (drop i t)) in
      let whole : drop (p - i) block ≡ take (67 - (p - i)) (drop p t) = rw (is, taken, drop-drop, there) in
      true≢false (sym (told.tells (p - i) (omega arith) (rw whole (begins_taken mark (drop p t) (67 - (p - i)) (omega arith) m))) ∙ none)
    where
      is : block ≡ take 67 (drop i t)
      is = rw take_rest at chunk.same

      room : 67 ≤ length t - i
      room = simp (take_rest, length-drop) at chunk.enough

-- `back` is the position in a mark of the last of four bytes, or 4 if this byte belongs to no mark.
module _ (t : Bytes) (i back : ℕ) (room : i + 4 ≤ length t) (is : back ≡ 0 + index_of (get_or t (i + 3) 0) (slice 0 4 mark)) where
  place : back ≡ index_of (get_or t (i + 3) 0) mark
  place = omega (arith, is)

  -- Among the four bytes, a mark can begin only `back` bytes before the last one.
  other_start : (p : ℕ) → i ≤ p → p < i + 4 → (p + back ≡ i + 3 → ⊥) → begins mark (drop p t) ≡ true → ⊥
  other_start p a b n h =
      let there : p + (i + 3 - p) ≡ i + 3 = omega arith in
      let byte : get_or t (i + 3) 0 ≡ get_or mark (i + 3 - p) 0 = rw there at (mark_byte t p h (i + 3 - p) (omega arith)) in
      let only : back ≡ i + 3 - p = place ∙ ap (λ (x : ℕ). index_of x mark) byte ∙ mark_place (i + 3 - p) (omega arith) in
      n (omega arith)

  -- If the last byte belongs to no mark, no mark begins at one of the four bytes.
  pub four_none : back ≡ 4 → FirstIn t i (i + 4)
  four_none e = first_none t i room (λ p a b. other_start p a b (λ q. omega arith))

  module _ (most : back ≤ 4) (n : back ≡ 4 → ⊥) (m : Bool) (mark-is : m ≡ begins mark (drop (i + 3 - back) t)) where
    -- If a mark begins `back` bytes before the last byte, it is the first mark among the four bytes.
    pub four_here : m ≡ true → FirstIn t i (i + 3 - back)
    four_here e =
        let there : i + (3 - back) ≡ i + 3 - back = omega arith in
        let none = skip_on t i i (3 - back) (skip_none t i (omega arith)) (omega arith) (λ p a b. other_start p a (omega arith) (λ q. omega arith)) in
        record { skipped = rw there at none; order = omega arith; here = λ p. sym mark-is ∙ e }

    -- If the last byte could belong to a mark but none begins there, no mark begins at one of the four bytes.
    pub four_other : m ≡ false → FirstIn t i (i + 4)
    four_other e = first_none t i room (λ p a b. go p a b (eqb p (i + 3 - back)) refl)
      where
        go : (p : ℕ) → i ≤ p → p < i + 4 → (x : Bool) → eqb p (i + 3 - back) ≡ x → begins mark (drop p t) ≡ true → ⊥
        go p a b true q h = true≢false (sym (rw (eqb-true p (i + 3 - back) q) at h) ∙ sym mark-is ∙ e)
        go p a b false q h = other_start p a b (λ s. eqb-false p (i + 3 - back) q (omega arith)) h

-- If the next fourth byte is added with a bitwise or, the result is a bound for all fourth bytes so far.
pub fourths_step : (t : Bytes) (k seen : ℕ) → FourthsUpTo t k seen → FourthsUpTo t (k + 1) (bit_or seen (get_or t (4 * k + 3) 0))
fourths_step t k seen h = record { most = λ j q. go j q (eqb j k) refl }
  where
    b : ℕ
    b = get_or t (4 * k + 3) 0

    go : (j : ℕ) → j < k + 1 → (x : Bool) → eqb j k ≡ x → get_or t (4 * j + 3) 0 ≤ bit_or seen b
    go j q true e = rw (eqb-true j k e) (omega (arith, or_add_and seen b, and_le_l seen b))
    go j q false e =
        let less : j < k = omega (arith, eqb-false j k e) in
        omega (arith, h.most j less, or_add_and seen b, and_le_r seen b)

-- If no fourth byte of 64 bytes belongs to a mark, no mark begins at one of the 64.
unmarked : (t : Bytes) → ((i : ℕ) → i < 64 → i % 4 ≡ 3 → IsOfMark (get_or t i 0) → ⊥) → Told (begins_mark t) 64 false
unmarked t never = record {
  tells = λ j l m.
      let i = 4 * (j / 4) + 3 in
      absurd (never i (omega arith) (omega arith) (byte_of_mark t j i m (omega arith) (omega arith)));
}

-- If the bound of the 16 fourth bytes is below 42, none of them belongs to a mark, so no mark begins.
pub fourths_none : (t : Bytes) (x : ℕ) → FourthsUpTo t 16 x → x < 0x42 → Told (begins_mark t) 64 false
fourths_none t x h low = unmarked t λ i l f m.
    let there : 4 * (i / 4) + 3 ≡ i = omega arith in
    omega (arith, m.is, mark_high m.place m.few, rw there at (h.most (i / 4) (omega arith)))

-- If the test finds no fourth byte that belongs to a mark, no mark begins.
pub fourth_none : (t : Bytes) (x : Bool) → Told (fourth_of_mark t) 64 x → not x ≡ true → Told (begins_mark t) 64 false
fourth_none t x h none_seen = unmarked t λ i l f m. true≢false (sym (h.tells i l (f, m)) ∙ not-true x none_seen)
