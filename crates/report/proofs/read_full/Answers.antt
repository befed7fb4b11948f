-- A read puts its bytes after those that were read before it.
use Rattle.std.proofs.Common.{◌≡◌, ℕ, ◌+◌, ◌≤◌, List, ◌++◌, rules, length, take, sym, ap, ◌∙◌, subst, le_refl, drop_at, length-take-le}
use Rattle.std.proofs.lemmas.Slice.{take-put_mid_below}
use Rattle.std.proofs.KnownBytes.{Consumes-trans}
use Rattle.std.specs.Io.KnownBytes.{Consumes}
use borrow.Rule.Slice.PartMut.{put_mid, post_of}
use Rattle.std.proofs.Math.Seq.{take-add, take-append-le}
use Rattle.report.proofs.read_full.Goals as goal

-- Bytes `xs` that are put at `a` follow the first `a` bytes of `ys`.
take_put : (a k n : ℕ) (ys xs : List ℕ) → a ≤ length ys → n ≤ length xs → take a ys ++ take n xs ≡ take (a + n) (put_mid a k ys xs)
take_put a k n ys xs within fits =
    let all = put_mid a k ys xs in
    let after = post_of a k ys in
    let front : take a all ≡ take a ys = take-put_mid_below _ _ _ _ _ (le_refl _) within in
    let part = ap (take n) (drop_at (take a ys) (xs ++ after) a (length-take-le a ys within)) ∙ take-append-le n xs after fits in
    ap (λ l. l ++ take n xs) (sym front) ∙ ap (λ l. take a all ++ l) (sym part) ∙ sym (take-add a n all)

pub loop-done-preserved : goal.loop-done-preserved
loop-done-preserved g c =
    let within = c.loop-done.invariant.1 in
    let joined = take_put c.loop-done.done _ c.in_ok-n.n c.loop-done.buf c.read.new.buf within c.in_ok-n.ensures.bound.0 in
    (search rules, search rules, subst (Consumes _ _) joined (Consumes-trans _ _ _ _ _ c.loop-done.invariant.2 c.in_ok-n.ensures.bytes.0))
