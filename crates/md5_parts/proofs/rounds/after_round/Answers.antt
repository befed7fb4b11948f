use Rattle.std.proofs.Common.{rules, ◌≡◌, ◌+◌, suc, length, map, sym, ◌∙◌, arith, []}
use Rattle.std.proofs.lemmas.List.{get_or-map}
use Rattle.std.specs.Int.{w32, from_le_bytes}
use Rattle.md5_parts.proofs.RoundLaws.{fit_at, round_more, round_done}
use Rattle.md5_parts.proofs.rounds.after_round.Goals as goal

pub bounds-block-o : goal.bounds-block-o
bounds-block-o g c =
    let many : length c.OPERATIONS.result ≡ 16 = search rules in
    let word = (fit_at c.OPERATIONS.result c.loop-o.o-index (omega arith) (record { word = 0; bits = 0; sine = 0 }) c.loop-o.invariant.fit).word in
    omega (arith, c.requires, word)

pub after_operation-v-requires : goal.after_operation-v-requires
after_operation-v-requires g c =
    let many : length c.OPERATIONS.result ≡ 16 = search rules in
    let fit = fit_at c.OPERATIONS.result c.loop-o.o-index (omega arith) (record { word = 0; bits = 0; sine = 0 }) c.loop-o.invariant.fit in
    (fit.some, fit.bits)

pub loop-o-preserved : goal.loop-o-preserved
loop-o-preserved g c =
    let many : length c.OPERATIONS.result ≡ 16 = search rules in
    let next : suc c.loop-o.o-index ≡ c.loop-o.o-index + 1 = omega arith in
    let fit = fit_at c.OPERATIONS.result c.loop-o.o-index (omega arith) (record { word = 0; bits = 0; sine = 0 }) c.loop-o.invariant.fit in
    let word = fit.word in
    let read = get_or-map (from_le_bytes w32) c.args.block.now _ [] 0 (omega (arith, c.requires, word)) in
    let more = round_more c.OPERATIONS.result c.loop-o.o-index (omega arith) (record { word = 0; bits = 0; sine = 0 }) g.R.Round.mixed
    (map (from_le_bytes w32) c.args.block.now) c.loop-o.v c.after_operation-v.result _ (c.from_le_bytes.ensures ∙ sym read) c.after_operation-v.ensures in
    record { comes = (rw next at more) ∙ c.loop-o.invariant.comes; fit = rw next at fit.rest }

pub returns : goal.returns
returns g c =
    let many : length c.OPERATIONS.result ≡ 16 = search rules in
    sym (round_done g.R.Round.mixed c.OPERATIONS.result c.loop-o.o-index (map (from_le_bytes w32) c.args.block.now) c.loop-o.v (omega arith)) ∙ c.loop-o.invariant.comes
