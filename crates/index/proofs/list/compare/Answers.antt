-- The parts come one after another, as the definition cuts them. In each answer, `parts` says which they are.
use Rattle.std.proofs.Common.{rules, tests, length-append, ◌∷◌, []}
use Rattle.std.proofs.lemmas.Iterator.Consumers.{YieldsList-turn, YieldsList-end}
use Rattle.scan.proofs.SplitLaws.{split_yields}
use Rattle.index.proofs.ListLaws.{list_begin, list_malformed, list_step, list_done}
use Rattle.index.proofs.list.compare.Goals as goal

pub loop-part-init : goal.loop-part-init
loop-part-init c = list_begin _ c.new-comparison.result c.new-comparison.ensures _

pub returns-in_err-x : goal.returns-in_err-x
returns-in_err-x c =
    let parts = split_yields _ 44 c.args.list.now (cc) (cc) (cc) (λ x r q k. search (rules, tests)) in
    let turn = YieldsList-turn parts c.loop-part.yielded _ c.loop-part.yielded_by _ _ _ c.in-Some.is c.next.ensures.steps in
    list_malformed _ _ c.loop-part.comparison _ c.loop-part.invariant _ turn.0 turn.1 _ c.trim.ensures _ c.numeral.ensures c.in_err-x.was _ c.from_residual.ensures

pub loop-part-preserved : goal.loop-part-preserved
loop-part-preserved c =
    let parts = split_yields _ 44 c.args.list.now (cc) (cc) (cc) (λ x r q k. search (rules, tests)) in
    let turn = YieldsList-turn parts c.loop-part.yielded _ c.loop-part.yielded_by _ _ _ c.in-Some.is c.next.ensures.steps in
    rw (length-append c.loop-part.yielded (c.in-Some.part ∷ [])) (list_step _ _ c.loop-part.comparison _ c.loop-part.invariant _ turn.0 turn.1 _ c.trim.ensures _ c.numeral.ensures _ c.in_ok-x.was c.add.new.self c.add.ensures)

pub returns : goal.returns
returns c =
    let parts = split_yields _ 44 c.args.list.now (cc) (cc) (cc) (λ x r q k. search (rules, tests)) in
    let end = YieldsList-end parts c.loop-part.yielded _ c.loop-part.yielded_by _ _ c.in-None.is c.next.ensures.steps in
    list_done _ _ c.loop-part.comparison _ c.loop-part.invariant end.1 _ c.is_good.ensures
