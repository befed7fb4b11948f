-- The parts come one after another, as the definition cuts them. In each answer, `parts` says which they are.
use Rattle.std.proofs.Common.{rules, tests, sym, arith, ◌∙◌}
use Rattle.scan.proofs.SplitLaws.{split_starts}
use Rattle.front.proofs.HeaderLaws.{next_part, no_part, some_part, none_left, version_long, version_none, version_major, version_one, version_minor, version_two, version_patch, version_more, version_read}
use Rattle.front.proofs.header.read_version.Goals as goal

pub returns-then-t-gt-MOST_VERSION : goal.returns-then-t-gt-MOST_VERSION
returns-then-t-gt-MOST_VERSION c = version_long _ (omega (arith, c.if-t-gt-MOST_VERSION.true))

pub returns-in_err-next : goal.returns-in_err-next
returns-in_err-next c =
    let parts = split_starts c.split-parts.ensures.runs 46 c.args.t.now c.split-parts.ensures.rest c.split-parts.ensures.done c.split-parts.ensures.closure (λ x r q k. search (rules, tests)) in
    version_none _ (no_part parts c.next.result c.next.new.self c.next.ensures.steps c.in_err-next.was) _ c.from_residual.ensures

pub returns-in_err-major : goal.returns-in_err-major
returns-in_err-major c =
    let parts = split_starts c.split-parts.ensures.runs 46 c.args.t.now c.split-parts.ensures.rest c.split-parts.ensures.done c.split-parts.ensures.closure (λ x r q k. search (rules, tests)) in
    let first = next_part parts c.next.result c.next.new.self c.next.ensures.steps _ c.in_ok-next.was in
    version_major _ _ _ first.1 _ c.number.ensures c.in_err-major.was _ c.from_residual-in_err-major.ensures

pub returns-in_err-next-2 : goal.returns-in_err-next-2
returns-in_err-next-2 c =
    let parts = split_starts c.split-parts.ensures.runs 46 c.args.t.now c.split-parts.ensures.rest c.split-parts.ensures.done c.split-parts.ensures.closure (λ x r q k. search (rules, tests)) in
    let first = next_part parts c.next.result c.next.new.self c.next.ensures.steps _ c.in_ok-next.was in
    let none = no_part first.2 c.next-2.result c.next-2.new.self c.next-2.ensures.steps c.in_err-next-2.was in
    version_one _ _ _ first.1 _ c.number.ensures none _ c.from_residual-in_err-next-2.ensures

pub returns-in_err-minor : goal.returns-in_err-minor
returns-in_err-minor c =
    let parts = split_starts c.split-parts.ensures.runs 46 c.args.t.now c.split-parts.ensures.rest c.split-parts.ensures.done c.split-parts.ensures.closure (λ x r q k. search (rules, tests)) in
    let first = next_part parts c.next.result c.next.new.self c.next.ensures.steps _ c.in_ok-next.was in
    let second = next_part first.2 c.next-2.result c.next-2.new.self c.next-2.ensures.steps _ c.in_ok-next-2.was in
    version_minor _ _ _ first.1 _ c.number.ensures _ _ second.1 _ c.number-2.ensures c.in_err-minor.was _ c.from_residual-in_err-minor.ensures

pub returns-in_err-next-3 : goal.returns-in_err-next-3
returns-in_err-next-3 c =
    let parts = split_starts c.split-parts.ensures.runs 46 c.args.t.now c.split-parts.ensures.rest c.split-parts.ensures.done c.split-parts.ensures.closure (λ x r q k. search (rules, tests)) in
    let first = next_part parts c.next.result c.next.new.self c.next.ensures.steps _ c.in_ok-next.was in
    let second = next_part first.2 c.next-2.result c.next-2.new.self c.next-2.ensures.steps _ c.in_ok-next-2.was in
    let none = no_part second.2 c.next-3.result c.next-3.new.self c.next-3.ensures.steps c.in_err-next-3.was in
    version_two _ _ _ first.1 _ c.number.ensures _ _ second.1 _ c.number-2.ensures none _ c.from_residual-in_err-next-3.ensures

pub returns-in_err-patch : goal.returns-in_err-patch
returns-in_err-patch c =
    let parts = split_starts c.split-parts.ensures.runs 46 c.args.t.now c.split-parts.ensures.rest c.split-parts.ensures.done c.split-parts.ensures.closure (λ x r q k. search (rules, tests)) in
    let first = next_part parts c.next.result c.next.new.self c.next.ensures.steps _ c.in_ok-next.was in
    let second = next_part first.2 c.next-2.result c.next-2.new.self c.next-2.ensures.steps _ c.in_ok-next-2.was in
    let third = next_part second.2 c.next-3.result c.next-3.new.self c.next-3.ensures.steps _ c.in_ok-next-3.was in
    version_patch _ _ _ first.1 _ c.number.ensures _ _ second.1 _ c.number-2.ensures _ _ third.1 _ c.number-3.ensures c.in_err-patch.was _ c.from_residual-in_err-patch.ensures

pub returns-then-is_some : goal.returns-then-is_some
returns-then-is_some c =
    let parts = split_starts c.split-parts.ensures.runs 46 c.args.t.now c.split-parts.ensures.rest c.split-parts.ensures.done c.split-parts.ensures.closure (λ x r q k. search (rules, tests)) in
    let first = next_part parts c.next.result c.next.new.self c.next.ensures.steps _ c.in_ok-next.was in
    let second = next_part first.2 c.next-2.result c.next-2.new.self c.next-2.ensures.steps _ c.in_ok-next-2.was in
    let third = next_part second.2 c.next-3.result c.next-3.new.self c.next-3.ensures.steps _ c.in_ok-next-3.was in
    let more = some_part third.2 c.next-4.result c.next-4.new.self c.next-4.ensures.steps (sym c.is_some.ensures ∙ c.if-is_some.true) in
    version_more _ _ _ first.1 _ c.number.ensures _ _ second.1 _ c.number-2.ensures _ _ third.1 _ c.number-3.ensures _ _ more.2

pub returns : goal.returns
returns c =
    let parts = split_starts c.split-parts.ensures.runs 46 c.args.t.now c.split-parts.ensures.rest c.split-parts.ensures.done c.split-parts.ensures.closure (λ x r q k. search (rules, tests)) in
    let first = next_part parts c.next.result c.next.new.self c.next.ensures.steps _ c.in_ok-next.was in
    let second = next_part first.2 c.next-2.result c.next-2.new.self c.next-2.ensures.steps _ c.in_ok-next-2.was in
    let third = next_part second.2 c.next-3.result c.next-3.new.self c.next-3.ensures.steps _ c.in_ok-next-3.was in
    let none = none_left third.2 c.next-4.result c.next-4.new.self c.next-4.ensures.steps (sym c.is_some.ensures ∙ c.if-is_some.false) in
    version_read _ _ _ first.1 _ c.number.ensures _ _ second.1 _ c.number-2.ensures _ _ third.1 _ c.number-3.ensures none _ _ _ c.in_ok-major.was c.in_ok-minor.was c.in_ok-patch.was
