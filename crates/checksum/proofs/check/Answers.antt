use Rattle.std.proofs.Common.{◌≡◌, rules}
use Rattle.format.specs.Outcome.{refused}
use Rattle.checksum.proofs.CheckLaws.{check_refused, check_none, check_inside, check_found}
use Rattle.checksum.proofs.check.Goals as goal

pub returns-in_err-found : goal.returns-in_err-found
returns-in_err-found c =
    let is : c.from_residual.result ≡ refused c.in_err-found.field-0.0 = search rules in
    check_refused _ _ _ c.block.ensures _ c.in_err-found.was _ is

pub returns-in_err-block : goal.returns-in_err-block
returns-in_err-block c =
    let is : c.from_residual-in_err-block.result ≡ refused c.in_err-block.field-0.0 = search rules in
    check_none _ _ _ c.block.ensures _ c.in_ok-found.was _ c.new.ensures _ c.ok_or.ensures.value _ c.in_err-block.was _ is

pub check_block-requires-clause-used_in_bounds : goal.check_block-requires-clause-used_in_bounds
check_block-requires-clause-used_in_bounds c =
    (check_inside _ _ _ c.block.ensures _ c.in_ok-found.was _ c.new.ensures _ c.ok_or.ensures.value _ c.in_ok-block.was).end

pub check_block-requires-clause-file_len_bound : goal.check_block-requires-clause-file_len_bound
check_block-requires-clause-file_len_bound c =
    (check_inside _ _ _ c.block.ensures _ c.in_ok-found.was _ c.new.ensures _ c.ok_or.ensures.value _ c.in_ok-block.was).short

pub returns : goal.returns
returns c = check_found _ _ _ c.block.ensures _ c.in_ok-found.was _ c.new.ensures _ c.ok_or.ensures.value _ c.in_ok-block.was _ c.check_block.ensures
