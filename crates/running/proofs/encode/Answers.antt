use Rattle.std.proofs.Common.{rules}
use Rattle.running.proofs.ReturnLaws.{state_put}
use Rattle.running.proofs.encode.Goals as goal

pub returns : goal.returns
returns c = state_put _ _ _ _ _ (search rules) _ _ _ _ c.from.ensures c.from-2.ensures c.from-3.ensures c.from-4.ensures c.put_numbers.ensures c.put_text.ensures
