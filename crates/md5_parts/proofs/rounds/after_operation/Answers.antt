use Rattle.std.proofs.Common.{rules}
use Rattle.md5_parts.proofs.RoundLaws.{operation_law}
use Rattle.md5_parts.proofs.rounds.after_operation.Goals as goal

pub returns : goal.returns
returns g c = search (operation_law, rules)
