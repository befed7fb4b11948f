-- `file::layout::chain_verdict` meets its contract: no index follows, or it is judged.
use Rattle.std.proofs.Common.{rules}
use Rattle.file.proofs.LayoutLaws.{verdict_absent, verdict_tail}
use Rattle.file.proofs.layout.chain_verdict.Goals as goal

pub returns-in-None : goal.returns-in-None
returns-in-None c = search (verdict_absent, rules)

pub returns-in-Some : goal.returns-in-Some
returns-in-Some c = search (verdict_tail, rules)
