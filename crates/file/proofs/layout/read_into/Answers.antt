-- `file::layout::read_into` meets its contract: the table of an accepted file is the table that was kept, and a refused
-- file leaves only zeros.
use Rattle.std.proofs.Common.{rules, sym}
use Rattle.file.proofs.LayoutLaws.{layout_judged, table_accepted, table_refused}
use Rattle.file.proofs.layout.read_into.Goals as goal

pub returns-then-is_err-clause-answer : goal.returns-then-is_err-clause-answer
returns-then-is_err-clause-answer c = search (layout_judged, rules)

pub returns-then-is_err-clause-table : goal.returns-then-is_err-clause-table
returns-then-is_err-clause-table c = search (table_refused, rules)

pub returns-else-is_err-clause-answer : goal.returns-else-is_err-clause-answer
returns-else-is_err-clause-answer c = search (layout_judged, rules)

pub returns-else-is_err-clause-table : goal.returns-else-is_err-clause-table
returns-else-is_err-clause-table c = table_accepted _ _ _ _ c.judge-layout.ensures (sym c.if-is_err.ensures.value)
