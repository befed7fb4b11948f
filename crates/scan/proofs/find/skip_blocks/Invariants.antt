-- The invariant: no byte from `at` up to `i` passes the test, so they may be passed over.
use Rattle.std.proofs.Common.{◌-◌, length}
use Rattle.scan.specs.Find.{PassedOver}
use Rattle.scan.proofs.find.skip_blocks.Given as goal

abbrev pub invariant-loop-i : goal.invariant-loop-i
invariant-loop-i g l = PassedOver g.test l.s l.at l.i

abbrev pub decreases-loop-i : goal.decreases-loop-i
decreases-loop-i g l = length l.s - l.i

abbrev pub ghost-has : goal.ghost-has
ghost-has g a = g.test
