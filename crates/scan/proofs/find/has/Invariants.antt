-- The invariant: a byte was found exactly if one of the bytes so far passes the test.
use Rattle.std.proofs.Common.{◌≡◌, take}
use Rattle.std.specs.List.{list_any}
use Rattle.scan.proofs.find.has.Given as goal

abbrev pub invariant-loop-b : goal.invariant-loop-b
invariant-loop-b g l = l.found ≡ list_any g.test (take l.b-index l.block)
