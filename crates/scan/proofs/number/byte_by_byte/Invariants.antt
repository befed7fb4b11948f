-- The invariant: `x` is the number of the bytes so far.
use Rattle.std.proofs.Common.{take}
use Rattle.scan.specs.Number.{BigEndian}
use Rattle.scan.proofs.number.byte_by_byte.Given as goal

abbrev pub invariant-loop-b : goal.invariant-loop-b
invariant-loop-b l = BigEndian (take l.b-index l.s) l.x
