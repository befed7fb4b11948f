use Rattle.std.proofs.Common.{arith}
use Rattle.scan.proofs.NumberLaws.{big_endian_step}
use Rattle.scan.proofs.number.byte_by_byte.Goals as goal

pub loop-b-preserved : goal.loop-b-preserved
loop-b-preserved c =
    big_endian_step _ _ _ c.loop-b.invariant _ c.from.ensures (omega (arith, c.type_inv.s c.loop-b.b-index)) c.loop-b-test.true
