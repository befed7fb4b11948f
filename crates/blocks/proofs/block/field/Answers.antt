-- `blocks::block::field` meets its contract: at most eight bytes give a number that fits.
use Rattle.std.proofs.Common.{rules}
use Rattle.blocks.proofs.BlockLaws.{field_read}
use Rattle.blocks.proofs.block.field.Goals as goal

pub returns : goal.returns
returns c = search (field_read, c.type_inv.t, rules)
