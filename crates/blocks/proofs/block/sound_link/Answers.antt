-- `blocks::block::sound_link` meets its contract. Bit 0 of the flags decides.
use Rattle.std.proofs.Common.{rules}
use Rattle.blocks.proofs.BlockLaws.{link_streamed, link_fits, link_plain}
use Rattle.blocks.proofs.block.sound_link.Goals as goal

pub returns-then-field-eq1 : goal.returns-then-field-eq1
returns-then-field-eq1 c = search (link_streamed, rules)

pub overflow_add-result : goal.overflow_add-result
overflow_add-result c = search (link_fits, rules)

pub returns : goal.returns
returns c = search (link_plain, rules)
