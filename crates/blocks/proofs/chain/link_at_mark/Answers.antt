-- `blocks::chain::link_at_mark` meets its contract: the chain goes on where the block at the mark leads.
use Rattle.std.proofs.Common.{rules}
use Rattle.blocks.proofs.BlockLaws.{block_sound}
use Rattle.blocks.proofs.ChainLaws.{mark_many, mark_refused, mark_block}
use Rattle.blocks.proofs.chain.link_at_mark.Goals as goal

pub returns-then-i-ge-MOST_BLOCKS : goal.returns-then-i-ge-MOST_BLOCKS
returns-then-i-ge-MOST_BLOCKS c = search (mark_many, rules)

pub returns-in-Err : goal.returns-in-Err
returns-in-Err c = search (mark_refused, rules)

pub sound_link-requires : goal.sound_link-requires
sound_link-requires c = search (block_sound, rules)

pub returns-in-Ok : goal.returns-in-Ok
returns-in-Ok c = mark_block _ _ _ _ c.requires (search rules) _ _ _ c.check.ensures c.in-Ok.is c.sound_link.ensures
