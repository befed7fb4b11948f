-- `blocks::chain::link` meets its contract: if no block follows, the tail begins.
use Rattle.std.proofs.Common.{rules}
use Rattle.blocks.proofs.ChainLaws.{link_follows, link_index, link_zeros, link_other}
use Rattle.blocks.proofs.chain.link.Goals as goal

pub link_at_mark-requires : goal.link_at_mark-requires
link_at_mark-requires c = search (link_follows, rules)

pub returns-then-is_index : goal.returns-then-is_index
returns-then-is_index c = search (link_index, rules)

pub returns-then-only_zeros : goal.returns-then-only_zeros
returns-then-only_zeros c = search (link_zeros, rules)

pub returns : goal.returns
returns c = search (link_other, rules)
