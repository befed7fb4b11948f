use Rattle.std.proofs.Common.{rules, ap, ◌∙◌}
use Rattle.format.specs.Outcome.{accepted}
use Rattle.blocks.proofs.ChainLaws.{walk_begins, walk_refused, walk_zeros, walk_index, walk_streamed, walk_block, streamed_few, block_few, block_less, block_inside, block_fits}
use Rattle.blocks.proofs.chain.walk_inside.Goals as goal

pub chain-init : goal.chain-init
chain-init c = search (walk_begins, rules)

pub returns-in_err-link : goal.returns-in_err-link
returns-in_err-link c = search (walk_refused, rules)

pub returns-in-Zeros : goal.returns-in-Zeros
returns-in-Zeros c = search (walk_zeros, rules)

pub returns-in-Index : goal.returns-in-Index
returns-in-Index c = search (walk_index, rules)

pub keep-requires : goal.keep-requires
keep-requires c = search (streamed_few, rules)

pub returns-in-Streamed : goal.returns-in-Streamed
returns-in-Streamed c =
    walk_streamed _ _ _ _ _ _ _ c.chain.invariant.0 c.link.result c.link.ensures _ c.keep.ensures (c.in_ok-link.was ∙ ap accepted c.in-Streamed.is)

pub keep-requires-in-Block : goal.keep-requires-in-Block
keep-requires-in-Block c = search (block_few, rules)

pub overflow_add-at : goal.overflow_add-at
overflow_add-at c = search (block_fits, rules)

pub chain-smaller : goal.chain-smaller
chain-smaller c = search (block_less, rules)

pub chain-preserved : goal.chain-preserved
chain-preserved c = search (walk_block, block_inside, rules)
