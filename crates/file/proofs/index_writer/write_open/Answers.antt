-- `file::index_writer::write_open` meets its contract: the last block's header tells whether there may be an index.
use Rattle.std.proofs.Common.{rules}
use Rattle.file.proofs.IndexWriterLaws.{no_block, last_inside, last_streamed, last_plain}
use Rattle.file.proofs.index_writer.write_open.Goals as goal

pub returns-in_default : goal.returns-in_default
returns-in_default c = no_block _ _ c.args.file.kept c.in_default.ensures.value _ _ (search rules)

pub slice_bounds-is_streamed-count : goal.slice_bounds-is_streamed-count
slice_bounds-is_streamed-count c = last_inside _ _ c.args.file.kept _ c.in-Some.ensures.value

pub slice_bounds-is_streamed-start : goal.slice_bounds-is_streamed-start
slice_bounds-is_streamed-start c = last_inside _ _ c.args.file.kept _ c.in-Some.ensures.value

pub returns-then-is_streamed : goal.returns-then-is_streamed
returns-then-is_streamed c = search (last_streamed _ _ c.args.file.kept _ c.in-Some.ensures.value, rules)

pub returns : goal.returns
returns c = last_plain _ _ c.args.file.kept _ c.in-Some.ensures.value _ c.is_streamed.ensures c.if-is_streamed.false _ c.requires _ _ _ c.write.ensures
