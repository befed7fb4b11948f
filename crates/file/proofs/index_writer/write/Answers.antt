-- `file::index_writer::write` meets its contract: if the file is accepted, it is open, and what is written is a good
-- index.
use Rattle.std.proofs.lemmas.Result.{err_from_is_err_and}
use Rattle.file.proofs.IndexWriterLaws.{index_refused, index_open}
use Rattle.file.proofs.index_writer.write.Goals as goal

pub returns-in_err-layout : goal.returns-in_err-layout
returns-in_err-layout c =
    let p = err_from_is_err_and c.from_residual.result c.from_residual.ensures.1 in
    rw (p.1, p.2) (index_refused _ c.type_inv.s _ c.in_err-layout.ensures _)

pub returns : goal.returns
returns c = index_open _ c.type_inv.s _ c.in_ok-layout.ensures.1 _ _ _ c.write_open.ensures
