-- The refusal is passed on, or the layout is put.
use Rattle.asdf.proofs.AnswerLaws.{layout_refused, layout_put}
use Rattle.asdf.proofs.put_layout.Goals as goal

pub returns-in_err-layout : goal.returns-in_err-layout
returns-in_err-layout c = layout_refused _ _ _ c.in_err-layout.ensures _ c.from_residual.ensures.1

pub returns : goal.returns
returns c = layout_put _ _ _ c.in_ok-layout.ensures _ c.layout_fields.ensures _ _ c.put_numbers.ensures
