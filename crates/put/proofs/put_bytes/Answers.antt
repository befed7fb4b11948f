-- Up to eight bytes are copied, and before eight bytes zeros are filled in.
use Rattle.std.proofs.Common.{◌∙◌}
use Rattle.put.proofs.BytesLaws.{short_put, long_put}
use Rattle.put.proofs.put_bytes.Goals as goal

pub returns-then-width-le8 : goal.returns-then-width-le8
returns-then-width-le8 c = short_put _ _ _ _ c.requires _ _ c.to_be_bytes.ensures c.copy_from_slice.ensures.after c.if-width-le8.true

pub returns : goal.returns
returns c =
    long_put _ _ _ _ c.requires _ _ c.if-width-le8.false c.ranges.x.fits (c.fill.ensures.after (λ y e. e)) (c.copy_from_slice-2.ensures.after ∙ c.to_be_bytes-2.ensures)
