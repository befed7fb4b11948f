use Rattle.md5_parts.proofs.JoinLaws.{joined_law}
use Rattle.md5_parts.proofs.padding.joined.Goals as goal

pub returns : goal.returns
returns c = joined_law c.args.a.now c.args.b.now _ _ c.requires c.copy_from_slice.ensures.after c.copy_from_slice-2.ensures.after
