-- The first `b` is one of the next eight bytes, or it comes after them.
use Rattle.std.proofs.Common.{rules}
use Rattle.scan.proofs.FindLaws.{first_near, first_far}
use Rattle.scan.proofs.find.find_byte.Goals as goal

pub returns-then-near-far : goal.returns-then-near-far
returns-then-near-far c = search (first_near, rules)

pub returns : goal.returns
returns c = search (first_far, rules)
