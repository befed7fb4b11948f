-- With buffers of this length, the answer is never a refusal.
use Rattle.std.proofs.Common.{rules}
use Rattle.listing.proofs.ListLaws.{never_refused, shown}
use Rattle.listing.proofs.list_lent.Goals as goal

pub returns-in-Err : goal.returns-in-Err
returns-in-Err c = search (never_refused, rules)

pub returns-in-Ok : goal.returns-in-Ok
returns-in-Ok c = search (shown, rules)
