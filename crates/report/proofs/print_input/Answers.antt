-- What is printed is the listing of the bytes that were read, and so that of the whole input.
use Rattle.std.proofs.Common.{rules}
use Rattle.report.proofs.InputLaws.{listing_of_input}
use Rattle.report.proofs.print_input.Goals as goal

pub returns : goal.returns
returns g c = listing_of_input c.print_listing.result _ _ _ _ _ c.in_ok-n.ensures.bytes (search rules) c.print_listing.ensures
