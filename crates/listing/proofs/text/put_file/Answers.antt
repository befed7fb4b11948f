-- The three parts are put one after another.
use Rattle.std.proofs.Common.{rules}
use Rattle.listing.proofs.TextLaws.{file_put}
use Rattle.listing.proofs.text.put_file.Goals as goal

pub returns : goal.returns
returns c = search (file_put, rules)
