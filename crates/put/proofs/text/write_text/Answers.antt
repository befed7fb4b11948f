-- Either the text does not fit, or it is put.
use Rattle.std.proofs.Common.{rules}
use Rattle.put.proofs.WrittenLaws.{text_short, text_written}
use Rattle.put.proofs.text.write_text.Goals as goal

pub returns-then-out-text : goal.returns-then-out-text
returns-then-out-text c = search (text_short, rules)

pub returns : goal.returns
returns c = search (text_written, rules)
