-- The test is whether a byte is the one that is looked for.
use Rattle.std.specs.Prelude.{◌==◌}
use Rattle.scan.proofs.find.find_far.Given as goal

abbrev pub ghost-skip_blocks : goal.ghost-skip_blocks
ghost-skip_blocks a = λ x. x == a.wanted.0.now

abbrev pub ghost-skip_blocks-2 : goal.ghost-skip_blocks-2
ghost-skip_blocks-2 a = λ x. x == a.wanted.0.now
