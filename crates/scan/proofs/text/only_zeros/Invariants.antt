-- The test is whether a byte is not zero.
use Rattle.std.specs.Prelude.{not, ◌==◌}
use Rattle.scan.proofs.text.only_zeros.Given as goal

abbrev pub ghost-skip_blocks : goal.ghost-skip_blocks
ghost-skip_blocks a = λ x. not (x == 0)

abbrev pub ghost-skip_blocks-2 : goal.ghost-skip_blocks-2
ghost-skip_blocks-2 a = λ x. not (x == 0)
