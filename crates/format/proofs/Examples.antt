-- Every example of the two tables holds, and the reasons have their numbers, by computation.
use Rattle.std.proofs.Common.{refl}
use Rattle.format.specs.Examples.{AllHold, examples}
use Rattle.format.specs.Reason.{AreNumbered}
use Rattle.format.specs.Misreadings.{misreadings}
use Rattle.format.proofs.Meaning.{meaning}

pub reasons_numbered : AreNumbered
reasons_numbered = refl

pub examples_hold : AllHold examples
unfolding meaning
examples_hold =
    (refl, (refl, (refl, (refl, (refl, (refl, (refl, (refl, (refl, (refl, (refl, (refl, (refl, (refl, (refl, (refl, (refl, (refl, (refl, (refl, (refl, (refl, tt))))))))))))))))))))))

pub misreadings_kept_out : AllHold misreadings
unfolding meaning
misreadings_kept_out =
    (refl, (refl, (refl, (refl, (refl, (refl, (refl, (refl, (refl, (refl, (refl, (refl, (refl, (refl, (refl, (refl, (refl, (refl, (refl, (refl, (refl, (refl, (refl, (refl, (refl, (refl, (refl, (refl, (refl, (refl, (refl, (refl, (refl, (refl, (refl, (refl, (refl, (refl, (refl, (refl, (refl, (refl, (refl, (refl, (refl, (refl, (refl, (refl, (refl, (refl, (refl, (refl, (refl, (refl, (refl, (refl, tt))))))))))))))))))))))))))))))))))))))))))))))))))))))))
