use Rattle.std.proofs.Common.{◌≡◌, true, drop, map}
use Rattle.std.specs.Int.{w32, from_le_bytes}
use Rattle.md5_parts.specs.Md5.{round, all_fit}
use Rattle.md5_parts.proofs.rounds.after_round.Given as goal

abbrev pub invariant-loop-o : goal.invariant-loop-o
invariant-loop-o g l = record {
  comes : round g.R.Round.mixed (drop l.o-index l.o-items) (map (from_le_bytes w32) l.block) l.v ≡ round g.R.Round.mixed g.R.Round.OPERATIONS (map (from_le_bytes w32) l.block) l.fn.w;
  fit : all_fit (drop l.o-index l.o-items) ≡ true;
}
