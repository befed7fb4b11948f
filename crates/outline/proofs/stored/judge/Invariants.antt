-- The invariant: continuing the count at any row gives the count of the whole outline.
use Rattle.outline.proofs.CountLaws.{Counting}
use Rattle.outline.proofs.stored.judge.Given as goal

abbrev pub invariant-loop-k : goal.invariant-loop-k
invariant-loop-k l = Counting l.b l.k l.most
