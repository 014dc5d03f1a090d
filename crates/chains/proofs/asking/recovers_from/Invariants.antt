-- `chains::asking::recovers_from` meets its contract. The loop keeps that the heights left decide. Assumes nothing.
use Rattle.chains.proofs.Questions.{Recovering}
use Rattle.chains.proofs.asking.recovers_from.Given as goal

abbrev pub invariant-loop-below : goal.invariant-loop-below
invariant-loop-below l = Recovering l.table l.stack.states l.stack.height l.below l.marks
