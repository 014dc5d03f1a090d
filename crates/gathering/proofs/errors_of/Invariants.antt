-- `errors_of` meets its contract. The loop keeps that the first i records stand in the first i places. Assumes nothing.
use Rattle.gathering.proofs.Laws.{GatheredTo}
use Rattle.gathering.proofs.errors_of.Given as goal

abbrev pub invariant-loop-i : goal.invariant-loop-i
invariant-loop-i l = GatheredTo l.work l.count l.errors.list l.i
