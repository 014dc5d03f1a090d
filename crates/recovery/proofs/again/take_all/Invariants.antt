-- `again::take_all`: the readings before the reading i are still to come.
use Rattle.recovery.proofs.AgainWays.{Goes}
use Rattle.recovery.proofs.again.take_all.Given as goal

abbrev pub invariant-loop-i : goal.invariant-loop-i
invariant-loop-i l = Goes l.table l.term l.fn.work l.count l.fn.so l.work l.i l.so
