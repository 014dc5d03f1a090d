-- `looking::recover_all`: the readings from the reading i on are still to come.
use Rattle.recovery.proofs.LookingAll.{Goes}
use Rattle.recovery.proofs.looking.recover_all.Given as goal

abbrev pub invariant-loop-i : goal.invariant-loop-i
invariant-loop-i l = Goes l.table l.state l.fn.work l.count l.fn.so l.work l.i l.so
