-- `pass_over`: the readings before the reading i are still to come.
use Rattle.feeding.proofs.Turns.{Goes}
use Rattle.feeding.proofs.pass_over.Given as goal

abbrev pub invariant-loop-i : goal.invariant-loop-i
invariant-loop-i l = Goes l.table l.term l.state l.work l.i l.so l.left
