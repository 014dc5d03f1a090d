-- `console::terms::readings_left` counts the readings that are there: those below i are, and the first that is not ends the count. Assumes nothing.
use Rattle.std.proofs.Common.{◌≤◌}
use Rattle.console.specs.Tracing.{readings_left}
use Rattle.console.proofs.terms.readings_left.Given as goal

abbrev pub invariant-loop-i : goal.invariant-loop-i
invariant-loop-i l = l.i ≤ readings_left l.table l.state
