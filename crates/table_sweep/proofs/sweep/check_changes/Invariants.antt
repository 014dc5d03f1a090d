-- `table_sweep::sweep::check_changes` is safe: each byte has 255 other values. Assumes nothing.
use Rattle.std.proofs.Common.{◌*◌, ◌≤◌}
use Rattle.table_sweep.proofs.sweep.check_changes.Given as goal

abbrev pub invariant-loop-i : goal.invariant-loop-i
invariant-loop-i g l = l.right ≤ 255 * l.i-counter
