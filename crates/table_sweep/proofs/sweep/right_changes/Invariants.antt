-- `table_sweep::sweep::right_changes` meets its contract: each value counts once at most. Assumes nothing.
use Rattle.std.proofs.Common.{◌+◌, ◌≤◌}
use Rattle.table_sweep.proofs.sweep.right_changes.Given as goal

abbrev pub invariant-loop-more : goal.invariant-loop-more
invariant-loop-more l = l.right + 1 ≤ l.more
