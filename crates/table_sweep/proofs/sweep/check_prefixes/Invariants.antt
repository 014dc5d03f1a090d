-- `table_sweep::sweep::check_prefixes` is safe: each prefix counts once at most. Assumes nothing.
use Rattle.std.proofs.Common.{◌≤◌}
use Rattle.table_sweep.proofs.sweep.check_prefixes.Given as goal

abbrev pub invariant-loop-n : goal.invariant-loop-n
invariant-loop-n g l = l.right ≤ l.n-counter
