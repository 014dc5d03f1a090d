-- `table::actions::all_below` meets its contract: the numbers that are left decide. Assumes nothing.
use Rattle.std.proofs.Common.{◌≡◌, ◌+◌, ◌-◌, ◌*◌}
use Rattle.meaning.specs.TableFile.{numbers}
use Rattle.table.specs.Records.{below}
use Rattle.table.proofs.actions.all_below.Given as goal

abbrev pub invariant-loop-i : goal.invariant-loop-i
invariant-loop-i l = below l.m (numbers (l.n - l.i) l.table (l.p + 2 * l.i)) ≡ below l.m (numbers l.n l.table l.p)
