-- `table::records::find` meets its contract: no record passed has the pair that is wanted, and what is left is right. Assumes nothing.
use Rattle.std.proofs.Common.{◌-◌}
use Rattle.table.specs.Records.{Sought}
use Rattle.table.proofs.records.find.Given as goal

abbrev pub invariant-loop-at : goal.invariant-loop-at
invariant-loop-at g l = Sought (g.R.Record.format l.table) l.high l.low l.end l.from l.at

abbrev pub decreases-loop-at : goal.decreases-loop-at
decreases-loop-at g l = l.end - l.at
