-- `table::records::records_right` meets its contract: the records that are left decide. Assumes nothing.
use Rattle.std.proofs.Common.{◌≡◌, ◌-◌}
use Rattle.meaning.specs.TableRight.{field_right}
use Rattle.table.proofs.records.records_right.Given as goal

abbrev pub invariant-loop-at : goal.invariant-loop-at
invariant-loop-at g l = let F = g.R.Record.format l.table l.counts in field_right F l.end l.low l.at ≡ field_right F l.end 0 l.from

abbrev pub decreases-loop-at : goal.decreases-loop-at
decreases-loop-at g l = l.end - l.at
