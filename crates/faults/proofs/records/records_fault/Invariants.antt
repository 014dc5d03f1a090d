-- `faults::records::records_fault` meets its contract: the records that are left decide. Assumes nothing.
use Rattle.std.proofs.Common.{◌≡◌, ◌≤◌, ◌-◌}
use Rattle.faults.specs.Records.{field_fault}
use Rattle.faults.proofs.records.records_fault.Given as goal

abbrev pub invariant-loop-at : goal.invariant-loop-at
invariant-loop-at g l =
    let F = g.F.Record.format l.table l.counts in
    let one = g.F.Faulty.fault l.table l.counts in
    (l.i ≤ l.at) × (field_fault F g.F.Faulty.FIELD one l.filled.end l.low l.i l.at ≡ field_fault F g.F.Faulty.FIELD one l.filled.end 0 0 l.filled.at)

abbrev pub decreases-loop-at : goal.decreases-loop-at
decreases-loop-at g l = l.filled.end - l.at
