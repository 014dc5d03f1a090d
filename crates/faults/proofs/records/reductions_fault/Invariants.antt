-- `faults::records::reductions_fault` meets its contract: the numbers that are left decide. Assumes nothing.
use Rattle.std.proofs.Common.{◌≡◌, ◌+◌, ◌-◌, ◌*◌}
use Rattle.faults.specs.Records.{reductions_fault}
use Rattle.faults.proofs.records.reductions_fault.Given as goal

abbrev pub invariant-loop-k : goal.invariant-loop-k
invariant-loop-k l = reductions_fault l.rules (l.n - l.k) l.table l.place (l.p + 2 * l.k) ≡ reductions_fault l.rules l.n l.table l.place l.p
