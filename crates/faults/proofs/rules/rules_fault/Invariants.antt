-- `faults::rules::rules_fault` meets its contract: the rules that are left decide. Assumes nothing.
use Rattle.std.proofs.Common.{◌≡◌, ◌+◌, ◌-◌, ◌*◌}
use Rattle.faults.specs.Rules.{rules_fault}
use Rattle.faults.proofs.rules.rules_fault.Given as goal

abbrev pub invariant-loop-i : goal.invariant-loop-i
invariant-loop-i l = rules_fault l.counts (l.counts.rules - l.i) l.table l.i (l.p + 17 * l.i) ≡ rules_fault l.counts l.counts.rules l.table 0 l.p
