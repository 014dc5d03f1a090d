-- The measure is 2 for each chain step left, and 1 for a state. The loop over the rules keeps `SoFar`.
use Rattle.std.proofs.Common.{◌+◌, ◌*◌}
use Rattle.chains.proofs.Walking.{SoFar}
use Rattle.chains.proofs.+plan_rules_plan_state.Given as goal

abbrev pub decreases-plan_rules : goal.decreases-plan_rules
decreases-plan_rules l = 2 * l.from.left

abbrev pub decreases-plan_state : goal.decreases-plan_state
decreases-plan_state l = 2 * l.at.left + 1

abbrev pub invariant-plan_rules-loop-rule : goal.invariant-plan_rules-loop-rule
invariant-plan_rules-loop-rule l = SoFar l.table l.ask l.stack l.initial.marks l.fn.action l.initial.at l.marks l.at l.rule-index
