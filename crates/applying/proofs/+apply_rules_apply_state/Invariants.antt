-- The measure is 2 for each mark left, and 1 for a state. The loop over the rules keeps `Followed`.
use Rattle.std.proofs.Common.{◌+◌, ◌*◌, ◌-◌}
use Rattle.applying.specs.Following.{place}
use Rattle.applying.proofs.RuleLists.{Followed}
use Rattle.applying.proofs.+apply_rules_apply_state.Given as goal

abbrev pub decreases-apply_rules : goal.decreases-apply_rules
decreases-apply_rules l = 2 * (1024 - l.first)

abbrev pub decreases-apply_state : goal.decreases-apply_state
decreases-apply_state l = 2 * (1024 - l.at) + 1

abbrev pub invariant-apply_rules-loop-rule : goal.invariant-apply_rules-loop-rule
invariant-apply_rules-loop-rule l =
    Followed (place l.table l.ask l.initial.work l.reading l.fn.before l.fn.first) l.fn.action l.rule-index (place l.table l.ask l.work l.reading l.counts l.at)
