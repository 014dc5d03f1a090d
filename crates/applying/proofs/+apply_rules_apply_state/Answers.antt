-- The cycle of calls {apply_rules, apply_state}: what each does is told by the laws of following.
use Rattle.std.proofs.Common.{arith, rules}
use Rattle.applying.proofs.States.{cell_room, fit_rules, told_state}
use Rattle.applying.proofs.RuleLists.{list_end, list_done, mark_ready, few_marks, past_dead, past_refused, rule_ready, below_ready, past_reduced}
use Rattle.applying.proofs.+apply_rules_apply_state.Goals as goal
use Rattle.applying.proofs.+apply_rules_apply_state.Goals.{apply_rules-then-chains_mark-ne0+in-Some, apply_rules-then-chains_mark-ne0+in-None, apply_rules-else-chains_mark-ne0}

pub apply_rules-size_mark-size-requires : goal.apply_rules-size_mark-size-requires
apply_rules-size_mark-size-requires t c = mark_ready _ _ _ _ c.loop-rule.invariant _ c.from.ensures c.loop-rule-test.true _ c.marks.ensures

pub apply_rules-overflow_add-beside : goal.apply_rules-overflow_add-beside
apply_rules-overflow_add-beside t c = let few = few_marks _ _ _ _ c.loop-rule.invariant _ c.from.ensures c.loop-rule-test.true _ (rw c.marks.ensures at c.size_mark-size.ensures) in omega arith

pub apply_rules-chains_mark-requires : goal.apply_rules-chains_mark-requires
apply_rules-chains_mark-requires t c = mark_ready _ _ _ _ c.loop-rule.invariant _ c.from.ensures c.loop-rule-test.true _ c.marks-in-loop-rule.ensures

pub apply_rules-reduce_one-step-requires : goal.apply_rules-reduce_one-step-requires
apply_rules-reduce_one-step-requires t c = rule_ready _ _ _ _ c.loop-rule.invariant _ c.from.ensures c.loop-rule-test.true _ (rw c.marks.ensures at c.size_mark-size.ensures) _ (rw c.marks-in-loop-rule.ensures at c.chains_mark.ensures) c.if-chains_mark-ne0.true

pub apply_rules-overflow_add-at : goal.apply_rules-overflow_add-at
apply_rules-overflow_add-at t c = let few = (mark_ready _ _ _ _ c.loop-rule.invariant _ c.from.ensures c.loop-rule-test.true _ c.marks.ensures).0 in omega arith

pub apply_rules-apply_state-counts-requires : goal.apply_rules-apply_state-counts-requires
apply_rules-apply_state-counts-requires t c =
    let few = (mark_ready _ _ _ _ c.loop-rule.invariant _ c.from.ensures c.loop-rule-test.true _ c.marks.ensures).0 in
    let behind = c.loop-rule.invariant.behind in
    (omega arith, below_ready _ _ _ _ c.loop-rule.invariant _ c.from.ensures c.loop-rule-test.true _ (rw c.marks.ensures at c.size_mark-size.ensures) _ (rw c.marks-in-loop-rule.ensures at c.chains_mark.ensures) c.if-chains_mark-ne0.true _ _ _ (rw c.in-Some.is at c.reduce_one-step.ensures))

pub apply_rules-loop-rule-preserved : goal.apply_rules-loop-rule-preserved
apply_rules-loop-rule-preserved t c =
    elim c.if-chains_mark-ne0.branch [
      | apply_rules-then-chains_mark-ne0+in-Some w ↦
          rw (w.work-is, w.counts-is, w.at-is)
          (past_reduced _ _ _ _ c.loop-rule.invariant _ c.from.ensures c.loop-rule-test.true _ (rw c.marks.ensures at c.size_mark-size.ensures) _ (rw c.marks-in-loop-rule.ensures at c.chains_mark.ensures) w.if-chains_mark-ne0.true _ _ _ (rw w.in-Some.is at w.reduce_one-step.ensures) _ _ w.apply_state-counts.ensures)
      | apply_rules-then-chains_mark-ne0+in-None w ↦
          rw (w.work-is, w.counts-is, w.at-is)
          (past_refused _ _ _ _ c.loop-rule.invariant _ c.from.ensures c.loop-rule-test.true _ (rw c.marks.ensures at c.size_mark-size.ensures) _ (rw c.marks-in-loop-rule.ensures at c.chains_mark.ensures) w.if-chains_mark-ne0.true _ _ (rw w.in-None.is at w.reduce_one-step.ensures))
      | apply_rules-else-chains_mark-ne0 w ↦
          rw (w.work-is, w.counts-is, w.at-is) (past_dead _ _ _ _ c.loop-rule.invariant _ c.from.ensures c.loop-rule-test.true _ (rw c.marks.ensures at c.size_mark-size.ensures) _ (rw c.marks-in-loop-rule.ensures at c.chains_mark.ensures) w.if-chains_mark-ne0.false)
    ]

pub apply_rules-end_chain-requires : goal.apply_rules-end_chain-requires
apply_rules-end_chain-requires t c = list_end _ _ _ _ c.loop-rule.invariant _ c.from.ensures c.loop-rule-test.false (search rules)

pub apply_rules-returns : goal.apply_rules-returns
apply_rules-returns t c = list_done _ _ _ _ c.loop-rule.invariant _ c.from.ensures c.loop-rule-test.false (search rules) _ _ c.end_chain.ensures

pub apply_state-get_cell-top-requires : goal.apply_state-get_cell-top-requires
apply_state-get_cell-top-requires t c = cell_room _ _ c.requires.fit

pub apply_state-apply_rules-requires : goal.apply_state-apply_rules-requires
apply_state-apply_rules-requires t c =
    (omega arith, record { four = c.action-action.ensures.within.count; way = c.requires.way; fit = fit_rules _ _ c.get_cell-top.ensures _ c.action-action.ensures.is c.action-action.ensures.within.count _ c.requires.fit })

pub apply_state-returns : goal.apply_state-returns
apply_state-returns t c = told_state _ _ c.get_cell-top.ensures _ c.action-action.ensures.is c.action-action.ensures.within.count _ _ c.apply_rules.ensures
