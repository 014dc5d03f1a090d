-- The cycle of calls {plan_rules, plan_state}: what each answers is said by the laws of Walking.
use Rattle.std.proofs.Common.{arith}
use Rattle.std.proofs.lemmas.Result.{err_from_is_err_and}
use Rattle.chains.proofs.Walking.{said_end, said_reduced, ready_below, said_below, ready_mark, so_far_next, said_high, said_rules}
use Rattle.chains.proofs.+plan_rules_plan_state.Goals as goal

pub plan_rules-returns-in_err-to : goal.plan_rules-returns-in_err-to
plan_rules-returns-in_err-to t c =
    let p = err_from_is_err_and c.from_residual.result c.from_residual.ensures.1 in
    rw (p.1, p.2) (search (said_reduced, c.in_err-to.ensures))

pub plan_rules-plan_state-requires : goal.plan_rules-plan_state-requires
plan_rules-plan_state-requires t c =
    let tried = c.in_ok-to.ensures in
    (omega (arith, c.stepped.ensures.left, c.loop-rule.invariant.left, tried.allowed.0), search (ready_below, tried))

pub plan_rules-returns-in_err-below : goal.plan_rules-returns-in_err-below
plan_rules-returns-in_err-below t c =
    let p = err_from_is_err_and c.from_residual-in_err-below.result c.from_residual-in_err-below.ensures.1 in
    rw (p.1, p.2) (search (said_below, c.in_ok-to.ensures, c.in_err-below.ensures))

pub plan_rules-put_mark-requires : goal.plan_rules-put_mark-requires
plan_rules-put_mark-requires t c = search (ready_mark, c.in_ok-to.ensures, c.in_ok-below.ensures)

pub plan_rules-loop-rule-preserved : goal.plan_rules-loop-rule-preserved
plan_rules-loop-rule-preserved t c = search (so_far_next, c.in_ok-to.ensures, c.in_ok-below.ensures)

pub plan_rules-returns : goal.plan_rules-returns
plan_rules-returns t c = search (said_end)

pub plan_state-returns-then-too_high : goal.plan_state-returns-then-too_high
plan_state-returns-then-too_high t c = search (said_high)

pub plan_state-returns : goal.plan_state-returns
plan_state-returns t c = search (said_rules)
