-- `looking::recover_all` meets its contract. Assumes nothing.
use native.Mathlib.Omega.{arith}
use Rattle.std.proofs.lemmas.Result.{err_from_is_err_and}
use Rattle.recovery.proofs.LookingAll.{begins, all_done, turn_top, turn_pops, turn_ready, turn_stopped, turn_came}
use Rattle.recovery.proofs.looking.recover_all.Goals as goal

pub loop-i-init : goal.loop-i-init
loop-i-init c = search (begins)

pub top_of-reading-requires : goal.top_of-reading-requires
top_of-reading-requires c = turn_top _ _ _ _ _ _ _ _ c.loop-i.invariant c.loop-i-test.true

pub empty_term-term-requires : goal.empty_term-term-requires
empty_term-term-requires c = turn_pops _ _ _ _ _ _ _ _ c.loop-i.invariant c.loop-i-test.true _ c.top_of-reading.ensures

pub recover_one-requires : goal.recover_one-requires
recover_one-requires c = turn_ready _ _ _ _ _ _ _ _ c.loop-i.invariant c.loop-i-test.true _ c.top_of-reading.ensures

pub returns-in_err-so : goal.returns-in_err-so
returns-in_err-so c =
    let p = err_from_is_err_and c.from_residual.result c.from_residual.ensures.1 in
    rw (p.1, p.2) (turn_stopped _ _ _ _ _ _ _ _ c.loop-i.invariant c.loop-i-test.true _ c.top_of-reading.ensures _ c.empty_term-term.ensures c.recover_one.new.work _ c.in_err-so.ensures)

pub loop-i-preserved : goal.loop-i-preserved
loop-i-preserved c =
    turn_came _ _ _ _ _ _ _ _ c.loop-i.invariant c.loop-i-test.true _ c.top_of-reading.ensures _ c.empty_term-term.ensures _ _ c.in_ok-so.ensures

pub returns : goal.returns
returns c = all_done _ _ _ _ _ _ _ _ c.loop-i.invariant (omega arith)
