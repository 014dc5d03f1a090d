-- `again::take_all` meets its contract. Assumes nothing.
use native.Mathlib.Omega.{arith}
use Rattle.std.proofs.lemmas.Result.{err_from_is_err_and}
use Rattle.recovery.proofs.AgainWays.{all_done, turn_top, turn_stopped, turn_came}
use Rattle.recovery.proofs.again.take_all.Goals as goal

pub top_of-reading-requires : goal.top_of-reading-requires
top_of-reading-requires c = turn_top _ _ _ _ _ _ _ _ c.loop-i.invariant (omega arith)

pub returns-in_err-so : goal.returns-in_err-so
returns-in_err-so c =
    let p = err_from_is_err_and c.from_residual.result c.from_residual.ensures.1 in
    rw (p.1, p.2) (turn_stopped _ _ _ _ _ _ _ _ c.loop-i.invariant (omega arith) _ c.top_of-reading.ensures c.take_or_stay.new.work _ c.in_err-so.ensures)

pub loop-i-preserved : goal.loop-i-preserved
loop-i-preserved c = turn_came _ _ _ _ _ _ _ _ c.loop-i.invariant (omega arith) _ c.top_of-reading.ensures _ _ c.in_ok-so.ensures

pub returns : goal.returns
returns c = all_done _ _ _ _ _ _ _ _ c.loop-i.invariant (omega arith)
