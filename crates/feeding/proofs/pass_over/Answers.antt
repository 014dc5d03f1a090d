-- `pass_over` meets its contract. Assumes nothing.
use native.Mathlib.Omega.{arith}
use Rattle.std.proofs.lemmas.Result.{err_from_is_err_and}
use Rattle.feeding.proofs.Firsts.{pass_begins}
use Rattle.feeding.proofs.Turns.{pass_ends, turn_ready, turn_refused, turn_took, turn_left}
use Rattle.feeding.proofs.pass_over.Goals as goal

pub loop-i-init : goal.loop-i-init
loop-i-init c = search (pass_begins)

pub take_reading-requires : goal.take_reading-requires
take_reading-requires c = turn_ready _ _ _ _ _ _ _ c.loop-i.invariant (omega arith) _ c.top_of-reading.ensures

pub returns-in_err-turn : goal.returns-in_err-turn
returns-in_err-turn c =
    let p = err_from_is_err_and c.from_residual.result c.from_residual.ensures.1 in
    rw (p.1, p.2) (turn_refused _ _ _ _ _ _ _ c.loop-i.invariant (omega arith) _ c.top_of-reading.ensures _ _ c.in_err-turn.ensures)

pub loop-i-preserved-in-Took : goal.loop-i-preserved-in-Took
loop-i-preserved-in-Took c = turn_took _ _ _ _ _ _ _ c.loop-i.invariant (omega arith) _ c.top_of-reading.ensures _ _ c.in_ok-turn.ensures _ c.in-Took.is

pub loop-i-preserved : goal.loop-i-preserved
loop-i-preserved c = turn_left _ _ _ _ _ _ _ c.loop-i.invariant (omega arith) _ c.top_of-reading.ensures _ _ c.in_ok-turn.ensures _ c.in-Left.is _ c.put_left.ensures

pub returns : goal.returns
returns c = pass_ends _ _ _ _ _ _ _ c.loop-i.invariant (omega arith)
