-- `first_planning` meets its contract. Assumes nothing.
use Rattle.std.proofs.lemmas.Result.{err_from_is_err_and}
use Rattle.feeding.proofs.Firsts.{settle_ready, first_settled, first_refused}
use Rattle.feeding.proofs.first_planning.Goals as goal

pub returns-in_err-so : goal.returns-in_err-so
returns-in_err-so c =
    let p = err_from_is_err_and c.from_residual.result c.from_residual.ensures.1 in
    rw (p.1, p.2) (first_refused _ _ _ _ c.in_err-so.ensures)

pub settle-requires : goal.settle-requires
settle-requires c = settle_ready _ _ _ _ _ _ c.in_ok-so.ensures

pub returns : goal.returns
returns c = first_settled _ _ _ _ _ _ c.in_ok-so.ensures _ c.recovers.ensures _ _ c.settle.ensures
