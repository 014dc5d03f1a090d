-- `find` meets its contract. Assumes nothing.
use Rattle.std.proofs.lemmas.Result.{err_from_is_err_and}
use Rattle.checks.proofs.Checks.{found_wrong_table, found_wrong_state, found_right}
use Rattle.checks.proofs.find.Goals as goal

pub returns-in_err-view : goal.returns-in_err-view
returns-in_err-view c =
    let p = err_from_is_err_and c.from_residual.result c.from_residual.ensures.1 in
    rw (p.1, p.2) (found_wrong_table _ _ _ c.check_table.ensures _ c.ok_or.ensures.value _ c.in_err-view.was)

pub returns-then-valid_state : goal.returns-then-valid_state
returns-then-valid_state c = search (found_right, c.in_ok-view.was)

pub returns : goal.returns
returns c = search (found_wrong_state, c.in_ok-view.was)
