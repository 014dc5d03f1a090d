-- `find_table` meets its contract. Assumes nothing.
use Rattle.std.proofs.lemmas.Result.{err_from_is_err_and}
use Rattle.checks.proofs.Checks.{table_refused, table_found, view_belongs}
use Rattle.checks.proofs.find_table.Goals as goal

pub returns-in_err-view : goal.returns-in_err-view
returns-in_err-view c =
    let p = err_from_is_err_and c.from_residual.result c.from_residual.ensures.1 in
    rw (p.1, p.2) (table_refused _ _ _ c.find.ensures _ c.in_err-view.was)

pub invariant_of-result : goal.invariant_of-result
invariant_of-result c = search (view_belongs, c.in_ok-view.was)

pub returns : goal.returns
returns c = search (table_found, c.in_ok-view.was)
