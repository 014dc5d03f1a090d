-- `running::feed_found` meets its contract. Assumes nothing.
use Rattle.std.proofs.lemmas.Result.{err_from_is_err_and}
use Rattle.by_value.proofs.Runs.{right_ready, found_refused, found_right}
use Rattle.by_value.proofs.running.feed_found.Goals as goal

pub returns-in_err-table : goal.returns-in_err-table
returns-in_err-table c =
    let p = err_from_is_err_and c.from_residual.result c.from_residual.ensures.1 in
    rw (p.1, p.2) (search (found_refused, c.in_err-table.was))

pub feed_right-requires : goal.feed_right-requires
feed_right-requires c = search (right_ready, c.in_ok-table.was)

pub returns : goal.returns
returns c = search (found_right, c.in_ok-table.was)
