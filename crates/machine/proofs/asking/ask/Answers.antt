-- `asking::ask` meets its contract. Assumes nothing.
use Rattle.std.proofs.lemmas.Result.{err_from_is_err_and}
use Rattle.machine.proofs.Asks.{asks_state, asked_refused, asked_found}
use Rattle.machine.proofs.asking.ask.Goals as goal

pub returns-in_err-table : goal.returns-in_err-table
returns-in_err-table c =
    let p = err_from_is_err_and c.from_residual.result c.from_residual.ensures.1 in
    rw (p.1, p.2) (search (asked_refused, c.in_err-table.was))

pub ask_right-requires : goal.ask_right-requires
ask_right-requires c = search (asks_state, c.in_ok-table.was)

pub returns : goal.returns
returns c = search (asked_found, c.in_ok-table.was)
