-- `reading::stack_found` meets its contract. Assumes nothing.
use Rattle.std.proofs.lemmas.Result.{err_from_is_err_and}
use Rattle.by_value.proofs.Stacks.{right_state, stack_refused_lem, stack_found}
use Rattle.by_value.proofs.reading.stack_found.Goals as goal

pub returns-in_err-find_table : goal.returns-in_err-find_table
returns-in_err-find_table c =
    let p = err_from_is_err_and c.from_residual.result c.from_residual.ensures.1 in
    rw (p.1, p.2) (search (stack_refused_lem, c.in_err-find_table.was))

pub stack_right-requires : goal.stack_right-requires
stack_right-requires c = search (right_state, c.in_ok-find_table.was)

pub returns : goal.returns
returns c = search (stack_found, c.in_ok-find_table.was)
