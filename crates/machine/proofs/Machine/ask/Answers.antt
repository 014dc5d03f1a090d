-- `Machine::ask` meets its contract. Assumes nothing.
use Rattle.std.proofs.lemmas.Result.{err_from_is_err_and}
use Rattle.machine.proofs.Lengths.{not_there, there}
use Rattle.machine.proofs.Asks.{asked_state_length, asked_work_length, asked_done}
use Rattle.machine.proofs.Machine.ask.Goals as goal

pub returns-in_err-state : goal.returns-in_err-state
returns-in_err-state c =
    let p = err_from_is_err_and c.from_residual.result c.from_residual.ensures.1 in
    let n = not_there _ _ _ c.as_array.ensures.cases _ _ c.ok_or.ensures.value _ c.in_err-state.was in
    rw (p.1, p.2, n.1) (asked_state_length _ _ _ _ n.0)

pub returns-in_err-work : goal.returns-in_err-work
returns-in_err-work c =
    let p = err_from_is_err_and c.from_residual-in_err-work.result c.from_residual-in_err-work.ensures.1 in
    let n = not_there _ _ _ c.as_mut_array.ensures.cases _ _ c.ok_or-2.ensures.value _ c.in_err-work.was in
    rw (p.1, p.2, n.1) (asked_work_length _ _ _ _ n.0)

pub returns : goal.returns
returns c =
    asked_done _ _ _ _ _ _ c.ask-answer.new.marks _ _ (there _ _ _ c.as_array.ensures.cases _ _ c.ok_or.ensures.value _ c.in_ok-state.was)
    (there _ _ _ c.as_mut_array.ensures.cases _ _ c.ok_or-2.ensures.value _ c.in_ok-work.was) c.ask-answer.ensures c.ask-answer.auto.marks c.clear.ensures
