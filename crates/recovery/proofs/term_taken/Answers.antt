-- `term_taken` meets its contract. Assumes nothing.
use Rattle.std.proofs.lemmas.Result.{err_from_is_err_and}
use Rattle.recovery.proofs.RecoversEnds.{second_begins, second_stopped, second_came}
use Rattle.recovery.proofs.term_taken.Goals as goal

pub take_all-requires : goal.take_all-requires
take_all-requires c = search (second_begins)

pub returns-in_err-so : goal.returns-in_err-so
returns-in_err-so c =
    let p = err_from_is_err_and c.from_residual.result c.from_residual.ensures.1 in
    rw (p.1, p.2) (second_stopped _ _ c.requires _ _ c.take_all.new.work _ c.in_err-so.ensures)

pub returns : goal.returns
returns c = second_came _ _ c.requires _ _ _ _ c.in_ok-so.ensures
