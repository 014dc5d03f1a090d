-- `recover` meets its contract. Assumes nothing.
use Rattle.std.proofs.lemmas.Result.{err_from_is_err_and}
use Rattle.recovery.proofs.Recovers.{first_begins, looked_ready, first_stopped, recovered}
use Rattle.recovery.proofs.recover.Goals as goal

pub recover_all-requires : goal.recover_all-requires
recover_all-requires c = search (first_begins)

pub returns-in_err-so : goal.returns-in_err-so
returns-in_err-so c =
    let p = err_from_is_err_and c.from_residual.result c.from_residual.ensures.1 in
    rw (p.1, p.2) (first_stopped _ _ _ _ c.requires _ _ c.cells_in_use.ensures c.reading_count.ensures _ _ c.recover_all.new.work _ c.in_err-so.ensures)

pub after_looking-requires : goal.after_looking-requires
after_looking-requires c = looked_ready _ _ _ _ c.requires _ _ c.cells_in_use.ensures c.reading_count.ensures _ c.args.term _ _ c.in_ok-so.ensures

pub returns : goal.returns
returns c = recovered _ _ _ _ c.requires _ _ c.cells_in_use.ensures c.reading_count.ensures _ _ _ _ c.in_ok-so.ensures _ _ c.after_looking.ensures
