-- `running::stages` meets its contract. Assumes nothing.
use mathlib.Core.Path.{ap, ◌∙◌}
use Rattle.std.proofs.Common.{Ok}
use Rattle.std.proofs.lemmas.Result.{err_from_is_err_and}
use Rattle.by_value.proofs.RunParts.{load_ready, first_ready, recover_ready, stages_refused, stages_ended, stages_recovered}
use Rattle.by_value.proofs.running.stages.Goals as goal

pub load-requires : goal.load-requires
load-requires c = search (load_ready)

pub first_planning-requires : goal.first_planning-requires
first_planning-requires c = search (first_ready)

pub returns-in_err-ended : goal.returns-in_err-ended
returns-in_err-ended c =
    let p = err_from_is_err_and c.from_residual.result c.from_residual.ensures.1 in
    rw (p.1, p.2) (stages_refused _ _ c.requires _ _ _ c.first_planning.ensures _ c.in_err-ended.was)

pub recover-requires : goal.recover-requires
recover-requires c = recover_ready _ _ c.requires _ _ _ c.first_planning.ensures _ _ (c.in_ok-ended.was ∙ ap (λ x. Ok x) c.in-Recovers.is)

pub returns-in-Ended : goal.returns-in-Ended
returns-in-Ended c = stages_ended _ _ c.requires _ _ _ c.first_planning.ensures _ (c.in_ok-ended.was ∙ ap (λ x. Ok x) c.in-Ended.is)

pub returns-in-Recovers : goal.returns-in-Recovers
returns-in-Recovers c = stages_recovered _ _ c.requires _ _ _ c.first_planning.ensures _ _ (c.in_ok-ended.was ∙ ap (λ x. Ok x) c.in-Recovers.is) _ _ c.recover.ensures
