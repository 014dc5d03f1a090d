-- `can_plan`: a planning that is refused is a question that is.
use Rattle.std.proofs.lemmas.Result.{err_from_is_err_and}
use Rattle.chains.proofs.Questions.{can_refused}
use Rattle.chains.proofs.asking.can_plan.Goals as goal

pub returns-in_err-plan : goal.returns-in_err-plan
returns-in_err-plan c =
    let p = err_from_is_err_and c.from_residual.result c.from_residual.ensures.1 in
    rw (p.1, p.2) (search (can_refused, c.in_err-plan.was))
