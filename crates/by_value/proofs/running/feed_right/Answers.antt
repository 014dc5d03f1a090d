-- `running::feed_right` meets its contract. Assumes nothing.
use Rattle.std.proofs.lemmas.Result.{err_from_is_err_and}
use Rattle.by_value.proofs.Runs.{right_consumed, right_wrong, right_refused, right_ended}
use Rattle.by_value.proofs.running.feed_right.Goals as goal

pub returns-then-consumed : goal.returns-then-consumed
returns-then-consumed c = λ file f. search (right_consumed)

pub returns-then-wrong_term : goal.returns-then-wrong_term
returns-then-wrong_term c = λ file f. search (right_wrong)

pub returns-in_err-ended : goal.returns-in_err-ended
returns-in_err-ended c =
    let p = err_from_is_err_and c.from_residual.result c.from_residual.ensures.1 in
    λ file f. rw (p.1, p.2) (search (right_refused, c.in_err-ended.was))

pub returns : goal.returns
returns c = λ file f. search (right_ended, c.in_ok-ended.was)
