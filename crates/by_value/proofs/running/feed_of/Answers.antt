-- `running::feed_of` meets its contract. Assumes nothing.
use native.Mathlib.Omega.{arith}
use Rattle.by_value.proofs.Runs.{run_state_length, run_work_length, run_places, run_done, run_handed}
use Rattle.by_value.proofs.running.feed_of.Goals as goal

pub returns-in_default : goal.returns-in_default
returns-in_default c = run_state_length _ _ _ _ _ c.in_default.ensures.cases _ c.refused.ensures

pub returns-in_default-as_mut_array : goal.returns-in_default-as_mut_array
returns-in_default-as_mut_array c =
    run_work_length _ _ _ _ _ _ c.in-Some.ensures.cases c.in_default-as_mut_array.ensures.cases _ c.refused-in_default-as_mut_array.ensures

pub returns-then-places-ne-MAX_ERRORS : goal.returns-then-places-ne-MAX_ERRORS
returns-then-places-ne-MAX_ERRORS c =
    run_places _ _ _ _ _ _ c.in-Some.ensures.cases _ c.in-Some-as_mut_array.ensures.cases c.if-places-ne-MAX_ERRORS.true _ c.refused-then-places-ne-MAX_ERRORS.ensures

pub returns : goal.returns
returns c =
    run_done _ _ _ _ _ _ c.in-Some.ensures.cases _ c.in-Some-as_mut_array.ensures.cases c.if-places-ne-MAX_ERRORS.false _ _ _ _ _ c.feed_found-fed.ensures (omega arith) c.clear.ensures (run_handed _ _ c.unwrap_or_else.ensures)
