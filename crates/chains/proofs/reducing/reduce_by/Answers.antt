-- `chains::reducing::reduce_by` meets its contract: a law for each way out. Assumes nothing.
use Rattle.std.specs.Prelude.{◌≡◌, Ok, Err, ok_or}
use Rattle.std.proofs.Common.{sym, ◌∙◌}
use Rattle.meaning.specs.declared.Refusal.TheVariants.{NoGoto}
use Rattle.std.proofs.lemmas.Result.{err_from_is_err_and}
use Rattle.chains.proofs.Reductions.{reduce_10, reduce_9, reduce_6, reduce_7, reduce_8, reduce_to}
use Rattle.chains.proofs.reducing.reduce_by.Goals as goal

pub returns-then-at-ge-MAX_WALKED : goal.returns-then-at-ge-MAX_WALKED
returns-then-at-ge-MAX_WALKED c = search (reduce_10)

pub returns-then-at-eq0 : goal.returns-then-at-eq0
returns-then-at-eq0 c = search (reduce_9)

pub returns-then-stack-len : goal.returns-then-stack-len
returns-then-stack-len c = search (reduce_6)

pub returns-in_err-state : goal.returns-in_err-state
returns-in_err-state c =
    let p = err_from_is_err_and c.from_residual.result c.from_residual.ensures.1 in
    let h : ok_or c.goto.result NoGoto ≡ Err c.in_err-state.field-0.0 = sym c.ok_or.ensures.value ∙ c.in_err-state.was in
    rw (p.1, p.2) (search (reduce_7))

pub returns-then-base-ge-HEIGHTS : goal.returns-then-base-ge-HEIGHTS
returns-then-base-ge-HEIGHTS c =
    let h : ok_or c.goto.result NoGoto ≡ Ok c.in_ok-state.state = sym c.ok_or.ensures.value ∙ c.in_ok-state.was in
    search (reduce_8)

pub returns : goal.returns
returns c =
    let h : ok_or c.goto.result NoGoto ≡ Ok c.in_ok-state.state = sym c.ok_or.ensures.value ∙ c.in_ok-state.was in
    search (reduce_to)
