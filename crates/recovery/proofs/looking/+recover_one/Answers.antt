-- `looking::recover_one` meets its contract. Assumes nothing.
use Prim.Native.Nat.{ℕ}
use native.Mathlib.Omega.{arith}
use mathlib.Core.Path.{ap}
use Rattle.std.proofs.lemmas.Result.{err_from_is_err_and}
use Rattle.actions.specs.declared.Top.{Top}
use Rattle.recovery.proofs.LookingOne.{one_refused, one_took, one_left, NotYet, pops_left, ready_rest, one_goes}
use Rattle.recovery.proofs.looking.+recover_one.Goals as goal
use Rattle.recovery.proofs.looking.+recover_one.Goals.{In-Left}

pub returns-in_err-so : goal.returns-in_err-so
returns-in_err-so t c =
    let p = err_from_is_err_and c.from_residual.result c.from_residual.ensures.1 in
    rw (p.1, p.2) (one_refused _ _ _ _ _ c.requires c.if-reading-eq0.false _ _ _ c.held.ensures c.if-held.false _ _ c.in_err-so.ensures)

pub returns-in-Took : goal.returns-in-Took
returns-in-Took t c = one_took _ _ _ _ _ c.requires c.if-reading-eq0.false _ _ _ c.held.ensures c.if-held.false _ _ c.in_ok-so.ensures _ c.in-Took.is

-- The reading cannot be planned at this height: it pops.
not_yet : (t : ℕ) (c : In-Left t) → NotYet c.args.table.now c.args.state.now c.args.work.now c.args.waiting c.args.term c.args.reading c.args.so c.take_reading.new.work c.in-Left.so
not_yet t c = one_left _ _ _ _ _ c.requires c.if-reading-eq0.false _ _ _ c.held.ensures c.if-held.false _ _ c.in_ok-so.ensures _ c.in-Left.is

pub longer_term-longer-requires : goal.longer_term-longer-requires
longer_term-longer-requires t c = pops_left _ _ _ _ _ _ _ _ _ (not_yet t (goal.at.longer_term-longer-requires t c).In-Left)

pub below_top-below-requires : goal.below_top-below-requires
below_top-below-requires t c = pops_left _ _ _ _ _ _ _ _ _ (not_yet t (goal.at.below_top-below-requires t c).In-Left)

pub recover_one-requires : goal.recover_one-requires
recover_one-requires t c =
    let some = c.if-reading-eq0.false in
    let lower = c.below_top-below.ensures in
    let height = ap (λ (r : Top). r.height) lower in
    (omega (arith, some, height), ready_rest _ _ _ _ _ _ _ _ _ (not_yet t (goal.at.recover_one-requires t c).In-Left) _ c.longer_term-longer.ensures _ lower)

pub returns-in-Left : goal.returns-in-Left
returns-in-Left t c =
    one_goes _ _ _ _ _ _ _ _ _ (not_yet t (goal.at.returns-in-Left t c).In-Left) _ c.longer_term-longer.ensures _ c.below_top-below.ensures _ _ c.recover_one.ensures
