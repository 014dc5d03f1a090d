-- `again::take_or_stay` meets its contract. Assumes nothing.
use Rattle.std.proofs.lemmas.Result.{err_from_is_err_and}
use Rattle.recovery.proofs.AgainTurns.{refused_way, took_way, too_many_way, ready_to_stay, stays_way}
use Rattle.recovery.proofs.again.take_or_stay.Goals as goal

pub returns-in_err-so : goal.returns-in_err-so
returns-in_err-so c =
    let p = err_from_is_err_and c.from_residual.result c.from_residual.ensures.1 in
    rw (p.1, p.2) (refused_way _ _ _ _ _ _ _ c.in_err-so.ensures)

pub returns-in-Took : goal.returns-in-Took
returns-in-Took c = took_way _ _ _ _ c.requires _ _ _ c.in_ok-so.ensures _ c.in-Took.is

pub returns-then-so-ge-MAX_CHAINS : goal.returns-then-so-ge-MAX_CHAINS
returns-then-so-ge-MAX_CHAINS c = too_many_way _ _ _ _ c.requires _ _ _ c.in_ok-so.ensures _ c.in-Left.is c.if-so-ge-MAX_CHAINS.true

pub stay-requires : goal.stay-requires
stay-requires c = ready_to_stay _ _ _ _ c.requires _ _ _ c.in_ok-so.ensures _ c.in-Left.is c.if-so-ge-MAX_CHAINS.false

pub returns-else-so-ge-MAX_CHAINS : goal.returns-else-so-ge-MAX_CHAINS
returns-else-so-ge-MAX_CHAINS c = stays_way _ _ _ _ c.requires _ _ _ c.in_ok-so.ensures _ c.in-Left.is c.if-so-ge-MAX_CHAINS.false _ _ c.stay.ensures
