-- `take_reading` meets its contract. Assumes nothing.
use Rattle.std.proofs.Common.{arith}
use Rattle.taking.proofs.Ways.{ready_to_apply, total_fits, left_way, took_way}
use Rattle.taking.proofs.take_reading.Goals as goal

pub overflow_add-turned : goal.overflow_add-turned
overflow_add-turned c = let fits = total_fits _ _ _ c.args.term _ _ c.requires _ _ c.in_ok-planned.ensures in omega arith

pub returns-then-planned-so : goal.returns-then-planned-so
returns-then-planned-so c = left_way _ _ _ _ _ _ c.requires _ _ c.in_ok-planned.ensures c.if-planned-so.true

pub apply_reading-counts-requires : goal.apply_reading-counts-requires
apply_reading-counts-requires c = ready_to_apply _ _ _ _ _ _ c.requires _ _ c.in_ok-planned.ensures

pub returns : goal.returns
returns c = took_way _ _ _ _ _ _ c.requires _ _ c.in_ok-planned.ensures c.if-planned-so.false _ _ c.apply_reading-counts.ensures
