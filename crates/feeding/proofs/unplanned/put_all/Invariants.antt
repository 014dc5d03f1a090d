-- `put_all`: after k turns the readings of these turns have their records.
use Rattle.std.proofs.Common.{◌+◌}
use Rattle.feeding.specs.Unplanned.{UnplannedDone}
use Rattle.feeding.proofs.LeftRecords.{turns}
use Rattle.feeding.proofs.unplanned.put_all.Given as goal

abbrev pub invariant-loop-k : goal.invariant-loop-k
invariant-loop-k l = UnplannedDone (turns l.order l.fn.work l.first l.count l.k) l.fn.work l.errors l.work (l.errors + l.k)
