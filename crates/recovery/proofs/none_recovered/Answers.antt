-- `none_recovered` meets its contract. Assumes nothing.
use Rattle.feeding.proofs.Endings.{end_unplanned}
use Rattle.recovery.proofs.RecoversEnds.{none_recovered_way}
use Rattle.recovery.proofs.none_recovered.Goals as goal

pub put_all-errors-requires : goal.put_all-errors-requires
put_all-errors-requires c = search (end_unplanned)

pub returns : goal.returns
returns c = search (none_recovered_way)
