-- `none_took` meets its contract. Assumes nothing.
use Rattle.feeding.proofs.Endings.{end_unplanned, none_took_holds}
use Rattle.feeding.proofs.none_took.Goals as goal

pub put_all-errors-requires : goal.put_all-errors-requires
put_all-errors-requires c = search (end_unplanned)

pub returns : goal.returns
returns c = search (none_took_holds)
