-- `unplanned::put_one` meets its contract. Assumes nothing.
use Rattle.feeding.proofs.LeftRecords.{cell_room, put_is}
use Rattle.feeding.proofs.unplanned.put_one.Goals as goal

pub get_cell-x-requires : goal.get_cell-x-requires
get_cell-x-requires c = search (cell_room)

pub returns : goal.returns
returns c = search (put_is)
