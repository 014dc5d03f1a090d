-- `recovery::again::stay` meets its contract. Assumes nothing.
use Rattle.recovery.proofs.AgainStays.{cell_room, stays_way}
use Rattle.recovery.proofs.again.stay.Goals as goal

pub longer_cell-longer-requires : goal.longer_cell-longer-requires
longer_cell-longer-requires c = search (cell_room)

pub returns : goal.returns
returns c = search (stays_way)
