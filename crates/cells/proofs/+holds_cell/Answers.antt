-- `cells::holds_cell` meets its contract. Assumes nothing.
use Rattle.cells.proofs.Stacks.{in_room}
use Rattle.cells.proofs.+holds_cell.Goals as goal

pub get_cell-x-requires : goal.get_cell-x-requires
get_cell-x-requires t c = search (in_room)
