-- `state::held_by` meets its contract. Assumes nothing.
use Rattle.state.proofs.Holding.{cell_room, held_here}
use Rattle.state.proofs.held_by.Goals as goal

pub get_cell-x-requires : goal.get_cell-x-requires
get_cell-x-requires c = search (cell_room)

pub returns-then-holds_cell : goal.returns-then-holds_cell
returns-then-holds_cell c = search (held_here)
