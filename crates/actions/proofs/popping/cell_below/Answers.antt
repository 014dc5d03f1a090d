-- `popping::cell_below` meets its contract. Assumes nothing.
use Rattle.actions.proofs.PoppingLaws.{pops_room}
use Rattle.actions.proofs.popping.cell_below.Goals as goal

pub get_cell-requires : goal.get_cell-requires
get_cell-requires c = search (pops_room)
