-- `looking::top_cell` meets its contract. Assumes nothing.
use Rattle.recovery.proofs.LookingPops.{top_in}
use Rattle.recovery.proofs.looking.top_cell.Goals as goal

pub get_cell-requires : goal.get_cell-requires
get_cell-requires c = search (top_in)
