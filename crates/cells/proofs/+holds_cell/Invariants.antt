-- `cells::holds_cell` meets its contract. Assumes nothing.
use Rattle.cells.proofs.+holds_cell.Given as goal

abbrev pub decreases-holds_cell : goal.decreases-holds_cell
decreases-holds_cell l = l.height
