-- `cells::down` meets its contract. Assumes nothing.
use Rattle.cells.proofs.+down.Given as goal

abbrev pub decreases-down : goal.decreases-down
decreases-down l = l.height
