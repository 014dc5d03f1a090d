-- `cells::states_into` meets its contract. Assumes nothing.
use Rattle.cells.proofs.+states_into.Given as goal

abbrev pub decreases-states_into : goal.decreases-states_into
decreases-states_into l = l.height
