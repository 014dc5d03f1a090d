-- `cells::linked_from` meets its contract. Assumes nothing.
use Rattle.cells.proofs.+linked_from.Given as goal

abbrev pub decreases-linked_from : goal.decreases-linked_from
decreases-linked_from l = l.height
