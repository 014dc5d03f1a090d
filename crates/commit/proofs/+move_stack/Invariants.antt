-- `commit::move_stack` meets its contract. Assumes nothing.
use Rattle.commit.proofs.+move_stack.Given as goal

abbrev pub decreases-move_stack : goal.decreases-move_stack
decreases-move_stack l = l.height
