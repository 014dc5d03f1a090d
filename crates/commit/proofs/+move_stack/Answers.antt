-- `commit::move_stack` meets its contract. Assumes nothing.
use native.Mathlib.Omega.{arith}
use Rattle.commit.proofs.Steps.{ready_read, ready_under, ready_cell}
use Rattle.commit.proofs.+move_stack.Goals as goal

pub get_cell-x-requires : goal.get_cell-x-requires
get_cell-x-requires t c = search (ready_read)

pub move_stack-under-requires : goal.move_stack-under-requires
move_stack-under-requires t c = (omega arith, search (ready_under))

pub move_cell-requires : goal.move_cell-requires
move_cell-requires t c = search (ready_cell)
