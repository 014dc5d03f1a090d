-- `cells::down` meets its contract. Assumes nothing.
use mathlib.Core.Path.{◌≡◌}
use native.Mathlib.Omega.{arith}
use Rattle.cells.proofs.Stacks.{in_room}
use Rattle.cells.proofs.+down.Goals as goal

pub get_cell-x-requires : goal.get_cell-x-requires
get_cell-x-requires t c = let z : c.args.height ≡ 0 → ⊥ = λ e. omega arith in search (in_room)
