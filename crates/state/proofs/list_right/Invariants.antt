-- `state::list_right` meets its contract. Assumes nothing.
use mathlib.Core.Path.{◌≡◌}
use Prim.Native.Nat.{◌-◌}
use Rattle.state.specs.Check.{slots_right}
use Rattle.state.proofs.list_right.Given as goal

abbrev pub invariant-loop-i : goal.invariant-loop-i
invariant-loop-i l = slots_right l.cells l.states l.buffer l.at l.i (l.count - l.i) ≡ slots_right l.cells l.states l.buffer l.at 0 l.count
