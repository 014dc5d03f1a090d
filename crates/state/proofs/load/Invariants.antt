-- `state::load` meets its contract. The loop keeps that the first i bytes are the state's and the others are as they were. Assumes nothing.
use mathlib.Core.List.{◌++◌}
use mathlib.Core.Path.{◌≡◌}
use lib.ListN.{length, take, drop}
use Rattle.state.proofs.load.Given as goal

abbrev pub invariant-loop-i : goal.invariant-loop-i
invariant-loop-i l = (length l.work ≡ length l.initial.work) × (l.work ≡ take l.i l.state ++ drop l.i l.initial.work)
