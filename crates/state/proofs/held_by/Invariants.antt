-- `state::held_by` meets its contract. Assumes nothing.
use mathlib.Core.Path.{◌≡◌}
use Prim.Native.Nat.{◌+◌, ◌-◌}
use Rattle.meaning.specs.Readings.{held_by}
use Rattle.state.specs.Readings.{readings_from}
use Rattle.state.proofs.held_by.Given as goal

abbrev pub invariant-loop-k : goal.invariant-loop-k
invariant-loop-k l = held_by (readings_from l.buffer l.at l.k (l.i + l.count - l.k)) l.c.0 ≡ held_by (readings_from l.buffer l.at l.i l.count) l.c.0
