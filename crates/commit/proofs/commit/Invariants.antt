-- `commit::commit` meets its contract. Assumes nothing.
use mathlib.Core.Path.{◌≡◌}
use Prim.Native.Nat.{◌-◌}
use Rattle.commit.specs.Committing.{commit_from, ListReady}
use Rattle.commit.proofs.commit.Given as goal

abbrev pub invariant-loop-i : goal.invariant-loop-i
invariant-loop-i l = record {
  ready : ListReady l.work l.state l.at (l.count - l.i) l.i l.used;
  rest : commit_from l.at (l.count - l.i) l.work l.state l.i l.used ≡ commit_from l.at l.count l.initial.work l.initial.state 0 0;
}
