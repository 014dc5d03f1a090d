-- A stack that was found in the work area.
use Rattle.std.specs.Prelude.{ℕ, ◌≤◌, List}
use Rattle.actions.specs.Telling.{Stands}
use Rattle.actions.specs.declared.Top.{Top}

-- So few cells are in use that all chains of one reading have room; there are no results and no errors yet.
pub record Found (w : List ℕ) (r : Top) (cells : ℕ) : Type 0 where
  pub few : cells ≤ 1024
  pub stands : Stands w r (record { cells = cells; results = 0; errors = 0 })
