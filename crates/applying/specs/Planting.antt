-- A planning in the work area: what it asks, what it leaves alone, and what applying then finds.
use Rattle.std.specs.Prelude.{ℕ, ◌+◌, ◌-◌, ◌*◌, ◌<◌, ◌≤◌, ◌≡◌, ◌⊎◌, List, ◌++◌, length, Result}
use Rattle.meaning.specs.Applying.{Applied}
use Rattle.meaning.specs.Limits.{max_readings}
use Rattle.meaning.specs.Questions.{enough_room}
use Rattle.meaning.specs.Walk.{Walked}
use Rattle.meaning.specs.declared.Refusal.{Refusal}
use Rattle.numbers.specs.Writing.{Agree}
use Rattle.cells.specs.Pool.{cell_at}
use Rattle.chains.specs.Marks.{MarksHold}
use Rattle.chains.specs.Planning.{plan_of}
use Rattle.chains.specs.declared.Planned.{Planned}
use Rattle.state.specs.Layout.{work_cells, work_len, marks_at, results_at, slot_size, errors_at}
use Rattle.state.specs.Readings.{slot_at, results_of}
use Rattle.actions.specs.Errors.{errors_of}
use Rattle.actions.specs.Telling.{Area, Stands}
use Rattle.actions.specs.declared.Counts.{Counts}
use Rattle.actions.specs.declared.Top.{Top}
use Rattle.applying.specs.Following.{marks_of}

-- Nothing but the marks is written.
pub record Planted (w w' : List ℕ) : Type 0 where
  pub same : length w' ≡ length w
  pub front : Agree w' w 0 marks_at
  pub back : Agree w' w results_at (work_len - results_at)

-- A reading stands in the work area, whatever cells are still free there.
pub record PlanReady (w : List ℕ) (room : ℕ) (r : Top) (chains : ℕ) : Type 0 where
  pub counts : Counts
  pub cells : counts.cells ≤ work_cells
  pub stands : Stands w r counts
  pub fits : chains ≤ room
  pub bound : room ≤ enough_room

-- The answer is that of meaning's planning x, its walk stands in the marks, and nothing else is written.
pub record PlanDone (x : Walked) (w w' : List ℕ) (answer : Result Planned Refusal) : Type 0 where
  pub says : answer ≡ plan_of x
  pub holds : MarksHold (marks_of w') 0 x
  pub planted : Planted w w'

-- From (w, n) to (w', n') plannings and applyings came to the outcome o. It is as `Told`, but the marks may have been written.
pub record Since (list : ℕ) (w : List ℕ) (n : Counts) (w' : List ℕ) (n' : Counts) (o : Applied) : Type 0 where
  pub next : n'.cells ≡ o.next
  pub results : results_of w' list n'.results ≡ results_of w list n.results ++ o.results
  pub errors : errors_of w' n'.errors ≡ errors_of w n.errors ++ o.errors
  pub area : Area list w' n'
  pub grows : n.cells ≤ n'.cells
  pub older : (d : ℕ) → d < n.cells → cell_at w' d ≡ cell_at w d
  pub others : (at j : ℕ) → results_at ≤ at → at + slot_size * (j + 1) ≤ errors_at → (at + slot_size * (j + 1) ≤ list) ⊎ (list + slot_size * max_readings ≤ at + slot_size * j) → slot_at w' at j ≡ slot_at w at j
