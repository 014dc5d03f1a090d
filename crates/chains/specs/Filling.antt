-- What a planning of a stack of cells asks.
use Rattle.std.specs.Prelude.{ℕ, ◌+◌, ◌-◌, ◌≤◌, ◌≡◌, List, length, take, drop, Result}
use Rattle.meaning.specs.Limits.{max_height}
use Rattle.meaning.specs.Questions.{enough_room}
use Rattle.meaning.specs.Readings.{states}
use Rattle.meaning.specs.Walk.{Walked}
use Rattle.meaning.specs.declared.Refusal.{Refusal}
use Rattle.cells.specs.Pool.{cell_at}
use Rattle.cells.specs.Stacks.{StackIn, entries_of}
use Rattle.numbers.specs.Writing.{Agree}
use Rattle.chains.specs.Marks.{MarksHold}
use Rattle.chains.specs.Planning.{marks_length, plan_of}
use Rattle.chains.specs.Simulated.{stack_of, Standing}
use Rattle.chains.specs.declared.Planned.{Planned}
use Rattle.chains.specs.declared.reducing.Stack.{Stack}

-- a stack's states, as the planner is given them
pub record Filled (pool : List ℕ) (height top : ℕ) (r : Stack) : Type 0 where
  pub same : stack_of r.states r.height ≡ states (entries_of (cell_at pool) height top)
  pub stands : Standing r

-- the stack lies in the pool, with its start entry and not too high; no walk needs more room than a question has
pub record StackAsks (pool : List ℕ) (height top room chains : ℕ) (marks : List ℕ) : Type 0 where
  pub stack : StackIn pool height top
  pub low : 1 ≤ height
  pub high : height ≤ max_height
  pub fits : chains ≤ room
  pub bound : room ≤ enough_room
  pub long : length marks ≡ marks_length

-- The same where the marks stand in the bytes that hold the stack too, from `at` on.
pub record WithinAsks (work : List ℕ) (at height top room chains : ℕ) : Type 0 where
  pub stack : StackIn work height top
  pub low : 1 ≤ height
  pub high : height ≤ max_height
  pub fits : chains ≤ room
  pub bound : room ≤ enough_room
  pub inside : at + marks_length ≤ length work

-- The answer is that of meaning's planning x, its walk stands in the marks, and no other byte is written.
pub record PlannedWithin (x : Walked) (w : List ℕ) (at : ℕ) (w' : List ℕ) (answer : Result Planned Refusal) : Type 0 where
  pub says : answer ≡ plan_of x
  pub holds : MarksHold (take marks_length (drop at w')) 0 x
  pub same : length w' ≡ length w
  pub front : Agree w' w 0 at
  pub back : Agree w' w (at + marks_length) (length w - (at + marks_length))
