-- What the measured calls answer and leave.
use Rattle.std.specs.Prelude.{◌≡◌, Bool, List, ℕ, eqb, leb, length, Option, Some, None, if◌then◌else◌}
use Rattle.meaning.specs.Answers.{StartAnswer, start_number, feed_numbers}
use Rattle.meaning.specs.Limits.{max_errors}
use Rattle.meaning.specs.TableFile.{table_of, action_of, goto_of, target}
use Rattle.meaning.specs.TableRight.{table_ok}
use Rattle.meaning.specs.declared.StateNo.{StateNo}
use Rattle.meaning.specs.declared.Term.{Term}
use Rattle.state.specs.Areas.{loaded}
use Rattle.state.specs.Check.{valid_state}
use Rattle.state.specs.Layout.{state_len, work_len, state_cells}
use Rattle.state.specs.Readings.{used_of}
use Rattle.promises.specs.Calls.{StartPromise}
use Rattle.by_value.specs.Feeding.{RunPromise}
use Rattle.by_value.specs.declared.running.FeedRun.{FeedRun}

abbrev pub one_if : Bool → ℕ
one_if b = if b then 1 else 0

-- where a shift or a goto leads, as lookups answer; 0 for nowhere
abbrev pub place_to : Option StateNo → ℕ
place_to None = 0
place_to (Some to) = to.0

-- Where a right table leads; 0 for nowhere, and for a wrong table.
unfoldable pub action_target : List ℕ → (state class : ℕ) → ℕ
action_target table state class = if table_ok table then target (action_of (table_of table) state class).shift else 0

unfoldable pub goto_target : List ℕ → (state nonterminal : ℕ) → ℕ
goto_target table state nonterminal = if table_ok table then target (goto_of (table_of table) state nonterminal) else 0

-- The number of a call that kept its promise.
pub record StartMeasured (table state work : List ℕ) (r : ℕ) (state' work' : List ℕ) : Type 0 where
  pub answer : StartAnswer
  pub promise : StartPromise table state work answer state' work'
  pub number : r ≡ start_number answer

pub record FeedMeasured (table state work : List ℕ) (x : Term) (r : ℕ) (state' work' : List ℕ) : Type 0 where
  pub run : FeedRun
  pub promise : RunPromise table state work x max_errors run state' work'
  pub number : r ≡ (feed_numbers run.answer).answer

-- The parts of a feed, on any bytes.
unfoldable pub state_right : List ℕ → (states : ℕ) → ℕ
state_right state states = if eqb (length state) state_len then one_if (valid_state states state) else 0

unfoldable pub loaded_if : (state work : List ℕ) → List ℕ
loaded_if state work =
    if eqb (length state) state_len
    then if eqb (length work) work_len then if leb (used_of state) state_cells then loaded state work else work else work
    else work
