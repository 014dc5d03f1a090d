-- What the questions ask of their callers: a checked state, room for the planner's marks. And what is answered to each question.
use Rattle.std.specs.Prelude.{ℕ, ◌≡◌, true, List, length}
use Rattle.meaning.specs.Answers.{QuestionAnswer}
use Rattle.meaning.specs.Questions.{can_plan, takes, recovers_from, some_recovers}
use Rattle.meaning.specs.Readings.{Reading, states}
use Rattle.meaning.specs.TableFile.{Table}
use Rattle.state.specs.Layout.{readings_at}
use Rattle.state.specs.Readings.{reading_at, ListIn}
use Rattle.state.specs.Check.{valid_state}
use Rattle.chains.specs.Planning.{marks_length}
use Rattle.questions.specs.declared.Question.{Question}
use Rattle.questions.specs.declared.Question.TheVariants.{Takes, Recovers}

-- of a stack of states
abbrev pub asked_stack : Table → Question → List ℕ → QuestionAnswer
asked_stack t (Takes class) st = can_plan t class st
asked_stack t Recovers st = recovers_from t st

-- of the reading i of a state
abbrev pub asked_reading : Table → Question → (state : List ℕ) → (i : ℕ) → QuestionAnswer
asked_reading t q state i = asked_stack t q (states (reading_at state readings_at i).stack)

-- of readings, first to last
unfoldable pub asked_of : Table → Question → List Reading → QuestionAnswer
asked_of t (Takes class) rs = takes t class rs
asked_of t Recovers rs = some_recovers t rs

-- what is asked of one reading
pub record AsksReading (state : List ℕ) (i : ℕ) (marks : List ℕ) : Type 0 where
  pub reading : ListIn state readings_at i 1
  pub long : length marks ≡ marks_length

-- of a whole state, for a table of so many states
pub record AsksState (states : ℕ) (state : List ℕ) (marks : List ℕ) : Type 0 where
  pub valid : valid_state states state ≡ true
  pub long : length marks ≡ marks_length
