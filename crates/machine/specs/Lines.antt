-- What start and the questions ask and leave on buffers of the right lengths.
use Rattle.std.specs.Prelude.{◌≡◌, Bool, true, List, ℕ, length}
use Rattle.meaning.specs.Answers.{StartAnswer, QuestionAnswer}
use Rattle.meaning.specs.Calls.{start_call, takes_right}
use Rattle.meaning.specs.Questions.{can_end, can_recover}
use Rattle.meaning.specs.Readings.{Reading}
use Rattle.meaning.specs.TableFile.{Table}
use Rattle.chains.specs.Planning.{marks_length}
use Rattle.promises.specs.Buffers.{state_for}
use Rattle.promises.specs.Calls.{StartLeaves, takes_on, can_end_on, can_recover_on}
use Rattle.machine.specs.declared.asking.Question.{Question}
use Rattle.machine.specs.declared.asking.Question.TheVariants.{Takes, CanEnd, CanRecover}

-- what start answers and leaves, whatever it answers
abbrev pub StartLine : (table state : List ℕ) → StartAnswer → (state' : List ℕ) → Type 0
StartLine table state r state' = StartLeaves table state (start_call true table (state_for table state) 0) r state'

-- the marks' part of the work area
pub record MarksLine (marks : List ℕ) : Type 0 where
  pub long : length marks ≡ marks_length

-- a question of readings, and of a call's bytes
abbrev pub asked_right : Table → Question → List Reading → QuestionAnswer
asked_right t (Takes class) rs = takes_right t class rs
asked_right t CanEnd rs = can_end t rs
asked_right t CanRecover rs = can_recover t rs

abbrev pub asked_on : (table state : List ℕ) → Question → (lengths : Bool) → QuestionAnswer
asked_on table state (Takes class) = takes_on table state class
asked_on table state CanEnd = can_end_on table state
asked_on table state CanRecover = can_recover_on table state
