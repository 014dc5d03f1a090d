-- What the feed by value asks and promises: the public promise, where the array by value is what becomes of a lent list without records.
use Rattle.std.specs.Prelude.{◌≡◌, true, List, ℕ, ◌≤◌, length, Result, Ok, Err, if◌then◌else◌}
use Rattle.meaning.specs.Answers.{done, not_taken, feed_numbers}
use Rattle.meaning.specs.Bounds.{max_walked_by_feed}
use Rattle.meaning.specs.Calls.{FeedCall, feed_right, feed_call}
use Rattle.meaning.specs.Limits.{max_errors}
use Rattle.meaning.specs.Outcome.{Fed}
use Rattle.meaning.specs.TableFile.{Table}
use Rattle.meaning.specs.declared.Refusal.{Refusal}
use Rattle.meaning.specs.declared.Term.{Term}
use Rattle.lists.specs.Filling.{no_record, ByValue}
use Rattle.state.specs.Check.{valid_state}
use Rattle.state.specs.Readings.{used_of, readings_of, results_of}
use Rattle.actions.specs.Errors.{errors_of}
use Rattle.actions.specs.Telling.{Area}
use Rattle.commit.specs.Committing.{Committed}
use Rattle.feeding.specs.declared.Ended.{Ended}
use Rattle.gathering.specs.Gathering.{no_errors}
use Rattle.promises.specs.Buffers.{feed_lengths, state_for, work_after}
use Rattle.promises.specs.Calls.{FeedLeaves, feed_for}
use Rattle.by_value.specs.declared.running.FeedRun.{FeedRun}

abbrev pub refused_run : Refusal → FeedRun
refused_run k = record { answer = Err k; errors = no_errors }

-- what is handed back
abbrev pub handed_run : Result FeedRun Refusal → FeedRun
handed_run (Ok r) = r
handed_run (Err k) = refused_run k

-- a state that was found right, for a table
pub record StagesReady (t : Table) (state : List ℕ) : Type 0 where
  pub valid : valid_state t.counts.states state ≡ true

-- A feed that ended, as the work area holds it.
abbrev pub fed_in : List ℕ → Ended → Fed
fed_in w e = record { answer = if e.taken then done else not_taken; readings = results_of w e.list e.counts.results; errors = errors_of w e.counts.errors; walked = e.walked; next = e.counts.cells }

pub record EndsReady (work : List ℕ) (e : Ended) : Type 0 where
  pub area : Area e.list work e.counts
  pub few : e.walked ≤ max_walked_by_feed

-- Its numbers, its readings committed, its errors by value.
pub record EndedRun (f : Fed) (state : List ℕ) (r : FeedRun) (state' : List ℕ) : Type 0 where
  pub answers : feed_numbers r.answer ≡ record { answer = f.answer; errors = length f.errors; walked = f.walked }
  pub committed : Committed f.readings state state'
  pub errors_are : ByValue max_errors no_record f.errors r.errors.list r.errors.count
  pub long : length state' ≡ length state

-- feed of a list without records, on a table and a state that were found right, and on buffers of the right lengths
abbrev pub feed_in : Table → (state : List ℕ) → Term → FeedCall
feed_in t state x = feed_right t x (readings_of state) no_errors.list (used_of state)

abbrev pub feed_line : (table state : List ℕ) → Term → FeedCall
feed_line table state x = feed_call true table (state_for table state) x no_errors.list (used_of state)

-- What a call answers and leaves: the array by value is the list that the definition leaves, with its count beside it.
pub record RunLine (table state : List ℕ) (call : FeedCall) (r : FeedRun) (state' : List ℕ) : Type 0 where
  pub leaves : FeedLeaves table state call r.answer state' r.errors.list
  pub count_is : r.errors.count ≡ call.says.errors
  pub few : r.errors.count ≤ max_errors

-- for a lent list of so many places
pub record RunPromise (table state work : List ℕ) (x : Term) (places : ℕ) (r : FeedRun) (state' work' : List ℕ) : Type 0 where
  pub line : RunLine table state (feed_for table state work x places no_errors.list) r state'
  pub cleared : work' ≡ work_after (feed_lengths state work places) work
