-- The runs with known outcome as sequences of calls: what it is that calls make a run, what is seen of the last one, and the claim. Theorem: proofs/Runs.
use Rattle.std.specs.Prelude.{◌≡◌, List, [], ◌∷◌, ℕ, length, take}
use Rattle.meaning.specs.Answers.{StartAnswer, FeedAnswer, start_number, feed_numbers}
use Rattle.meaning.specs.Basics.{AllOf}
use Rattle.meaning.specs.KnownRuns.{Outcome, Run, seen_state, known_runs}
use Rattle.meaning.specs.Limits.{max_errors}
use Rattle.meaning.specs.declared.ErrorRecord.{ErrorRecord}
use Rattle.meaning.specs.declared.Term.{Term}
use Rattle.state.specs.Layout.{state_len, work_len}
use Rattle.promises.specs.Buffers.{state_for}
use Rattle.promises.specs.Calls.{StartPromise, FeedPromise}

-- One feed of a sequence: what it was lent beside the state, its answer, and what it left.
pub record Feeding : Type 0 where
  pub work : List ℕ
  pub errors : List ErrorRecord
  pub answer : FeedAnswer
  pub state' : List ℕ
  pub work' : List ℕ
  pub errors' : List ErrorRecord

pub record Meets (table state : List ℕ) (x : Term) (c : Feeding) : Type 0 where
  pub work_long : length c.work ≡ work_len
  pub errors_long : length c.errors ≡ max_errors
  pub promise : FeedPromise table state c.work x c.errors c.answer c.state' c.work' c.errors'

-- One feed for each term, each on the state that the call before it left.
abbrev pub AllMeet : (table state : List ℕ) → List Term → List Feeding → Type 0
AllMeet table state [] [] = Unit {0}
AllMeet table state [] (c ∷ more) = ⊥
AllMeet table state (x ∷ xs) [] = ⊥
AllMeet table state (x ∷ xs) (c ∷ more) = Meets table state x c × AllMeet table c.state' xs more

-- A start on any state buffer and work area of the right lengths, and the feeds of a run's terms: each call has met its promise, and nothing more is known of it.
pub record Calls (run : Run) : Type 0 where
  pub state : List ℕ
  pub work : List ℕ
  pub state_long : length state ≡ state_len
  pub work_long : length work ≡ work_len
  pub answer : StartAnswer
  pub state' : List ℕ
  pub work' : List ℕ
  pub start : StartPromise run.table state work answer state' work'
  pub feeds : List Feeding
  pub meet : AllMeet run.table state' run.terms feeds

-- What is seen of a call: its numbers, the readings that it left, and the error list up to the count.
abbrev pub seen_start : (table : List ℕ) → StartAnswer → (state' : List ℕ) → Outcome
seen_start table r state' = record { says = record { answer = start_number r; errors = 0; walked = 0 }; readings = seen_state (state_for table state'); errors = [] }

abbrev pub seen_feed : (table : List ℕ) → Feeding → Outcome
seen_feed table c =
    record { says = feed_numbers c.answer; readings = seen_state (state_for table c.state'); errors = take (feed_numbers c.answer).errors c.errors' }

-- of the last call
unfoldable pub last_seen : (table : List ℕ) → Outcome → List Feeding → Outcome
last_seen table last [] = last
last_seen table last (c ∷ more) = last_seen table (seen_feed table c) more

abbrev pub seen_of : (run : Run) → Calls run → Outcome
seen_of run c = last_seen run.table (seen_start run.table c.answer c.state') c.feeds

-- P1 to P10: whatever calls make a run of the list, the last of them shows what the run is to leave.
abbrev pub KnownCalls : Type 0
KnownCalls = AllOf (λ (run : Run). (c : Calls run) → seen_of run c ≡ run.leaves) known_runs
