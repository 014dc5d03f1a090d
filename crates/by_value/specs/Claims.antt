-- What is claimed of the calls by value, as definitions: each is a public call, each has one outcome, and what is claimed of the public calls holds of them. Theorems: proofs/Claims.
use Rattle.std.specs.Prelude.{◌≡◌, false, List, [], ◌∷◌, map, ℕ, length}
use Rattle.meaning.specs.Answers.{StartAnswer, done, feed_numbers, stack_numbers}
use Rattle.meaning.specs.Basics.{AllOf}
use Rattle.meaning.specs.Demand3.{Same, Alike, ByChains}
use Rattle.meaning.specs.KnownRuns.{Outcome, Run, known_runs}
use Rattle.meaning.specs.Limits.{max_errors, max_height}
use Rattle.meaning.specs.Readings.{plain}
use Rattle.meaning.specs.TableFile.{table_of}
use Rattle.meaning.specs.declared.Entry.{Entry as SeenEntry}
use Rattle.meaning.specs.declared.ErrorRecord.{ErrorRecord}
use Rattle.meaning.specs.declared.Term.{Term}
use Rattle.lists.specs.Filling.{filled}
use Rattle.state.specs.Layout.{state_len, work_len}
use Rattle.state.specs.Readings.{readings_of}
use Rattle.gathering.specs.Gathering.{no_errors}
use Rattle.promises.specs.Buffers.{lists_right}
use Rattle.promises.specs.Calls.{StartPromise, stack_on, StackPromise, FeedPromise}
use Rattle.promises.specs.Claims.{Refusing, SameOutcome, FeedKeeps, StackKeeps, Fits, PassedCheck, fed_by, Recovers}
use Rattle.promises.specs.Runs.{Feeding, seen_start, last_seen}
use Rattle.promises.specs.Sequences.{feed, stack, Answered}
use Rattle.by_value.specs.Feeding.{RunPromise}
use Rattle.by_value.specs.Reading.{no_entries, ReadPromise}
use Rattle.by_value.specs.declared.reading.StackRead.{StackRead}
use Rattle.by_value.specs.declared.running.FeedRun.{FeedRun}

-- A lent list, filled with what a call hands back by value.
abbrev pub with_errors : FeedRun → List ErrorRecord → List ErrorRecord
with_errors r ys = filled r.errors.list ys r.errors.count

abbrev pub with_entries : StackRead → List SeenEntry → List SeenEntry
with_entries r ys = filled r.entries.list ys r.entries.count

-- Each is a public call: whatever list of so many places might be lent, the public promise allows this outcome, with the list filled.
pub record PublicCalls : Type 0 where
  pub feed : (table state work : List ℕ) (x : Term) (ys : List ErrorRecord) (r : FeedRun) (state' work' : List ℕ) →
      RunPromise table state work x (length ys) r state' work' → FeedPromise table state work x ys r.answer state' work' (with_errors r ys)
  pub stack : (table state : List ℕ) (i : ℕ) (ys : List SeenEntry) (r : StackRead) →
      ReadPromise (stack_on (lists_right state (length ys)) table state i) r → StackPromise table state i ys r.answer (with_entries r ys)

-- One outcome, for a list ys of so many places: what is handed back is equal to the last place of the array, and a feed leaves what one public feed leaves.
pub record OneOutcome : Type 0 where
  pub feed : (table state work : List ℕ) (x : Term) (ys : List ErrorRecord) (r q : FeedRun) (state₁ work₁ state₂ work₂ : List ℕ) →
      RunPromise table state work x (length ys) r state₁ work₁ → RunPromise table state work x (length ys) q state₂ work₂ →
      (r ≡ q) × SameOutcome table r.answer q.answer state₁ state₂ work₁ work₂ (with_errors r ys) (with_errors q ys)
  pub stack : (table state : List ℕ) (i : ℕ) (ys : List SeenEntry) (r q : StackRead) →
      ReadPromise (stack_on (lists_right state (length ys)) table state i) r → ReadPromise (stack_on (lists_right state (length ys)) table state i) q → r ≡ q

-- A feed by value among others: what it was lent beside the state, what it handed back, and what it left.
pub record Made : Type 0 where
  pub work : List ℕ
  pub run : FeedRun
  pub state' : List ℕ
  pub work' : List ℕ

pub record MeetsByValue (table state : List ℕ) (x : Term) (c : Made) : Type 0 where
  pub work_long : length c.work ≡ work_len
  pub promise : RunPromise table state c.work x max_errors c.run c.state' c.work'

-- One feed by value for each term, each on the state that the call before it left.
abbrev pub AllMade : (table state : List ℕ) → List Term → List Made → Type 0
AllMade table state [] [] = Unit {0}
AllMade table state [] (c ∷ more) = ⊥
AllMade table state (x ∷ xs) [] = ⊥
AllMade table state (x ∷ xs) (c ∷ more) = MeetsByValue table state x c × AllMade table c.state' xs more

-- A start, and feeds by value of a run's terms.
pub record CallsByValue (run : Run) : Type 0 where
  pub state : List ℕ
  pub work : List ℕ
  pub state_long : length state ≡ state_len
  pub work_long : length work ≡ work_len
  pub answer : StartAnswer
  pub state' : List ℕ
  pub work' : List ℕ
  pub start : StartPromise run.table state work answer state' work'
  pub feeds : List Made
  pub made : AllMade run.table state' run.terms feeds

-- The array by value is what became of a list without records.
abbrev pub as_feeding : Made → Feeding
as_feeding c = record { work = c.work; errors = no_errors.list; answer = c.run.answer; state' = c.state'; work' = c.work'; errors' = c.run.errors.list }

abbrev pub seen_by_value : (run : Run) → CallsByValue run → Outcome
seen_by_value run c = last_seen run.table (seen_start run.table c.answer c.state') (map as_feeding c.feeds)

-- What is claimed of the public calls, of calls by value with 32 and 64 places: the first demand, answer 3, the third demand, one outcome of a run, P1 to P10. For any other number of places `PublicCalls` has it.
pub record HoldsByValue : Type 0 where
  pub feed_keeps : (table state work : List ℕ) (x : Term) (r : FeedRun) (state' work' : List ℕ) →
      RunPromise table state work x max_errors r state' work' → FeedKeeps state work no_errors.list r.answer state' work' r.errors.list
  pub stack_keeps : (table state : List ℕ) (i : ℕ) (r : StackRead) →
      ReadPromise (stack_on (lists_right state max_height) table state i) r → StackKeeps no_entries.list r.answer r.entries.list
  pub feed_leaves : (table state work : List ℕ) (x : Term) (r : FeedRun) (state' work' : List ℕ) →
      RunPromise table state work x max_errors r state' work' → PassedCheck (feed_numbers r.answer).answer → Fits table state'
  pub feed_takes : (table state work : List ℕ) (x : Term) (r : FeedRun) (state' work' : List ℕ) →
      RunPromise table state work x max_errors r state' work' → Fits table state → ((feed_numbers r.answer).answer ≡ 3 → ⊥) × Fits table state'
  pub stack_leaves : (table state : List ℕ) (i : ℕ) (r : StackRead) →
      ReadPromise (stack_on (lists_right state max_height) table state i) r → PassedCheck (stack_numbers r.answer).answer → Fits table state
  pub stack_takes : (table state : List ℕ) (i : ℕ) (r : StackRead) →
      ReadPromise (stack_on (lists_right state max_height) table state i) r → Fits table state → (stack_numbers r.answer).answer ≡ 3 → ⊥
  pub order : (table : List ℕ) (x : Term) (state work : List ℕ) (r : FeedRun) (state' work' twin spare : List ℕ) (q : FeedRun) (twin' spare' : List ℕ) →
      RunPromise table state work x max_errors r state' work' → RunPromise table twin spare x max_errors q twin' spare' →
      Same (map plain (readings_of state)) (map plain (readings_of twin)) →
      (Refusing (feed_numbers r.answer).answer → ⊥) → Recovers table state x ≡ false → PassedCheck (feed_numbers q.answer).answer →
      (Recovers table twin x ≡ false) × Alike (fed_by r.answer state' r.errors.list) (fed_by q.answer twin' q.errors.list)
  pub chains : (table : List ℕ) (x : Term) (state work : List ℕ) (r : FeedRun) (state' work' : List ℕ) →
      RunPromise table state work x max_errors r state' work' → (feed_numbers r.answer).answer ≡ done → Recovers table state x ≡ false →
      ByChains (table_of table) x (readings_of state) (fed_by r.answer state' r.errors.list)
  -- Each is a call of a run, with the array in the place of the lent list: so what is claimed of runs (`RunDetermined`) is claimed of those in which calls are made by value.
  pub feed_answered : (table state work : List ℕ) (x : Term) (r : FeedRun) (state' work' : List ℕ) → RunPromise table state work x max_errors r state' work' →
      Answered (feed table work x no_errors.list) state (record { reply = record { answer = r.answer; work' = work'; errors' = r.errors.list }; state' = state' })
  pub stack_answered : (table state : List ℕ) (i : ℕ) (r : StackRead) → ReadPromise (stack_on (lists_right state max_height) table state i) r →
      Answered (stack table i no_entries.list) state (record { reply = record { answer = r.answer; entries' = r.entries.list }; state' = state })
  pub known : AllOf (λ (run : Run). (c : CallsByValue run) → seen_by_value run c ≡ run.leaves) known_runs
