-- What is claimed to follow from the promises alone, as definitions. Theorems: proofs/, each named here.
use Rattle.std.specs.Prelude.{◌≡◌, Bool, true, false, List, map, ℕ, ◌≤◌, length, take, drop, None, Some}
use Rattle.meaning.specs.Answers.{StartAnswer, FeedAnswer, QuestionAnswer, StackAnswer, done, start_number, feed_numbers, question_numbers, stack_numbers}
use Rattle.meaning.specs.Bounds.{max_walked_by_feed}
use Rattle.meaning.specs.Calls.{State}
use Rattle.meaning.specs.Demand3.{Same, Alike, ByChains}
use Rattle.meaning.specs.Feeding.{starts_recovery}
use Rattle.meaning.specs.Limits.{max_errors}
use Rattle.meaning.specs.Outcome.{Fed}
use Rattle.meaning.specs.Readings.{plain}
use Rattle.meaning.specs.TableFile.{table_of}
use Rattle.meaning.specs.declared.Entry.{Entry as SeenEntry}
use Rattle.meaning.specs.declared.ErrorRecord.{ErrorRecord}
use Rattle.meaning.specs.declared.Term.{Term}
use Rattle.numbers.specs.Zeros.{zeros}
use Rattle.state.specs.Check.{valid_state}
use Rattle.state.specs.Readings.{used_of, readings_of}
use Rattle.promises.specs.Buffers.{state_for}
use Rattle.promises.specs.Cells.{EqualButCells}
use Rattle.promises.specs.Calls.{StartPromise, takes_on, can_end_on, can_recover_on, QuestionPromise, StackPromise, SameState, FeedPromise}

-- Answers 1 to 11.
abbrev pub Refusing : ℕ → Type 0
Refusing n = (1 ≤ n) × (n ≤ 11)

-- One outcome (proofs/Outcomes).

-- The readings of a state in their order, without identities.
abbrev pub plain_state : State → State
plain_state None = None
plain_state (Some rs) = Some (map plain rs)

-- Two outcomes of one feed are equal but for which cell holds which entry, in nothing else; where the feed is refused, to the last byte.
pub record SameOutcome (table : List ℕ) (r q : FeedAnswer) (state₁ state₂ work₁ work₂ : List ℕ) (errors₁ errors₂ : List ErrorRecord) : Type 0 where
  pub answer : r ≡ q
  pub states : SameState (state_for table state₁) (state_for table state₂)
  pub readings : plain_state (state_for table state₁) ≡ plain_state (state_for table state₂)
  pub refused : Refusing (feed_numbers r).answer → state₁ ≡ state₂
  pub taken : (Refusing (feed_numbers r).answer → ⊥) → EqualButCells state₁ state₂
  pub work : work₁ ≡ work₂
  pub errors : errors₁ ≡ errors₂

-- The first demand: whatever the bytes, lists and numbers are, a call answers by a number of its own and keeps what it is to keep (proofs/Keeping).

-- The work area is untouched at 1 and all zero at every other answer.
pub record WorkLeft (answer : ℕ) (work work' : List ℕ) : Type 0 where
  pub untouched : answer ≡ 1 → work' ≡ work
  pub zeroed : (answer ≡ 1 → ⊥) → work' ≡ zeros (length work)

pub record StartKeeps (state work : List ℕ) (r : StartAnswer) (state' work' : List ℕ) : Type 0 where
  pub answer : start_number r ≤ 2
  pub state_kept : Refusing (start_number r) → state' ≡ state
  pub state_long : length state' ≡ length state
  pub work_left : WorkLeft (start_number r) work work'

pub record FeedKeeps (state work : List ℕ) (errors : List ErrorRecord) (r : FeedAnswer) (state' work' : List ℕ) (errors' : List ErrorRecord) : Type 0 where
  pub answer : (feed_numbers r).answer ≤ 12
  pub state_kept : Refusing (feed_numbers r).answer → state' ≡ state
  pub state_long : length state' ≡ length state
  pub errors_kept : Refusing (feed_numbers r).answer → errors' ≡ errors
  pub errors_long : length errors' ≡ length errors
  pub errors_past : drop (feed_numbers r).errors errors' ≡ drop (feed_numbers r).errors errors
  pub errors_few : (feed_numbers r).errors ≤ max_errors
  pub walked_few : (feed_numbers r).walked ≤ max_walked_by_feed
  pub work_left : WorkLeft (feed_numbers r).answer work work'

-- A question that finds no reading left says no: 4 never comes, nor 11 or 12.
pub record QuestionKeeps (work : List ℕ) (r : QuestionAnswer) (work' : List ℕ) : Type 0 where
  pub answer : (question_numbers r).answer ≤ 10
  pub answer_not_4 : (question_numbers r).answer ≡ 4 → ⊥
  pub work_left : WorkLeft (question_numbers r).answer work work'

pub record StackKeeps (entries : List SeenEntry) (r : StackAnswer) (entries' : List SeenEntry) : Type 0 where
  pub answer : (stack_numbers r).answer ≤ 5
  pub entries_kept : Refusing (stack_numbers r).answer → entries' ≡ entries
  pub entries_long : length entries' ≡ length entries
  pub entries_past : drop (stack_numbers r).height entries' ≡ drop (stack_numbers r).height entries

-- Of all calls. Table, and for questions and reading out also the state, are lent to be read only: no promise has them afterwards.
pub record Demand1 : Type 0 where
  pub start : (table state work : List ℕ) (r : StartAnswer) (state' work' : List ℕ) → StartPromise table state work r state' work' → StartKeeps state work r state' work'
  pub feed : (table state work : List ℕ) (x : Term) (errors : List ErrorRecord) (r : FeedAnswer) (state' work' : List ℕ) (errors' : List ErrorRecord) →
      FeedPromise table state work x errors r state' work' errors' → FeedKeeps state work errors r state' work' errors'
  pub takes : (table state work : List ℕ) (class : ℕ) (r : QuestionAnswer) (work' : List ℕ) → QuestionPromise (takes_on table state class) state work r work' → QuestionKeeps work r work'
  pub can_end : (table state work : List ℕ) (r : QuestionAnswer) (work' : List ℕ) → QuestionPromise (can_end_on table state) state work r work' → QuestionKeeps work r work'
  pub can_recover : (table state work : List ℕ) (r : QuestionAnswer) (work' : List ℕ) → QuestionPromise (can_recover_on table state) state work r work' → QuestionKeeps work r work'
  pub stack : (table state : List ℕ) (i : ℕ) (entries : List SeenEntry) (r : StackAnswer) (entries' : List SeenEntry) → StackPromise table state i entries r entries' → StackKeeps entries r entries'

-- Answer 3 (proofs/Lasting).

-- A state buffer that keeps the layout's rules and names only states of this table.
abbrev pub Fits : (table state : List ℕ) → Type 0
Fits table state = valid_state (table_of table).counts.states state ≡ true

-- A call that checks the state has passed check 3: it is answered by none of 1, 2 and 3.
abbrev pub PassedCheck : ℕ → Type 0
PassedCheck n = (1 ≤ n) × (n ≤ 3) → ⊥

-- A start answered 0 and every call that passed the check leave such a buffer, and no call answers 3 for one.
-- The questions and reading out leave the state as it was: their promises have none afterwards.
pub record NeverWrongState : Type 0 where
  pub start_leaves : (table state work : List ℕ) (r : StartAnswer) (state' work' : List ℕ) → StartPromise table state work r state' work' → start_number r ≡ done → Fits table state'
  pub feed_leaves : (table state work : List ℕ) (x : Term) (errors : List ErrorRecord) (r : FeedAnswer) (state' work' : List ℕ) (errors' : List ErrorRecord) →
      FeedPromise table state work x errors r state' work' errors' → PassedCheck (feed_numbers r).answer → Fits table state'
  pub takes_leaves : (table state work : List ℕ) (class : ℕ) (r : QuestionAnswer) (work' : List ℕ) →
      QuestionPromise (takes_on table state class) state work r work' → PassedCheck (question_numbers r).answer → Fits table state
  pub can_end_leaves : (table state work : List ℕ) (r : QuestionAnswer) (work' : List ℕ) →
      QuestionPromise (can_end_on table state) state work r work' → PassedCheck (question_numbers r).answer → Fits table state
  pub can_recover_leaves : (table state work : List ℕ) (r : QuestionAnswer) (work' : List ℕ) →
      QuestionPromise (can_recover_on table state) state work r work' → PassedCheck (question_numbers r).answer → Fits table state
  pub stack_leaves : (table state : List ℕ) (i : ℕ) (entries : List SeenEntry) (r : StackAnswer) (entries' : List SeenEntry) →
      StackPromise table state i entries r entries' → PassedCheck (stack_numbers r).answer → Fits table state
  pub feed_takes : (table state work : List ℕ) (x : Term) (errors : List ErrorRecord) (r : FeedAnswer) (state' work' : List ℕ) (errors' : List ErrorRecord) →
      FeedPromise table state work x errors r state' work' errors' → Fits table state → ((feed_numbers r).answer ≡ 3 → ⊥) × Fits table state'
  pub takes_takes : (table state work : List ℕ) (class : ℕ) (r : QuestionAnswer) (work' : List ℕ) →
      QuestionPromise (takes_on table state class) state work r work' → Fits table state → (question_numbers r).answer ≡ 3 → ⊥
  pub can_end_takes : (table state work : List ℕ) (r : QuestionAnswer) (work' : List ℕ) →
      QuestionPromise (can_end_on table state) state work r work' → Fits table state → (question_numbers r).answer ≡ 3 → ⊥
  pub can_recover_takes : (table state work : List ℕ) (r : QuestionAnswer) (work' : List ℕ) →
      QuestionPromise (can_recover_on table state) state work r work' → Fits table state → (question_numbers r).answer ≡ 3 → ⊥
  pub stack_takes : (table state : List ℕ) (i : ℕ) (entries : List SeenEntry) (r : StackAnswer) (entries' : List SeenEntry) →
      StackPromise table state i entries r entries' → Fits table state → (stack_numbers r).answer ≡ 3 → ⊥

-- The third demand (proofs/Demand3), in meaning's words.

-- What a feed came to, read off its answer and the buffers that it left.
abbrev pub fed_by : FeedAnswer → (state' : List ℕ) → (errors' : List ErrorRecord) → Fed
fed_by r state' errors' =
    record {
      answer = (feed_numbers r).answer;
      readings = readings_of state';
      errors = take (feed_numbers r).errors errors';
      walked = (feed_numbers r).walked;
      next = used_of state';
    }

abbrev pub Recovers : (table state : List ℕ) → Term → Bool
Recovers table state x = starts_recovery (table_of table) x (readings_of state) (used_of state)

pub record Demand3 : Type 0 where
  -- The same readings in another order, one term: if the one feed is not refused and starts no recovery, and the other passes its checks, then the other is not refused and starts no recovery either,
  -- answers and walked counts are equal, and readings and errors are the same, each as often.
  pub order : (table : List ℕ) (x : Term) (state work : List ℕ) (errors : List ErrorRecord) (r : FeedAnswer) (state' work' : List ℕ) (errors' : List ErrorRecord)
      (twin spare : List ℕ) (others : List ErrorRecord) (q : FeedAnswer) (twin' spare' : List ℕ) (others' : List ErrorRecord) →
      FeedPromise table state work x errors r state' work' errors' → FeedPromise table twin spare x others q twin' spare' others' →
      Same (map plain (readings_of state)) (map plain (readings_of twin)) →
      (Refusing (feed_numbers r).answer → ⊥) → Recovers table state x ≡ false → PassedCheck (feed_numbers q).answer →
      (Recovers table twin x ≡ false) × Alike (fed_by r state' errors') (fed_by q twin' others')
  -- Answered 0 with no recovery: exactly one reading for each chain of reductions and a shift whose actions all succeed.
  pub chains : (table : List ℕ) (x : Term) (state work : List ℕ) (errors : List ErrorRecord) (r : FeedAnswer) (state' work' : List ℕ) (errors' : List ErrorRecord) →
      FeedPromise table state work x errors r state' work' errors' → (feed_numbers r).answer ≡ done → Recovers table state x ≡ false →
      ByChains (table_of table) x (readings_of state) (fed_by r state' errors')
