-- The promise of each call: one record, which determines the answer and what the lent bytes and lists hold afterwards.
use Rattle.std.specs.Prelude.{◌≡◌, Bool, true, List, map, ℕ, ◌+◌, ◌-◌, ◌*◌, ◌≤◌, length, None, Some}
use Rattle.meaning.specs.Answers.{StartAnswer, FeedAnswer, QuestionAnswer, StackAnswer, done, start_number, feed_numbers, stack_numbers}
use Rattle.meaning.specs.Calls.{State, StartCall, start_call, FeedCall, feed_call, takes_call, can_end_call, can_recover_call, StackCall, stack_call}
use Rattle.meaning.specs.Identities.{ren_reading}
use Rattle.meaning.specs.Readings.{Reading, held_by}
use Rattle.meaning.specs.TableFile.{table_of, state_no, start_state}
use Rattle.meaning.specs.declared.Entry.{Entry as SeenEntry}
use Rattle.meaning.specs.declared.ErrorRecord.{ErrorRecord}
use Rattle.meaning.specs.declared.Term.{Term}
use Rattle.numbers.specs.Writing.{Agree}
use Rattle.cells.specs.Pool.{cell_size}
use Rattle.state.specs.Areas.{Started}
use Rattle.state.specs.Layout.{readings_at, slot_size, count_at}
use Rattle.state.specs.Readings.{count_of, used_of, Compact}
use Rattle.promises.specs.Buffers.{lengths_right, feed_lengths, lists_right, state_for, work_after}

-- Start. The new entry has the identity 0.
abbrev pub start_on : (table state work : List ℕ) → StartCall
start_on table state work = start_call (lengths_right state work) table (state_for table state) 0

-- What a start answers and leaves where its definition comes to this call: what is refused leaves the state byte for byte as it was.
pub record StartLeaves (table state : List ℕ) (call : StartCall) (r : StartAnswer) (state' : List ℕ) : Type 0 where
  pub answers : start_number r ≡ call.answer
  pub readings : state_for table state' ≡ call.state
  pub refused : (start_number r ≡ done → ⊥) → state' ≡ state
  pub started : start_number r ≡ done → Started (state_no (start_state (table_of table))) state state'

pub record StartPromise (table state work : List ℕ) (r : StartAnswer) (state' work' : List ℕ) : Type 0 where
  pub leaves : StartLeaves table state (start_on table state work) r state'
  pub cleared : work' ≡ work_after (lengths_right state work) work

-- The questions, which change neither table nor state: a call's answer for right and for wrong lengths, and the work area.
abbrev pub takes_on : (table state : List ℕ) → (class : ℕ) → (lengths : Bool) → QuestionAnswer
takes_on table state class lengths = takes_call lengths table (state_for table state) class

abbrev pub can_end_on : (table state : List ℕ) → (lengths : Bool) → QuestionAnswer
can_end_on table state lengths = can_end_call lengths table (state_for table state)

abbrev pub can_recover_on : (table state : List ℕ) → (lengths : Bool) → QuestionAnswer
can_recover_on table state lengths = can_recover_call lengths table (state_for table state)

pub record QuestionPromise (call : Bool → QuestionAnswer) (state work : List ℕ) (r : QuestionAnswer) (work' : List ℕ) : Type 0 where
  pub answers : r ≡ call (lengths_right state work)
  pub cleared : work' ≡ work_after (lengths_right state work) work

-- Reading a stack out, which has no work area: the numbers, and the lent list; the records past the height are kept.
abbrev pub stack_on : (lengths : Bool) → (table state : List ℕ) → (i : ℕ) → List SeenEntry → StackCall
stack_on lengths table state i ys = stack_call lengths table (state_for table state) i ys

pub record StackPromise (table state : List ℕ) (i : ℕ) (entries : List SeenEntry) (r : StackAnswer) (entries' : List SeenEntry) : Type 0 where
  pub answers : stack_numbers r ≡ (stack_on (lists_right state (length entries)) table state i entries).says
  pub entries_are : entries' ≡ (stack_on (lists_right state (length entries)) table state i entries).entries

-- Feed. The readings of the state afterwards are those of the definition, in order, under other identities, and no two identities that occur become one: marks, heights, states,
-- values and spans are the same, and so is the sharing. Only which cell holds which entry is left open.
pub record Renamed (rs rs' : List Reading) : Type 0 where
  pub rename : ℕ → ℕ
  pub same : rs' ≡ map (ren_reading rename) rs
  pub apart : (a b : ℕ) → held_by rs a ≡ true → held_by rs b ≡ true → rename a ≡ rename b → a ≡ b

abbrev pub SameState : State → State → Type 0
SameState None None = Unit {0}
SameState None (Some rs) = ⊥
SameState (Some rs) None = ⊥
SameState (Some rs) (Some rs') = Renamed rs rs'

-- The cells that are not in use and the slots beyond the count keep their bytes.
pub record Spared (state state' : List ℕ) : Type 0 where
  pub long : length state' ≡ length state
  pub cells : Agree state' state (cell_size * used_of state') (readings_at - cell_size * used_of state')
  pub slots : Agree state' state (readings_at + slot_size * count_of state') (count_at - (readings_at + slot_size * count_of state'))

-- What a feed answers and leaves where its definition comes to this call. Answers 1 to 11 leave the state byte for byte as it was; after 0 and 12 every cell in use is held by a reading that is left.
pub record FeedLeaves (table state : List ℕ) (call : FeedCall) (r : FeedAnswer) (state' : List ℕ) (errors' : List ErrorRecord) : Type 0 where
  pub answers : feed_numbers r ≡ call.says
  pub readings : SameState call.state (state_for table state')
  pub refused : (1 ≤ (feed_numbers r).answer) × ((feed_numbers r).answer ≤ 11) → state' ≡ state
  pub compact : ((1 ≤ (feed_numbers r).answer) × ((feed_numbers r).answer ≤ 11) → ⊥) → Compact state'
  pub spared : Spared state state'
  pub errors_are : errors' ≡ call.errors

-- for a lent list of so many places and these records
abbrev pub feed_for : (table state work : List ℕ) → Term → (places : ℕ) → List ErrorRecord → FeedCall
feed_for table state work x places errors = feed_call (feed_lengths state work places) table (state_for table state) x errors (used_of state)

abbrev pub feed_on : (table state work : List ℕ) → Term → List ErrorRecord → FeedCall
feed_on table state work x errors = feed_for table state work x (length errors) errors

pub record FeedPromise (table state work : List ℕ) (x : Term) (errors : List ErrorRecord) (r : FeedAnswer) (state' work' : List ℕ) (errors' : List ErrorRecord) : Type 0 where
  pub leaves : FeedLeaves table state (feed_on table state work x errors) r state' errors'
  pub cleared : work' ≡ work_after (feed_lengths state work (length errors)) work
