-- Runs of calls of any kinds: one caller, on two states that are the same but for cells, gets the same replies at every call, and the states stay the same. Theorem: proofs/Sequences.
use Rattle.std.specs.Prelude.{◌≡◌, List, ℕ, length}
use Rattle.meaning.specs.Answers.{StartAnswer, FeedAnswer, QuestionAnswer, StackAnswer, done, start_number}
use Rattle.meaning.specs.declared.Entry.{Entry as SeenEntry}
use Rattle.meaning.specs.declared.ErrorRecord.{ErrorRecord}
use Rattle.meaning.specs.declared.Term.{Term}
use Rattle.state.specs.Readings.{count_of, used_of}
use Rattle.promises.specs.Buffers.{state_for}
use Rattle.promises.specs.Calls.{StartPromise, FeedPromise, takes_on, can_end_on, can_recover_on, QuestionPromise, StackPromise, SameState}

-- A call and its arguments, all but the state. Each call may have another table.
pub data Request : Type 0 where
  start : (table work : List ℕ) → Request
  feed : (table work : List ℕ) → Term → List ErrorRecord → Request
  takes : (table work : List ℕ) → (class : ℕ) → Request
  can_end : (table work : List ℕ) → Request
  can_recover : (table work : List ℕ) → Request
  stack : (table : List ℕ) → (number : ℕ) → List SeenEntry → Request

-- What a call gives back: its answer, with the numbers, and what it leaves in the work area and in the lent list.
pub record StartReply : Type 0 where
  pub answer : StartAnswer
  pub work' : List ℕ

pub record FeedReply : Type 0 where
  pub answer : FeedAnswer
  pub work' : List ℕ
  pub errors' : List ErrorRecord

pub record QuestionReply : Type 0 where
  pub answer : QuestionAnswer
  pub work' : List ℕ

pub record StackReply : Type 0 where
  pub answer : StackAnswer
  pub entries' : List SeenEntry

abbrev pub Reply : Request → Type 0
Reply (start table work) = StartReply
Reply (feed table work x errors) = FeedReply
Reply (takes table work class) = QuestionReply
Reply (can_end table work) = QuestionReply
Reply (can_recover table work) = QuestionReply
Reply (stack table i entries) = StackReply

-- a call's reply, and the state after it
pub record Left (q : Request) : Type 0 where
  pub reply : Reply q
  pub state' : List ℕ

-- A question meets its promise and leaves the state as it was; so does reading out.
pub record OnlyReads (promise : Type 0) (state state' : List ℕ) : Type 0 where
  pub meets : promise
  pub kept : state' ≡ state

-- The call has met its promise, and nothing more is known of it.
abbrev pub Answered : (q : Request) → (state : List ℕ) → Left q → Type 0
Answered (start table work) state c = StartPromise table state work c.reply.answer c.state' c.reply.work'
Answered (feed table work x errors) state c = FeedPromise table state work x errors c.reply.answer c.state' c.reply.work' c.reply.errors'
Answered (takes table work class) state c = OnlyReads (QuestionPromise (takes_on table state class) state work c.reply.answer c.reply.work') state c.state'
Answered (can_end table work) state c = OnlyReads (QuestionPromise (can_end_on table state) state work c.reply.answer c.reply.work') state c.state'
Answered (can_recover table work) state c = OnlyReads (QuestionPromise (can_recover_on table state) state work c.reply.answer c.reply.work') state c.state'
Answered (stack table i entries) state c = OnlyReads (StackPromise table state i entries c.reply.answer c.reply.entries') state c.state'

-- A caller makes calls, any number of them, each chosen by the replies to those before it; so it may lend again what a call left in the work area or a list. A list of calls is one that does not look at them.
pub data Caller : Type 0 where
  ends : Caller
  asks : (q : Request) → (Reply q → Caller) → Caller

-- What its calls leave, one after the other; each is made on the state that the one before it left.
abbrev pub Run : Caller → Type 0
Run ends = Unit {0}
Run (asks q next) = (c : Left q) × Run (next c.reply)

abbrev pub AllAnswered : (k : Caller) → (state : List ℕ) → Run k → Type 0
AllAnswered ends state run = Unit {0}
AllAnswered (asks q next) state run = Answered q state run.0 × AllAnswered (next run.0.reply) run.0.state' run.1

-- Two state buffers that are the same but for cells: as long, with as many readings and cells in use, and under every table the same readings but for identities, or both no state.
-- What stands in cells that are not in use and in slots past the count is what earlier calls left there; no call reads it.
pub record SameButCells (state twin : List ℕ) : Type 0 where
  pub long : length state ≡ length twin
  pub used : used_of state ≡ used_of twin
  pub count : count_of state ≡ count_of twin
  pub states : (table : List ℕ) → SameState (state_for table state) (state_for table twin)

-- Two runs are the same: call by call the same request, and in the reply the same answer, numbers, work area and list; and the states after it are the same but for cells.
pub record Exchange : Type 0 where
  pub request : Request
  pub reply : Reply request

pub record SameLeft (q p : Request) (c : Left q) (d : Left p) : Type 0 where
  pub exchanges : ◌≡◌ {A = Exchange} (record { request = q; reply = c.reply }) (record { request = p; reply = d.reply })
  pub states : SameButCells c.state' d.state'

abbrev pub SameRuns : (k l : Caller) → Run k → Run l → Type 0
SameRuns ends ends run other = Unit {0}
SameRuns ends (asks p on) run other = ⊥
SameRuns (asks q next) ends run other = ⊥
SameRuns (asks q next) (asks p on) run other = SameLeft q p run.0 other.0 × SameRuns (next run.0.reply) (on other.0.reply) run.1 other.1

-- Determinacy over a run.
pub record RunDetermined : Type 0 where
  pub runs : (k : Caller) (state twin : List ℕ) (run other : Run k) → SameButCells state twin → AllAnswered k state run → AllAnswered k twin other → SameRuns k k run other
  -- It holds of two runs from one state,
  pub from_one : (state : List ℕ) → SameButCells state state
  -- and of two that begin with a start answered 0, whatever the buffers held.
  pub from_start : (table state work : List ℕ) (r : StartAnswer) (state' work' : List ℕ) (twin spare : List ℕ) (q : StartAnswer) (twin' spare' : List ℕ) →
      StartPromise table state work r state' work' → StartPromise table twin spare q twin' spare' → start_number r ≡ done → start_number q ≡ done → SameButCells state' twin'
