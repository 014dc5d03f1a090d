-- The calls, on all inputs: checks 1, 2, 3, 4, 5 in this order, then 6 to 11 as planning meets them.
-- Two things are the buffers' business and come in as arguments: whether all lengths are right, and which readings a state buffer holds, `None` if it breaks the layout rules or names a state that the table lacks.
use Rattle.std.specs.Prelude.{ℕ, Bool, false, not, Ok, Err, List, [], ◌∷◌, ◌++◌, map, leb, ltb, length, get_or, drop, Option, None, Some}
use Rattle.meaning.specs.Basics.{either, is_nil}
use Rattle.std.specs.Prelude.{if◌then◌else◌}
use Rattle.meaning.specs.Answers.{QuestionAnswer, done, number}
use Rattle.meaning.specs.TableFile.{Table, table_of, first_term}
use Rattle.meaning.specs.TableRight.{table_ok}
use Rattle.meaning.specs.Readings.{Reading, start_reading, seen}
use Rattle.meaning.specs.Outcome.{Fed}
use Rattle.meaning.specs.Feeding.{feed}
use Rattle.meaning.specs.Questions.{takes, can_end, can_recover}
use Rattle.meaning.specs.declared.Entry.{Entry as SeenEntry}
use Rattle.meaning.specs.declared.Term.{Term}
use Rattle.meaning.specs.declared.ErrorRecord.{ErrorRecord}
use Rattle.meaning.specs.declared.FeedNumbers.{FeedNumbers}
use Rattle.meaning.specs.declared.StackNumbers.{StackNumbers}
use Rattle.meaning.specs.declared.Refusal.{Refusal}
use Rattle.meaning.specs.declared.Refusal.TheVariants.{WrongLength, WrongTable, WrongState, Consumed, WrongArgument}

abbrev pub State : Type 0
State = Option (List Reading)

-- Checks 1, 2 and 3.
abbrev pub check_state : {A : Type 0} → State → (Refusal → A) → (List Reading → A) → A
check_state None refuse go = refuse WrongState
check_state (Some rs) refuse go = go rs

abbrev pub checked : {A : Type 0} → (lengths : Bool) → (table : List ℕ) → State → (Refusal → A) → (Table → List Reading → A) → A
checked lengths table state refuse go =
    if not lengths then refuse WrongLength
    else if not (table_ok table) then refuse WrongTable
    else check_state state refuse (go (table_of table))

-- A lent list of which the first records are written; the records past the count are kept.
abbrev pub written : {A : Type 0} → List A → List A → List A
written new old = new ++ drop (length new) old

-- Start needs no valid state and skips 3 to 11.

pub record StartCall : Type 0 where
  pub answer : ℕ
  pub state : State

unfoldable pub start_call : (lengths : Bool) → (table : List ℕ) → State → (next : ℕ) → StartCall
start_call lengths table state next =
    if not lengths then record { answer = number WrongLength; state = state }
    else if not (table_ok table) then record { answer = number WrongTable; state = state }
    else record { answer = done; state = Some (start_reading (table_of table) next ∷ []) }

-- Check 5 of a class: below 3 or not in the table,
unfoldable pub wrong_class : (classes class : ℕ) → Bool
wrong_class classes class = either (ltb class first_term) (leb classes class)

-- of a term also start > end.
unfoldable pub wrong_term : (classes : ℕ) → Term → Bool
wrong_term classes x = either (wrong_class classes x.class) (ltb x.end x.start)

-- Feed.

pub record FeedCall : Type 0 where
  pub says : FeedNumbers
  pub state : State
  pub errors : List ErrorRecord

abbrev pub feed_refused : State → List ErrorRecord → Refusal → FeedCall
feed_refused state errors k = record { says = record { answer = number k; errors = 0; walked = 0 }; state = state; errors = errors }

abbrev pub feed_ended : List ErrorRecord → Fed → FeedCall
feed_ended errors f = record { says = record { answer = f.answer; errors = length f.errors; walked = f.walked }; state = Some f.readings; errors = written f.errors errors }

-- On a right table and a right state: consumed is 4, before 5 is looked at.
unfoldable pub feed_right : Table → Term → List Reading → List ErrorRecord → (next : ℕ) → FeedCall
feed_right t x rs errors next =
    if is_nil rs then feed_refused (Some rs) errors Consumed
    else if wrong_term t.counts.classes x then feed_refused (Some rs) errors WrongArgument
    else feed_ended errors (feed t x rs next)

unfoldable pub feed_call : (lengths : Bool) → (table : List ℕ) → State → Term → List ErrorRecord → (next : ℕ) → FeedCall
feed_call lengths table state x errors next = checked lengths table state (feed_refused state errors) λ t rs. feed_right t x rs errors next

-- The questions. Consumed is no, before 5 is looked at.

unfoldable pub takes_right : Table → (class : ℕ) → List Reading → QuestionAnswer
takes_right t class rs =
    if is_nil rs then Ok false
    else if wrong_class t.counts.classes class then Err WrongArgument
    else takes t class rs

unfoldable pub takes_call : (lengths : Bool) → (table : List ℕ) → State → (class : ℕ) → QuestionAnswer
takes_call lengths table state class = checked lengths table state Err λ t rs. takes_right t class rs

unfoldable pub can_end_call : (lengths : Bool) → (table : List ℕ) → State → QuestionAnswer
can_end_call lengths table state = checked lengths table state Err λ t rs. can_end t rs

unfoldable pub can_recover_call : (lengths : Bool) → (table : List ℕ) → State → QuestionAnswer
can_recover_call lengths table state = checked lengths table state Err λ t rs. can_recover t rs

-- Reading a stack out: height, mark and, top first, the entries. A reading number not below the count is 5, consumed 4; a refusal gives height and mark 0 and keeps the list.

pub record StackCall : Type 0 where
  pub says : StackNumbers
  pub entries : List SeenEntry

abbrev pub no_reading : Reading
no_reading = record { mark = 0; stack = [] }

abbrev pub stack_refused : List SeenEntry → Refusal → StackCall
stack_refused entries k = record { says = record { answer = number k; height = 0; mark = 0 }; entries = entries }

abbrev pub stack_read : List SeenEntry → Reading → StackCall
stack_read entries r = record { says = record { answer = done; height = length r.stack; mark = r.mark }; entries = written (map seen r.stack) entries }

unfoldable pub stack_right : List Reading → (i : ℕ) → List SeenEntry → StackCall
stack_right rs i entries =
    if is_nil rs then stack_refused entries Consumed
    else if leb (length rs) i then stack_refused entries WrongArgument
    else stack_read entries (get_or rs i no_reading)

unfoldable pub stack_call : (lengths : Bool) → (table : List ℕ) → State → (i : ℕ) → List SeenEntry → StackCall
stack_call lengths table state i entries = checked lengths table state (stack_refused entries) λ t rs. stack_right rs i entries
