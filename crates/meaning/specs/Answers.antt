-- The numbered answers: one definition gives each case of an answer its number and its values.
use Rattle.std.specs.Prelude.{ℕ, Bool, false, Result, Ok, Err, if◌then◌else◌}
use Rattle.meaning.specs.declared.Refusal.{Refusal}
use Rattle.meaning.specs.declared.Refusal.TheVariants.{WrongLength, WrongTable, WrongState, Consumed, WrongArgument, ReachesStart, NoGoto, TooHigh, ChainTooLong, WalkTooLong, TooManyReadings}
use Rattle.meaning.specs.declared.FeedOutcome.{FeedOutcome}
use Rattle.meaning.specs.declared.StackOutcome.{StackOutcome}
use Rattle.meaning.specs.declared.StartNumbers.{StartNumbers}
use Rattle.meaning.specs.declared.FeedNumbers.{FeedNumbers}
use Rattle.meaning.specs.declared.QuestionNumbers.{QuestionNumbers}
use Rattle.meaning.specs.declared.StackNumbers.{StackNumbers}

-- What the calls give: an answer with its values, or a refusal.
abbrev pub StartAnswer : Type 0
StartAnswer = Result (Unit {0}) Refusal

abbrev pub FeedAnswer : Type 0
FeedAnswer = Result FeedOutcome Refusal

abbrev pub QuestionAnswer : Type 0
QuestionAnswer = Result Bool Refusal

abbrev pub StackAnswer : Type 0
StackAnswer = Result StackOutcome Refusal

-- Done, whatever the call.
abbrev pub done : ℕ
done = 0

-- A refusal leaves the state and the lent lists as they were.
abbrev pub number : Refusal → ℕ
-- a state, work or list length is wrong
number WrongLength = 1
-- the table breaks a rule of its section
number WrongTable = 2
-- the state buffer breaks the layout rules, or names a state that the table lacks
number WrongState = 3
-- no reading is left
number Consumed = 4
-- class below 3 or not in the table, or start > end; when a stack is read out: no such reading
number WrongArgument = 5
-- a reduction reaches the start entry
number ReachesStart = 6
-- a goto is missing
number NoGoto = 7
-- too high
number TooHigh = 8
-- chain too long
number ChainTooLong = 9
-- walk too long
number WalkTooLong = 10
-- too many readings
number TooManyReadings = 11

-- No reading took the term.
abbrev pub not_taken : ℕ
not_taken = 12

abbrev pub start_number : StartAnswer → ℕ
start_number (Ok _) = done
start_number (Err k) = number k

abbrev pub start_numbers : StartAnswer → StartNumbers
start_numbers a = record { answer = start_number a }

-- 1 to 11 report zero for both counts
abbrev pub feed_numbers : FeedAnswer → FeedNumbers
feed_numbers (Ok f) = record { answer = (if f.taken then done else not_taken); errors = f.errors; walked = f.walked }
feed_numbers (Err k) = record { answer = number k; errors = 0; walked = 0 }

-- a refusal comes with no
abbrev pub question_numbers : QuestionAnswer → QuestionNumbers
question_numbers (Ok b) = record { answer = done; yes = b }
question_numbers (Err k) = record { answer = number k; yes = false }

-- a refusal gives height and mark 0
abbrev pub stack_numbers : StackAnswer → StackNumbers
stack_numbers (Ok s) = record { answer = done; height = s.height; mark = s.mark }
stack_numbers (Err k) = record { answer = number k; height = 0; mark = 0 }
