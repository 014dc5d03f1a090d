-- What the planners ask and answer, by meaning's walk.
use Rattle.std.specs.Prelude.{ℕ, zero, suc, ◌*◌, ◌<◌, ◌≤◌, ◌≡◌, List, length, Result, Ok, Err}
use Rattle.meaning.specs.Limits.{max_walked}
use Rattle.meaning.specs.Questions.{enough_room}
use Rattle.meaning.specs.TableFile.{Table}
use Rattle.meaning.specs.Walk.{Walked, refused, walked, end_chain, walk_rules, walk_from}
use Rattle.meaning.specs.declared.Refusal.{Refusal}
use Rattle.meaning.specs.declared.Refusal.TheVariants.{ChainTooLong}
use Rattle.numbers.specs.Writing.{Agree}
use Rattle.table.specs.declared.Action.{Action}
use Rattle.chains.specs.Actions.{shift_of, rules_from}
use Rattle.chains.specs.Simulated.{stack_of, Standing}
use Rattle.chains.specs.Marks.{MarksHold}
use Rattle.chains.specs.declared.Ask.{Ask}
use Rattle.chains.specs.declared.Planned.{Planned}
use Rattle.chains.specs.declared.reducing.Stack.{Stack}
use Rattle.chains.specs.declared.reducing.Progress.{Progress}

-- A planning's answer: the refusal, or the counts.
abbrev pub plan_of : Walked → Result Planned Refusal
plan_of (refused k) = Err k
plan_of (walked w n c) = Ok (record { walked = n; chains = c })

abbrev pub ends_as : Action → (room : ℕ) → Progress → Walked
ends_as a room at = end_chain room (shift_of a) at.walked at.chains

-- the walk one chain step on
unfoldable pub deeper_of : (left : ℕ) → Table → (room class : ℕ) → List ℕ → (n c : ℕ) → Walked
deeper_of zero t room class st n c = refused ChainTooLong
deeper_of (suc left) t room class st n c = walk_from left t room class st n c

-- What the planner of a state walks, and that of a rule list.
unfoldable pub state_walk : Table → Ask → Stack → Progress → Walked
state_walk t ask stack at =
    walk_from at.left t ask.room ask.class (stack_of stack.states stack.height) at.walked at.chains

unfoldable pub rules_walk : Table → Ask → Stack → Progress → Action → (next : ℕ) → Walked
rules_walk t ask stack at a i =
    walk_rules t ask.room at.left (deeper_of at.left t ask.room ask.class) (shift_of a)
    (stack_of stack.states stack.height) (rules_from a i) at.walked at.chains

-- Marks for a whole planning, 4 bytes each.
abbrev pub marks_length : ℕ
marks_length = 4 * max_walked

-- What a planning asks. No walk needs more room than a question has.
pub record Asks (room : ℕ) (stack : Stack) (chains : ℕ) (marks : List ℕ) : Type 0 where
  pub stands : Standing stack
  pub fits : chains ≤ room
  pub bound : room ≤ enough_room
  pub long : length marks ≡ marks_length

-- What the planner of a state asks, and that of a rule list.
pub record Ready (ask : Ask) (stack : Stack) (at : Progress) (marks : List ℕ) : Type 0 where
  pub stands : Standing stack
  pub few : at.walked ≤ max_walked
  pub fits : at.chains ≤ ask.room
  pub bound : ask.room ≤ enough_room
  pub long : length marks ≡ marks_length

pub record RulesReady (ask : Ask) (stack : Stack) (at : Progress) (a : Action) (marks : List ℕ) : Type 0 where
  pub ready : Ready ask stack at marks
  pub four : a.count ≤ 4

-- What a mark asks: the walk went on from the one place to the other.
pub record MarkReady (marks : List ℕ) (at after : Progress) : Type 0 where
  pub more : at.walked < after.walked
  pub few : after.walked ≤ max_walked
  pub grown : at.chains ≤ after.chains
  pub bound : after.chains ≤ enough_room
  pub long : length marks ≡ marks_length

-- What both answer: the walk's counts or refusal; the marks hold the walk, and those before it are kept.
pub record Answers (r : Result Planned Refusal) (m m' : List ℕ) (at : Progress) (x : Walked) : Type 0 where
  pub says : r ≡ plan_of x
  pub holds : MarksHold m' at.walked x
  pub keeps : Agree m' m 0 (at.walked * 4)
