-- What the functions that follow a walk ask of the work area, and what they leave there.
use Rattle.std.specs.Prelude.{ℕ, ◌+◌, ◌<◌, ◌≤◌, ◌≡◌, List, take, drop, Option, None, Some}
use Rattle.meaning.specs.Limits.{max_height}
use Rattle.meaning.specs.Readings.{Reading, states}
use Rattle.meaning.specs.TableFile.{Table}
use Rattle.meaning.specs.Walk.{Walk, walked, plan}
use Rattle.meaning.specs.Applying.{Applied, nothing_applied, one_result, shifted, apply}
use Rattle.meaning.specs.declared.Term.{Term}
use Rattle.table.specs.declared.Action.{Action}
use Rattle.chains.specs.Actions.{shift_of, rules_from}
use Rattle.chains.specs.Following.{Follows, FollowsRules, Plans}
use Rattle.chains.specs.Planning.{marks_length}
use Rattle.state.specs.Layout.{marks_at}
use Rattle.actions.specs.Acting.{stack_in, reading_in}
use Rattle.actions.specs.Telling.{Area, Stands, RoomFor, Told}
use Rattle.actions.specs.declared.Counts.{Counts}
use Rattle.actions.specs.declared.Top.{Top}
use Rattle.applying.specs.declared.Ask.{Ask}

-- the planner's marks in the work area
unfoldable pub marks_of : List ℕ → List ℕ
marks_of w = take marks_length (drop marks_at w)

-- Where applying stands: at a reading, with the counts so far, before the mark numbered `at`.
pub record Place : Type 0 where
  pub table : Table
  pub ask : Ask
  pub work : List ℕ
  pub reading : Top
  pub counts : Counts
  pub at : ℕ

abbrev pub place : Table → Ask → List ℕ → Top → Counts → ℕ → Place
place table ask work reading counts at = record { table = table; ask = ask; work = work; reading = reading; counts = counts; at = at }

-- the outcome of a walk from there
abbrev pub applied : Place → Walk → Applied
applied p tree = apply p.table p.ask.term tree (reading_in p.work p.reading) p.counts.cells

-- A walk as planning left it: with how many chain steps left and for how many chains it was planned.
pub record Way : Type 0 where
  pub left : ℕ
  pub room : ℕ
  pub tree : Walk

-- The work area is in order, the reading stands in it, and there is room for the walk's outcome.
pub record Fits (p : Place) (tree : Walk) : Type 0 where
  pub area : Area p.ask.list p.work p.counts
  pub stands : Stands p.work p.reading p.counts
  pub room : RoomFor p.counts (applied p tree)

-- At a state: the walk was planned here, and its marks stand from `at` on.
pub record StateFits (p : Place) (y : Way) : Type 0 where
  pub fits : Fits p y.tree
  pub follows : Follows y.left p.table y.room p.ask.term.class (states (stack_in p.work p.reading)) (marks_of p.work) p.at y.tree

-- where there is a shift, there is height for its entry
abbrev pub Higher : Option ℕ → (height : ℕ) → Type 0
Higher None h = Unit {0}
Higher (Some to) h = h < max_height

-- At the rule list of a state, from the rule numbered `next` on.
pub record RulesFit (p : Place) (a : Action) (next : ℕ) (y : Way) : Type 0 where
  pub fits : Fits p y.tree
  pub higher : Higher (shift_of a) p.reading.height
  pub follows : FollowsRules y.left p.table y.room p.ask.term.class (shift_of a) (states (stack_in p.work p.reading)) (rules_from a next) (marks_of p.work) p.at y.tree

pub record StateReady (p : Place) : Type 0 where
  pub way : Way
  pub fit : StateFits p way

pub record RulesReady (p : Place) (a : Action) (next : ℕ) : Type 0 where
  pub four : a.count ≤ 4
  pub way : Way
  pub fit : RulesFit p a next way

-- Whatever walk was planned here, its outcome came about.
abbrev pub ToldBy : Place → Walk → List ℕ → Counts → Type 0
ToldBy p tree w' n' = Told p.ask.list p.work p.counts w' n' (applied p tree)

abbrev pub StateDone : Place → List ℕ → Counts → Type 0
StateDone p w' n' = (y : Way) → StateFits p y → ToldBy p y.tree w' n'

abbrev pub RulesDone : Place → Action → (next : ℕ) → List ℕ → Counts → Type 0
RulesDone p a next w' n' = (y : Way) → RulesFit p a next y → ToldBy p y.tree w' n'

-- The end of a rule list: the shift, if there is one.
abbrev pub end_applied : Term → Option ℕ → Reading → (next : ℕ) → Applied
end_applied x None r n = nothing_applied n
end_applied x (Some to) r n = one_result (shifted x to r n) (n + 1)

pub record EndReady (ask : Ask) (w : List ℕ) (r : Top) (n : Counts) (a : Action) : Type 0 where
  pub area : Area ask.list w n
  pub stands : Stands w r n
  pub higher : Higher (shift_of a) r.height
  pub room : RoomFor n (end_applied ask.term (shift_of a) (reading_in w r) n.cells)

abbrev pub EndDone : Ask → List ℕ → Top → Counts → Action → List ℕ → Counts → Type 0
EndDone ask w r n a w' n' = Told ask.list w n w' n' (end_applied ask.term (shift_of a) (reading_in w r) n.cells)

-- What applying a reading asks: it stands, its walk was planned, with its marks in the work area, and there is room for the outcome.
pub record ReadingReady (t : Table) (w : List ℕ) (list : ℕ) (x : Term) (r : Top) (n : Counts) : Type 0 where
  pub area : Area list w n
  pub stands : Stands w r n
  pub most : ℕ
  pub before : ℕ
  pub walked : ℕ
  pub ended : ℕ
  pub plans : Plans t most x.class (states (stack_in w r)) before (marks_of w) walked ended
  pub room : RoomFor n (apply t x plans.walk (reading_in w r) n.cells)

-- What it leaves: for the walk that planning gave, exactly meaning's outcome.
abbrev pub ReadingDone : Table → List ℕ → (list : ℕ) → Term → Top → Counts → List ℕ → Counts → Type 0
ReadingDone t w list x r n w' n' =
    (most before : ℕ) (tree : Walk) (k ended : ℕ) → plan t most x.class (states (stack_in w r)) before ≡ walked tree k ended →
    Told list w n w' n' (apply t x tree (reading_in w r) n.cells)
