-- The steps of applying as the code does them: one reduction with its action, one shift. What they mean for the lists stands in proofs/Outcomes.
use Rattle.std.specs.Prelude.{◌≡◌, ℕ, ◌+◌, ◌-◌, ◌*◌, ◌%◌, ◌<◌, ◌≤◌, List, drop, MatchOption, Option, None, Some}
use Rattle.meaning.specs.Limits.{max_height, max_readings, max_errors}
use Rattle.meaning.specs.Readings.{top}
use Rattle.meaning.specs.TableFile.{Table, rule_of, goto_of, target}
use Rattle.meaning.specs.Applying.{act_on, refused_action}
use Rattle.meaning.specs.declared.Rule.{Rule}
use Rattle.meaning.specs.declared.Term.{Term}
use Rattle.cells.specs.Pool.{put_cell}
use Rattle.cells.specs.declared.Cell.{Cell}
use Rattle.state.specs.Layout.{work_cells, slot_size, work_len}
use Rattle.state.specs.Readings.{put_slot}
use Rattle.actions.specs.Errors.{put_error}
use Rattle.actions.specs.Acting.{stack_in, reading_in, Pops, reduced_cell, shifted_cell}
use Rattle.actions.specs.declared.Counts.{Counts}
use Rattle.actions.specs.declared.Top.{Top}
use Rattle.actions.specs.declared.Step.{Step}

-- A reduction whose action gave a value: its cell is born, with the state that the goto has, and the mark grows by the rule's.
abbrev pub base_state : List ℕ → Top → (len : ℕ) → ℕ
base_state w r len = (top (drop len (stack_in w r))).state

unfoldable pub lands_in : Table → Rule → List ℕ → Top → ℕ
lands_in t q w r = target (goto_of t (base_state w r q.len) q.left)

unfoldable pub born_cell : Table → Rule → (value : ℕ) → List ℕ → Top → Cell
born_cell t q v w r = reduced_cell w r q.len (lands_in t q w r) v

unfoldable pub top_by : Rule → Top → (next : ℕ) → Top
top_by q r n = record { cell = record { 0 = n }; height = r.height - q.len + 1; mark = (r.mark + q.mark) % 4294967296 }

pub record Born (t : Table) (q : Rule) (value : ℕ) (w : List ℕ) (r : Top) (next : ℕ) (w' : List ℕ) (r' : Top) : Type 0 where
  pub bytes : w' ≡ put_cell w next (born_cell t q value w r)
  pub reading : r' ≡ top_by q r next

pub record BirthReady (w : List ℕ) (r : Top) (next len : ℕ) : Type 0 where
  pub pops : Pops w r len
  pub high : r.height ≤ max_height
  pub cells : next < work_cells

pub record RefusalReady (w : List ℕ) (r : Top) (errors len : ℕ) : Type 0 where
  pub pops : Pops w r len
  pub room : errors < max_errors

-- Room for a reduction with its action: a cell, or an error record.
abbrev pub StepRoom : Counts → (value : Option ℕ) → Type 0
StepRoom n None = n.errors < max_errors
StepRoom n (Some v) = n.cells < work_cells

pub record StepReady (t : Table) (w : List ℕ) (r : Top) (n : Counts) (rule : ℕ) : Type 0 where
  pub pops : Pops w r (rule_of t rule).len
  pub high : r.height ≤ max_height
  pub cells : n.cells ≤ work_cells
  pub errors : n.errors ≤ max_errors
  pub room : StepRoom n (act_on (rule_of t rule) (stack_in w r))

abbrev pub more_cells : Counts → Counts
more_cells n = record { cells = n.cells + 1; results = n.results; errors = n.errors }

abbrev pub more_errors : Counts → Counts
more_errors n = record { cells = n.cells; results = n.results; errors = n.errors + 1 }

abbrev pub more_results : Counts → Counts
more_results n = record { cells = n.cells + 1; results = n.results + 1; errors = n.errors }

pub record Reduces (t : Table) (w : List ℕ) (r : Top) (n : Counts) (rule : ℕ) (w' : List ℕ) (r' : Top) (n' : Counts) : Type 0 where
  pub value : ℕ
  pub gives : act_on (rule_of t rule) (stack_in w r) ≡ Some value
  pub born : Born t (rule_of t rule) value w r n.cells w' r'
  pub counts : n' ≡ more_cells n

-- A refused action leaves one error record, and nothing else.
pub record Refuses (t : Table) (w : List ℕ) (r : Top) (n : Counts) (rule : ℕ) (w' : List ℕ) (n' : Counts) : Type 0 where
  pub gives : act_on (rule_of t rule) (stack_in w r) ≡ None
  pub bytes : w' ≡ put_error w n.errors (refused_action t rule (reading_in w r))
  pub counts : n' ≡ more_errors n

abbrev pub StepIs : Table → List ℕ → Top → Counts → (rule : ℕ) → List ℕ → Step → Type 0
StepIs t w r n rule w' s = MatchOption s.reduced (Refuses t w r n rule w' s.counts) (λ r'. Reduces t w r n rule w' r' s.counts)

-- A shift: an entry is born, and the reading on it is appended to the list.
pub record ShiftReady (list : ℕ) (w : List ℕ) (r : Top) (n : Counts) : Type 0 where
  pub fits : list + slot_size * max_readings ≤ work_len
  pub high : r.height ≤ max_height
  pub cells : n.cells < work_cells
  pub results : n.results < max_readings

unfoldable pub shift_by : Term → (to list : ℕ) → List ℕ → Top → Counts → List ℕ
shift_by x to list w r n = put_slot (put_cell w n.cells (shifted_cell x r to)) list n.results (record { top = record { 0 = n.cells }; mark = r.mark })

pub record ShiftIs (x : Term) (to list : ℕ) (w : List ℕ) (r : Top) (n : Counts) (w' : List ℕ) (n' : Counts) : Type 0 where
  pub bytes : w' ≡ shift_by x to list w r n
  pub counts : n' ≡ more_results n
