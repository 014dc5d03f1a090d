-- A stack that was found stands, so it can be planned, and then applied. Assumes nothing.
use Rattle.std.proofs.Common.{ℕ, ◌≤◌, ◌≡◌, refl, sym, ◌∙◌, Bool, true, List, length, Ok, arith}
use Rattle.meaning.specs.Readings.{states}
use Rattle.meaning.specs.TableFile.{Table}
use Rattle.meaning.specs.Walk.{plan}
use Rattle.meaning.specs.declared.Term.{Term}
use Rattle.cells.specs.Pool.{cell_at}
use Rattle.cells.specs.Stacks.{linked}
use Rattle.cells.proofs.Stacks.{linked_claim}
use Rattle.chains.specs.declared.Planned.{Planned}
use Rattle.chains.proofs.Following.{plans}
use Rattle.state.specs.Layout.{work_len}
use Rattle.state.proofs.Births.{first_finds}
use Rattle.actions.specs.Acting.{stack_in}
use Rattle.actions.specs.Telling.{Area}
use Rattle.actions.specs.declared.Counts.{Counts}
use Rattle.actions.specs.declared.Top.{Top}
use Rattle.applying.specs.Following.{marks_of, ReadingReady}
use Rattle.applying.specs.Planting.{PlanDone}
use Rattle.applying.proofs.Alternating.{ready_planned}
use Rattle.applying_runs.specs.Found.{Found}

pub is_found : (w : List ℕ) (r : Top) (cells m : ℕ) (b : Bool) → cells ≤ 1024 → (r.height ≡ 0 → ⊥) → r.height ≤ 64 → b ≡ linked cells m (cell_at w) r.height r.cell.0 →
    b ≡ true → Found w r cells
is_found w r cells m b few low high is e =
    record { few = few; stands = record { low = omega arith; high = high; stack = (linked_claim cells m (cell_at w) r.height r.cell.0 (sym is ∙ e)).0 } }

module _ (w : List ℕ) (long : length w ≡ work_len) (r : Top) (cells : ℕ) (f : Found w r cells) where
  abbrev none : Counts
  none = record { cells = cells; results = 0; errors = 0 }

  area : Area 41824 w none
  area = let few = f.few in record { long = long; low = omega arith; high = omega arith; cells = omega arith; results = omega arith; errors = omega arith; stand = λ j p q. absurd (omega arith) }

  pub apply_ready : (t : Table) (x : Term) (w' : List ℕ) (g : Planned) → PlanDone (plan t 16 x.class (states (stack_in w r)) 0) w w' (Ok g) → ReadingReady t w' 41824 x r none
  apply_ready t x w' g d =
      let few = f.few in
      let p = plans t 16 x.class (states (stack_in w r)) 0 (Ok g) (marks_of w') g.walked g.chains d.says d.holds refl in
      let most = p.fits (omega arith) in
      ready_planned t 41824 x r none w w' 0 g area f.stands d (first_finds cells few) (omega arith) (omega arith)
