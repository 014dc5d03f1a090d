-- The ways out of taking a term, and what its planning and its applying ask. Assumes nothing.
use Prim.Native.Nat.{ℕ, ◌+◌, ◌*◌, ◌<◌, ◌≤◌}
use native.Mathlib.Omega.{arith}
use mathlib.Core.Path.{◌≡◌, refl, sym, ◌∙◌, subst}
use mathlib.Core.List.{List}
use lib.ListN.{length}
use Rattle.std.specs.Prelude.{Ok}
use borrow.Author.Tests.{le-ltb, lt-ltb}
use Rattle.meaning.specs.Readings.{Reading, states}
use Rattle.meaning.specs.TableFile.{Table}
use Rattle.meaning.specs.Walk.{walked, plan}
use Rattle.meaning.specs.Applying.{Applied, apply, nothing_applied}
use Rattle.meaning.specs.declared.Term.{Term}
use Rattle.meaning.proofs.Within.{planned_within}
use Rattle.chains.specs.Following.{Plans}
use Rattle.chains.specs.declared.Planned.{Planned}
use Rattle.chains.proofs.Following.{plans}
use Rattle.cells.specs.Pool.{cell_size}
use Rattle.state.specs.Readings.{slot_at, ListIn}
use Rattle.state.specs.declared.Slot.{Slot}
use Rattle.state.specs.Births.{Leads}
use Rattle.state.proofs.Births.{leads_same, leads_takes}
use Rattle.state.proofs.Holding.{top_room}
use Rattle.actions.specs.Acting.{stack_in, reading_in}
use Rattle.actions.specs.Telling.{Told}
use Rattle.actions.specs.declared.Counts.{Counts}
use Rattle.actions.specs.declared.Top.{Top}
use Rattle.actions.proofs.Outcomes.{result_count, error_count}
use Rattle.applying.specs.Following.{marks_of, ReadingReady, ReadingDone}
use Rattle.applying.specs.Planting.{PlanDone}
use Rattle.applying.proofs.Alternating.{ready_planned, planted_reading, planted_area, since_planted, since_told, since_then}
use Rattle.applying.proofs.Rooms.{room_planned}
use Rattle.taking.specs.Taking.{Paced, Onward, TakeReady, planned, Takes, Leaves}
use Rattle.taking.specs.declared.SoFar.{SoFar}

abbrev so_far : Counts → (walked chains : ℕ) → SoFar
so_far n w c = record { counts = n; walked = w; chains = c }

module _ (t : Table) (w : List ℕ) (list : ℕ) (x : Term) (r : Top) (so : SoFar) (y : TakeReady w list r so) where
  module _ (w₁ : List ℕ) (g : Planned) (d : PlanDone (planned t x w r so) w w₁ (Ok g)) where
    abbrev k : ℕ
    k = g.walked

    abbrev ended : ℕ
    ended = g.chains

    walk : Plans t 16 x.class (states (stack_in w r)) so.chains (marks_of w₁) k ended
    walk = plans t 16 x.class (states (stack_in w r)) so.chains (Ok g) (marks_of w₁) k ended d.says d.holds refl

    at_most : ended ≤ 16
    at_most = walk.fits y.roomy.paced.chains

    pub total_fits : so.walked + k < 18446744073709551616
    total_fits = let a = walk.few in let b = y.walked in omega arith

    results_fit : so.counts.results + ended ≤ 16 + so.chains
    results_fit = let a = y.roomy.paced.results in let m = at_most in omega arith

    errors_fit : so.counts.errors + ended ≤ 32 + so.chains
    errors_fit = let a = y.roomy.paced.both in let b = y.roomy.few_errors in let m = at_most in omega arith

    pub ready_to_apply : ReadingReady t w₁ list x r so.counts
    ready_to_apply = ready_planned t list x r so.counts w w₁ so.chains g y.area y.stands d y.roomy.found results_fit errors_fit

    onward_left : ended ≡ so.chains → Onward so (so_far so.counts (so.walked + k) ended)
    onward_left z =
        record {
          leads = subst (Leads so.counts.cells so.chains so.counts.cells) (sym z) (leads_same so.counts.cells so.chains);
          paced = λ cells errors p.
              let a = p.chains in let b = p.unborn in let c = p.results in let f = p.both in
              record { chains = omega arith; unborn = λ q. b (omega arith); results = omega arith; both = omega arith };
        }

    pub left_way : ended ≡ so.chains → Leaves t x list w r so w₁ (so_far so.counts (so.walked + k) ended)
    left_way z =
        record {
          walks =
              record {
                tree = walk.walk;
                reductions = k;
                is = walk.is;
                walked_is = refl;
                few = walk.few;
                onward = onward_left z;
              };
          planned_not = walk.planned ∙ le-ltb so.chains ended (omega arith);
          counts_kept = refl;
          chains_kept = z;
          since = since_planted list w w₁ so.counts y.area d.planted;
        }

    module _ (z : ended ≡ so.chains → ⊥) (w₂ : List ℕ) (n' : Counts) (f : ReadingDone t w₁ list x r so.counts w₂ n') where
      abbrev outcome : Applied
      outcome = apply t x walk.walk (reading_in w r) so.counts.cells

      -- the planning changed nothing of the reading
      told : Told list w₁ so.counts w₂ n' outcome
      told =
          let same = planted_reading list w w₁ so.counts y.area d.planted r y.stands in
          let is = subst (λ (q : Reading). plan t 16 x.class (states q.stack) so.chains ≡ walked walk.walk k ended) (sym same) walk.is in
          subst (λ (q : Reading). Told list w₁ so.counts w₂ n' (apply t x walk.walk q so.counts.cells)) same (f 16 so.chains walk.walk k ended is)

      grows : so.chains ≤ ended
      grows = let a = (planned_within t x x.class (reading_in w r) so.chains walk.walk k ended walk.is).count in omega arith

      paced_on : (cells errors : ℕ) → Paced cells errors so → Paced cells errors (so_far n' (so.walked + k) ended)
      paced_on cells errors p =
          let b = planned_within t x x.class (reading_in w r) so.chains walk.walk k ended walk.is in
          let o = b.out so.counts.cells in
          let count = b.count in
          let few = o.both in
          let g = grows in
          let i = result_count list w₁ so.counts w₂ n' outcome told in
          let j = error_count list w₁ so.counts w₂ n' outcome told in
          let p2 = p.results in let p3 = p.both in
          record { chains = at_most; unborn = λ q. absurd (z (omega arith)); results = omega arith; both = omega arith }

      onward_took : Onward so (so_far n' (so.walked + k) ended)
      onward_took =
          record {
            leads =
                subst (λ (m : ℕ). Leads so.counts.cells so.chains m ended) (sym told.next)
                (leads_takes t x (reading_in w r) so.counts.cells so.chains walk.walk k ended walk.is);
            paced = paced_on;
          }

      pub took_way : Takes t x list w r so w₂ (so_far n' (so.walked + k) ended)
      took_way =
          let g = grows in
          let room = room_planned t x (reading_in w r) so.counts so.chains walk.walk k ended walk.is y.roomy.found results_fit errors_fit in
          let first = since_planted list w w₁ so.counts y.area d.planted in
          let then = since_told list w₁ so.counts w₂ n' outcome (planted_area list w w₁ so.counts y.area d.planted) room told in
          record {
            walks = record { tree = walk.walk; reductions = k; is = walk.is; walked_is = refl; few = walk.few; onward = onward_took };
            planned_is = walk.planned ∙ lt-ltb so.chains ended (omega arith);
            since = since_then list w w₁ w₂ so.counts so.counts n' (nothing_applied so.counts.cells) outcome first then;
          }

-- The top cell of a reading of a list.
pub top_cell_lem : (s : List ℕ) (at i : ℕ) (q : Slot) → q ≡ slot_at s at i → ListIn s at i 1 → cell_size * q.top.0 + cell_size ≤ length s
top_cell_lem s at i q e y = top_room s at i 1 (λ z. omega arith) y q e
