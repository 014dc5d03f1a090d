-- Planning and applying in turn: what a planning leaves alone, what it makes ready, and what both come to, one after the other. Assumes nothing.
use Prim.Native.Nat.{ℕ, ◌+◌, ◌*◌, ◌<◌, ◌≤◌}
use native.Mathlib.Omega.{arith}
use mathlib.Core.Path.{◌≡◌, refl, sym, ap, ◌∙◌, subst}
use mathlib.Core.Logic.{inl, inr, ⊎_elim}
use mathlib.Core.List.{List, ◌++◌, append_assoc, append-nil}
use Rattle.std.specs.Prelude.{Ok}
use Rattle.meaning.specs.Readings.{Reading, states}
use Rattle.meaning.specs.TableFile.{Table}
use Rattle.meaning.specs.Walk.{plan}
use Rattle.meaning.specs.Applying.{Applied, nothing_applied, joined, apply}
use Rattle.meaning.specs.declared.ErrorRecord.{ErrorRecord}
use Rattle.meaning.specs.declared.Term.{Term}
use Rattle.cells.specs.Pool.{cell_at}
use Rattle.cells.proofs.Births.{entries_kept, linked_kept}
use Rattle.cells.proofs.Records.{cell_agree}
use Rattle.chains.specs.Following.{Plans}
use Rattle.chains.specs.declared.Planned.{Planned}
use Rattle.chains.proofs.Following.{plans}
use Rattle.actions.specs.Acting.{stack_in, reading_in}
use Rattle.state.specs.Births.{FindsCells}
use Rattle.state.specs.Readings.{slot_at, results_of}
use Rattle.actions.specs.Errors.{errors_of}
use Rattle.actions.specs.Telling.{Area, Stands, RoomFor, Told}
use Rattle.actions.specs.declared.Counts.{Counts}
use Rattle.actions.specs.declared.Top.{Top}
use Rattle.actions.proofs.Keeping.{cells_kept}
use Rattle.state.proofs.Lists.{readings_kept, all_stand_kept}
use Rattle.actions.proofs.ErrorRecords.{errors_kept, error_agree}
use Rattle.actions.proofs.Outcomes.{area_on}
use Rattle.state.proofs.Slots.{slot_agree}
use Rattle.applying.specs.Following.{marks_of, ReadingReady}
use Rattle.applying.specs.Planting.{Planted, PlanDone, Since}
use Rattle.applying.proofs.Rooms.{room_planned}

-- What a planning leaves alone.
module _ (list : ℕ) (w w' : List ℕ) (n : Counts) (a : Area list w n) (g : Planted w w') where
  pub planted_cells : (d : ℕ) → d < n.cells → cell_at w' d ≡ cell_at w d
  planted_cells d h = let few = a.cells in cell_agree w' w d (λ j p q. g.front j (omega arith) (omega arith))

  planted_slots : (at j : ℕ) → 41824 ≤ at → at + 6 * (j + 1) ≤ 42016 → slot_at w' at j ≡ slot_at w at j
  planted_slots at j low high = slot_agree w' w at j (λ i p q. g.back i (omega arith) (omega arith))

  own_slots : (j : ℕ) → 0 ≤ j → j < 0 + n.results → slot_at w' list j ≡ slot_at w list j
  own_slots j p q = let low = a.low in let high = a.high in let few = a.results in planted_slots list j low (omega arith)

  pub planted_area : Area list w' n
  planted_area =
      record {
        long = g.same ∙ a.long;
        low = a.low;
        high = a.high;
        cells = a.cells;
        results = a.results;
        errors = a.errors;
        stand = all_stand_kept n.cells w w' planted_cells list 0 n.results own_slots a.stand n.cells (omega arith);
      }

  pub planted_stands : (r : Top) → Stands w r n → Stands w' r n
  planted_stands r s = record { low = s.low; high = s.high; stack = linked_kept n.cells (cell_at w) (cell_at w') planted_cells n.cells r.height r.cell.0 (omega arith) s.stack }

  pub planted_reading : (r : Top) → Stands w r n → reading_in w' r ≡ reading_in w r
  planted_reading r s =
      let e = entries_kept n.cells (cell_at w) (cell_at w') planted_cells r.height r.cell.0 s.stack in
      λ i. record { mark = r.mark; stack = e i }

  pub since_planted : Since list w n w' n (nothing_applied n.cells)
  since_planted =
      let few = a.errors in
      record {
        next = refl;
        results = readings_kept n.cells w w' planted_cells list 0 n.results own_slots a.stand ∙ sym (append-nil (results_of w list n.results));
        errors = errors_kept w w' 0 n.errors (λ j p q. error_agree w' w j (λ i p' q'. g.back i (omega arith) (omega arith))) ∙ sym (append-nil (errors_of w n.errors));
        area = planted_area;
        grows = omega arith;
        older = planted_cells;
        others = λ at j low high o. planted_slots at j low high;
      }

-- A planning that was not refused makes its reading ready: cells for its births and one result or error for each of its chains are room enough.
module _ (t : Table) (list : ℕ) (x : Term) (r : Top) (n : Counts) (w w' : List ℕ) (before : ℕ) (g : Planned) where
  pub ready_planned : Area list w n → Stands w r n → PlanDone (plan t 16 x.class (states (stack_in w r)) before) w w' (Ok g) →
      FindsCells n.cells before → n.results + g.chains ≤ 16 + before → n.errors + g.chains ≤ 32 + before → ReadingReady t w' list x r n
  ready_planned a st d found hr he =
      let p = plans t 16 x.class (states (stack_in w r)) before (Ok g) (marks_of w') g.walked g.chains d.says d.holds refl in
      let q = subst Ready (sym (planted_reading list w w' n a d.planted r st)) (p, room_planned t x (reading_in w r) n before p.walk g.walked g.chains p.is found hr he) in
      record {
        area = planted_area list w w' n a d.planted;
        stands = planted_stands list w w' n a d.planted r st;
        most = 16;
        before = before;
        walked = g.walked;
        ended = g.chains;
        plans = q.0;
        room = q.1;
      }
    where
      -- the walk and the room for it, of the reading as it stands after the planning
      Ready : Reading → Type 0
      Ready q = (p : Plans t 16 x.class (states q.stack) before (marks_of w') g.walked g.chains) × RoomFor n (apply t x p.walk q n.cells)

-- One after the other.
pub since_told : (list : ℕ) (w : List ℕ) (n : Counts) (w' : List ℕ) (n' : Counts) (o : Applied) → Area list w n → RoomFor n o → Told list w n w' n' o → Since list w n w' n' o
since_told list w n w' n' o a m g =
    let area = area_on list w n w' n' o g a m in
    record {
      next = g.next;
      results = g.results;
      errors = g.errors;
      area = area;
      grows = g.kept.cells;
      older = cells_kept list w n w' n' a g.kept;
      others = λ at j low high o'.
          let c = area.cells in let r = area.results in
          slot_agree w' w at j (λ i p q. g.kept.bytes i (record {
            cells = inr (omega arith);
            results = ⊎_elim (λ b. inl (omega arith)) (λ b. inr (omega arith)) o';
            errors = inl (omega arith);
          }));
    }

pub since_then : (list : ℕ) (w w₁ w₂ : List ℕ) (n n₁ n₂ : Counts) (o o' : Applied) → Since list w n w₁ n₁ o → Since list w₁ n₁ w₂ n₂ o' → Since list w n w₂ n₂ (joined o o')
since_then list w w₁ w₂ n n₁ n₂ o o' g h =
    let a = g.grows in let b = h.grows in
    record {
      next = h.next;
      results = h.results ∙ ap (λ (x : List Reading). x ++ o'.results) g.results ∙ append_assoc (results_of w list n.results) o.results o'.results;
      errors = h.errors ∙ ap (λ (x : List ErrorRecord). x ++ o'.errors) g.errors ∙ append_assoc (errors_of w n.errors) o.errors o'.errors;
      area = h.area;
      grows = omega arith;
      older = λ d i. h.older d (omega arith) ∙ g.older d i;
      others = λ at j low high apart. h.others at j low high apart ∙ g.others at j low high apart;
    }
