-- What stays where counts grow and only new cells, results and error records are written. No byte leaves this file. Assumes nothing.
use Rattle.std.proofs.Common.{◌≡◌, ℕ, ◌<◌, ◌≤◌, List, refl, ◌∙◌, inl, inr, ⊎_elim, arith}
use Rattle.numbers.specs.Writing.{Agree}
use Rattle.cells.specs.Pool.{cell_at, put_cell}
use Rattle.cells.specs.declared.Cell.{Cell}
use Rattle.cells.proofs.Records.{length_put_cell, agree_put_cell, cell_agree}
use Rattle.cells.proofs.Births.{entries_kept, linked_kept}
use Rattle.meaning.specs.declared.ErrorRecord.{ErrorRecord}
use Rattle.state.specs.Layout.{marks_at}
use Rattle.state.specs.Readings.{slot_at, put_slot, results_of, AllStand}
use Rattle.actions.specs.Errors.{error_at, put_error, errors_of}
use Rattle.actions.specs.Acting.{reading_in}
use Rattle.actions.specs.Steps.{more_cells, more_errors, more_results}
use Rattle.actions.specs.Telling.{Area, Stands, Kept}
use Rattle.actions.specs.declared.Counts.{Counts}
use Rattle.actions.specs.declared.Top.{Top}
use Rattle.state.specs.declared.Slot.{Slot}
use Rattle.state.proofs.Slots.{length_put_slot, agree_put_slot, slot_agree}
use Rattle.actions.proofs.ErrorRecords.{length_put_error, agree_put_error, error_agree, errors_kept}
use Rattle.state.proofs.Lists.{readings_kept, all_stand_kept}

pub kept_none : (list : ℕ) (w : List ℕ) (n : Counts) → Kept list w n w n
kept_none list w n = record { same = refl; cells = omega arith; results = omega arith; errors = omega arith; bytes = λ j u. refl }

pub kept_then : (list : ℕ) (w w₁ w₂ : List ℕ) (n n₁ n₂ : Counts) → Kept list w n w₁ n₁ → Kept list w₁ n₁ w₂ n₂ → Kept list w n w₂ n₂
kept_then list w w₁ w₂ n n₁ n₂ g h =
    let c = g.cells in let r = g.results in let e = g.errors in
    let c' = h.cells in let r' = h.results in let e' = h.errors in
    record {
      same = h.same ∙ g.same;
      cells = omega arith;
      results = omega arith;
      errors = omega arith;
      bytes = λ j u.
          h.bytes j (record {
            cells = ⊎_elim (λ a. inl (omega arith)) (λ a. inr (omega arith)) u.cells;
            results = ⊎_elim (λ a. inl (omega arith)) (λ a. inr (omega arith)) u.results;
            errors = ⊎_elim (λ a. inl (omega arith)) (λ a. inr (omega arith)) u.errors;
          })
          ∙ g.bytes j (record {
            cells = ⊎_elim (λ a. inl (omega arith)) (λ a. inr (omega arith)) u.cells;
            results = ⊎_elim (λ a. inl (omega arith)) (λ a. inr (omega arith)) u.results;
            errors = ⊎_elim (λ a. inl (omega arith)) (λ a. inr (omega arith)) u.errors;
          });
    }

-- a birth, an error record, a slot
pub kept_cell : (list : ℕ) (w : List ℕ) (n : Counts) (x : Cell) → Kept list w n (put_cell w n.cells x) (more_cells n)
kept_cell list w n x =
    record {
      same = length_put_cell w n.cells x;
      cells = omega arith;
      results = omega arith;
      errors = omega arith;
      bytes = λ j u. agree_put_cell w n.cells x j 1 (⊎_elim (λ a. inr (omega arith)) (λ a. inl (omega arith)) u.cells) j (omega arith) (omega arith);
    }

pub kept_error : (list : ℕ) (w : List ℕ) (n : Counts) (x : ErrorRecord) → Kept list w n (put_error w n.errors x) (more_errors n)
kept_error list w n x =
    record {
      same = length_put_error w n.errors x;
      cells = omega arith;
      results = omega arith;
      errors = omega arith;
      bytes = λ j u. agree_put_error w n.errors x j 1 (⊎_elim (λ a. inr (omega arith)) (λ a. inl (omega arith)) u.errors) j (omega arith) (omega arith);
    }

pub kept_shift : (list : ℕ) (w : List ℕ) (n : Counts) (x : Cell) (y : Slot) → Kept list w n (put_slot (put_cell w n.cells x) list n.results y) (more_results n)
kept_shift list w n x y =
    record {
      same = length_put_slot _ list n.results y ∙ length_put_cell w n.cells x;
      cells = omega arith;
      results = omega arith;
      errors = omega arith;
      bytes = λ j u.
          agree_put_slot _ list n.results y j 1 (⊎_elim (λ a. inr (omega arith)) (λ a. inl (omega arith)) u.results) j (omega arith) (omega arith)
          ∙ agree_put_cell w n.cells x j 1 (⊎_elim (λ a. inr (omega arith)) (λ a. inl (omega arith)) u.cells) j (omega arith) (omega arith);
    }

-- In the work area: older cells, older readings of the list, older error records, and stacks of older cells.
module _ (list : ℕ) (w : List ℕ) (n : Counts) (w' : List ℕ) (n' : Counts) (a : Area list w n) (k : Kept list w n w' n') where
  pub cells_kept : (d : ℕ) → d < n.cells → cell_at w' d ≡ cell_at w d
  cells_kept d h =
      let low = a.low in
      let few = a.cells in
      cell_agree w' w d (λ j p q. k.bytes j (record { cells = inl (omega arith); results = inl (omega arith); errors = inl (omega arith) }))

  pub slots_kept : n'.cells ≤ 2096 → (j : ℕ) → j < n.results → slot_at w' list j ≡ slot_at w list j
  slots_kept room j h =
      let low = a.low in
      let high = a.high in
      let few = a.results in
      slot_agree w' w list j (λ i p q. k.bytes i (record { cells = inr (omega arith); results = inl (omega arith); errors = inl (omega arith) }))

  pub records_kept : n'.cells ≤ 2096 → n'.results ≤ 16 → (j : ℕ) → j < n.errors → error_at w' j ≡ error_at w j
  records_kept room few j h =
      let high = a.high in
      error_agree w' w j (λ i p q. k.bytes i (record { cells = inr (omega arith); results = inr (omega arith); errors = inl (omega arith) }))

  pub marks_kept : n'.cells ≤ 2096 → Agree w' w marks_at 4096
  marks_kept room j p q =
      let low = a.low in
      k.bytes j (record { cells = inr (omega arith); results = inl (omega arith); errors = inl (omega arith) })

  pub results_kept : n'.cells ≤ 2096 → results_of w' list n.results ≡ results_of w list n.results
  results_kept room = readings_kept n.cells w w' cells_kept list 0 n.results (λ j p q. slots_kept room j (omega arith)) a.stand

  pub stand_kept : n'.cells ≤ 2096 → AllStand n'.cells w' list 0 n.results
  stand_kept room = all_stand_kept n.cells w w' cells_kept list 0 n.results (λ j p q. slots_kept room j (omega arith)) a.stand n'.cells k.cells

  pub error_list_kept : n'.cells ≤ 2096 → n'.results ≤ 16 → errors_of w' n.errors ≡ errors_of w n.errors
  error_list_kept room few = errors_kept w w' 0 n.errors (λ j p q. records_kept room few j (omega arith))

  pub reading_kept_in : (r : Top) → Stands w r n → reading_in w' r ≡ reading_in w r
  reading_kept_in r s =
      let e = entries_kept n.cells (cell_at w) (cell_at w') cells_kept r.height r.cell.0 s.stack in
      λ i. record { mark = r.mark; stack = e i }

  pub stands_on : (r : Top) → Stands w r n → Stands w' r n'
  stands_on r s =
      record { low = s.low; high = s.high; stack = linked_kept n.cells (cell_at w) (cell_at w') cells_kept n'.cells r.height r.cell.0 k.cells s.stack }
