-- One reading of a pass: it stands in the work area, and it takes the term or goes to the readings left. Assumes nothing.
use Prim.Native.Nat.{ℕ, ◌+◌, ◌-◌, ◌*◌, ◌<◌, ◌≤◌}
use native.Mathlib.Omega.{arith}
use mathlib.Core.Path.{◌≡◌, ap, ◌∙◌}
use mathlib.Core.Logic.{◌⊎◌, inl, inr, ⊎_elim}
use mathlib.Core.List.{List}
use Rattle.meaning.specs.Readings.{Reading}
use Rattle.cells.specs.Pool.{cell_at}
use Rattle.cells.proofs.Records.{cell_agree}
use Rattle.cells.proofs.Births.{entries_kept, linked_kept}
use Rattle.state.specs.Layout.{readings_at, results_at}
use Rattle.state.specs.Readings.{slot_at, put_slot, top_at, height_at, reading_at, used_of, StandsAt}
use Rattle.state.specs.declared.Slot.{Slot}
use Rattle.state.proofs.Slots.{length_put_slot, agree_put_slot, slot_agree}
use Rattle.state.proofs.Lists.{readings_kept, all_stand_kept}
use Rattle.actions.specs.Acting.{reading_in}
use Rattle.actions.specs.Telling.{Area, Stands}
use Rattle.actions.specs.declared.Counts.{Counts}
use Rattle.actions.specs.declared.Top.{Top}
use Rattle.actions.proofs.ErrorRecords.{error_agree, errors_kept}
use Rattle.taking.specs.Taking.{top_of, TakeReady}
use Rattle.taking.specs.Stages.{made_of}
use Rattle.taking.specs.declared.SoFar.{SoFar}
use Rattle.feeding.specs.Passing.{PassReady}

-- A slot written to another list keeps a list, its area and the error records.
module _ (list : ℕ) (w : List ℕ) (n : Counts) (a : Area list w n) (at j : ℕ) (x : Slot) (low : 41824 ≤ at) (high : at + 6 * j + 6 ≤ 42016) (apart : (at + 6 * j + 6 ≤ list) ⊎ (list + 96 ≤ at + 6 * j)) where
  abbrev put : List ℕ
  put = put_slot w at j x

  put_cells : (d : ℕ) → d < n.cells → cell_at put d ≡ cell_at w d
  put_cells d h = let few = a.cells in cell_agree put w d (agree_put_slot w at j x (18 * d) 18 (inr (omega arith)))

  put_slots : (i : ℕ) → 0 ≤ i → i < 0 + n.results → slot_at put list i ≡ slot_at w list i
  put_slots i p q = let few = a.results in slot_agree put w list i (agree_put_slot w at j x (list + 6 * i) 6 (⊎_elim (λ u. inl (omega arith)) (λ u. inr (omega arith)) apart))

  pub put_area : Area list put n
  put_area =
      record {
        long = length_put_slot w at j x ∙ a.long;
        low = a.low;
        high = a.high;
        cells = a.cells;
        results = a.results;
        errors = a.errors;
        stand = all_stand_kept n.cells w put put_cells list 0 n.results put_slots a.stand n.cells (omega arith);
      }

  pub put_made : made_of list put n ≡ made_of list w n
  put_made =
      let results = readings_kept n.cells w put put_cells list 0 n.results put_slots a.stand in
      let few = a.errors in
      let errors = errors_kept w put 0 n.errors (λ i p q. error_agree put w i (agree_put_slot w at j x (42016 + 8 * i) 8 (inl (omega arith)))) in
      λ i. record { results = results i; errors = errors i; next = n.cells }

-- The last of the first i readings.
module _ (state w : List ℕ) (i : ℕ) (so : SoFar) (left : ℕ) (y : PassReady state w i so left) (z : i ≡ 0 → ⊥) where
  here : StandsAt (used_of state) state readings_at (i - 1)
  here = y.readings (i - 1) (omega arith) (omega arith)

  module _ (r : Top) (e : r ≡ top_of state readings_at (i - 1)) where
    pub same_reading : reading_in w r ≡ reading_at state readings_at (i - 1)
    same_reading =
        rw e (ap {B = Reading} (λ (l : List Rattle.meaning.specs.Readings.Entry). record { mark = (slot_at state 18432 (i - 1)).mark; stack = l })
        (entries_kept (used_of state) (cell_at state) (cell_at w) y.stands.loaded.cells (height_at state 18432 (i - 1)) (top_at state 18432 (i - 1)) here.stack))

    pub stands_here : Stands w r so.counts
    stands_here =
        rw e (record {
          low = here.low;
          high = here.high;
          stack = linked_kept (used_of state) (cell_at state) (cell_at w) y.stands.loaded.cells so.counts.cells (height_at state 18432 (i - 1)) (top_at state 18432 (i - 1)) y.stands.below here.stack;
        })

    pub take_ready : TakeReady w results_at r so
    take_ready =
        let b = y.budget in
        record {
          area = y.stands.area;
          stands = stands_here;
          roomy = record { found = y.stands.found; cells = used_of state; errors = 0; few_errors = omega arith; paced = y.stands.paced };
          walked = omega arith;
        }
