-- The ways out of a pass, and what its next turn asks. Assumes nothing.
use Prim.Native.Nat.{ℕ, ◌+◌, ◌-◌, ◌*◌, ◌<◌, ◌≤◌}
use native.Mathlib.Omega.{arith}
use mathlib.Core.Path.{◌≡◌, sym, ap, ◌∙◌, subst}
use mathlib.Core.Logic.{inr}
use mathlib.Core.Bool.{Bool, true, false}
use mathlib.Core.List.{List, [], ◌∷◌, ◌++◌, reverse}
use lib.ListN.{length}
use Rattle.std.specs.Prelude.{if◌then◌else◌}
use Rattle.meaning.specs.Readings.{Reading, states}
use Rattle.meaning.specs.TableFile.{Table}
use Rattle.meaning.specs.Walk.{Walk, Walked, plan, ends}
use Rattle.meaning.specs.Applying.{Applied, apply, joined}
use Rattle.meaning.specs.declared.Refusal.{Refusal}
use Rattle.meaning.specs.declared.Term.{Term}
use Rattle.cells.specs.Pool.{cell_at}
use Rattle.cells.specs.Stacks.{entries_of, Linked}
use Rattle.cells.proofs.Births.{entries_kept, linked_kept}
use Rattle.cells.proofs.Records.{cell_agree}
use Rattle.cells.proofs.Stacks.{linked_top_height}
use Rattle.state.specs.Layout.{slot_size, readings_at, results_at, left_at}
use Rattle.state.specs.Readings.{slot_at, put_slot, top_at, height_at, reading_of, readings_from, results_of, used_of, AllStand}
use Rattle.state.specs.declared.Slot.{Slot}
use Rattle.state.proofs.Births.{finds_on}
use Rattle.state.proofs.Slots.{agree_put_slot}
use Rattle.state.proofs.Lists.{readings_kept, all_stand_kept, readings_added, stands_added}
use Rattle.actions.specs.Acting.{reading_in}
use Rattle.actions.specs.declared.Top.{Top}
use Rattle.taking.specs.Taking.{top_of, planned, Refuses, Takes, Leaves}
use Rattle.taking.specs.Stages.{made_of, Further}
use Rattle.taking.specs.declared.SoFar.{SoFar}
use Rattle.taking.proofs.Stages.{further_takes, made_takes, further_leaves, made_leaves}
use Rattle.feeding.specs.OnePass.{Pass as Meant, stopped, on_walk, one_pass}
use Rattle.feeding.specs.Passing.{PassStands, PassReady, Passes, pass_from}
use Rattle.feeding.proofs.LeftRecords.{reverse_last}
use Rattle.feeding.proofs.Steps.{put_area, put_made, same_reading, stands_here}

-- No reading is left to be met.
pub pass_end : (t : Table) (x : Term) (state w : List ℕ) (i : ℕ) (so : SoFar) (left : ℕ) → PassReady state w i so left → i ≡ 0 → Passes state (pass_from t x state w i so left) w so left
unfolding one_pass readings_from
pass_end t x state w i so left y z = record { is = rw z; stands = y.stands }

module _ (t : Table) (x : Term) (state w : List ℕ) (i : ℕ) (so : SoFar) (left : ℕ) (y : PassReady state w i so left) (z : i ≡ 0 → ⊥) (r : Top) (e : r ≡ top_of state readings_at (i - 1)) where
  abbrev before : List Reading
  before = reverse (readings_from state 18432 0 (i - 1))

  abbrev a : Applied
  a = made_of 41824 w so.counts

  abbrev lefts : List Reading
  lefts = results_of w 41920 left

  abbrev on_took : Walk → ℕ → ℕ → Meant
  on_took tree k c = one_pass t x before (joined a (apply t x tree (reading_in w r) so.counts.cells)) lefts (so.walked + k) c

  abbrev on_left : ℕ → ℕ → Meant
  on_left k c = one_pass t x before a (lefts ++ reading_in w r ∷ []) (so.walked + k) c

  -- the first step of meaning's pass, of the reading as it stands in the work area
  step : pass_from t x state w i so left ≡ on_walk (planned t x w r so) on_took on_left
  unfolding one_pass
  step =
      let u : i - 1 + 1 ≡ i = omega arith in
      subst (λ (j : ℕ). pass_from t x state w j so left ≡ after (reading_in w r)) u
      (ap (λ (l : List Reading). one_pass t x l a lefts so.walked so.chains) (reverse_last state 18432 (i - 1)) ∙ ap after (sym (same_reading state w i so left y z r e)))
    where
      after : Reading → Meant
      after q = on_walk (plan t 16 x.class (states q.stack) so.chains)
          (λ tree k c. one_pass t x before (joined a (apply t x tree q so.counts.cells)) lefts (so.walked + k) c)
          (λ k c. one_pass t x before a (lefts ++ q ∷ []) (so.walked + k) c)

  pub pass_refused : (k : Refusal) (w₁ : List ℕ) → Refuses t x w r so k w₁ → pass_from t x state w i so left ≡ stopped k
  pass_refused k w₁ h = step ∙ ap (λ (v : Walked). on_walk v on_took on_left) h.is

  -- What goes on as it was while the stage goes on.
  module _ (w₁ : List ℕ) (so₁ : SoFar) (g : Further results_at w so w₁ so₁) where
    cells_on : (d : ℕ) → d < used_of state → cell_at w₁ d ≡ cell_at w d
    cells_on d h = let b = y.stands.below in g.older d (omega arith)

    slots_on : (j : ℕ) → 0 ≤ j → j < 0 + left → slot_at w₁ 41920 j ≡ slot_at w 41920 j
    slots_on j p q = let few = y.stands.few in g.others 41920 j (omega arith) (omega arith) (inr (omega arith))

    lefts_on : results_of w₁ 41920 left ≡ results_of w 41920 left
    lefts_on = readings_kept (used_of state) w w₁ cells_on 41920 0 left slots_on y.stands.lefts

    stands_on : so₁.walked ≤ 16384 → PassStands state w₁ so₁ left
    stands_on few =
        let b = y.stands.below in let grows = g.grows in
        record {
          loaded = record { long = y.stands.loaded.long; used = y.stands.loaded.used; cells = λ d h. cells_on d h ∙ y.stands.loaded.cells d h };
          below = omega arith;
          area = g.area;
          lefts = all_stand_kept (used_of state) w w₁ cells_on 41920 0 left slots_on y.stands.lefts (used_of state) (omega arith);
          few = y.stands.few;
          found = finds_on so.counts.cells so.chains so₁.counts.cells so₁.chains g.onward.leads y.stands.found;
          paced = g.onward.paced (used_of state) 0 y.stands.paced;
          walked = few;
        }

  module _ (w₁ : List ℕ) (so₁ : SoFar) (h : Takes t x results_at w r so w₁ so₁) where
    took : Further results_at w so w₁ so₁
    took = further_takes t x 41824 w r so w₁ so₁ h

    pub took_ready : PassReady state w₁ (i - 1) so₁ left
    took_ready =
        let b = y.budget in let m = y.room in let few = h.walks.few in let v = h.walks.walked_is in
        record {
          stands = stands_on w₁ so₁ took (omega arith);
          readings = λ j p q. y.readings j p (omega arith);
          room = omega arith;
          budget = omega arith;
        }

    pub took_same : pass_from t x state w₁ (i - 1) so₁ left ≡ pass_from t x state w i so left
    took_same =
        let made = made_takes t x 41824 w r so w₁ so₁ h in
        let kept = lefts_on w₁ so₁ took in
        (λ j. one_pass t x before (made j) (kept j) (h.walks.walked_is j) so₁.chains)
        ∙ sym (step ∙ ap (λ (v : Walked). on_walk v on_took on_left) h.walks.is ∙ yes (ends h.walks.tree) h.planned_is)
      where
        yes : (b : Bool) → b ≡ true → (if b then on_took h.walks.tree h.walks.reductions so₁.chains else on_left h.walks.reductions so₁.chains) ≡ on_took h.walks.tree h.walks.reductions so₁.chains
        yes b q = rw q

  module _ (w₁ : List ℕ) (so₁ : SoFar) (h : Leaves t x results_at w r so w₁ so₁) where
    left_on : Further results_at w so w₁ so₁
    left_on = further_leaves t x 41824 w r so w₁ so₁ h

    pub left_room : left_at + slot_size * left + slot_size ≤ length w₁
    left_room = let a = left_on.area.long in let m = y.room in omega arith

    abbrev slot : Slot
    slot = record { top = r.cell; mark = r.mark }

    abbrev w₂ : List ℕ
    w₂ = put_slot w₁ 41920 left slot

    -- the reading stands as before, in the state's cells
    linked_here : Linked (used_of state) (cell_at w₁) r.height r.cell.0
    linked_here =
        rw e (linked_kept (used_of state) (cell_at state) (cell_at w₁) (λ d q. cells_on w₁ so₁ left_on d q ∙ y.stands.loaded.cells d q) (used_of state) (height_at state 18432 (i - 1)) (top_at state 18432 (i - 1)) (omega arith) (y.readings (i - 1) (omega arith) (omega arith)).stack)

    height_here : (cell_at w₁ r.cell.0).height ≡ r.height
    height_here = let low = (stands_here state w i so left y z r e).low in linked_top_height (used_of state) (cell_at w₁) r.height r.cell.0 (omega arith) linked_here

    reading_here : reading_of (cell_at w₁) slot ≡ reading_in w r
    reading_here =
        let linked = linked_kept (used_of state) (cell_at w₁) (cell_at w) (λ d q. sym (cells_on w₁ so₁ left_on d q)) (used_of state) r.height r.cell.0 (omega arith) linked_here in
        let stack : entries_of (cell_at w₁) (cell_at w₁ r.cell.0).height r.cell.0 ≡ entries_of (cell_at w) r.height r.cell.0 =
        ap (λ (j : ℕ). entries_of (cell_at w₁) j r.cell.0) height_here ∙ entries_kept (used_of state) (cell_at w) (cell_at w₁) (cells_on w₁ so₁ left_on) r.height r.cell.0 linked in
        λ j. record { mark = r.mark; stack = stack j }

    behind : 18 * used_of state ≤ 41920
    behind = let u = y.stands.loaded.used in omega arith

    lefts_before : AllStand (used_of state) w₁ 41920 0 left
    lefts_before = all_stand_kept (used_of state) w w₁ (cells_on w₁ so₁ left_on) 41920 0 left (slots_on w₁ so₁ left_on) y.stands.lefts (used_of state) (omega arith)

    low_here : 1 ≤ (cell_at w₁ r.cell.0).height
    low_here = let q = height_here in let a = (stands_here state w i so left y z r e).low in omega arith

    high_here : (cell_at w₁ r.cell.0).height ≤ 64
    high_here = let q = height_here in let a = (stands_here state w i so left y z r e).high in omega arith

    linked_slot : Linked (used_of state) (cell_at w₁) (cell_at w₁ r.cell.0).height r.cell.0
    linked_slot = rw height_here linked_here

    lefts_after : results_of w₂ 41920 (left + 1) ≡ lefts ++ reading_in w r ∷ []
    lefts_after =
        let more = readings_added (used_of state) w₁ 41920 left slot behind left_room lefts_before low_here high_here linked_slot in
        let kept = lefts_on w₁ so₁ left_on in
        more ∙ (λ j. kept j ++ (reading_here j ∷ []))

    made_after : made_of 41824 w₂ so₁.counts ≡ a
    made_after = let m = y.room in put_made 41824 w₁ so₁.counts left_on.area 41920 left slot (omega arith) (omega arith) (inr (omega arith)) ∙ made_leaves t x 41824 w r so w₁ so₁ h

    left_stands : so₁.walked ≤ 16384 → PassStands state w₂ so₁ (left + 1)
    left_stands few =
        let b = y.stands.below in let grows = left_on.grows in let u = y.stands.loaded.used in let m = y.room in
        record {
          loaded =
              record {
                long = y.stands.loaded.long;
                used = u;
                cells = λ d q. cell_agree w₂ w₁ d (agree_put_slot w₁ 41920 left slot (18 * d) 18 (inr (omega arith))) ∙ cells_on w₁ so₁ left_on d q ∙ y.stands.loaded.cells d q;
              };
          below = omega arith;
          area = put_area 41824 w₁ so₁.counts left_on.area 41920 left slot (omega arith) (omega arith) (inr (omega arith));
          lefts = stands_added (used_of state) w₁ 41920 left slot behind left_room lefts_before low_here high_here linked_slot;
          few = omega arith;
          found = finds_on so.counts.cells so.chains so₁.counts.cells so₁.chains left_on.onward.leads y.stands.found;
          paced = left_on.onward.paced (used_of state) 0 y.stands.paced;
          walked = few;
        }

    module _ (w' : List ℕ) (p : w' ≡ put_slot w₁ left_at left (record { top = r.cell; mark = r.mark })) where
      pub left_ready : PassReady state w' (i - 1) so₁ (left + 1)
      left_ready =
          let b = y.budget in let m = y.room in let few = h.walks.few in let v = h.walks.walked_is in
          record {
            stands = rw p (left_stands (omega arith));
            readings = λ j q l. y.readings j q (omega arith);
            room = omega arith;
            budget = omega arith;
          }

      pub left_same : pass_from t x state w' (i - 1) so₁ (left + 1) ≡ pass_from t x state w i so left
      left_same =
          let chains = h.chains_kept in
          rw p
          ((λ j. one_pass t x before (made_after j) (lefts_after j) (h.walks.walked_is j) so₁.chains)
          ∙ sym (step ∙ ap (λ (v : Walked). on_walk v on_took on_left) h.walks.is ∙ no (ends h.walks.tree) h.planned_not))
        where
          no : (b : Bool) → b ≡ false → (if b then on_took h.walks.tree h.walks.reductions so₁.chains else on_left h.walks.reductions so₁.chains) ≡ on_left h.walks.reductions so₁.chains
          no b q = rw q
