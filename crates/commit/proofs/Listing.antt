-- What holds while results are committed one by one: each has its slot, over cells that have moved. Assumes nothing.
use mathlib.Core.Path.{◌≡◌, refl, ap, sym, ◌∙◌}
use mathlib.Core.Logic.{◌⊎◌, inl, inr, ⊎_elim}
use mathlib.Core.List.{List}
use Prim.Native.Nat.{ℕ, zero, suc, ◌+◌, ◌*◌, ◌<◌, ◌≤◌}
use native.Mathlib.Omega.{arith}
use native.Mathlib.Decide.{dec_lt}
use lib.ListN.{length}
use Rattle.meaning.specs.Bytes.{byte_at}
use Rattle.meaning.specs.Readings.{holds, held_by}
use Rattle.meaning.proofs.Booleans.{either_left, either_right}
use Rattle.numbers.specs.Writing.{Agree, Apart}
use Rattle.cells.specs.Pool.{cell_size, cell_at}
use Rattle.cells.specs.Stacks.{Linked}
use Rattle.cells.specs.declared.Cell.{Cell}
use Rattle.cells.proofs.Records.{Other, same?}
use Rattle.cells.proofs.Stacks.{linked_top}
use Rattle.state.specs.Layout.{readings_at, slot_size, map_at, work_cells, state_cells}
use Rattle.state.specs.Readings.{slot_at, top_at, height_at, reading_at, readings_from, AllStand}
use Rattle.state.specs.declared.Slot.{Slot}
use Rattle.state.proofs.Slots.{length_put_slot, agree_put_slot, slot_agree, slot_back}
use Rattle.commit.specs.Moving.{moved_to, Move, move_stack}
use Rattle.commit.specs.Committing.{move_one, slot, commit_one, commit_from}
use Rattle.commit.proofs.Map.{cell_kept, slot_kept}
use Rattle.commit.proofs.Steps.{stack_leaves}
use Rattle.commit.proofs.Moving.{Good, Source, source_on, move_gives, good_state}
use Rattle.commit.proofs.Results.{OneLeaves, one_leaves}

-- Before k results, from the result i on; w₀ is the work area as the commit found it.
pub record Going (cells : ℕ) (w₀ w s : List ℕ) (at k i n : ℕ) : Type 0 where
  pub pool : cells ≤ work_cells
  pub kept : Agree w w₀ 0 map_at
  pub good : Good cells (cell_at w₀) w s n
  pub room : n + 64 * k ≤ state_cells
  pub few : i + k ≤ 16
  pub list : at + slot_size * (i + k) ≤ map_at
  pub stands : AllStand cells w₀ at i k

-- After the result i.
record One (cells : ℕ) (w₀ w s : List ℕ) (at i n : ℕ) (r : Move) : Type 0 where
  good : Good cells (cell_at w₀) r.work r.state r.next
  keeps : (d k : ℕ) → moved_to w d ≡ suc k → moved_to r.work d ≡ suc k
  found : moved_to r.work (top_at w₀ at i) ≡ suc (top_at r.state readings_at i)
  mark : (slot_at r.state readings_at i).mark ≡ (slot_at w₀ at i).mark
  fresh : (e : ℕ) → n ≤ e → e < r.next → Source (holds (reading_at w₀ at i).stack) r.work e
  leaves : OneLeaves w s i n r

one : (cells : ℕ) (w₀ w s : List ℕ) (at k i n : ℕ) → Going cells w₀ w s at (suc k) i n → One cells w₀ w s at i n (commit_one at w s i n)
unfolding commit_one move_one
one cells w₀ w s at k i n y =
    let st = y.stands i (omega arith) (omega arith) in
    let low = st.low in
    let high = st.high in
    let room = y.room in
    let few = y.few in
    let list = y.list in
    let pool = y.pool in
    let inside = linked_top cells (cell_at w₀) (height_at w₀ at i) (top_at w₀ at i) low st.stack in
    let same : slot_at w at i ≡ slot_at w₀ at i = slot_kept w w₀ y.kept at i (omega arith) in
    let top : top_at w at i ≡ top_at w₀ at i = ap (λ (x : Slot). x.top.0) same in
    let height : height_at w at i ≡ height_at w₀ at i =
    ap (λ (c : ℕ). (cell_at w c).height) top ∙ ap (λ (x : Cell). x.height) (cell_kept w w₀ y.kept (top_at w₀ at i) (omega arith)) in
    let stack : Linked cells (cell_at w₀) (height_at w at i) (top_at w at i) = rw (height, top) st.stack in
    let v = move_gives cells pool (cell_at w₀) (height_at w at i) w s n (top_at w at i) y.good stack (omega arith) in
    let r : Move = move_stack (height_at w at i) w s n (top_at w at i) in
    let x : Slot = slot r.no (slot_at w at i).mark in
    let long = v.good.state in
    let bound = (stack_leaves (height_at w at i) w s n (top_at w at i)).bound in
    let back = slot_back r.state readings_at i x (omega arith) in
    record {
      good = good_state cells (cell_at w₀) r.work r.state _ r.next (omega arith) (length_put_slot r.state readings_at i x) (agree_put_slot r.state readings_at i x 0 readings_at (inr (omega arith))) v.good;
      keeps = v.keeps;
      found = ap (moved_to r.work) (sym top) ∙ v.found (omega arith) ∙ ap suc (sym (ap (λ (q : Slot). q.top.0) back));
      mark = ap (λ (q : Slot). q.mark) back ∙ ap (λ (q : Slot). q.mark) same;
      fresh = λ e a b. source_on _ _ r.work r.work e (λ c q. rw (height, top) at q) (λ c d q. q) (v.fresh e a b);
      leaves = one_leaves at w s i n (omega arith);
    }

going_more : (cells : ℕ) (w₀ w s : List ℕ) (at k i n : ℕ) → Going cells w₀ w s at (suc k) i n →
    Going cells w₀ (commit_one at w s i n).work (commit_one at w s i n).state at k (i + 1) (commit_one at w s i n).next
going_more cells w₀ w s at k i n y =
    let o = one cells w₀ w s at k i n y in
    let b = o.leaves.bound in
    let room = y.room in
    let few = y.few in
    let list = y.list in
    record {
      pool = y.pool;
      kept = λ j h l. o.leaves.below j h l ∙ y.kept j h l;
      good = o.good;
      room = omega arith;
      few = omega arith;
      list = omega arith;
      stands = λ j h l. y.stands j (omega arith) (omega arith);
    }

-- After k results, from the result i on.
pub record Done (cells : ℕ) (w₀ w s : List ℕ) (at k i n : ℕ) (r : Move) : Type 0 where
  pub good : Good cells (cell_at w₀) r.work r.state r.next
  pub bound : r.next ≤ state_cells
  pub grows : n ≤ r.next
  pub state : length r.state ≡ length s
  pub keeps : (d e : ℕ) → moved_to w d ≡ suc e → moved_to r.work d ≡ suc e
  pub found : (j : ℕ) → i ≤ j → j < i + k → moved_to r.work (top_at w₀ at j) ≡ suc (top_at r.state readings_at j)
  pub mark : (j : ℕ) → i ≤ j → j < i + k → (slot_at r.state readings_at j).mark ≡ (slot_at w₀ at j).mark
  pub fresh : (e : ℕ) → n ≤ e → e < r.next → Source (held_by (readings_from w₀ at i k)) r.work e
  pub rest : (b : ℕ) → cell_size * r.next ≤ b → Apart (readings_at + slot_size * i) (slot_size * k) b 1 → byte_at r.state b ≡ byte_at s b

module _ (cells : ℕ) (w₀ w s : List ℕ) (at k i n : ℕ) (y : Going cells w₀ w s at (suc k) i n) (r : Move)
    (d : Done cells w₀ (commit_one at w s i n).work (commit_one at w s i n).state at k (i + 1) (commit_one at w s i n).next r) where
  o : One cells w₀ w s at i n (commit_one at w s i n)
  o = one cells w₀ w s at k i n y

  -- the slot i is not written again
  slot_stays : slot_at r.state readings_at i ≡ slot_at (commit_one at w s i n).state readings_at i
  slot_stays =
      let b = d.bound in
      slot_agree _ _ readings_at i (λ j h l. d.rest j (omega arith) (inr (omega arith)))

  found_more : (j : ℕ) → i ≤ j → j < i + suc k → (i ≡ j) ⊎ Other i j → moved_to r.work (top_at w₀ at j) ≡ suc (top_at r.state readings_at j)
  found_more j a b (inl q) = rw (← q) (d.keeps _ _ o.found ∙ ap (λ (x : Slot). suc x.top.0) (sym slot_stays))
  found_more j a b (inr q) = d.found j (⊎_elim (λ z. omega arith) (λ z. omega arith) q) (omega arith)

  mark_more : (j : ℕ) → i ≤ j → j < i + suc k → (i ≡ j) ⊎ Other i j → (slot_at r.state readings_at j).mark ≡ (slot_at w₀ at j).mark
  mark_more j a b (inl q) = rw (← q) (ap (λ (x : Slot). x.mark) slot_stays ∙ o.mark)
  mark_more j a b (inr q) = d.mark j (⊎_elim (λ z. omega arith) (λ z. omega arith) q) (omega arith)

  -- a cell that was taken is of this result or of a later one
  fresh_more : (e : ℕ) → n ≤ e → e < r.next → Dec (e < (commit_one at w s i n).next) → Source (held_by (readings_from w₀ at i (suc k))) r.work e
  unfolding held_by readings_from
  fresh_more e a b (yes h) =
      source_on _ _ (commit_one at w s i n).work r.work e (λ c q. either_left (holds (reading_at w₀ at i).stack c) (held_by (readings_from w₀ at (i + 1) k) c) q) d.keeps (o.fresh e a h)
  fresh_more e a b (no h) =
      source_on _ _ r.work r.work e (λ c q. either_right (holds (reading_at w₀ at i).stack c) (held_by (readings_from w₀ at (i + 1) k) c) q) (λ c f q. q) (d.fresh e (omega arith) b)

  rest_more : (b : ℕ) → cell_size * r.next ≤ b → Apart (readings_at + slot_size * i) (slot_size * suc k) b 1 → byte_at r.state b ≡ byte_at s b
  rest_more b h a =
      let g = d.grows in
      d.rest b h (⊎_elim (λ z. inl (omega arith)) (λ z. inr (omega arith)) a)
      ∙ o.leaves.rest b (omega arith) (⊎_elim (λ z. inl (omega arith)) (λ z. inr (omega arith)) a)

  done_more : Done cells w₀ w s at (suc k) i n r
  done_more =
      let g = d.grows in
      let f = o.leaves.grows in
      record {
        good = d.good;
        bound = d.bound;
        grows = omega arith;
        state = d.state ∙ o.leaves.state;
        keeps = λ e f q. d.keeps e f (o.keeps e f q);
        found = λ j a b. found_more j a b (same? i j);
        mark = λ j a b. mark_more j a b (same? i j);
        fresh = λ e a b. fresh_more e a b (dec_lt e (commit_one at w s i n).next);
        rest = rest_more;
      }

pub all_done : (cells : ℕ) (w₀ w s : List ℕ) (at k i n : ℕ) → Going cells w₀ w s at k i n → Done cells w₀ w s at k i n (commit_from at k w s i n)
unfolding commit_from
all_done cells w₀ w s at zero i n y =
    let room = y.room in
    record {
      good = y.good;
      bound = omega arith;
      grows = omega arith;
      state = refl;
      keeps = λ d e q. q;
      found = λ j a b. absurd (omega arith);
      mark = λ j a b. absurd (omega arith);
      fresh = λ e a b. absurd (omega arith);
      rest = λ b h a. refl;
    }
all_done cells w₀ w s at (suc k) i n y =
    let o = commit_one at w s i n in
    done_more cells w₀ w s at k i n y (commit_from at k o.work o.state (i + 1) o.next) (all_done cells w₀ o.work o.state at k (i + 1) o.next (going_more cells w₀ w s at k i n y))
