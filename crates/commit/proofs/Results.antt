-- The ways out of the functions that commit one result and all of them, what they leave alone, and what they ask. Assumes nothing.
use mathlib.Core.Path.{◌≡◌, ap, ◌∙◌}
use mathlib.Core.List.{List}
use Prim.Native.Nat.{ℕ, suc, ◌+◌, ◌-◌, ◌*◌, ◌<◌, ◌≤◌}
use native.Mathlib.Omega.{arith}
use lib.ListN.{length}
use Rattle.meaning.specs.Bytes.{byte_at}
use Rattle.numbers.specs.Writing.{Agree, Apart}
use Rattle.cells.specs.Pool.{cell_size, cell_at}
use Rattle.cells.specs.declared.Cell.{Cell}
use Rattle.cells.proofs.Stacks.{linked_top}
use Rattle.state.specs.Layout.{readings_at, slot_size, map_at, work_cells}
use Rattle.state.specs.Readings.{slot_at, put_slot, top_at, height_at}
use Rattle.state.specs.declared.Slot.{Slot}
use Rattle.state.proofs.Slots.{length_put_slot, agree_put_slot}
use Rattle.state.proofs.Lists.{all_stand_kept}
use Rattle.commit.specs.Moving.{Move, move, move_stack, MoveReady}
use Rattle.commit.specs.Committing.{move_one, slot, commit_one, commit_from, OneReady, ListReady}
use Rattle.commit.proofs.Map.{cell_kept, slot_kept}
use Rattle.commit.proofs.Steps.{stack_leaves}

top_of : {x y : Slot} → x ≡ y → x.top.0 ≡ y.top.0
top_of e = ap (λ (r : Slot). r.top.0) e

-- One result.
module _ (at : ℕ) (w s : List ℕ) (i n : ℕ) where
  pub one_done : (t : Slot) (x : Cell) (w₁ s₁ : List ℕ) (n₁ k₁ : ℕ) (s₂ : List ℕ) → t ≡ slot_at w at i → x ≡ cell_at w t.top.0 →
      move w₁ s₁ n₁ k₁ ≡ move_stack x.height w s n t.top.0 → s₂ ≡ put_slot s₁ readings_at i (slot k₁ t.mark) → move w₁ s₂ n₁ 0 ≡ commit_one at w s i n
  unfolding commit_one move_one
  one_done t x w₁ s₁ n₁ k₁ s₂ a b e f =
      let u : t.top.0 ≡ top_at w at i = top_of a in
      let h : x.height ≡ height_at w at i = ap (λ (y : Cell). y.height) b ∙ ap (λ (c : ℕ). (cell_at w c).height) u in
      let m : move w₁ s₁ n₁ k₁ ≡ move_stack (height_at w at i) w s n (top_at w at i) = e ∙ cc in
      rw (f, ap (λ (r : Slot). r.mark) a)
      (ap (λ (r : Move). move r.work (put_slot r.state readings_at i (slot r.no (slot_at w at i).mark)) r.next 0) m)

  module _ (y : OneReady w s at i n) (t : Slot) (a : t ≡ slot_at w at i) where
    pub one_read : cell_size * t.top.0 + cell_size ≤ length w
    one_read =
        let l = y.work in
        let h : t.top.0 < work_cells = rw (top_of a) (linked_top work_cells (cell_at w) (height_at w at i) (top_at w at i) y.stands.low y.stands.stack) in
        omega arith

    pub one_move : (x : Cell) → x ≡ cell_at w t.top.0 → MoveReady w s x.height t.top.0 n
    one_move x b =
        let h : x.height ≡ height_at w at i = ap (λ (z : Cell). z.height) b ∙ ap (λ (c : ℕ). (cell_at w c).height) (top_of a) in
        let r = y.room in
        let high = y.stands.high in
        record { work = y.work; state = y.state; room = omega arith; stack = rw (h, top_of a) y.stands.stack }

-- What the commit of one result leaves alone: all of the work area but the map, and in the state every byte from the next free cell on but the result's slot.
pub record OneLeaves (w s : List ℕ) (i n : ℕ) (r : Move) : Type 0 where
  pub work : length r.work ≡ length w
  pub state : length r.state ≡ length s
  pub below : Agree r.work w 0 map_at
  pub rest : (k : ℕ) → cell_size * r.next ≤ k → Apart (readings_at + slot_size * i) slot_size k 1 → byte_at r.state k ≡ byte_at s k
  pub grows : n ≤ r.next
  pub bound : r.next ≤ n + 64

pub one_leaves : (at : ℕ) (w s : List ℕ) (i n : ℕ) → height_at w at i ≤ 64 → OneLeaves w s i n (commit_one at w s i n)
unfolding commit_one move_one
one_leaves at w s i n h =
    let l = stack_leaves (height_at w at i) w s n (top_at w at i) in
    let r : Move = move_stack (height_at w at i) w s n (top_at w at i) in
    let x : Slot = slot r.no (slot_at w at i).mark in
    let b = l.bound in
    record {
      work = l.work;
      state = length_put_slot r.state readings_at i x ∙ l.state;
      below = l.below;
      rest = λ k a f. agree_put_slot r.state readings_at i x k 1 f k (omega arith) (omega arith) ∙ l.rest k a;
      grows = l.grows;
      bound = omega arith;
    }

-- All results: before the result i, and after it.
module _ (at : ℕ) (w s : List ℕ) (count i n : ℕ) where
  pub from_end : (q : Move) → count ≤ i → commit_from at (count - i) w s i n ≡ q → move w s n 0 ≡ q
  unfolding commit_from
  from_end q h e = let u : count - i ≡ 0 = omega arith in rw u at e

  pub ready_one : i < count → ListReady w s at (count - i) i n → OneReady w s at i n
  ready_one h y =
      let r = y.room in
      let f = y.few in
      let l = y.list in
      record { work = y.work; state = y.state; room = omega arith; few = omega arith; list = omega arith; stands = y.stands i (omega arith) (omega arith) }

  module _ (h : i < count) (w₁ s₁ : List ℕ) (n₁ : ℕ) (a : move w₁ s₁ n₁ 0 ≡ commit_one at w s i n) where
    pub from_more : (q : Move) → commit_from at (count - i) w s i n ≡ q → commit_from at (count - (i + 1)) w₁ s₁ (i + 1) n₁ ≡ q
    unfolding commit_from
    from_more q e =
        let u : count - i ≡ suc (count - (i + 1)) = omega arith in
        ap (λ (r : Move). commit_from at (count - (i + 1)) r.work r.state (i + 1) r.next) a ∙ rw u at e

    pub ready_more : ListReady w s at (count - i) i n → ListReady w₁ s₁ at (count - (i + 1)) (i + 1) n₁
    ready_more y =
        let o = one_leaves at w s i n (y.stands i (omega arith) (omega arith)).high in
        let r = y.room in
        let f = y.few in
        let l = y.list in
        let b = o.bound in
        let u : n₁ ≡ (commit_one at w s i n).next = ap (λ (r : Move). r.next) a in
        let v : w₁ ≡ (commit_one at w s i n).work = ap (λ (r : Move). r.work) a in
        let kept : Agree w₁ w 0 map_at = rw v o.below in
        record {
          work = ap length v ∙ o.work ∙ y.work;
          state = ap (λ (r : Move). length r.state) a ∙ o.state ∙ y.state;
          room = omega arith;
          few = omega arith;
          list = omega arith;
          stands =
              all_stand_kept work_cells w w₁ (cell_kept w₁ w kept) at (i + 1) (count - (i + 1)) (λ j g h. slot_kept w₁ w kept at j (omega arith))
              (λ j g h. y.stands j (omega arith) (omega arith)) work_cells (omega arith);
        }
