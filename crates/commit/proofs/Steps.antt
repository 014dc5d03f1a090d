-- The ways out of the functions that move a stack, and what they leave alone: all of the work area but the map, and in the state every byte from the next free cell on. Assumes nothing.
use mathlib.Core.Path.{◌≡◌, refl, ap, sym, ◌∙◌}
use mathlib.Core.Logic.{inl}
use mathlib.Core.List.{List}
use Prim.Native.Nat.{ℕ, zero, suc, ◌+◌, ◌-◌, ◌*◌, ◌≤◌}
use native.Mathlib.Omega.{arith}
use lib.ListN.{length}
use Rattle.meaning.specs.Bytes.{byte_at}
use Rattle.numbers.specs.Writing.{Agree}
use Rattle.cells.specs.Pool.{cell_size, cell_at, put_cell}
use Rattle.cells.specs.declared.Cell.{Cell}
use Rattle.cells.proofs.Records.{length_put_cell, agree_put_cell}
use Rattle.cells.proofs.Stacks.{linked_top, linked_under}
use Rattle.state.specs.Layout.{map_at, work_cells}
use Rattle.std.proofs.Common.{Option, Some, None}
use Rattle.meaning.specs.declared.CellNo.{CellNo}
use Rattle.commit.specs.Moving.{moved_to, where_gone, put_moved, with_parent, Move, move, move_cell, move_step, move_stack, CellReady, MoveReady}
use Rattle.commit.proofs.Map.{length_put_moved, agree_put_moved}

pub move_none : (h : ℕ) (w s : List ℕ) (n c : ℕ) → h ≡ 0 → move w s n 0 ≡ move_stack h w s n c
unfolding move_stack
move_none h w s n c e = rw e

move_suc : (h : ℕ) (w s : List ℕ) (n c : ℕ) (x : Cell) → x ≡ cell_at w c → (h ≡ 0 → ⊥) → move_step x c (move_stack (h - 1) w s n x.parent.0) ≡ move_stack h w s n c
unfolding move_stack
move_suc zero w s n c x a z = absurd (z refl)
move_suc (suc h) w s n c x a z = let u : suc h - 1 ≡ h = omega arith in rw (u, a)

pub move_more : (h : ℕ) (w s : List ℕ) (n c : ℕ) (r q : Move) (x : Cell) → x ≡ cell_at w c → (h ≡ 0 → ⊥) →
    r ≡ move_stack (h - 1) w s n x.parent.0 → q ≡ move_step x c r → q ≡ move_stack h w s n c
move_more h w s n c r q x a z e i = i ∙ ap (move_step x c) e ∙ move_suc h w s n c x a z

some_gone : (f : ℕ) (to : CellNo) → Some to ≡ where_gone f → f ≡ suc to.0
unfolding where_gone
some_gone zero to e = cc
some_gone (suc k) to e = cc

none_gone : (f : ℕ) → None ≡ where_gone f → f ≡ 0
unfolding where_gone
none_gone zero e = refl
none_gone (suc k) e = cc

module _ (x : Cell) (c : ℕ) (w s : List ℕ) (n k : ℕ) (o : Option CellNo) (e : o ≡ where_gone (moved_to w c)) where
  pub step_old : (to : CellNo) → o ≡ Some to → move w s n to.0 ≡ move_step x c (move w s n k)
  unfolding move_step move_cell
  step_old to q = rw (some_gone (moved_to w c) to (sym q ∙ e))

  pub step_new : o ≡ None → (w' s' : List ℕ) (y : Cell) → y ≡ with_parent x k → s' ≡ put_cell s n y → w' ≡ put_moved w c (n + 1) →
      move w' s' (n + 1) n ≡ move_step x c (move w s n k)
  unfolding move_step move_cell
  step_new q w' s' y i j l = rw (none_gone (moved_to w c) (sym q ∙ e), l, j, i)

-- What a step from r₀ to r leaves alone, and how many cells it takes at most.
pub record Leaves (r₀ r : Move) (b : ℕ) : Type 0 where
  pub work : length r.work ≡ length r₀.work
  pub state : length r.state ≡ length r₀.state
  pub below : Agree r.work r₀.work 0 map_at
  pub rest : (k : ℕ) → cell_size * r.next ≤ k → byte_at r.state k ≡ byte_at r₀.state k
  pub grows : r₀.next ≤ r.next
  pub bound : r.next ≤ r₀.next + b

cell_leaves : (to : ℕ) (x : Cell) (c : ℕ) (r : Move) → Leaves r (move_cell to x c r) 1
unfolding move_cell
cell_leaves zero x c r =
    record {
      work = length_put_moved r.work c (r.next + 1);
      state = length_put_cell r.state r.next (with_parent x r.no);
      below = agree_put_moved r.work c (r.next + 1);
      rest = λ k h. agree_put_cell r.state r.next (with_parent x r.no) k 1 (inl (omega arith)) k (omega arith) (omega arith);
      grows = omega arith;
      bound = omega arith;
    }
cell_leaves (suc k) x c r = record { work = refl; state = refl; below = λ k h i. refl; rest = λ k h. refl; grows = omega arith; bound = omega arith }

pub leaves_then : (r₀ r₁ r₂ : Move) (a b d : ℕ) → Leaves r₀ r₁ a → Leaves r₁ r₂ b → a + b ≡ d → Leaves r₀ r₂ d
leaves_then r₀ r₁ r₂ a b d f g e =
    let f₁ = f.grows in
    let f₂ = f.bound in
    let g₁ = g.grows in
    let g₂ = g.bound in
    record {
      work = g.work ∙ f.work;
      state = g.state ∙ f.state;
      below = λ k h i. g.below k h i ∙ f.below k h i;
      rest = λ k h. g.rest k h ∙ f.rest k (omega arith);
      grows = omega arith;
      bound = omega arith;
    }

-- A stack takes at most as many cells as it is high.
pub stack_leaves : (h : ℕ) (w s : List ℕ) (n c : ℕ) → Leaves (move w s n 0) (move_stack h w s n c) h
unfolding move_stack move_step
stack_leaves zero w s n c = record { work = refl; state = refl; below = λ k h i. refl; rest = λ k h. refl; grows = omega arith; bound = omega arith }
stack_leaves (suc h) w s n c =
    let r : Move = move_stack h w s n (cell_at w c).parent.0 in
    leaves_then (move w s n 0) r _ h 1 (suc h) (stack_leaves h w s n (cell_at w c).parent.0) (cell_leaves (moved_to r.work c) (cell_at w c) c r) (omega arith)

-- What the callees ask, from what the caller was given.
module _ (w s : List ℕ) (h c n : ℕ) (z : h ≡ 0 → ⊥) (y : MoveReady w s h c n) where
  pub ready_read : cell_size * c + cell_size ≤ length w
  ready_read = let i = linked_top work_cells (cell_at w) h c (omega arith) y.stack in let l = y.work in omega arith

  pub ready_under : (x : Cell) → x ≡ cell_at w c → MoveReady w s (h - 1) x.parent.0 n
  ready_under x a =
      let r = y.room in
      record { work = y.work; state = y.state; room = omega arith; stack = linked_under work_cells (cell_at w) h c x a z y.stack }

  pub ready_cell : (d : ℕ) (w₁ s₁ : List ℕ) (n₁ k₁ : ℕ) → move w₁ s₁ n₁ k₁ ≡ move_stack (h - 1) w s n d → CellReady w₁ s₁ c n₁
  ready_cell d w₁ s₁ n₁ k₁ e =
      let l = stack_leaves (h - 1) w s n d in
      let u : n₁ ≡ (move_stack (h - 1) w s n d).next = ap (λ (r : Move). r.next) e in
      let b = l.bound in
      let r = y.room in
      record {
        work = ap (λ (r : Move). length r.work) e ∙ l.work ∙ y.work;
        state = ap (λ (r : Move). length r.state) e ∙ l.state ∙ y.state;
        cell = linked_top work_cells (cell_at w) h c (omega arith) y.stack;
        room = omega arith;
      }
