-- What holds while stacks move: where a cell has gone stands a copy of it, whose parent is where its parent went, no two cells went to one, and each cell that was taken is a copy. Assumes nothing.
use mathlib.Core.Path.{◌≡◌, refl, ap, sym, ◌∙◌}
use mathlib.Core.Logic.{◌⊎◌, inl, inr, ⊎_elim}
use mathlib.Core.Bool.{Bool, true}
use mathlib.Core.List.{List}
use Prim.Native.Nat.{ℕ, zero, suc, ◌+◌, ◌<◌, ◌≤◌}
use native.Mathlib.Omega.{arith}
use lib.Dec.{eqb}
use lib.ListN.{length}
use borrow.Author.Tests.{eq-eqb}
use Rattle.meaning.specs.Readings.{holds}
use Rattle.meaning.proofs.Booleans.{either_left, either_right}
use Rattle.numbers.specs.Writing.{Agree}
use Rattle.cells.specs.Pool.{cell_at, put_cell}
use Rattle.cells.specs.Stacks.{Pool, entries_of, Linked}
use Rattle.cells.specs.declared.Cell.{Cell}
use Rattle.cells.proofs.Records.{Other, same?, length_put_cell, cell_other, cell_back, cell_agree}
use Rattle.state.specs.Layout.{readings_at, work_cells, work_len, state_len, state_cells}
use Rattle.commit.specs.Moving.{moved_to, put_moved, with_parent, Move, move_cell, move_step, move_stack}
use Rattle.commit.proofs.Map.{moved_other, moved_same, length_put_moved, agree_put_moved, cell_kept}
use Rattle.commit.proofs.Steps.{move_none, stack_leaves}

-- p is the pool that the stacks come from, its cells below `cells`.
pub record Good (cells : ℕ) (p : Pool) (w s : List ℕ) (n : ℕ) : Type 0 where
  pub same : (c : ℕ) → c < cells → cell_at w c ≡ p c
  pub work : length w ≡ work_len
  pub state : length s ≡ state_len
  pub below : (c k : ℕ) → c < cells → moved_to w c ≡ suc k → k < n
  pub copy : (c k : ℕ) → c < cells → moved_to w c ≡ suc k → with_parent (p c) (cell_at s k).parent.0 ≡ cell_at s k
  pub link : (c k : ℕ) → c < cells → moved_to w c ≡ suc k → 1 < (p c).height → moved_to w (p c).parent.0 ≡ suc (cell_at s k).parent.0
  pub lowest : (c k : ℕ) → c < cells → moved_to w c ≡ suc k → (p c).height ≡ 1 → (cell_at s k).parent.0 ≡ 0
  pub once : (c d k : ℕ) → c < cells → d < cells → moved_to w c ≡ suc k → moved_to w d ≡ suc k → c ≡ d

parent_of : (x : Cell) (j : ℕ) → (with_parent x j).parent.0 ≡ j
unfolding with_parent
parent_of x j = refl

-- One more cell moves: c, whose parent went to j, goes to n.
module _ (cells : ℕ) (pool : cells ≤ work_cells) (p : Pool) (w s : List ℕ) (n c j : ℕ) (g : Good cells p w s n) (ic : c < cells) (free : moved_to w c ≡ 0)
    (room : n < state_cells) (lk : 1 < (p c).height → moved_to w (p c).parent.0 ≡ suc j) (lo : (p c).height ≡ 1 → j ≡ 0) where
  there : cell_at (put_cell s n (with_parent (p c) j)) n ≡ with_parent (p c) j
  there = let l = g.state in cell_back s n (with_parent (p c) j) (omega arith)

  old : (k : ℕ) → k < n → cell_at (put_cell s n (with_parent (p c) j)) k ≡ cell_at s k
  old k h = cell_other s n k (with_parent (p c) j) (inr h)

  -- what had gone somewhere is still there
  pub keep : (e k : ℕ) → moved_to w e ≡ suc k → moved_to (put_moved w c (n + 1)) e ≡ suc k
  keep e k h = go (same? c e)
    where
      go : (c ≡ e) ⊎ Other c e → moved_to (put_moved w c (n + 1)) e ≡ suc k
      go (inl q) = let u = ap (moved_to w) q in absurd (omega arith)
      go (inr o) = moved_other w c e (n + 1) o ∙ h

  -- what has gone somewhere now is c, to n, or had gone before
  gone : (e k : ℕ) → moved_to (put_moved w c (n + 1)) e ≡ suc k → ((c ≡ e) × (k ≡ n)) ⊎ (moved_to w e ≡ suc k)
  gone e k h = go (same? c e)
    where
      go : (c ≡ e) ⊎ Other c e → ((c ≡ e) × (k ≡ n)) ⊎ (moved_to w e ≡ suc k)
      go (inl q) =
          let u : moved_to (put_moved w c (n + 1)) e ≡ n + 1 = rw (← q) (moved_same w c (n + 1) (omega arith) g.work) in
          inl (q, omega arith)
      go (inr o) = inr (sym (moved_other w c e (n + 1) o) ∙ h)

  new_copy : (d k : ℕ) → d < cells → ((c ≡ d) × (k ≡ n)) ⊎ (moved_to w d ≡ suc k) →
      with_parent (p d) (cell_at (put_cell s n (with_parent (p c) j)) k).parent.0 ≡ cell_at (put_cell s n (with_parent (p c) j)) k
  new_copy d k h (inl q) = rw (q.1, ← q.0, there) (ap (with_parent (p c)) (parent_of (p c) j))
  new_copy d k h (inr q) = rw (old k (g.below d k h q)) (g.copy d k h q)

  new_link : (d k : ℕ) → d < cells → 1 < (p d).height → ((c ≡ d) × (k ≡ n)) ⊎ (moved_to w d ≡ suc k) →
      moved_to (put_moved w c (n + 1)) (p d).parent.0 ≡ suc (cell_at (put_cell s n (with_parent (p c) j)) k).parent.0
  new_link d k h b (inl q) =
      let b' : 1 < (p c).height = rw q.0 b in
      rw (q.1, ← q.0, there, parent_of) (keep (p c).parent.0 j (lk b'))
  new_link d k h b (inr q) = rw (old k (g.below d k h q)) (keep (p d).parent.0 _ (g.link d k h q b))

  new_lowest : (d k : ℕ) → d < cells → (p d).height ≡ 1 → ((c ≡ d) × (k ≡ n)) ⊎ (moved_to w d ≡ suc k) → (cell_at (put_cell s n (with_parent (p c) j)) k).parent.0 ≡ 0
  new_lowest d k h b (inl q) =
      let b' : (p c).height ≡ 1 = rw q.0 b in
      rw (q.1, there, parent_of) (lo b')
  new_lowest d k h b (inr q) = rw (old k (g.below d k h q)) (g.lowest d k h q b)

  new_once : (d e k : ℕ) → d < cells → e < cells → ((c ≡ d) × (k ≡ n)) ⊎ (moved_to w d ≡ suc k) → ((c ≡ e) × (k ≡ n)) ⊎ (moved_to w e ≡ suc k) → d ≡ e
  new_once d e k h i (inl q) (inl r) = sym q.0 ∙ r.0
  new_once d e k h i (inl q) (inr r) = let u = q.1 in let v = g.below e k i r in absurd (omega arith)
  new_once d e k h i (inr q) (inl r) = let u = r.1 in let v = g.below d k h q in absurd (omega arith)
  new_once d e k h i (inr q) (inr r) = g.once d e k h i q r

  pub good_new : Good cells p (put_moved w c (n + 1)) (put_cell s n (with_parent (p c) j)) (n + 1)
  good_new =
      record {
        same = λ d h. cell_kept _ w (agree_put_moved w c (n + 1)) d (omega arith) ∙ g.same d h;
        work = length_put_moved w c (n + 1) ∙ g.work;
        state = length_put_cell s n (with_parent (p c) j) ∙ g.state;
        below = λ d k h e. ⊎_elim (λ q. let u = q.1 in omega arith) (λ q. let u = g.below d k h q in omega arith) (gone d k e);
        copy = λ d k h e. new_copy d k h (gone d k e);
        link = λ d k h e b. new_link d k h b (gone d k e);
        lowest = λ d k h e b. new_lowest d k h b (gone d k e);
        once = λ d e k h i q r. new_once d e k h i (gone d k q) (gone e k r);
      }

-- The cell k is a copy of one of those that P names.
pub record Source (P : ℕ → Bool) (w : List ℕ) (k : ℕ) : Type 0 where
  pub from : ℕ
  pub held : P from ≡ true
  pub is : moved_to w from ≡ suc k

-- It still is when more are named and more have moved.
pub source_on : (P Q : ℕ → Bool) (w w' : List ℕ) (k : ℕ) → ((a : ℕ) → P a ≡ true → Q a ≡ true) → ((a e : ℕ) → moved_to w a ≡ suc e → moved_to w' a ≡ suc e) → Source P w k → Source Q w' k
source_on P Q w w' k f g o = record { from = o.from; held = f o.from o.held; is = g o.from k o.is }

-- What moving a stack to cells from n on gives.
pub record Gives (cells : ℕ) (p : Pool) (w : List ℕ) (n h c : ℕ) (r : Move) : Type 0 where
  pub good : Good cells p r.work r.state r.next
  pub keeps : (d k : ℕ) → moved_to w d ≡ suc k → moved_to r.work d ≡ suc k
  pub found : 0 < h → moved_to r.work c ≡ suc r.no
  pub fresh : (k : ℕ) → n ≤ k → k < r.next → Source (holds (entries_of p h c)) r.work k

-- A stack holds its top, and what the stack below holds.
module _ (p : Pool) (h c : ℕ) where
  holds_top : holds (entries_of p (suc h) c) c ≡ true
  unfolding entries_of holds
  holds_top = either_left (eqb c c) (holds (entries_of p h (p c).parent.0) c) (eq-eqb c c refl)

  holds_under : (a : ℕ) → holds (entries_of p h (p c).parent.0) a ≡ true → holds (entries_of p (suc h) c) a ≡ true
  unfolding entries_of holds
  holds_under a q = either_right (eqb c a) (holds (entries_of p h (p c).parent.0) a) q

module _ (cells : ℕ) (pool : cells ≤ work_cells) (p : Pool) (w : List ℕ) (n h c : ℕ) (r : Move) (v : Gives cells p w n h (p c).parent.0 r) (ic : c < cells) (room : r.next < state_cells)
    (lk : 1 < (p c).height → moved_to r.work (p c).parent.0 ≡ suc r.no) (lo : (p c).height ≡ 1 → r.no ≡ 0) where
  module _ (e : moved_to r.work c ≡ 0) where
    stays : (d k : ℕ) → moved_to r.work d ≡ suc k → moved_to (put_moved r.work c (r.next + 1)) d ≡ suc k
    stays = keep cells pool p r.work r.state r.next c r.no v.good ic e room lk lo

    at_next : moved_to (put_moved r.work c (r.next + 1)) c ≡ suc r.next
    at_next = moved_same r.work c (r.next + 1) (omega arith) v.good.work ∙ omega arith

    new_source : (k : ℕ) → n ≤ k → k < r.next + 1 → (r.next ≡ k) ⊎ Other r.next k → Source (holds (entries_of p (suc h) c)) (put_moved r.work c (r.next + 1)) k
    new_source k a b (inl q) = record { from = c; held = holds_top p h c; is = at_next ∙ ap suc q }
    new_source k a b (inr q) = source_on _ _ r.work _ k (holds_under p h c) stays (v.fresh k a (⊎_elim (λ z. absurd (omega arith)) (λ z. z) q))

  gives_cell : (to : ℕ) → moved_to r.work c ≡ to → Gives cells p w n (suc h) c (move_cell to (p c) c r)
  unfolding move_cell
  gives_cell zero e =
      record {
        good = good_new cells pool p r.work r.state r.next c r.no v.good ic e room lk lo;
        keeps = λ d j q. stays e d j (v.keeps d j q);
        found = λ z. at_next e;
        fresh = λ k a b. new_source e k a b (same? r.next k);
      }
  gives_cell (suc to) e =
      record { good = v.good; keeps = v.keeps; found = λ z. e; fresh = λ k a b. source_on _ _ r.work r.work k (holds_under p h c) (λ d j q. q) (v.fresh k a b) }

pub move_gives : (cells : ℕ) → cells ≤ work_cells → (p : Pool) (h : ℕ) (w s : List ℕ) (n c : ℕ) → Good cells p w s n → Linked cells p h c → n + h ≤ state_cells →
    Gives cells p w n h c (move_stack h w s n c)
unfolding move_stack move_step Linked
move_gives cells pool p zero w s n c g l b = record { good = g; keeps = λ d k q. q; found = λ z. absurd (omega arith); fresh = λ k a b. absurd (omega arith) }
move_gives cells pool p (suc h) w s n c g l b =
    let v = move_gives cells pool p h w s n (p c).parent.0 g l.2 (omega arith) in
    let z = (stack_leaves h w s n (p c).parent.0).bound in
    let high = l.1 in
    rw (g.same c l.0)
    (gives_cell cells pool p w n h c (move_stack h w s n (p c).parent.0) v l.0 (omega arith) (λ q. v.found (omega arith))
    (λ q. ap (λ (r : Move). r.no) (sym (move_none h w s n (p c).parent.0 (omega arith)))) _ refl)

-- Of the state, only the cells that are taken matter.
pub good_state : (cells : ℕ) (p : Pool) (w s t : List ℕ) (n : ℕ) → n ≤ state_cells → length t ≡ length s → Agree t s 0 readings_at → Good cells p w s n → Good cells p w t n
good_state cells p w s t n b l a g =
    record {
      same = g.same;
      work = g.work;
      state = l ∙ g.state;
      below = g.below;
      copy = λ c k h e. rw (same_cell k (g.below c k h e)) (g.copy c k h e);
      link = λ c k h e. rw (same_cell k (g.below c k h e)) (g.link c k h e);
      lowest = λ c k h e. rw (same_cell k (g.below c k h e)) (g.lowest c k h e);
      once = g.once;
    }
  where
    same_cell : (k : ℕ) → k < n → cell_at t k ≡ cell_at s k
    same_cell k h = cell_agree t s k (λ i x y. a i (omega arith) (omega arith))
