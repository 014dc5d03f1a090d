-- What stays and what comes when cells are written: stacks of older cells stay, and a newborn cell is its entry on top of its parent's stack. Assumes nothing.
use mathlib.Core.Path.{◌≡◌, refl, ap, ◌∙◌}
use mathlib.Core.List.{List, ◌∷◌}
use mathlib.Core.Logic.{inr}
use Prim.Native.Nat.{ℕ, zero, suc, ◌+◌, ◌*◌, ◌<◌, ◌≤◌}
use native.Mathlib.Omega.{arith}
use lib.ListN.{length, drop}
use Rattle.meaning.specs.Readings.{Entry}
use Rattle.cells.specs.Pool.{cell_size, cell_at, put_cell}
use Rattle.cells.specs.Stacks.{Pool, entry_of, entries_of, down_from, Linked, Birth}
use Rattle.cells.specs.declared.Cell.{Cell}
use Rattle.cells.proofs.Records.{cell_other, cell_back}
use Rattle.cells.proofs.Stacks.{entries_down, linked_down_from}

-- A pool q that has the cells of p below n has the stacks of p below n.
module _ (n : ℕ) (p q : Pool) (a : (d : ℕ) → d < n → q d ≡ p d) where
  pub entries_kept : (h c : ℕ) → Linked n p h c → entries_of q h c ≡ entries_of p h c
  unfolding entries_of Linked
  entries_kept zero c l = refl
  entries_kept (suc h) c l = rw (a c l.0) (ap (λ (r : List Entry). entry_of c (p c) ∷ r) (entries_kept h (p c).parent.0 l.2))

  pub linked_kept : (n' h c : ℕ) → n ≤ n' → Linked n p h c → Linked n' q h c
  unfolding Linked
  linked_kept n' zero c b l = tt
  linked_kept n' (suc h) c b l = (
    omega (arith, l.0),
    ap (λ (x : Cell). x.height) (a c l.0) ∙ l.1,
    rw (a c l.0) (linked_kept n' h (p c).parent.0 b l.2),
  )

pub linked_more : (n : ℕ) (p : Pool) (n' h c : ℕ) → n ≤ n' → Linked n p h c → Linked n' p h c
linked_more n p = linked_kept n p p (λ d h. refl)

-- A birth in bytes.
pub birth_of : (s : List ℕ) (n : ℕ) (x : Cell) → cell_size * n + cell_size ≤ length s → Birth n (cell_at s) (cell_at (put_cell s n x)) x
birth_of s n x h = record { older = λ d i. cell_other s n d x (inr i); new = cell_back s n x h }

-- The newborn's stack.
module _ (n : ℕ) (p q : Pool) (x : Cell) (b : Birth n p q x) where
  pub entries_born : (h : ℕ) → Linked n p h x.parent.0 → entries_of q (suc h) n ≡ entry_of n x ∷ entries_of p h x.parent.0
  unfolding entries_of
  entries_born h l = rw b.new (ap (λ (r : List Entry). entry_of n x ∷ r) (entries_kept n p q b.older h x.parent.0 l))

  pub linked_born : (h : ℕ) → x.height ≡ suc h → Linked n p h x.parent.0 → Linked (n + 1) q (suc h) n
  unfolding Linked
  linked_born h e l = rw b.new (omega arith, e, linked_kept n p q b.older (n + 1) h x.parent.0 (omega arith) l)

  -- A reduction: k entries go, and the newborn stands on what is left.
  pub entries_reduced : (k h c : ℕ) → Linked n p (k + h) c → x.parent.0 ≡ down_from p k c → entries_of q (suc h) n ≡ entry_of n x ∷ drop k (entries_of p (k + h) c)
  entries_reduced k h c l e =
      entries_born h (rw e (linked_down_from n p k h c l)) ∙ ap (λ (r : List Entry). entry_of n x ∷ r) (rw e (entries_down p k h c))
