-- After moving: a stack has the same entries under other identities, none of which stands for two. Assumes nothing.
use mathlib.Core.Path.{◌≡◌, refl, ap, sym, ◌∙◌}
use mathlib.Core.Bool.{Bool, true, false}
use mathlib.Core.List.{List, [], ◌∷◌, map}
use Prim.Native.Nat.{ℕ, zero, suc, ◌-◌, ◌<◌}
use native.Mathlib.Omega.{arith}
use lib.Dec.{eqb}
use borrow.Author.Tests.{eqb-true}
use Rattle.meaning.specs.Identities.{ren_entry}
use Rattle.meaning.specs.Readings.{Entry, holds}
use Rattle.cells.specs.Pool.{cell_at}
use Rattle.cells.specs.Stacks.{Pool, entry_of, entries_of, Linked}
use Rattle.cells.specs.declared.Cell.{Cell}
use Rattle.commit.specs.Moving.{moved_to, with_parent}
use Rattle.commit.proofs.Moving.{Good}

-- the new identity of what was in the cell c
abbrev pub renamed : List ℕ → (c : ℕ) → ℕ
renamed w c = moved_to w c - 1

module _ (cells : ℕ) (p : Pool) (w s : List ℕ) (n : ℕ) (g : Good cells p w s n) where
  copied : (c k : ℕ) → c < cells → moved_to w c ≡ suc k → (entry_of k (cell_at s k) ≡ ren_entry (renamed w) (entry_of c (p c))) × ((cell_at s k).height ≡ (p c).height)
  unfolding with_parent
  copied c k h e =
      let q = g.copy c k h e in
      let u : k ≡ renamed w c = omega arith in
      let y : Cell = with_parent (p c) (cell_at s k).parent.0 in
      (ap (entry_of k) (sym q) ∙ ap (λ (i : ℕ). entry_of i y) u, ap (λ (x : Cell). x.height) (sym q))

  pub moved_height : (c k : ℕ) → c < cells → moved_to w c ≡ suc k → (cell_at s k).height ≡ (p c).height
  moved_height c k h e = (copied c k h e).1

  pub moved_entries : (h c k : ℕ) → Linked cells p h c → moved_to w c ≡ suc k → entries_of (cell_at s) h k ≡ map (ren_entry (renamed w)) (entries_of p h c)
  unfolding entries_of Linked
  moved_entries zero c k l e = refl
  moved_entries (suc zero) c k l e = ap (λ (x : Entry). x ∷ []) (copied c k l.0 e).0
  moved_entries (suc (suc h)) c k l e =
      let high = l.1 in
      let first = (copied c k l.0 e).0 in
      let rest = moved_entries (suc h) (p c).parent.0 (cell_at s k).parent.0 l.2 (g.link c k l.0 e (omega arith)) in
      λ i. first i ∷ rest i

  pub moved_linked : (h c k : ℕ) → Linked cells p h c → moved_to w c ≡ suc k → Linked n (cell_at s) h k
  unfolding Linked
  moved_linked zero c k l e = tt
  moved_linked (suc zero) c k l e = (g.below c k l.0 e, moved_height c k l.0 e ∙ l.1, tt)
  moved_linked (suc (suc h)) c k l e =
      let high = l.1 in (
        g.below c k l.0 e,
        moved_height c k l.0 e ∙ l.1,
        moved_linked (suc h) (p c).parent.0 (cell_at s k).parent.0 l.2 (g.link c k l.0 e (omega arith)),
      )

  -- Every cell that a moved stack holds has gone somewhere.
  pub record Gone (a : ℕ) : Type 0 where
    pub inside : a < cells
    pub to : ℕ
    pub is : moved_to w a ≡ suc to

  pub held_gone : (h c k a : ℕ) → Linked cells p h c → moved_to w c ≡ suc k → holds (entries_of p h c) a ≡ true → Gone a
  unfolding entries_of Linked holds
  held_gone zero c k a l e q = let z : ◌≡◌ {A = ℕ} 0 1 = cc in absurd (omega arith)
  held_gone (suc zero) c k a l e q = here (eqb c a) refl
    where
      here : (b : Bool) → eqb c a ≡ b → Gone a
      here true f = rw (← (eqb-true c a f)) (record { inside = l.0; to = k; is = e })
      here false f = let v : false ≡ true = rw f at q in let z : ◌≡◌ {A = ℕ} 0 1 = cc in absurd (omega arith)
  held_gone (suc (suc h)) c k a l e q =
      let high = l.1 in
      here (eqb c a) refl (λ r. held_gone (suc h) (p c).parent.0 (cell_at s k).parent.0 a l.2 (g.link c k l.0 e (omega arith)) r)
    where
      here : (b : Bool) → eqb c a ≡ b → (holds (entries_of p (suc h) (p c).parent.0) a ≡ true → Gone a) → Gone a
      here true f rest = rw (← (eqb-true c a f)) (record { inside = l.0; to = k; is = e })
      here false f rest = rest (rw f at q)

  -- Two that have gone somewhere go apart.
  pub gone_apart : (a b : ℕ) → Gone a → Gone b → renamed w a ≡ renamed w b → a ≡ b
  gone_apart a b x y e =
      let i = x.is in
      let j = y.is in
      let u : x.to ≡ y.to = omega arith in
      g.once a b x.to x.inside y.inside i (j ∙ ap suc (sym u))
