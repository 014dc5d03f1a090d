-- Every birth of a feed finds a cell, births before a refusal included. Assumes nothing.
use Prim.Native.Nat.{ℕ, ◌+◌, ◌*◌, ◌≤◌, ◌<◌}
use native.Mathlib.Omega.{arith}
use mathlib.Core.Path.{◌≡◌, refl, sym, ap, ◌∙◌, subst}
use mathlib.Core.Bool.{Bool, true, false}
use mathlib.Core.List.{List, [], ◌∷◌, ◌++◌, append_assoc}
use lib.Dec.{ltb, T, ltb→lt}
use borrow.Author.Tests.{lt-ltb}
use Rattle.meaning.specs.Applying.{apply}
use Rattle.std.specs.Prelude.{if◌then◌else◌}
use Rattle.meaning.specs.Readings.{Reading, states}
use Rattle.meaning.specs.TableFile.{Table}
use Rattle.meaning.specs.Walk.{Walk, Walked, refused, walked, plan}
use Rattle.meaning.specs.declared.Term.{Term}
use Rattle.meaning.proofs.Within.{planned_within}
use Rattle.state.specs.Births.{Turn, takes, stays, after_plan, born_up_to, CellFound, FindsCells, Leads}
use Rattle.state.specs.Layout.{state_cells, work_cells}

-- The turns of a stage bear at most 33 entries for each chain that is still to come, up to 16.
record Stage (n c m : ℕ) : Type 0 where
  above : n ≤ m
  few : m + 33 * c ≤ n + 33 * 16

turns_few : (turns : List Turn) (n c : ℕ) → c ≤ 16 → Stage n c (born_up_to turns n c)
unfolding born_up_to
turns_few [] n c h = record { above = omega arith; few = omega arith }
turns_few (takes t x r ∷ more) n c h = planned (plan t 16 x.class (states r.stack) c) refl (λ m c' g. turns_few more m c' g)
  where
    planned : (v : Walked) → plan t 16 x.class (states r.stack) c ≡ v → ((m c' : ℕ) → c' ≤ 16 → Stage m c' (born_up_to more m c')) →
        Stage n c (after_plan v n (λ tree c'. born_up_to more (apply t x tree r n).next c'))
    planned (refused k) e rest = record { above = omega arith; few = omega arith }
    planned (walked tree k c') e rest =
        let p = planned_within t x x.class r c tree k c' e in
        let count = p.count in
        let o = p.out n in
        let grows = o.grows in let births = o.births_are in
        let g = rest (apply t x tree r n).next c' (p.fits h) in
        let above = g.above in let few = g.few in
        record { above = omega arith; few = omega arith }
turns_few (stays ∷ more) n c h = counted (ltb c 16) refl (λ g. turns_few more (n + 1) (c + 1) g)
  where
    counted : (b : Bool) → ltb c 16 ≡ b → (c + 1 ≤ 16 → Stage (n + 1) (c + 1) (born_up_to more (n + 1) (c + 1))) → Stage n c (if b then born_up_to more (n + 1) (c + 1) else n)
    counted true e rest =
        let less : c < 16 = ltb→lt c 16 (subst T (sym e) tt) in
        let g = rest (omega arith) in
        let above = g.above in let few = g.few in
        record { above = omega arith; few = omega arith }
    counted false e rest = record { above = omega arith; few = omega arith }

-- THE THEOREM: every birth of a feed finds a cell.
pub cell_found : CellFound
cell_found used h first second =
    let a = turns_few first used 0 (omega arith) in
    let b = turns_few second (born_up_to first used 0) 0 (omega arith) in
    let a1 = a.above in let a2 = a.few in let b1 = b.above in let b2 = b.few in
    record { above = omega arith; below = omega arith }

-- So every turn of a first stage finds its cells, and every turn of a second one, which begins where the first has ended.
pub first_finds : (used : ℕ) → used ≤ state_cells → FindsCells used 0
unfolding born_up_to
first_finds used h more = (cell_found used h more []).below

pub second_finds : (used n c : ℕ) → used ≤ state_cells → Leads used 0 n c → FindsCells n 0
unfolding born_up_to
second_finds used n c h l more = subst (λ (m : ℕ). born_up_to more m 0 ≤ work_cells) (l.lead []) (cell_found used h (l.turns ++ []) more).below

-- Turns that lead on, one after the other.
pub leads_same : (n c : ℕ) → Leads n c n c
leads_same n c = record { turns = []; lead = λ more. refl }

pub leads_then : (n c n₁ c₁ n₂ c₂ : ℕ) → Leads n c n₁ c₁ → Leads n₁ c₁ n₂ c₂ → Leads n c n₂ c₂
leads_then n c n₁ c₁ n₂ c₂ a b =
    record {
      turns = a.turns ++ b.turns;
      lead = λ more. ap (λ (l : List Turn). born_up_to l n c) (append_assoc a.turns b.turns more) ∙ a.lead (b.turns ++ more) ∙ b.lead more;
    }

pub finds_on : (n c n' c' : ℕ) → Leads n c n' c' → FindsCells n c → FindsCells n' c'
finds_on n c n' c' l f more = subst (λ (m : ℕ). m ≤ work_cells) (l.lead more) (f (l.turns ++ more))

-- A reading takes a term.
module _ (t : Table) (x : Term) (r : Reading) (n c : ℕ) (tree : Walk) (k c' : ℕ) (e : plan t 16 x.class (states r.stack) c ≡ walked tree k c') where
  pub born_takes : (more : List Turn) → born_up_to (takes t x r ∷ more) n c ≡ born_up_to more (apply t x tree r n).next c'
  unfolding born_up_to
  born_takes more = ap (λ (v : Walked). after_plan v n (λ tree' c₁. born_up_to more (apply t x tree' r n).next c₁)) e

  pub leads_takes : Leads n c (apply t x tree r n).next c'
  leads_takes = record { turns = takes t x r ∷ []; lead = born_takes }

  pub finds_takes : FindsCells n c → (apply t x tree r n).next ≤ work_cells
  unfolding born_up_to
  finds_takes f = finds_on n c (apply t x tree r n).next c' leads_takes f []

-- A reading stays.
module _ (n c : ℕ) (h : c < 16) where
  pub born_stays : (more : List Turn) → born_up_to (stays ∷ more) n c ≡ born_up_to more (n + 1) (c + 1)
  unfolding born_up_to
  born_stays more = rw (lt-ltb c 16 h)

  pub leads_stays : Leads n c (n + 1) (c + 1)
  leads_stays = record { turns = stays ∷ []; lead = born_stays }

  pub finds_stays : FindsCells n c → n < work_cells
  unfolding born_up_to
  finds_stays f = let g : n + 1 ≤ 2096 = finds_on n c (n + 1) (c + 1) leads_stays f [] in omega arith
