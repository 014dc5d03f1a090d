-- What applying one planned walk comes to: how many readings, errors and births, and how high the readings stand.
use Prim.Native.Nat.{ℕ, zero, suc, ◌+◌, ◌*◌, ◌≤◌}
use mathlib.Core.Path.{◌≡◌, refl, sym, ap, subst}
use mathlib.Core.List.{List, [], ◌∷◌}
use mathlib.Core.Bool.{Bool, true, false}
use lib.ListN.{length, drop, length-append, length-drop}
use native.Mathlib.Omega.{arith}
use Rattle.meaning.specs.Basics.{AllOf}
use Rattle.std.specs.Prelude.{if◌then◌else◌, Option, None, Some}
use Rattle.meaning.specs.TableFile.{Table, rule_of}
use Rattle.meaning.specs.Readings.{Entry, Reading, states}
use Rattle.meaning.specs.Chains.{record_at, landing}
use Rattle.meaning.specs.Walk.{Walk, shift, reduce, walked, plan, ends, one, chains}
use Rattle.meaning.specs.Applying.{act_on, reduced, shifted, refused_action, Applied, nothing_applied, one_error, joined, if_acts, apply}
use Rattle.meaning.specs.Bounds.{Standing}
use Rattle.meaning.specs.declared.Term.{Term}
use Rattle.meaning.proofs.Trees.{tree_step, tree_by, tree_from, walk_is, ends_chain}
use Rattle.meaning.proofs.Heights.{Low, walk_low}
use Rattle.meaning.proofs.Tools.{all_append}

-- the births that applying a walk may come to
abbrev births : Walk → ℕ
births (shift sh) = one sh
births (reduce k to below beside) = (if ends below then 1 + births below else 0) + births beside

-- A chain of l reductions has at most l + 1 births, so a tree has at most that many for each of its chains.
births_step : (b : Bool) (l nb cb nd cd : ℕ) → (b ≡ true → 1 ≤ cb) → nb ≤ l * cb → nd ≤ suc l * cd → (if b then 1 + nb else 0) + nd ≤ suc l * (cb + cd)
births_step true l nb cb nd cd f g h = let k = f refl in omega arith
births_step false l nb cb nd cd f g h = omega arith

rules_births : (t : Table) (l : ℕ) (deeper : List ℕ → Walk) → ((s : List ℕ) → births (deeper s) ≤ l * chains (deeper s))
    → (sh : Option ℕ) (st ks : List ℕ) → births (tree_by t deeper sh st ks) ≤ suc l * chains (tree_by t deeper sh st ks)
unfolding chains
rules_births t l deeper h None st [] = omega arith
rules_births t l deeper h (Some to) st [] = omega arith
rules_births t l deeper h sh st (k ∷ ks) = step (landing t (rule_of t k) st) (rules_births t l deeper h sh st ks)
  where
    step : (m : Option ℕ) → births (tree_by t deeper sh st ks) ≤ suc l * chains (tree_by t deeper sh st ks)
        → births (tree_step m k (λ to. deeper (to ∷ drop (rule_of t k).len st)) (tree_by t deeper sh st ks))
        ≤ suc l * chains (tree_step m k (λ to. deeper (to ∷ drop (rule_of t k).len st)) (tree_by t deeper sh st ks))
    step None g = g
    step (Some to) g =
        let below = deeper (to ∷ drop (rule_of t k).len st) in
        let beside = tree_by t deeper sh st ks in
        births_step (ends below) l (births below) (chains below) (births beside) (chains beside) (ends_chain below) (h (to ∷ drop (rule_of t k).len st)) g

tree_births : (left : ℕ) (t : Table) (class : ℕ) (st : List ℕ) → births (tree_from left t class st) ≤ suc left * chains (tree_from left t class st)
unfolding chains
tree_births zero t class st = rules_births t 0 (λ s. shift None) (λ s. omega arith) (record_at t class st).shift st (record_at t class st).rules
tree_births (suc left) t class st = rules_births t (suc left) (λ s. tree_from left t class s) (λ s. tree_births left t class s) (record_at t class st).shift st (record_at t class st).rules

-- what was applied from birth n on: at most `few` readings and errors together, at most `more` births, and every reading stands
pub record Within (n few more : ℕ) (o : Applied) : Type 0 where
  pub both : length o.results + length o.errors ≤ few
  pub grows : n ≤ o.next
  pub births_are : o.next ≤ n + more
  pub standing : AllOf Standing o.results

pub joined_within : (n f g b d : ℕ) (o p : Applied) → Within n f b o → Within o.next g d p → Within n (f + g) (b + d) (joined o p)
joined_within n f g b d o p h k =
    let e1 = length-append o.results p.results in
    let e2 = length-append o.errors p.errors in
    let h1 = h.both in let h2 = h.grows in let h3 = h.births_are in
    let k1 = k.both in let k2 = k.grows in let k3 = k.births_are in
    record { both = omega arith; grows = omega arith; births_are = omega arith; standing = all_append Standing o.results p.results h.standing k.standing }

pub nothing_within : (n f b : ℕ) → Within n f b (nothing_applied n)
nothing_within n f b = record { both = omega arith; grows = omega arith; births_are = omega arith; standing = tt }

pub wider : (n f b f' b' : ℕ) (o : Applied) → f ≤ f' → b ≤ b' → Within n f b o → Within n f' b' o
wider n f b f' b' o g h w =
    let w1 = w.both in let w3 = w.births_are in
    record { both = omega arith; grows = w.grows; births_are = omega arith; standing = w.standing }

apply_within : (t : Table) (x : Term) (w : Walk) (r : Reading) (n : ℕ) → Low t w (length r.stack) → Within n (chains w) (births w) (apply t x w r n)
unfolding apply chains shifted reduced
apply_within t x (shift None) r n low = nothing_within n 0 0
apply_within t x (shift (Some to)) r n low = record { both = omega arith; grows = omega arith; births_are = omega arith; standing = ((omega arith, omega arith), tt) }
apply_within t x (reduce k to below beside) r n low =
    joined_within n (chains below) (chains beside) (if ends below then 1 + births below else 0) (births beside) (part (ends below) (act_on (rule_of t k) r.stack))
    (apply t x beside r (part (ends below) (act_on (rule_of t k) r.stack)).next)
    (within (ends below) (act_on (rule_of t k) r.stack) (ends_chain below) (λ v. apply_within t x below (red v) (n + 1) (low_below v)))
    (apply_within t x beside r (part (ends below) (act_on (rule_of t k) r.stack)).next low.1)
  where
    red : ℕ → Reading
    red v = reduced (rule_of t k) to v r n

    part : Bool → Option ℕ → Applied
    part b m = if b then if_acts m (λ v. apply t x below (red v) (n + 1)) (one_error (refused_action t k r) n) else nothing_applied n

    low_below : (v : ℕ) → Low t below (length (red v).stack)
    low_below v = subst (λ (h : ℕ). Low t below (suc h)) (sym (length-drop (rule_of t k).len r.stack)) low.0

    within : (b : Bool) (m : Option ℕ) → (b ≡ true → 1 ≤ chains below) → ((v : ℕ) → Within (n + 1) (chains below) (births below) (apply t x below (red v) (n + 1)))
        → Within n (chains below) (if b then 1 + births below else 0) (part b m)
    within true None e h = let c = e refl in record { both = omega arith; grows = omega arith; births_are = omega arith; standing = tt }
    within true (Some v) e h =
        let g = h v in
        let g1 = g.both in let g2 = g.grows in let g3 = g.births_are in
        record { both = g1; grows = omega arith; births_are = omega arith; standing = g.standing }
    within false None e h = nothing_within n (chains below) 0
    within false (Some v) e h = nothing_within n (chains below) 0

length_states : (s : List Entry) → length (states s) ≡ length s
length_states [] = refl
length_states (e ∷ s) = ap suc (length_states s)

-- one planned reading: its results, errors and births by the chains counted
pub record PlannedWithin (t : Table) (x : Term) (r : Reading) (c : ℕ) (tree : Walk) (k c' : ℕ) : Type 0 where
  pub few : ℕ
  pub count : c' ≡ c + few
  pub fits : c ≤ 16 → c' ≤ 16
  pub walked_few : k ≤ 1024
  pub out : (n : ℕ) → Within n few (33 * few) (apply t x tree r n)

pub planned_within : (t : Table) (x : Term) (class : ℕ) (r : Reading) (c : ℕ) (tree : Walk) (k c' : ℕ) → plan t 16 class (states r.stack) c ≡ walked tree k c'
    → PlannedWithin t x r c tree k c'
unfolding plan
planned_within t x class r c tree k c' e =
    let st = states r.stack in
    let i = walk_is 32 t 16 class st 0 c tree k c' e in
    let low = subst (Low t tree) (length_states r.stack) (walk_low 32 t 16 class st 0 c tree k c' e) in
    record {
      few = chains (tree_from 32 t class st);
      count = i.chains_is;
      fits = i.fits;
      walked_few = i.few (omega arith);
      out = λ n.
          let a = subst (λ (v : Walk). Within n (chains v) (births v) (apply t x tree r n)) i.tree_is (apply_within t x tree r n low) in
          wider n (chains (tree_from 32 t class st)) (births (tree_from 32 t class st)) (chains (tree_from 32 t class st)) (33 * chains (tree_from 32 t class st)) (apply t x tree r n)
          (omega arith) (tree_births 32 t class st) a;
    }
