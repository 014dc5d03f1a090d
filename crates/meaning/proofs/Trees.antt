-- A walk that was not refused, with nothing counted: the tree that planning finds, whatever the other readings did.
use Prim.Native.Nat.{ℕ, zero, suc, ◌+◌, ◌≤◌, ◌<◌}
use mathlib.Core.Path.{◌≡◌, refl, sym, ap, ◌∙◌, subst}
use mathlib.Core.List.{List, [], ◌∷◌}
use mathlib.Core.Bool.{Bool, true, false}
use lib.ListN.{length, get_or, drop}
use lib.Dec.{leb, ltb, eqb, lt→ltb}
use native.Mathlib.Omega.{arith}
use Rattle.meaning.specs.Basics.{both, either}
use Rattle.std.specs.Prelude.{if◌then◌else◌, Option, None, Some}
use Rattle.meaning.specs.TableFile.{Table, ActionRecord, goto_of, rule_of}
use Rattle.meaning.specs.TableRight.{shifts}
use Rattle.meaning.specs.Chains.{record_at, landing}
use Rattle.meaning.specs.Walk.{Walk, shift, reduce, Walked, refused, walked, and_then, has_room, end_chain, or_no_goto, walk_full, reduction, walk_rules, walk_state, walk_from, ends, size, chains}
use Rattle.meaning.specs.declared.Rule.{Rule}
use Rattle.meaning.specs.declared.Refusal.{Refusal}
use Rattle.meaning.specs.declared.Refusal.TheVariants.{ReachesStart, TooHigh, ChainTooLong, WalkTooLong, TooManyReadings}
use Rattle.meaning.proofs.Booleans.{IsTrue, is_true, either_false}
use Rattle.meaning.proofs.Planned.{WalkBounded, walk_bounded}

abbrev pub tree_step : Option ℕ → ℕ → (ℕ → Walk) → Walk → Walk
tree_step None k deeper beside = beside
tree_step (Some to) k deeper beside = reduce k to (deeper to) beside

abbrev pub tree_by : Table → (List ℕ → Walk) → Option ℕ → List ℕ → List ℕ → Walk
tree_by t deeper sh st [] = shift sh
tree_by t deeper sh st (k ∷ ks) = tree_step (landing t (rule_of t k) st) k (λ to. deeper (to ∷ drop (rule_of t k).len st)) (tree_by t deeper sh st ks)

abbrev pub tree_from : (left : ℕ) → Table → (cls : ℕ) → List ℕ → Walk
tree_from zero t cls st = tree_by t (λ s. shift None) (record_at t cls st).shift st (record_at t cls st).rules
tree_from (suc left) t cls st = tree_by t (λ s. tree_from left t cls s) (record_at t cls st).shift st (record_at t cls st).rules

-- A reading is planned exactly if the walk has a chain.
either_true : (a b : Bool) {c d : ℕ} → (a ≡ true → 1 ≤ c) → (b ≡ true → 1 ≤ d) → either a b ≡ true → 1 ≤ c + d
either_true true b {c} {d} f g e = let h = f refl in omega arith
either_true false b {c} {d} f g e = let h = g e in omega arith

pub ends_chain : (w : Walk) → ends w ≡ true → 1 ≤ chains w
unfolding ends chains
ends_chain (shift None) e = absurd (subst IsTrue (sym e) tt)
ends_chain (shift (Some to)) e = omega arith
ends_chain (reduce k to below beside) e = either_true (ends below) (ends beside) (ends_chain below) (ends_chain beside) e

pub no_chain : (w : Walk) → ends w ≡ false → chains w ≡ 0
unfolding ends chains
no_chain (shift None) e = refl
no_chain (shift (Some to)) e = absurd (subst IsTrue e tt)
no_chain (reduce k to below beside) e =
    let h = either_false (ends below) (ends beside) e in
    let a = no_chain below h.0 in
    let b = no_chain beside h.1 in
    omega arith

-- inversion
abbrev is_walked : Walked → Type 0
is_walked (refused k) = ⊥
is_walked (walked w n c) = Unit {0}

pub refused_not : {C : Type 0} {k : Refusal} {w : Walk} {n c : ℕ} → refused k ≡ walked w n c → C
refused_not e = absurd (subst is_walked (sym e) tt)

abbrev pub walk_of : Walked → Walk
walk_of (refused k) = shift None
walk_of (walked w n c) = w

abbrev pub count_of : Walked → ℕ
count_of (refused k) = 0
count_of (walked w n c) = n

abbrev pub chains_of : Walked → ℕ
chains_of (refused k) = 0
chains_of (walked w n c) = c

pub if_not : (b : Bool) (k : Refusal) (x : Walked) {w : Walk} {n c : ℕ} → (if b then refused k else x) ≡ walked w n c → (b ≡ false) × (x ≡ walked w n c)
if_not true k x e = refused_not e
if_not false k x e = (refl, e)

pub if_yes : (b : Bool) (k : Refusal) (x : Walked) {w : Walk} {n c : ℕ} → (if b then x else refused k) ≡ walked w n c → (b ≡ true) × (x ≡ walked w n c)
if_yes true k x e = (refl, e)
if_yes false k x e = refused_not e

goto_yes : (m : Option ℕ) (f : ℕ → Walked) {w : Walk} {n c : ℕ} → or_no_goto m f ≡ walked w n c → (to : ℕ) × (m ≡ Some to) × (f to ≡ walked w n c)
goto_yes None f e = refused_not e
goto_yes (Some to) f e = (to, refl, e)

pub record Walks (x : Walked) : Type 0 where
  pub w : Walk
  pub n : ℕ
  pub c : ℕ
  pub is : x ≡ walked w n c

then_yes : (x : Walked) (f : Walk → ℕ → ℕ → Walked) {w : Walk} {n c : ℕ} → and_then x f ≡ walked w n c → (z : Walks x) × (f z.w z.n z.c ≡ walked w n c)
then_yes (refused k) f e = refused_not e
then_yes (walked w n c) f e = (record { w = w; n = n; c = c; is = refl }, e)

-- what a walk that was not refused is: this tree, with its reductions and chains counted
record Counted (tree : Walk) (n c : ℕ) (w : Walk) (n' c' : ℕ) : Type 0 where
  tree_is : w ≡ tree
  count_is : n' ≡ n + size tree
  chains_is : c' ≡ c + chains tree

-- and within the bounds of a planning
pub record Is (tree : Walk) (room n c : ℕ) (w : Walk) (n' c' : ℕ) : Type 0 where
  pub tree_is : w ≡ tree
  pub count_is : n' ≡ n + size tree
  pub chains_is : c' ≡ c + chains tree
  pub fits : c ≤ room → c' ≤ room
  pub few : n ≤ 1024 → n' ≤ 1024

end_is : (room : ℕ) (sh : Option ℕ) (n c : ℕ) {w : Walk} {n' c' : ℕ} → end_chain room sh n c ≡ walked w n' c' → Counted (shift sh) n c w n' c'
unfolding end_chain size chains
end_is room None n c e =
    let a : n ≡ _ = ap count_of e in
    let b : c ≡ _ = ap chains_of e in
    record { tree_is = sym (ap walk_of e); count_is = omega arith; chains_is = omega arith }
end_is room (Some t) n c e =
    let d = (if_yes (has_room room c) TooManyReadings (walked (shift (Some t)) n (c + 1)) e).1 in
    let a : n ≡ _ = ap count_of d in
    let b : c + 1 ≡ _ = ap chains_of d in
    record { tree_is = sym (ap walk_of d); count_is = omega arith; chains_is = omega arith }

-- each rule of the list leads somewhere, to a stack of which P holds
abbrev pub GrownBy : Table → (List ℕ → Type 0) → List ℕ → List ℕ → Type 0
GrownBy t P st [] = Unit {0}
GrownBy t P st (k ∷ ks) = (to : ℕ) × (landing t (rule_of t k) st ≡ Some to) × P (to ∷ drop (rule_of t k).len st) × GrownBy t P st ks

-- no reduction from here is one too many, reaches the start entry or lacks a goto
abbrev pub Grown : (left : ℕ) → Table → (cls : ℕ) → List ℕ → Type 0
Grown zero t cls st = GrownBy t (λ s. ⊥) st (record_at t cls st).rules
Grown (suc left) t cls st = GrownBy t (λ s. Grown left t cls s) st (record_at t cls st).rules

abbrev Fits : (List ℕ → Walk) → (List ℕ → Type 0) → (List ℕ → ℕ → ℕ → Walked) → Type 0
Fits deeper P go = (st : List ℕ) (n c : ℕ) (w : Walk) (n' c' : ℕ) → go st n c ≡ walked w n' c' → Counted (deeper st) n c w n' c' × P st

-- what is known of a first rule's reduction in a walk that was not refused
pub record Reduces (t : Table) (room left : ℕ) (go : List ℕ → ℕ → ℕ → Walked) (sh : Option ℕ) (st : List ℕ) (k : ℕ) (ks : List ℕ) (n c : ℕ) (w : Walk) (n' c' : ℕ) : Type 0 where
  pub to : ℕ
  pub steps_fit : walk_full n ≡ false
  pub chain_fits : eqb left 0 ≡ false
  pub pops : leb (length st) (rule_of t k).len ≡ false
  pub leads : goto_of t (get_or (drop (rule_of t k).len st) 0 0) (rule_of t k).left ≡ Some to
  pub not_high : ltb 64 (length (drop (rule_of t k).len st) + 1) ≡ false
  pub below : Walks (go (to ∷ drop (rule_of t k).len st) (n + 1) c)
  pub beside : Walks (walk_rules t room left go sh st ks below.n below.c)
  pub all : walked (reduce k to below.w beside.w) beside.n beside.c ≡ walked w n' c'

pub reduces : (t : Table) (room left : ℕ) (go : List ℕ → ℕ → ℕ → Walked) (sh : Option ℕ) (st : List ℕ) (k : ℕ) (ks : List ℕ) (n c : ℕ) (w : Walk) (n' c' : ℕ)
    → walk_rules t room left go sh st (k ∷ ks) n c ≡ walked w n' c' → Reduces t room left go sh st k ks n c w n' c'
unfolding walk_rules reduction
reduces t room left go sh st k ks n c w n' c' e =
    record { to = to; steps_fit = e1.0; chain_fits = e2.0; pops = e3.0; leads = e4.1; not_high = e5.0; below = z; beside = e7.0; all = e7.1 }
  where
    q : Rule
    q = rule_of t k

    rest : List ℕ
    rest = drop q.len st

    grown : ℕ → Walk → ℕ → ℕ → Walked
    grown to v m d = and_then (walk_rules t room left go sh st ks m d) (λ v' m' d'. walked (reduce k to v v') m' d')

    last : ℕ → Walked
    last to = and_then (go (to ∷ rest) (n + 1) c) (grown to)

    high : ℕ → Walked
    high to = (if ltb 64 (length rest + 1) then refused TooHigh else last to)

    low : Walked
    low = or_no_goto (goto_of t (get_or rest 0 0) q.left) high

    e1 : (walk_full n ≡ false) × ((if eqb left 0 then refused ChainTooLong else if leb (length st) q.len then refused ReachesStart else low) ≡ walked w n' c')
    e1 = if_not (walk_full n) WalkTooLong (if eqb left 0 then refused ChainTooLong else if leb (length st) q.len then refused ReachesStart else low) e

    e2 : (eqb left 0 ≡ false) × ((if leb (length st) q.len then refused ReachesStart else low) ≡ walked w n' c')
    e2 = if_not (eqb left 0) ChainTooLong (if leb (length st) q.len then refused ReachesStart else low) e1.1

    e3 : (leb (length st) q.len ≡ false) × (low ≡ walked w n' c')
    e3 = if_not (leb (length st) q.len) ReachesStart low e2.1

    e4 : (to : ℕ) × (goto_of t (get_or rest 0 0) q.left ≡ Some to) × (high to ≡ walked w n' c')
    e4 = goto_yes (goto_of t (get_or rest 0 0) q.left) high e3.1

    to : ℕ
    to = e4.0

    e5 : (ltb 64 (length rest + 1) ≡ false) × (last to ≡ walked w n' c')
    e5 = if_not (ltb 64 (length rest + 1)) TooHigh (last to) e4.2

    e6 : (z : Walks (go (to ∷ rest) (n + 1) c)) × (grown to z.w z.n z.c ≡ walked w n' c')
    e6 = then_yes (go (to ∷ rest) (n + 1) c) (grown to) e5.1

    z : Walks (go (to ∷ rest) (n + 1) c)
    z = e6.0

    e7 : (y : Walks (walk_rules t room left go sh st ks z.n z.c)) × (walked (reduce k to z.w y.w) y.n y.c ≡ walked w n' c')
    e7 = then_yes (walk_rules t room left go sh st ks z.n z.c) (λ v' m' d'. walked (reduce k to z.w v') m' d') e6.1

rules_are : (t : Table) (room left : ℕ) (deeper : List ℕ → Walk) (P : List ℕ → Type 0) (go : List ℕ → ℕ → ℕ → Walked) → Fits deeper P go
    → (sh : Option ℕ) (st ks : List ℕ) (n c : ℕ) (w : Walk) (n' c' : ℕ) → walk_rules t room left go sh st ks n c ≡ walked w n' c' → Counted (tree_by t deeper sh st ks) n c w n' c' × GrownBy t P st ks
unfolding walk_rules landing size chains
rules_are t room left deeper P go fits sh st [] n c w n' c' e = (end_is room sh n c e, tt)
rules_are t room left deeper P go fits sh st (k ∷ ks) n c w n' c' e =
    let a = fits (v.to ∷ rest) (n + 1) c z.w z.n z.c z.is in
    let b = rules_are t room left deeper P go fits sh st ks z.n z.c y.w y.n y.c y.is in
    let a1 : y.n ≡ n' = ap count_of v.all in
    let a2 : y.c ≡ c' = ap chains_of v.all in
    let s1 : size (tree_step (landing t q st) k (λ to. deeper (to ∷ rest)) others) ≡ 1 + size (deeper (v.to ∷ rest)) + size others = ap size tree_step_lem in
    let s2 : chains (tree_step (landing t q st) k (λ to. deeper (to ∷ rest)) others) ≡ chains (deeper (v.to ∷ rest)) + chains others = ap chains tree_step_lem in
    let h1 = a.0.count_is in
    let h2 = a.0.chains_is in
    let h3 = b.0.count_is in
    let h4 = b.0.chains_is in (
      record {
        tree_is = sym (ap walk_of v.all) ∙ (λ i. reduce k v.to (a.0.tree_is i) (b.0.tree_is i)) ∙ sym tree_step_lem;
        count_is = omega arith;
        chains_is = omega arith;
      },
      (v.to, land, a.1, b.1),
    )
  where
    q : Rule
    q = rule_of t k

    rest : List ℕ
    rest = drop q.len st

    others : Walk
    others = tree_by t deeper sh st ks

    v : Reduces t room left go sh st k ks n c w n' c'
    v = reduces t room left go sh st k ks n c w n' c' e

    z : Walks (go (v.to ∷ rest) (n + 1) c)
    z = v.below

    y : Walks (walk_rules t room left go sh st ks z.n z.c)
    y = v.beside

    land : landing t q st ≡ Some v.to
    land = ap (λ (b : Bool). if b then None else goto_of t (get_or rest 0 0) q.left) v.pops ∙ v.leads

    tree_step_lem : tree_step (landing t q st) k (λ to. deeper (to ∷ rest)) others ≡ reduce k v.to (deeper (v.to ∷ rest)) others
    tree_step_lem = ap (λ (m : Option ℕ). tree_step m k (λ to. deeper (to ∷ rest)) others) land

state_is : (t : Table) (room left : ℕ) (deeper : List ℕ → Walk) (P : List ℕ → Type 0) (go : List ℕ → ℕ → ℕ → Walked) → Fits deeper P go
    → (a : ActionRecord) (st : List ℕ) (n c : ℕ) (w : Walk) (n' c' : ℕ) → walk_state t room left go a st n c ≡ walked w n' c' → Counted (tree_by t deeper a.shift st a.rules) n c w n' c' × GrownBy t P st a.rules
unfolding walk_state
state_is t room left deeper P go fits a st n c w n' c' e =
    rules_are t room left deeper P go fits a.shift st a.rules n c w n' c'
    (if_not (both (shifts a.shift) (ltb 64 (length st + 1))) TooHigh (walk_rules t room left go a.shift st a.rules n c) e).1

walk_both : (left : ℕ) (t : Table) (room cls : ℕ) (st : List ℕ) (n c : ℕ) (w : Walk) (n' c' : ℕ) → walk_from left t room cls st n c ≡ walked w n' c'
    → Counted (tree_from left t cls st) n c w n' c' × Grown left t cls st
unfolding walk_state walk_from
walk_both zero t room cls st n c w n' c' e =
    state_is t room 0 (λ s. shift None) (λ s. ⊥) (λ st' m d. refused ChainTooLong) (λ s m d v m' d' f. refused_not f) (record_at t cls st) st n c w n' c' e
walk_both (suc left) t room cls st n c w n' c' e =
    state_is t room (suc left) (λ s. tree_from left t cls s) (λ s. Grown left t cls s) (λ st' m d. walk_from left t room cls st' m d)
    (λ s m d v m' d' f. walk_both left t room cls s m d v m' d' f) (record_at t cls st) st n c w n' c' e

pub walk_is : (left : ℕ) (t : Table) (room cls : ℕ) (st : List ℕ) (n c : ℕ) (w : Walk) (n' c' : ℕ) → walk_from left t room cls st n c ≡ walked w n' c'
    → Is (tree_from left t cls st) room n c w n' c'
walk_is left t room cls st n c w n' c' e =
    let i = (walk_both left t room cls st n c w n' c' e).0 in
    let b = subst (WalkBounded room n c) e (walk_bounded room left t cls st n c) in
    record { tree_is = i.tree_is; count_is = i.count_is; chains_is = i.chains_is; fits = b.1; few = b.0 }

pub walk_grown : (left : ℕ) (t : Table) (room cls : ℕ) (st : List ℕ) (n c : ℕ) (w : Walk) (n' c' : ℕ) → walk_from left t room cls st n c ≡ walked w n' c' → Grown left t cls st
walk_grown left t room cls st n c w n' c' e = (walk_both left t room cls st n c w n' c' e).1

-- A walk that was not refused is not refused after other chains either, as long as there is room.
abbrev pub Again : ℕ → (List ℕ → ℕ → ℕ → Walked) → Type 0
Again room go = (st : List ℕ) (n c : ℕ) (w : Walk) (n' c' : ℕ) → go st n c ≡ walked w n' c' → (d : ℕ) → d + chains w ≤ room → go st n d ≡ walked w n' (d + chains w)

end_again : (room : ℕ) (sh : Option ℕ) (n c : ℕ) (w : Walk) (n' c' : ℕ) → end_chain room sh n c ≡ walked w n' c' → (d : ℕ) → d + chains w ≤ room → end_chain room sh n d ≡ walked w n' (d + chains w)
unfolding chains end_chain
end_again room None n c w n' c' e d h =
    let f : 0 ≡ chains w = ap chains (ap walk_of e) in
    let g : d ≡ d + chains w = omega arith in
    λ i. walked (ap walk_of e i) (ap count_of e i) (g i)
end_again room (Some t) n c w n' c' e d h =
    let e' = (if_yes (has_room room c) TooManyReadings (walked (shift (Some t)) n (c + 1)) e).1 in
    let f : 1 ≡ chains w = ap chains (ap walk_of e') in
    let g : d + 1 ≡ d + chains w = omega arith in
    let l : d < room = omega arith in
    ap (λ (b : Bool). if b then walked (shift (Some t)) n (d + 1) else refused TooManyReadings) (is_true (has_room room d) (lt→ltb d room l))
    ∙ (λ i. walked (ap walk_of e' i) (ap count_of e' i) (g i))

rules_again : (t : Table) (room left : ℕ) (go : List ℕ → ℕ → ℕ → Walked) → Again room go
    → (sh : Option ℕ) (st ks : List ℕ) (n c : ℕ) (w : Walk) (n' c' : ℕ) → walk_rules t room left go sh st ks n c ≡ walked w n' c'
    → (d : ℕ) → d + chains w ≤ room → walk_rules t room left go sh st ks n d ≡ walked w n' (d + chains w)
unfolding walk_rules reduction chains
rules_again t room left go again sh st [] n c w n' c' e d h = end_again room sh n c w n' c' e d h
rules_again t room left go again sh st (k ∷ ks) n c w n' c' e d h =
    let f : chains z.w + chains y.w ≡ chains w = ap chains (ap walk_of v.all) in
    let g : d + chains z.w + chains y.w ≡ d + chains w = omega arith in
    ap (λ (b : Bool). if b then refused WalkTooLong else if eqb left 0 then refused ChainTooLong else if leb (length st) q.len then refused ReachesStart else low) v.steps_fit
    ∙ ap (λ (b : Bool). if b then refused ChainTooLong else if leb (length st) q.len then refused ReachesStart else low) v.chain_fits
    ∙ ap (λ (b : Bool). if b then refused ReachesStart else low) v.pops
    ∙ ap (λ (m : Option ℕ). or_no_goto m high) v.leads
    ∙ ap (λ (b : Bool). if b then refused TooHigh else last v.to) v.not_high
    ∙ ap (λ (x : Walked). and_then x (grown v.to)) (again (v.to ∷ rest) (n + 1) c z.w z.n z.c z.is d (omega arith))
    ∙ ap (λ (x : Walked). and_then x (λ v' m' d'. walked (reduce k v.to z.w v') m' d'))
    (rules_again t room left go again sh st ks z.n z.c y.w y.n y.c y.is (d + chains z.w) (omega arith))
    ∙ (λ i. walked (ap walk_of v.all i) (ap count_of v.all i) (g i))
  where
    q : Rule
    q = rule_of t k

    rest : List ℕ
    rest = drop q.len st

    grown : ℕ → Walk → ℕ → ℕ → Walked
    grown to u m e = and_then (walk_rules t room left go sh st ks m e) (λ v' m' d'. walked (reduce k to u v') m' d')

    last : ℕ → Walked
    last to = and_then (go (to ∷ rest) (n + 1) d) (grown to)

    high : ℕ → Walked
    high to = (if ltb 64 (length rest + 1) then refused TooHigh else last to)

    low : Walked
    low = or_no_goto (goto_of t (get_or rest 0 0) q.left) high

    v : Reduces t room left go sh st k ks n c w n' c'
    v = reduces t room left go sh st k ks n c w n' c' e

    z : Walks (go (v.to ∷ rest) (n + 1) c)
    z = v.below

    y : Walks (walk_rules t room left go sh st ks z.n z.c)
    y = v.beside

state_again : (t : Table) (room left : ℕ) (go : List ℕ → ℕ → ℕ → Walked) → Again room go
    → (a : ActionRecord) (st : List ℕ) (n c : ℕ) (w : Walk) (n' c' : ℕ) → walk_state t room left go a st n c ≡ walked w n' c'
    → (d : ℕ) → d + chains w ≤ room → walk_state t room left go a st n d ≡ walked w n' (d + chains w)
unfolding walk_state
state_again t room left go again a st n c w n' c' e d h =
    let f = if_not (both (shifts a.shift) (ltb 64 (length st + 1))) TooHigh (walk_rules t room left go a.shift st a.rules n c) e in
    ap (λ (b : Bool). if b then refused TooHigh else walk_rules t room left go a.shift st a.rules n d) f.0 ∙ rules_again t room left go again a.shift st a.rules n c w n' c' f.1 d h

pub walk_again : (left : ℕ) (t : Table) (room cls : ℕ) → Again room (walk_from left t room cls)
unfolding walk_state walk_from
walk_again zero t room cls st n c w n' c' e d h =
    state_again t room 0 (λ st' m d. refused ChainTooLong) (λ s m d v m' d' f. refused_not f) (record_at t cls st) st n c w n' c' e d h
walk_again (suc left) t room cls st n c w n' c' e d h =
    state_again t room (suc left) (λ st' m d. walk_from left t room cls st' m d) (λ s m d v m' d' f. walk_again left t room cls s m d v m' d' f) (record_at t cls st) st n c w n' c' e d h
