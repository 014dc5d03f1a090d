-- A question is refused by 6 to 10 only: there is always room for one more chain.
use Prim.Native.Nat.{ℕ, zero, suc, ◌+◌, ◌≤◌, ◌<◌}
use mathlib.Core.Path.{◌≡◌, refl}
use mathlib.Core.List.{List, [], ◌∷◌}
use mathlib.Core.Bool.{Bool, true, false}
use lib.ListN.{length, get_or, drop}
use lib.Dec.{leb, ltb, eqb, nleb→lt, nltb→le}
use native.Mathlib.Omega.{arith}
use Rattle.meaning.specs.Basics.{both}
use Rattle.std.specs.Prelude.{Ok, Err, if◌then◌else◌, Option, None, Some}
use Rattle.meaning.specs.Answers.{QuestionAnswer, number}
use Rattle.meaning.specs.TableFile.{Table, ActionRecord, goto_of, rule_of}
use Rattle.meaning.specs.TableRight.{shifts}
use Rattle.meaning.specs.Readings.{Reading, states}
use Rattle.meaning.specs.Chains.{record_at}
use Rattle.meaning.specs.Walk.{Walk, shift, reduce, Walked, refused, walked, and_then, end_chain, or_no_goto, reduction, walk_rules, walk_state, walk_from, plan}
use Rattle.meaning.specs.Questions.{enough_room, planned, can_plan, or_else, takes, can_end, recovers_from, some_recovers, can_recover}
use Rattle.meaning.specs.declared.Rule.{Rule}
use Rattle.meaning.specs.declared.Refusal.{Refusal}
use Rattle.meaning.specs.declared.Refusal.TheVariants.{ReachesStart, TooHigh, ChainTooLong, WalkTooLong, TooManyReadings}
use Rattle.meaning.proofs.Booleans.{is_false}

abbrev From6To10 : Refusal → Type 0
From6To10 k = (6 ≤ number k) × (number k ≤ 10)

-- From n reductions and c chains on, chains grow by at most one more than reductions do.
abbrev Slow : (n c : ℕ) → Walked → Type 0
Slow n c (refused k) = From6To10 k
Slow n c (walked w n' c') = (c' + n ≤ c + n' + 1) × (n ≤ n') × (n' ≤ 1024)

if_slow : (n c : ℕ) (b : Bool) (x y : Walked) → Slow n c x → (b ≡ false → Slow n c y) → Slow n c (if b then x else y)
if_slow n c true x y h g = h
if_slow n c false x y h g = g refl

goto_slow : (n c : ℕ) (m : Option ℕ) (f : ℕ → Walked) → ((to : ℕ) → Slow n c (f to)) → Slow n c (or_no_goto m f)
goto_slow n c None f h = (omega arith, omega arith)
goto_slow n c (Some to) f h = h to

-- every chain that ends finds room: there are no more chains than reductions, and at most 1,024 of these
end_slow : (sh : Option ℕ) (n c : ℕ) → c ≤ n → n ≤ 1024 → Slow n c (end_chain enough_room sh n c)
unfolding end_chain
end_slow None n c l f = (omega arith, omega arith, f)
end_slow (Some to) n c l f = at (ltb c enough_room) refl
  where
    at : (b : Bool) → ltb c enough_room ≡ b → Slow n c (if b then walked (shift (Some to)) n (c + 1) else refused TooManyReadings)
    at true e = (omega arith, omega arith, f)
    at false e = let g : enough_room ≤ c = nltb→le c enough_room (is_false e) in absurd (omega arith)

abbrev SlowFrom : (List ℕ → ℕ → ℕ → Walked) → Type 0
SlowFrom deeper = (st : List ℕ) (n c : ℕ) → c ≤ n → n ≤ 1024 → Slow n c (deeper st n c)

reduction_slow : (t : Table) (q : Rule) (st : List ℕ) (left n c : ℕ) (go : ℕ → List ℕ → Walked) → (n < 1024 → (to : ℕ) → Slow n c (go to (drop q.len st))) → Slow n c (reduction t q st left n go)
unfolding reduction
reduction_slow t q st left n c go h =
    if_slow n c (leb 1024 n) (refused WalkTooLong) _ (omega arith, omega arith) λ few.
    if_slow n c (eqb left 0) (refused ChainTooLong) _ (omega arith, omega arith) λ _.
    if_slow n c (leb (length st) q.len) (refused ReachesStart) _ (omega arith, omega arith) λ _.
    goto_slow n c (goto_of t (get_or (drop q.len st) 0 0) q.left) _ λ to.
    if_slow n c (ltb 64 (length (drop q.len st) + 1)) (refused TooHigh) _ (omega arith, omega arith) λ _.
    h (nleb→lt 1024 n (is_false few)) to

rules_slow : (t : Table) (left : ℕ) (deeper : List ℕ → ℕ → ℕ → Walked) → SlowFrom deeper → (sh : Option ℕ) (st ks : List ℕ) (n c : ℕ) → c ≤ n → n ≤ 1024
    → Slow n c (walk_rules t enough_room left deeper sh st ks n c)
unfolding walk_rules
rules_slow t left deeper h sh st [] n c l f = end_slow sh n c l f
rules_slow t left deeper h sh st (k ∷ ks) n c l f =
    reduction_slow t (rule_of t k) st left n c _ λ less to.
    below to (deeper (to ∷ drop (rule_of t k).len st) (n + 1) c) (h (to ∷ drop (rule_of t k).len st) (n + 1) c (omega arith) (omega arith)) (λ n₁ c₁ l₁ f₁. rules_slow t left deeper h sh st ks n₁ c₁ l₁ f₁)
  where
    others : ℕ → ℕ → Walked
    others n₁ c₁ = walk_rules t enough_room left deeper sh st ks n₁ c₁

    beside : (to : ℕ) (w : Walk) (n₁ c₁ : ℕ) → (c₁ + (n + 1) ≤ c + n₁ + 1) × (n + 1 ≤ n₁) × (n₁ ≤ 1024) → (v : Walked) → Slow n₁ c₁ v → Slow n c (and_then v (λ w' n₂ c₂. walked (reduce k to w w') n₂ c₂))
    beside to w n₁ c₁ a (refused e) g = g
    beside to w n₁ c₁ a (walked w' n₂ c₂) g =
        let a0 = a.0 in let a1 = a.1 in
        let g0 = g.0 in let g1 = g.1 in
        (omega arith, omega arith, g.2)

    below : (to : ℕ) (v : Walked) → Slow (n + 1) c v → ((n₁ c₁ : ℕ) → c₁ ≤ n₁ → n₁ ≤ 1024 → Slow n₁ c₁ (others n₁ c₁))
        → Slow n c (and_then v (λ w n₁ c₁. and_then (others n₁ c₁) (λ w' n₂ c₂. walked (reduce k to w w') n₂ c₂)))
    below to (refused e) g go = g
    below to (walked w n₁ c₁) g go =
        let g0 = g.0 in
        beside to w n₁ c₁ g (others n₁ c₁) (go n₁ c₁ (omega arith) g.2)

state_slow : (t : Table) (left : ℕ) (deeper : List ℕ → ℕ → ℕ → Walked) → SlowFrom deeper → (a : ActionRecord) (st : List ℕ) (n c : ℕ) → c ≤ n → n ≤ 1024
    → Slow n c (walk_state t enough_room left deeper a st n c)
unfolding walk_state
state_slow t left deeper h a st n c l f =
    if_slow n c (both (shifts a.shift) (ltb 64 (length st + 1))) (refused TooHigh) _ (omega arith, omega arith) λ _.
    rules_slow t left deeper h a.shift st a.rules n c l f

walk_slow : (left : ℕ) (t : Table) (class : ℕ) → SlowFrom (walk_from left t enough_room class)
unfolding walk_from
walk_slow zero t class st n c l f = state_slow t 0 (λ st' n' c'. refused ChainTooLong) (λ st' n' c' _ _. (omega arith, omega arith)) (record_at t class st) st n c l f
walk_slow (suc left) t class st n c l f = state_slow t (suc left) (λ st' n' c'. walk_from left t enough_room class st' n' c') (λ st' n' c' l' f'. walk_slow left t class st' n' c' l' f') (record_at t class st) st n c l f

-- The questions.
abbrev pub OnlyFrom6To10 : QuestionAnswer → Type 0
OnlyFrom6To10 (Ok b) = Unit {0}
OnlyFrom6To10 (Err k) = From6To10 k

or_only : (a b : QuestionAnswer) → OnlyFrom6To10 a → OnlyFrom6To10 b → OnlyFrom6To10 (or_else a b)
or_only (Ok true) b h g = tt
or_only (Ok false) b h g = g
or_only (Err k) b h g = h

plan_only : (t : Table) (class : ℕ) (st : List ℕ) → OnlyFrom6To10 (can_plan t class st)
unfolding can_plan plan
plan_only t class st = at (walk_from 32 t enough_room class st 0 0) (walk_slow 32 t class st 0 0 (omega arith) (omega arith))
  where
    at : (v : Walked) → Slow 0 0 v → OnlyFrom6To10 (planned v)
    at (refused k) h = h
    at (walked w n c) h = tt

pub takes_only : (t : Table) (class : ℕ) (rs : List Reading) → OnlyFrom6To10 (takes t class rs)
unfolding takes
takes_only t class [] = tt
takes_only t class (r ∷ rs) = or_only (can_plan t class (states r.stack)) (takes t class rs) (plan_only t class (states r.stack)) (takes_only t class rs)

pub can_end_only : (t : Table) (rs : List Reading) → OnlyFrom6To10 (can_end t rs)
unfolding can_end
can_end_only t rs = takes_only t 0 rs

from_only : (t : Table) (st : List ℕ) → OnlyFrom6To10 (recovers_from t st)
unfolding recovers_from
from_only t [] = tt
from_only t (s ∷ st) = or_only (can_plan t 1 (s ∷ st)) (recovers_from t st) (plan_only t 1 (s ∷ st)) (from_only t st)

some_only : (t : Table) (rs : List Reading) → OnlyFrom6To10 (some_recovers t rs)
unfolding some_recovers
some_only t [] = tt
some_only t (r ∷ rs) = or_only (recovers_from t (states r.stack)) (some_recovers t rs) (from_only t (states r.stack)) (some_only t rs)

pub can_recover_only : (t : Table) (rs : List Reading) → OnlyFrom6To10 (can_recover t rs)
unfolding can_recover
can_recover_only t rs = at t.recovers
  where
    at : (b : Bool) → OnlyFrom6To10 (if b then some_recovers t rs else Ok false)
    at true = some_only t rs
    at false = tt
