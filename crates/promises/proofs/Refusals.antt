-- What planning refuses a feed by: 6 to 11 only. So 1 to 5 come from the checks before it, and each from one check. Assumes nothing.
use Prim.Native.Nat.{ℕ, zero, suc, ◌+◌, ◌≤◌}
use mathlib.Core.Path.{◌≡◌, refl}
use mathlib.Core.Bool.{Bool, true, false, not}
use mathlib.Core.List.{List, [], ◌∷◌, ◌++◌, reverse}
use mathlib.Core.Logic.{◌⊎◌, inl, inr}
use lib.Dec.{leb, ltb, eqb}
use lib.ListN.{length, get_or, drop}
use native.Mathlib.Omega.{arith}
use Rattle.meaning.specs.Answers.{number}
use Rattle.meaning.specs.Applying.{Applied, apply, joined, nothing_applied, one_result}
use Rattle.meaning.specs.Basics.{both, either, is_nil}
use Rattle.std.specs.Prelude.{if◌then◌else◌, Option, None, Some}
use Rattle.meaning.specs.Chains.{record_at}
use Rattle.meaning.specs.Feeding.{Planned, no_plan, plans, add_reading, add_plan, plan_all, apply_all, some_took, none_took, First, refuses, settles, must_recover, settle, first_of, first, finish, feed}
use Rattle.meaning.specs.Outcome.{Fed}
use Rattle.meaning.specs.Readings.{Entry, Reading, states}
use Rattle.meaning.specs.Recovery.{Stage, stopped, came, then_stage, if_planned, error_term, is_held, recover_one, recover_all, stays, take_term, term_taken, none_recovered, after_recovery, recover}
use Rattle.meaning.specs.TableFile.{Table, ActionRecord, goto_of, rule_of}
use Rattle.meaning.specs.TableRight.{shifts}
use Rattle.meaning.specs.Walk.{Walk, shift, reduce, Walked, refused, walked, and_then, end_chain, or_no_goto, reduction, walk_rules, walk_state, walk_from, plan, ends}
use Rattle.meaning.specs.declared.Refusal.{Refusal}
use Rattle.meaning.specs.declared.Refusal.TheVariants.{ReachesStart, TooHigh, ChainTooLong, WalkTooLong, TooManyReadings}
use Rattle.meaning.specs.declared.Rule.{Rule}
use Rattle.meaning.specs.declared.Term.{Term}

abbrev From6To11 : Refusal → Type 0
From6To11 k = (6 ≤ number k) × (number k ≤ 11)

-- A walk.

abbrev Late : Walked → Type 0
Late (refused k) = From6To11 k
Late (walked w n c) = Unit {0}

if_late : (b : Bool) (v w : Walked) → Late v → Late w → Late (if b then v else w)
if_late true v w h g = h
if_late false v w h g = g

goto_late : (m : Option ℕ) (f : ℕ → Walked) → ((to : ℕ) → Late (f to)) → Late (or_no_goto m f)
goto_late None f h = (omega arith, omega arith)
goto_late (Some to) f h = h to

end_late : (room : ℕ) (sh : Option ℕ) (n c : ℕ) → Late (end_chain room sh n c)
unfolding end_chain
end_late room None n c = tt
end_late room (Some to) n c = if_late (ltb c room) (walked (shift (Some to)) n (c + 1)) (refused TooManyReadings) tt (omega arith, omega arith)

then_late : (v : Walked) (f : Walk → ℕ → ℕ → Walked) → Late v → ((w : Walk) (n c : ℕ) → Late (f w n c)) → Late (and_then v f)
then_late (refused k) f h g = h
then_late (walked w n c) f h g = g w n c

reduction_late : (t : Table) (q : Rule) (st : List ℕ) (left n : ℕ) (go : ℕ → List ℕ → Walked) → ((to : ℕ) (rest : List ℕ) → Late (go to rest)) → Late (reduction t q st left n go)
unfolding reduction
reduction_late t q st left n go h =
    if_late (leb 1024 n) (refused WalkTooLong) _ (omega arith, omega arith)
    (if_late (eqb left 0) (refused ChainTooLong) _ (omega arith, omega arith)
    (if_late (leb (length st) q.len) (refused ReachesStart) _ (omega arith, omega arith)
    (goto_late (goto_of t (get_or (drop q.len st) 0 0) q.left) _ (λ to.
    if_late (ltb 64 (length (drop q.len st) + 1)) (refused TooHigh) _ (omega arith, omega arith) (h to (drop q.len st))))))

abbrev AllLate : (List ℕ → ℕ → ℕ → Walked) → Type 0
AllLate deeper = (st : List ℕ) (n c : ℕ) → Late (deeper st n c)

rules_late : (t : Table) (room left : ℕ) (deeper : List ℕ → ℕ → ℕ → Walked) → AllLate deeper → (sh : Option ℕ) (st ks : List ℕ) (n c : ℕ) → Late (walk_rules t room left deeper sh st ks n c)
unfolding walk_rules
rules_late t room left deeper h sh st [] n c = end_late room sh n c
rules_late t room left deeper h sh st (k ∷ ks) n c =
    reduction_late t (rule_of t k) st left n _ (λ to rest.
    then_late (deeper (to ∷ rest) (n + 1) c) _ (h (to ∷ rest) (n + 1) c) (λ below n' c'.
    then_late (walk_rules t room left deeper sh st ks n' c') (λ beside n'' c''. walked (reduce k to below beside) n'' c'') (rules_late t room left deeper h sh st ks n' c') (λ beside n'' c''. tt)))

state_late : (t : Table) (room left : ℕ) (deeper : List ℕ → ℕ → ℕ → Walked) → AllLate deeper → (a : ActionRecord) (st : List ℕ) (n c : ℕ) → Late (walk_state t room left deeper a st n c)
unfolding walk_state
state_late t room left deeper h a st n c =
    if_late (both (shifts a.shift) (ltb 64 (length st + 1))) (refused TooHigh) _ (omega arith, omega arith) (rules_late t room left deeper h a.shift st a.rules n c)

walk_late : (left : ℕ) (t : Table) (room class : ℕ) → AllLate (walk_from left t room class)
unfolding walk_from
walk_late zero t room class st n c = state_late t room 0 (λ st' n' c'. refused ChainTooLong) (λ st' n' c'. (omega arith, omega arith)) (record_at t class st) st n c
walk_late (suc left) t room class st n c = state_late t room (suc left) (λ st' n' c'. walk_from left t room class st' n' c') (λ st' n' c'. walk_late left t room class st' n' c') (record_at t class st) st n c

plan_late : (t : Table) (room class : ℕ) (st : List ℕ) (c : ℕ) → Late (plan t room class st c)
unfolding plan
plan_late t room class st c = walk_late 32 t room class st 0 c

-- The first planning.

abbrev LatePlans : Planned → Type 0
LatePlans (no_plan k) = From6To11 k
LatePlans (plans ps left w c) = Unit {0}

add_late : (r : Reading) (tree : Walk) (n : ℕ) (p : Planned) → LatePlans p → LatePlans (add_reading r tree n p)
add_late r tree n (no_plan k) h = h
add_late r tree n (plans ps left w c) h = at (ends tree)
  where
    at : (b : Bool) → LatePlans (if b then plans ((r, tree) ∷ ps) left (n + w) c else plans ps (r ∷ left) (n + w) c)
    at true = tt
    at false = tt

add_plan_late : (r : Reading) (v : Walked) (go : ℕ → Planned) → Late v → ((c : ℕ) → LatePlans (go c)) → LatePlans (add_plan r v go)
add_plan_late r (refused k) go h g = h
add_plan_late r (walked tree n c) go h g = add_late r tree n (go c) (g c)

plans_late : (t : Table) (class : ℕ) (rs : List Reading) (c : ℕ) → LatePlans (plan_all t class rs c)
unfolding plan_all
plans_late t class [] c = tt
plans_late t class (r ∷ rs) c = add_plan_late r (plan t 16 class (states r.stack) c) (λ c'. plan_all t class rs c') (plan_late t 16 class (states r.stack) c) (λ c'. plans_late t class rs c')

-- Recovery's stages.

abbrev LateStage : Stage → Type 0
LateStage (stopped k) = From6To11 k
LateStage (came a w c) = Unit {0}

if_stage : (b : Bool) (p q : Stage) → LateStage p → LateStage q → LateStage (if b then p else q)
if_stage true p q h g = h
if_stage false p q h g = g

planned_stage : (v : Walked) (f : Walk → ℕ → ℕ → Stage) (g : ℕ → ℕ → Stage) → Late v → ((tree : Walk) (n c : ℕ) → LateStage (f tree n c)) → ((n c : ℕ) → LateStage (g n c)) → LateStage (if_planned v f g)
planned_stage (refused k) f g h a b = h
planned_stage (walked tree n c) f g h a b = if_stage (ends tree) (f tree n c) (g n c) (a tree n c) (b n c)

one_stage : (t : Table) (held : List Reading) (m : ℕ) (rest whole : List Entry) (p n w c : ℕ) → LateStage (recover_one t held m rest whole p n w c)
unfolding recover_one
one_stage t held m [] whole p n w c = tt
one_stage t held m (e ∷ rest) whole p n w c =
    if_stage (is_held held e) (came (nothing_applied n) w c) _ tt
    (planned_stage (plan t 16 1 (states (e ∷ rest)) c) (λ tree k c'. came (apply t (error_term whole p) tree (record { mark = m; stack = e ∷ rest }) n) (w + k) c')
    (λ k c'. recover_one t held m rest whole (p + 1) n (w + k) c') (plan_late t 16 1 (states (e ∷ rest)) c) (λ tree k c'. tt) (λ k c'. one_stage t held m rest whole (p + 1) n (w + k) c'))

then_stage_lem : (p : Stage) (f : Applied → ℕ → ℕ → Stage) → LateStage p → ((a : Applied) (w c : ℕ) → LateStage (f a w c)) → LateStage (then_stage p f)
then_stage_lem (stopped k) f h g = h
then_stage_lem (came a w c) f h g = g a w c

all_stage : (t : Table) (rs : List Reading) (d : Applied) (w c : ℕ) → LateStage (recover_all t rs d w c)
unfolding recover_all
all_stage t [] d w c = tt
all_stage t (r ∷ rs) d w c =
    then_stage_lem (recover_one t (rs ++ d.results) r.mark r.stack r.stack 0 d.next w c) (λ a w' c'. recover_all t rs (joined d a) w' c')
    (one_stage t (rs ++ d.results) r.mark r.stack r.stack 0 d.next w c) (λ a w' c'. all_stage t rs (joined d a) w' c')

take_stage : (t : Table) (x : Term) (rs : List Reading) (d : Applied) (w c : ℕ) → LateStage (take_term t x rs d w c)
unfolding take_term
take_stage t x [] d w c = tt
take_stage t x (r ∷ rs) d w c =
    planned_stage (plan t 16 x.class (states r.stack) c) (λ tree k c'. take_term t x rs (joined d (apply t x tree r d.next)) (w + k) c')
    (λ k c'. if ltb c' 16 then take_term t x rs (joined d stayed) (w + k) (c' + 1) else stopped TooManyReadings) (plan_late t 16 x.class (states r.stack) c)
    (λ tree k c'. take_stage t x rs (joined d (apply t x tree r d.next)) (w + k) c')
    (λ k c'. if_stage (ltb c' 16) (take_term t x rs (joined d stayed) (w + k) (c' + 1)) (stopped TooManyReadings) (take_stage t x rs (joined d stayed) (w + k) (c' + 1)) (omega arith, omega arith))
  where
    stayed : Applied
    stayed = one_result (stays r x.end d.next) (d.next + 1)

-- The whole feed: 0, or 6 to 12.

abbrev pub Ranged : ℕ → Type 0
Ranged n = ((n ≡ 0) ⊎ (6 ≤ n)) × (n ≤ 12)

late_ranged : (k : Refusal) → From6To11 k → Ranged (number k)
late_ranged k h = let h0 = h.0 in let h1 = h.1 in (inr h0, omega arith)

if_ranged : (b : Bool) (f g : Fed) → Ranged f.answer → Ranged g.answer → Ranged (if b then f else g).answer
if_ranged true f g h k = h
if_ranged false f g h k = k

taken_ranged : (rs : List Reading) (n : ℕ) (s : Stage) → LateStage s → Ranged (term_taken rs n s).answer
taken_ranged rs n (stopped k) h = late_ranged k h
taken_ranged rs n (came o w c) h = at (is_nil o.results)
  where
    at : (b : Bool) → Ranged (if b then 12 else 0)
    at true = (inr (omega arith), omega arith)
    at false = (inl refl, omega arith)

recovered_ranged : (t : Table) (x : Term) (rs : List Reading) (n : ℕ) (s : Stage) → LateStage s → Ranged (after_recovery t x rs n s).answer
recovered_ranged t x rs n (stopped k) h = late_ranged k h
recovered_ranged t x rs n (came d w c) h =
    let d₀ : Applied = record { results = []; errors = d.errors; next = d.next } in
    let s : Stage = take_term t x (reverse d.results) d₀ w 0 in
    if_ranged (is_nil d.results) (none_recovered rs d w) (term_taken rs n s) (inr (omega arith), omega arith) (taken_ranged rs n s (take_stage t x (reverse d.results) d₀ w 0))

abbrev LateFirst : First → Type 0
LateFirst (refuses k) = From6To11 k
LateFirst (settles f) = Ranged f.answer
LateFirst (must_recover w) = Unit {0}

first_late : (t : Table) (x : Term) (n : ℕ) (p : Planned) → LatePlans p → LateFirst (first_of t x n p)
unfolding settle
first_late t x n (no_plan k) h = h
first_late t x n (plans ps left w c) h = at (is_nil a.results) (either (not t.recovers) (not (is_nil ps)))
  where
    a : Applied
    a = apply_all t x ps n

    at : (b d : Bool) → LateFirst (if not b then settles (some_took left w a) else if d then settles (none_took left w a) else must_recover w)
    at true true = (inr (omega arith), omega arith)
    at true false = tt
    at false d = (inl refl, omega arith)

finish_ranged : (t : Table) (x : Term) (rs : List Reading) (n : ℕ) (f : First) → LateFirst f → Ranged (finish t x rs n f).answer
unfolding recover
finish_ranged t x rs n (refuses k) h = late_ranged k h
finish_ranged t x rs n (settles f) h = h
finish_ranged t x rs n (must_recover w) h = recovered_ranged t x rs n (recover_all t rs (nothing_applied n) w 0) (all_stage t rs (nothing_applied n) w 0)

pub feed_ranged : (t : Table) (x : Term) (rs : List Reading) (next : ℕ) → Ranged (feed t x rs next).answer
unfolding feed first
feed_ranged t x rs n = finish_ranged t x rs n (first t x rs n) (first_late t x n (plan_all t x.class (reverse rs) 0) (plans_late t x.class (reverse rs) 0))
