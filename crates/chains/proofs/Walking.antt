-- Laws of the planners' walks: what each answers at each of its ways out. Assumes nothing.
use Prim.Native.Nat.{ℕ, zero, suc, ◌+◌, ◌*◌, ◌-◌, ◌<◌, ◌≤◌}
use native.Mathlib.Omega.{arith}
use native.Mathlib.Numerals.{sub-one}
use mathlib.Core.Path.{◌≡◌, refl, sym, ap, ◌∙◌, subst}
use mathlib.Core.Bool.{Bool, true, false}
use mathlib.Core.List.{List, ◌∷◌}
use lib.Dec.{ltb}
use lib.ListN.{length, get_or, take, length-take}
use Rattle.meaning.specs.Basics.{both}
use Rattle.std.specs.Prelude.{if◌then◌else◌, Result, Ok, Err, Option}
use Rattle.meaning.specs.TableFile.{Table, ActionRecord, action_of}
use Rattle.meaning.specs.TableRight.{shifts}
use Rattle.meaning.specs.Chains.{record_at}
use Rattle.meaning.specs.Walk.{Walk, reduce, Walked, refused, walked, and_then, walk_rules, walk_state, walk_from, size, chains}
use Rattle.meaning.specs.declared.Refusal.{Refusal}
use Rattle.meaning.specs.declared.Refusal.TheVariants.{TooHigh}
use Rattle.meaning.specs.declared.StateNo.{StateNo}
use Rattle.meaning.proofs.Trees.{walk_is}
use Rattle.numbers.specs.Writing.{Agree}
use Rattle.table.specs.Answers.{action_answer}
use Rattle.table.specs.declared.Action.{Action}
use Rattle.chains.specs.Actions.{shift_of, rules_from, too_high}
use Rattle.chains.specs.Simulated.{stack_of, Pushed}
use Rattle.chains.specs.Reducing.{Stepped, reduced_to, IsReduction}
use Rattle.chains.specs.Marks.{put_mark, Marked, MarksHold}
use Rattle.chains.specs.Planning.{plan_of, ends_as, deeper_of, state_walk, rules_walk, Ready, RulesReady, MarkReady, Answers}
use Rattle.chains.specs.declared.Ask.{Ask}
use Rattle.chains.specs.declared.Planned.{Planned}
use Rattle.chains.specs.declared.reducing.Stack.{Stack}
use Rattle.chains.specs.declared.reducing.Progress.{Progress}
use Rattle.chains.specs.declared.reducing.Reduced.{Reduced}
use Rattle.chains.proofs.Actions.{rule_at, no_rules, more_rules, shifts_back, found_shift, found_rules}
use Rattle.chains.proofs.Arrays.{length_stack_of}
use Rattle.chains.proofs.Endings.{end_holds}
use Rattle.chains.proofs.Marking.{narrow, length_put_mark, marked_node, kept_node}

-- The walk one chain step on, and the walk of a state.
pub deeper_is : (left : ℕ) (t : Table) (room class : ℕ) (st : List ℕ) (n c : ℕ) → 1 ≤ left → deeper_of left t room class st n c ≡ walk_from (left - 1) t room class st n c
unfolding deeper_of
deeper_is zero t room class st n c h = absurd (omega arith)
deeper_is (suc left) t room class st n c h = ap (λ (l : ℕ). walk_from l t room class st n c) (sym (sub-one (suc left)))

pub walk_state_lem : (left : ℕ) (t : Table) (room class : ℕ) (st : List ℕ) (n c : ℕ)
    → walk_from left t room class st n c ≡ walk_state t room left (deeper_of left t room class) (record_at t class st) st n c
unfolding walk_from deeper_of
walk_state_lem zero t room class st n c = refl
walk_state_lem (suc left) t room class st n c = refl

-- Answers.
said_refused : (e : Refusal) (m m' : List ℕ) (at : Progress) (x : Walked) → x ≡ refused e → Agree m' m 0 (at.walked * 4) → Answers (Err e) m m' at x
said_refused e m m' at x is kept = subst (λ (y : Walked). Answers (Err e) m m' at y) (sym is) (record { says = refl; holds = tt; keeps = kept })

pub plan_refused : (x : Walked) (e : Refusal) → Err e ≡ plan_of x → x ≡ refused e
plan_refused (refused k) e h = cc
plan_refused (walked w n c) e h = cc

-- a walk that is answered by counts
pub record Found (x : Walked) (n c : ℕ) : Type 0 where
  pub walk : Walk
  pub is : x ≡ walked walk n c

counts_of : Result Planned Refusal → Planned
counts_of (Ok p) = p
counts_of (Err k) = record { walked = 0; chains = 0 }

pub plan_walked : (x : Walked) (n c : ℕ) → Ok (record { walked = n; chains = c }) ≡ plan_of x → Found x n c
unfolding counts_of
plan_walked (refused k) n c h = cc
plan_walked (walked w n' c') n c h = record { walk = w; is = ap (λ (p : Planned). walked w p.walked p.chains) (sym (ap counts_of h)) }

-- what the rest of the rule list answers is the answer, and with the reduction's mark the marks hold all of it
node_answer : (m₃ : List ℕ) (n : ℕ) (at : Progress) (rule to : ℕ) (below : Walk) (q : Result Planned Refusal) (x : Walked) → q ≡ plan_of x → MarksHold m₃ n x
    → ((beside : Walk) → Marked m₃ n beside → Marked m₃ at.walked (reduce rule to below beside)) → (m : List ℕ) → Agree m₃ m 0 (at.walked * 4)
    → Answers q m m₃ at (and_then x (λ beside n' c'. walked (reduce rule to below beside) n' c'))
node_answer m₃ n at rule to below q (refused e) says holds whole m kept = record { says = says; holds = tt; keeps = kept }
node_answer m₃ n at rule to below q (walked beside n' c') says holds whole m kept = record { says = says; holds = whole beside holds; keeps = kept }

-- How far a rule list is walked: what the rest of it answers from here on is what all of it answers.
pub record SoFar (t : Table) (ask : Ask) (stack : Stack) (m₀ : List ℕ) (a : Action) (from : Progress) (m : List ℕ) (at : Progress) (next : ℕ) : Type 0 where
  pub ready : RulesReady ask stack at a m
  pub left : at.left ≡ from.left
  pub rest : (r : Result Planned Refusal) (m' : List ℕ) → Answers r m m' at (rules_walk t ask stack at a next) → Answers r m₀ m' from (rules_walk t ask stack from a 0)

-- A rule list on the way: the first `count` of the action's rules, walked up to the one numbered i.
module _ (t : Table) (ask : Ask) (stack : Stack) (m₀ : List ℕ) (a : Action) (from : Progress) (m : List ℕ) (at : Progress) (i count : ℕ)
    (so_far : SoFar t ask stack m₀ a from m at i) (counts : count ≡ a.count) where
  abbrev here : Walked
  here = rules_walk t ask stack at a i

  abbrev whole : Walked
  whole = rules_walk t ask stack from a 0

  -- one rule on, after n reductions and c chains
  abbrev onward : (n c : ℕ) → Progress
  onward n c = record { left = at.left; walked = n; chains = c }

  abbrev besides : (to : ℕ) → Walk → (n c : ℕ) → Walked
  besides to below n c = and_then (rules_walk t ask stack (onward n c) a (i + 1)) (λ beside n' c'. walked (reduce (rule_at a i) to below beside) n' c')

  -- no rule is left
  pub said_end : (r : Result Planned Refusal) → length (take count a.rules) ≤ i → length a.rules ≡ 4 → r ≡ plan_of (ends_as a ask.room at) → Answers r m₀ m from whole
  unfolding rules_walk walk_rules
  said_end r le full e =
      let four = so_far.ready.four in
      let past : a.count ≤ i = let l = length-take count a.rules in omega arith in
      so_far.rest r m
      (subst (λ (ks : List ℕ). Answers r m m at (walk_rules t ask.room at.left (deeper_of at.left t ask.room ask.class) (shift_of a) (stack_of stack.states stack.height) ks at.walked at.chains))
      (sym (no_rules a i past))
      (record { says = e; holds = end_holds m at.walked ask.room (shift_of a) at.walked at.chains; keeps = λ j _ _. refl }))

  -- a rule is left, and was tried
  module _ (more : i < length (take count a.rules)) where
    abbrev Tried : Result Reduced Refusal → Type 0
    Tried = IsReduction t (get_or (take count a.rules) i 0) stack at

    abbrev after : ℕ → List ℕ → Walked
    after to rest = and_then (deeper_of at.left t ask.room ask.class (to ∷ rest) (at.walked + 1) at.chains) (besides to)

    walks_on : (red : Result Reduced Refusal) → Tried red → here ≡ reduced_to stack.states red after
    unfolding rules_walk walk_rules
    walks_on red is =
        let more' : i < length (take a.count a.rules) = rw (← counts) more in
        let is' : IsReduction t (rule_at a i) stack at red = rw (← counts) is in
        rw (more_rules a i more') (is'.same after)

    pub said_reduced : (e : Refusal) → Tried (Err e) → Answers (Err e) m₀ m from whole
    said_reduced e is = so_far.rest (Err e) m (said_refused e m m at here (walks_on (Err e) is) (λ j _ _. refl))

    -- it leads on, to a stack that is walked one step on
    module _ (to : Reduced) (is : Tried (Ok to)) (higher : Stack) (push : Pushed stack to.base to.state higher) (on : Progress) (step : Stepped at on) where
      abbrev deeper : Walked
      deeper = state_walk t ask higher on

      goes_below : here ≡ and_then deeper (besides to.state.0)
      unfolding state_walk
      goes_below =
          let st : List ℕ = to.state.0 ∷ stack_of stack.states to.base in
          let deep : deeper_of at.left t ask.room ask.class st (at.walked + 1) at.chains ≡ deeper =
          deeper_is at.left t ask.room ask.class st (at.walked + 1) at.chains is.allowed.0
          ∙ cc (push.same, step.left, step.walked, step.chains) in
          walks_on (Ok to) is ∙ ap (λ (x : Walked). and_then x (besides to.state.0)) deep

      pub ready_below : Ready ask higher on m
      ready_below =
          let r = so_far.ready.ready in
          let few = is.allowed.1 in
          record { stands = push.stands; few = omega (arith, step.walked); fits = omega (arith, step.chains, r.fits); bound = r.bound; long = r.long }

      -- and was answered
      module _ (m₁ : List ℕ) (kept : length m₁ ≡ length m) where
        kept_below : Agree m₁ m 0 (on.walked * 4) → Agree m₁ m 0 ((at.walked + 1) * 4)
        kept_below k = subst (λ (n : ℕ). Agree m₁ m 0 (n * 4)) step.walked k

        pub said_below : (e : Refusal) → Answers (Err e) m m₁ on deeper → Answers (Err e) m₀ m₁ from whole
        said_below e said =
            let x : deeper ≡ refused e = plan_refused deeper e said.says in
            so_far.rest (Err e) m₁
            (said_refused e m m₁ at here (goes_below ∙ ap (λ (y : Walked). and_then y (besides to.state.0)) x)
            (narrow m₁ m 0 ((at.walked + 1) * 4) (kept_below said.keeps) 0 (at.walked * 4) (omega arith) (omega arith)))

        -- it was walked, with meaning's counts
        module _ (done : Planned) (said : Answers (Ok done) m m₁ on deeper) where
          abbrev n : ℕ
          n = done.walked

          abbrev c : ℕ
          c = done.chains

          found : Found deeper n c
          found = plan_walked deeper n c said.says

          counted : (n ≡ at.walked + (1 + size found.walk)) × (c ≡ at.chains + chains found.walk) × (n ≤ 1024) × (c ≤ ask.room)
          unfolding state_walk
          counted =
              let r = so_far.ready.ready in
              let fits = r.fits in
              let few = is.allowed.1 in
              let w = walk_is on.left t ask.room ask.class (stack_of higher.states higher.height) on.walked on.chains found.walk n c found.is in
              let e₁ = step.walked in
              let e₂ = step.chains in
              let s₁ = ap size w.tree_is in
              let s₂ = ap chains w.tree_is in
              let c₁ = w.count_is in
              let c₂ = w.chains_is in
              (omega arith, omega arith, w.few (omega arith), w.fits (omega arith))

          pub ready_mark : MarkReady m₁ at (onward n c)
          ready_mark =
              let k = counted in
              let r = so_far.ready.ready in
              let bound = r.bound in
              let long = r.long in
              record { more = omega arith; few = k.2; grown = omega arith; bound = omega arith; long = omega arith }

          said_node : (m₂ m₃ : List ℕ) (q : Result Planned Refusal) → m₂ ≡ put_mark m₁ at.walked (c - at.chains) (n - at.walked)
              → Answers q m₂ m₃ (onward n c) (rules_walk t ask stack (onward n c) a (i + 1)) → Answers q m m₃ at here
          said_node m₂ m₃ q put rest =
              let k = counted in
              let few = is.allowed.1 in
              let long = so_far.ready.ready.long in
              let w : Walk = found.walk in
              let here_is : here ≡ besides to.state.0 w n c = goes_below ∙ ap (λ (y : Walked). and_then y (besides to.state.0)) found.is in
              let e₁ : c - at.chains ≡ chains w = omega arith in
              let e₂ : n - at.walked ≡ 1 + size w = omega arith in
              let put' : m₂ ≡ put_mark m₁ at.walked (chains w) (1 + size w) = put ∙ (λ j. put_mark m₁ at.walked (e₁ j) (e₂ j)) in
              let full : (at.walked + 1) * 4 ≤ length m₁ = omega arith in
              let same : Agree m₃ m₂ 0 ((at.walked + (1 + size w)) * 4) = subst (λ (j : ℕ). Agree m₃ m₂ 0 (j * 4)) k.0 rest.keeps in
              let own : Marked m₁ (at.walked + 1) w = subst (λ (j : ℕ). Marked m₁ j w) step.walked (subst (MarksHold m₁ on.walked) found.is said.holds) in
              subst (λ (x : Walked). Answers q m m₃ at x) (sym here_is)
              (node_answer m₃ n at (rule_at a i) to.state.0 w q (rules_walk t ask stack (onward n c) a (i + 1)) rest.says rest.holds
              (λ beside g. marked_node m₁ m₂ m₃ at.walked w full put' same (rule_at a i) to.state.0 beside own (subst (λ (j : ℕ). Marked m₃ j beside) k.0 g))
              m (kept_node m₁ m₂ m₃ at.walked w full put' same m (kept_below said.keeps)))

          pub so_far_next : (m₂ : List ℕ) → m₂ ≡ put_mark m₁ at.walked (c - at.chains) (n - at.walked) → SoFar t ask stack m₀ a from m₂ (onward n c) (i + 1)
          so_far_next m₂ put =
              let r = so_far.ready.ready in
              let k = counted in
              record {
                ready = record {
                  ready = record { stands = r.stands; few = k.2; fits = k.3; bound = r.bound; long = ap length put ∙ length_put_mark m₁ _ _ _ ∙ kept ∙ r.long };
                  four = so_far.ready.four;
                };
                left = so_far.left;
                rest = λ q m' x. so_far.rest q m' (said_node m₂ m' q put x);
              }

-- A state: its record's rules, unless it is reached too high up to shift.
module _ (t : Table) (ask : Ask) (stack : Stack) (at : Progress) (top : StateNo) (on-top : top.0 ≡ get_or (stack_of stack.states stack.height) 0 0)
    (a : Action) (is : a ≡ action_answer (action_of t top.0 ask.class)) (four : a.count ≤ 4) where
  abbrev found_at : ActionRecord
  found_at = action_of t top.0 ask.class

  state_is : state_walk t ask stack at ≡ (if too_high a stack.height then refused TooHigh else rules_walk t ask stack at a 0)
  unfolding state_walk rules_walk walk_state record_at action_answer
  state_is =
      let st : List ℕ = stack_of stack.states stack.height in
      let go : Bool → Option ℕ → List ℕ → Walked =
      λ b sh ks. (if b then refused TooHigh else walk_rules t ask.room at.left (deeper_of at.left t ask.room ask.class) sh st ks at.walked at.chains) in
      let e₁ : both (shifts found_at.shift) (ltb 64 (length st + 1)) ≡ too_high a stack.height = rw (length_stack_of stack.states stack.height, is, shifts_back found_at.shift) refl in
      let e₃ : found_at.rules ≡ rules_from a 0 = sym (found_rules t top.0 ask.class a is four) in
      let e₂ : found_at.shift ≡ shift_of a = sym (found_shift t top.0 ask.class a is) in
      walk_state_lem at.left t ask.room ask.class st at.walked at.chains
      ∙ ap (λ (q : ℕ). go (both (shifts (action_of t q ask.class).shift) (ltb 64 (length st + 1))) (action_of t q ask.class).shift (action_of t q ask.class).rules) (sym on-top)
      ∙ (λ i. go (e₁ i) (e₂ i) (e₃ i))

  module _ (b : Bool) (high : b ≡ too_high a stack.height) where
    pub said_high : (m : List ℕ) → b ≡ true → Answers (Err TooHigh) m m at (state_walk t ask stack at)
    said_high m e = said_refused TooHigh m m at (state_walk t ask stack at) (state_is ∙ rw (← high, e)) (λ i _ _. refl)

    pub said_rules : (r : Result Planned Refusal) (m m' : List ℕ) → b ≡ false → Answers r m m' at (rules_walk t ask stack at a 0) → Answers r m m' at (state_walk t ask stack at)
    said_rules r m m' e h =
        let x : state_walk t ask stack at ≡ rules_walk t ask stack at a 0 = state_is ∙ rw (← high, e) in
        subst (λ (y : Walked). Answers r m m' at y) (sym x) h
