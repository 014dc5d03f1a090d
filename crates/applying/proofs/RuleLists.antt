-- How far a rule list is: one rule after the other, each with what stands below it. Assumes nothing.
use Rattle.std.proofs.Common.{ℕ, ◌+◌, ◌<◌, ◌≤◌, ◌≡◌, sym, ap, ◌∙◌, List, length, get_or, take, arith, length-take}
use Rattle.meaning.specs.Applying.{Applied, nothing_applied, then_applied}
use Rattle.table.specs.declared.Action.{Action}
use Rattle.chains.specs.Actions.{shift_of, rules_from}
use Rattle.chains.specs.Following.{FollowsRule}
use Rattle.chains.specs.Marks.{chains_mark, size_mark}
use Rattle.chains.proofs.Actions.{rule_at}
use Rattle.meaning.specs.Readings.{states}
use Rattle.actions.specs.Acting.{stack_in}
use Rattle.actions.specs.Steps.{StepReady, Reduces, Refuses}
use Rattle.actions.specs.Telling.{Told}
use Rattle.actions.specs.declared.Counts.{Counts}
use Rattle.actions.specs.declared.Top.{Top}
use Rattle.applying.specs.Following.{marks_of, Place, place, applied, Way, RulesFit, StateReady, StateDone, RulesReady, RulesDone, EndReady, EndDone}
use Rattle.applying.proofs.Windows.{length_marks}
use Rattle.applying.proofs.Rules.{end_ready, told_end, node, others, fit_rest, told_rest, dead, told_dead, step_ready, refusal, told_refusal, reduction, fit_below, told_below}

-- It is ready to go on from q, before the rule numbered `next`, and who is done from there is done from p on.
pub record Followed (p : Place) (a : Action) (next : ℕ) (q : Place) : Type 0 where
  pub ready : RulesReady q a next
  pub behind : p.at ≤ q.at
  pub rest : (w' : List ℕ) (n' : Counts) → RulesDone q a next w' n' → RulesDone p a 0 w' n'

-- What a rule came to, whatever walk was planned: an outcome, and then what stands beside it.
record RuleDone (p : Place) (a : Action) (next : ℕ) (lt : next < length (take a.count a.rules)) (w' : List ℕ) (n' : Counts) (y : Way) (g : RulesFit p a next y) : Type 0 where
  outcome : Applied
  is : applied p y.tree ≡ then_applied outcome (others p a next lt y g)
  told : Told p.ask.list p.work p.counts w' n' outcome

module _ (p : Place) (a : Action) (next : ℕ) (q : Place) (f : Followed p a next q) (count : ℕ) (counts : count ≡ a.count) where
  -- no rule is left
  module _ (le : length (take count a.rules) ≤ next) (full : length a.rules ≡ 4) where
    past : a.count ≤ next
    past = let four = f.ready.four in let l = length-take count a.rules in omega arith

    pub list_end : EndReady q.ask q.work q.reading q.counts a
    list_end = end_ready q a next past f.ready.way f.ready.fit

    pub list_done : (w' : List ℕ) (n' : Counts) → EndDone q.ask q.work q.reading q.counts a w' n' → RulesDone p a 0 w' n'
    list_done w' n' done = f.rest w' n' (told_end q a next past w' n' done)

  -- a rule is left
  module _ (more : next < length (take count a.rules)) where
    abbrev rule : ℕ
    rule = get_or (take count a.rules) next 0

    lt : next < length (take a.count a.rules)
    lt = rw (← counts) more

    rule_is : rule ≡ rule_at a next
    rule_is = ap (λ (n : ℕ). get_or (take n a.rules) next 0) counts

    abbrev y : Way
    y = f.ready.way

    here : FollowsRule y.left q.table y.room q.ask.term.class (shift_of a) (states (stack_in q.work q.reading)) (rule_at a next) (rules_from a (next + 1)) (marks_of q.work) q.at y.tree
    here = node q a next lt y f.ready.fit

    pub mark_ready : (m : List ℕ) → m ≡ marks_of q.work → (q.at < 1024) × (4096 ≤ length m)
    mark_ready m e = let l = length_marks q.work f.ready.fit.fits.area.long in (here.few, rw e (omega arith))

    -- what its marks say: so many chains end below it, and what stands beside it begins behind them
    module _ (size : ℕ) (sized : size ≡ size_mark (marks_of q.work) q.at) where
      pub few_marks : q.at + size ≤ 1024
      few_marks = rw sized here.rest_few

      next_by : (w' : List ℕ) (n' : Counts) → ((y : Way) (g : RulesFit q a next y) → RuleDone q a next lt w' n' y g) → Followed p a (next + 1) (place q.table q.ask w' q.reading n' (q.at + size))
      next_by w' n' done =
          let d = done y f.ready.fit in
          let b = f.behind in
          let at : q.at + size ≡ q.at + size_mark (marks_of q.work) q.at = ap (λ (n : ℕ). q.at + n) sized in
          record {
            ready = record { four = f.ready.four; way = _; fit = fit_rest q a next lt y f.ready.fit d.outcome d.is w' n' d.told (q.at + size) at };
            behind = omega arith;
            rest = λ w'' n'' e. f.rest w'' n'' (λ y' g. let h = done y' g in told_rest q a next lt y' g h.outcome h.is w' n' h.told (q.at + size) at w'' n'' e);
          }

      module _ (chains : ℕ) (counted : chains ≡ chains_mark (marks_of q.work) q.at) where
        -- a dead end is passed over
        pub past_dead : chains ≡ 0 → Followed p a (next + 1) (place q.table q.ask q.work q.reading q.counts (q.at + size))
        past_dead z = next_by q.work q.counts (λ y g. record { outcome = nothing_applied q.counts.cells; is = dead q a next lt y g (sym counted ∙ z); told = told_dead q a next lt y g })

        -- a reduction with chains
        module _ (some : chains ≡ 0 → ⊥) where
          live : chains_mark (marks_of q.work) q.at ≡ 0 → ⊥
          live z = some (counted ∙ z)

          pub rule_ready : StepReady q.table q.work q.reading q.counts rule
          rule_ready = rw rule_is (step_ready q a next lt y f.ready.fit live)

          -- its action refused
          pub past_refused : (w₁ : List ℕ) (n₁ : Counts) → Refuses q.table q.work q.reading q.counts rule w₁ n₁ → Followed p a (next + 1) (place q.table q.ask w₁ q.reading n₁ (q.at + size))
          past_refused w₁ n₁ d =
              let d' : Refuses q.table q.work q.reading q.counts (rule_at a next) w₁ n₁ = rw (← rule_is) d in
              next_by w₁ n₁ (λ y g. record { outcome = _; is = refusal q a next lt y g live w₁ n₁ d'; told = told_refusal q a next lt y g live w₁ n₁ d' })

          -- its action gave a value: the chains below it come first
          module _ (w₁ : List ℕ) (r₁ : Top) (n₁ : Counts) (d : Reduces q.table q.work q.reading q.counts rule w₁ r₁ n₁) where
            d' : Reduces q.table q.work q.reading q.counts (rule_at a next) w₁ r₁ n₁
            d' = rw (← rule_is) d

            pub below_ready : StateReady (place q.table q.ask w₁ r₁ n₁ (q.at + 1))
            below_ready = record { way = _; fit = fit_below q a next lt y f.ready.fit live w₁ r₁ n₁ d' }

            pub past_reduced : (w₂ : List ℕ) (n₂ : Counts) → StateDone (place q.table q.ask w₁ r₁ n₁ (q.at + 1)) w₂ n₂ → Followed p a (next + 1) (place q.table q.ask w₂ q.reading n₂ (q.at + size))
            past_reduced w₂ n₂ e = next_by w₂ n₂ (λ y g. record { outcome = _; is = reduction q a next lt y g live w₁ r₁ n₁ d'; told = told_below q a next lt y g live w₁ r₁ n₁ d' w₂ n₂ e })
