-- Where a walk that was not refused leads: to targets of the table's gotos and shifts only.
use Prim.Native.Nat.{ℕ, zero, suc, ◌+◌}
use mathlib.Core.Path.{◌≡◌, refl, ap, subst}
use mathlib.Core.List.{List, [], ◌∷◌}
use lib.Dec.{ltb}
use lib.ListN.{length, get_or, drop}
use Rattle.std.specs.Prelude.{Option, None, Some}
use Rattle.meaning.specs.Basics.{both}
use Rattle.meaning.specs.TableFile.{Table, ActionRecord, action_of, goto_of, rule_of}
use Rattle.meaning.specs.TableRight.{shifts}
use Rattle.meaning.specs.Chains.{record_at}
use Rattle.meaning.specs.Walk.{Walk, shift, reduce, Walked, refused, walked, end_chain, walk_rules, walk_state, walk_from, plan}
use Rattle.meaning.specs.declared.Refusal.TheVariants.{TooHigh, ChainTooLong, TooManyReadings}
use Rattle.meaning.proofs.Trees.{refused_not, if_not, if_yes, reduces, walk_of}

-- R holds of every target of the walk
abbrev pub Leads : (ℕ → Type 0) → Walk → Type 0
Leads R (shift None) = Unit {0}
Leads R (shift (Some to)) = R to
Leads R (reduce k to below beside) = R to × Leads R below × Leads R beside

-- R holds of every target in the table
pub record TargetsIn (R : ℕ → Type 0) (t : Table) : Type 0 where
  pub gotos : (state left to : ℕ) → goto_of t state left ≡ Some to → R to
  pub shifted : (state class to : ℕ) → (action_of t state class).shift ≡ Some to → R to

module _ (R : ℕ → Type 0) (t : Table) (targets : TargetsIn R t) where
  abbrev Shifts : Option ℕ → Type 0
  Shifts sh = (to : ℕ) → sh ≡ Some to → R to

  end_leads : (room : ℕ) (sh : Option ℕ) (n c : ℕ) (w : Walk) (n' c' : ℕ) → Shifts sh → end_chain room sh n c ≡ walked w n' c' → Leads R w
  unfolding end_chain
  end_leads room None n c w n' c' s e = subst (Leads R) (ap walk_of e) tt
  end_leads room (Some to) n c w n' c' s e = subst (Leads R) (ap walk_of (if_yes (ltb c room) TooManyReadings (walked (shift (Some to)) n (c + 1)) e).1) (s to refl)

  abbrev LeadsFrom : (List ℕ → ℕ → ℕ → Walked) → Type 0
  LeadsFrom deeper = (st : List ℕ) (n c : ℕ) (w : Walk) (n' c' : ℕ) → deeper st n c ≡ walked w n' c' → Leads R w

  rules_lead : (room left : ℕ) (deeper : List ℕ → ℕ → ℕ → Walked) → LeadsFrom deeper → (sh : Option ℕ) → Shifts sh → (st ks : List ℕ) (n c : ℕ) (w : Walk) (n' c' : ℕ)
      → walk_rules t room left deeper sh st ks n c ≡ walked w n' c' → Leads R w
  unfolding walk_rules
  rules_lead room left deeper go sh s st [] n c w n' c' e = end_leads room sh n c w n' c' s e
  rules_lead room left deeper go sh s st (k ∷ ks) n c w n' c' e =
      let v = reduces t room left deeper sh st k ks n c w n' c' e in
      let z = v.below in
      let y = v.beside in
      subst (Leads R) (ap walk_of v.all) (
        targets.gotos (get_or (drop (rule_of t k).len st) 0 0) (rule_of t k).left v.to v.leads,
        go (v.to ∷ drop (rule_of t k).len st) (n + 1) c z.w z.n z.c z.is,
        rules_lead room left deeper go sh s st ks z.n z.c y.w y.n y.c y.is,
      )

  state_leads : (room left class : ℕ) (deeper : List ℕ → ℕ → ℕ → Walked) → LeadsFrom deeper → (st : List ℕ) (n c : ℕ) (w : Walk) (n' c' : ℕ)
      → walk_state t room left deeper (record_at t class st) st n c ≡ walked w n' c' → Leads R w
  unfolding walk_state record_at
  state_leads room left class deeper go st n c w n' c' e =
      let a : ActionRecord = record_at t class st in
      let f = if_not (both (shifts a.shift) (ltb 64 (length st + 1))) TooHigh (walk_rules t room left deeper a.shift st a.rules n c) e in
      rules_lead room left deeper go a.shift (targets.shifted (get_or st 0 0) class) st a.rules n c w n' c' f.1

  walk_leads : (left room class : ℕ) → LeadsFrom (walk_from left t room class)
  unfolding walk_from
  walk_leads zero room class st n c w n' c' e = state_leads room 0 class (λ st' m d. refused ChainTooLong) (λ s m d v m' d' f. refused_not f) st n c w n' c' e
  walk_leads (suc left) room class st n c w n' c' e =
      state_leads room (suc left) class (λ st' m d. walk_from left t room class st' m d) (λ s m d v m' d' f. walk_leads left room class s m d v m' d' f) st n c w n' c' e

  pub plan_leads : (room class : ℕ) (st : List ℕ) (c : ℕ) (w : Walk) (k c' : ℕ) → plan t room class st c ≡ walked w k c' → Leads R w
  unfolding plan
  plan_leads room class st c w k c' e = walk_leads 32 room class st 0 c w k c' e
