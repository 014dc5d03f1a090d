-- Laws for who follows a planned walk by its marks: they need the table's records and the marks, and no planner. Assumes nothing.
use Prim.Native.Nat.{ℕ, zero, suc, ◌+◌, ◌*◌, ◌-◌, ◌≤◌, ◌<◌}
use native.Mathlib.Omega.{arith}
use mathlib.Core.Path.{◌≡◌, refl, sym, ap, ◌∙◌, subst}
use mathlib.Core.Bool.{Bool, true, false}
use mathlib.Core.List.{List, [], ◌∷◌}
use lib.Dec.{ltb}
use lib.ListN.{length, get_or, drop}
use borrow.Author.Tests.{ltb-false, leb-false, eqb-false, lt-ltb, le-ltb}
use Rattle.std.specs.Prelude.{Result, Ok, Err, Option, None, Some}
use Rattle.meaning.specs.Basics.{both}
use Rattle.meaning.specs.TableFile.{Table, action_of, rule_of}
use Rattle.meaning.specs.TableRight.{shifts}
use Rattle.meaning.specs.Chains.{record_at}
use Rattle.meaning.specs.Walk.{Walk, shift, reduce, refused, walked, end_chain, walk_rules, walk_state, walk_from, plan, ends, size, chains}
use Rattle.meaning.specs.declared.Refusal.{Refusal}
use Rattle.meaning.specs.declared.Refusal.TheVariants.{TooHigh, TooManyReadings}
use Rattle.meaning.proofs.Trees.{ends_chain, no_chain, if_not, if_yes, walk_of, count_of, reduces, walk_is}
use Rattle.numbers.specs.Writing.{Agree}
use Rattle.table.specs.Answers.{action_answer}
use Rattle.table.specs.declared.Action.{Action}
use Rattle.chains.specs.Actions.{shift_of, rules_from}
use Rattle.chains.specs.Following.{Follows, FollowsRules, FollowsRule, Plans}
use Rattle.chains.specs.Marks.{size_mark, Marked, MarksHold}
use Rattle.chains.specs.Planning.{plan_of, deeper_of, marks_length}
use Rattle.chains.specs.declared.Planned.{Planned}
use Rattle.chains.proofs.Actions.{found_shift, found_rules}
use Rattle.chains.proofs.Marking.{narrow, marked_agree}
use Rattle.chains.proofs.Walking.{walk_state_lem, deeper_is, plan_refused, plan_walked}

-- Whether a chain ends in a walk, by the number of its chains.
pub ends_chains : (w : Walk) → ends w ≡ ltb 0 (chains w)
ends_chains w = at (ends w) refl
  where
    at : (b : Bool) → ends w ≡ b → b ≡ ltb 0 (chains w)
    at true e = sym (lt-ltb 0 (chains w) (ends_chain w e))
    at false e = sym (le-ltb 0 (chains w) (omega (arith, no_chain w e)))

-- From the planner's answer.
module _ (t : Table) (room class : ℕ) (st : List ℕ) (c : ℕ) (r : Result Planned Refusal) where
  pub refuses : (k : Refusal) → r ≡ plan_of (plan t room class st c) → r ≡ Err k → plan t room class st c ≡ refused k
  refuses k says e = plan_refused (plan t room class st c) k (sym e ∙ says)

  pub plans : (m : List ℕ) (n c' : ℕ) → r ≡ plan_of (plan t room class st c) → MarksHold m 0 (plan t room class st c) → r ≡ Ok (record { walked = n; chains = c' }) → Plans t room class st c m n c'
  unfolding plan
  plans m n c' says holds e =
      let f = plan_walked (plan t room class st c) n c' (sym e ∙ says) in
      let i = walk_is 32 t room class st 0 c f.walk n c' f.is in
      let s = ap chains i.tree_is in
      let g = i.chains_is in
      let few : n ≤ 1024 = i.few (omega arith) in
      record {
        walk = f.walk;
        is = f.is;
        planned = ends_chains f.walk ∙ grows c' (chains f.walk) (omega arith);
        few = few;
        fits = i.fits;
        follows = record { before = c; after = n; ended = c'; is = f.is; few = few; marked = subst (MarksHold m 0) f.is holds };
      }
    where
      grows : (d k : ℕ) → d ≡ c + k → ltb 0 k ≡ ltb c d
      grows d zero e = sym (le-ltb c d (omega arith))
      grows d (suc k) e = lt-ltb 0 (suc k) (omega arith) ∙ sym (lt-ltb c d (omega arith))

module _ (left : ℕ) (t : Table) (room class : ℕ) (m : List ℕ) (n : ℕ) (w : Walk) where
  -- At a stack: its record's rules, then its shift.
  pub follow_state : (st : List ℕ) → Follows left t room class st m n w → FollowsRules left t room class (record_at t class st).shift st (record_at t class st).rules m n w
  unfolding walk_state
  follow_state st f =
      let a = record_at t class st in
      let e = if_not (both (shifts a.shift) (ltb 64 (length st + 1))) TooHigh (walk_rules t room left (deeper_of left t room class) a.shift st a.rules n f.before)
      (sym (walk_state_lem left t room class st n f.before) ∙ f.is) in
      record { before = f.before; after = f.after; ended = f.ended; is = e.1; few = f.few; marked = f.marked }

  -- After the last rule: the shift.
  pub follow_end : (sh : Option ℕ) (st : List ℕ) → FollowsRules left t room class sh st [] m n w → w ≡ shift sh
  unfolding walk_rules end_chain
  follow_end sh st f = at sh f.is
    where
      at : (s : Option ℕ) → end_chain room s n f.before ≡ walked w f.after f.ended → w ≡ shift s
      at None e = sym (ap walk_of e)
      at (Some to) e = sym (ap walk_of (if_yes (ltb f.before room) TooManyReadings (walked (shift (Some to)) n (f.before + 1)) e).1)

  -- At a rule: the reduction, what its mark says, and where its walk goes on, below it and beside it.
  pub follow_rule : (sh : Option ℕ) (st : List ℕ) (k : ℕ) (ks : List ℕ) → FollowsRules left t room class sh st (k ∷ ks) m n w → FollowsRule left t room class sh st k ks m n w
  unfolding Marked
  follow_rule sh st k ks f =
      let go = deeper_of left t room class in
      let v = reduces t room left go sh st k ks n f.before w f.after f.ended f.is in
      let rest : List ℕ = drop (rule_of t k).len st in
      let z = v.below in
      let y = v.beside in
      let is : w ≡ reduce k v.to z.w y.w = sym (ap walk_of v.all) in
      let mark : Marked m n (reduce k v.to z.w y.w) = subst (Marked m n) is f.marked in
      let some : 1 ≤ left = omega (arith, eqb-false left 0 v.chain_fits) in
      let few : n < 1024 = leb-false 1024 n v.steps_fit in
      let deep : walk_from (left - 1) t room class (v.to ∷ rest) (n + 1) f.before ≡ walked z.w z.n z.c =
      sym (deeper_is left t room class (v.to ∷ rest) (n + 1) f.before some) ∙ z.is in
      let i = walk_is (left - 1) t room class (v.to ∷ rest) (n + 1) f.before z.w z.n z.c deep in
      let s = ap size i.tree_is in
      let count = i.count_is in
      let below-few : z.n ≤ 1024 = i.few (omega arith) in
      let read : size_mark m n ≡ 1 + size z.w = mark.0.size_read in
      let next : z.n ≡ n + size_mark m n = omega arith in
      let own : n + (1 + size z.w) ≡ n + size_mark m n = omega arith in
      record {
        to = v.to;
        below = z.w;
        beside = y.w;
        walk_is = is;
        some_left = some;
        pops = leb-false (length st) (rule_of t k).len v.pops;
        leads = v.leads;
        low = omega (arith, ltb-false 64 (length rest + 1) v.not_high);
        few = few;
        rest_few = omega arith;
        chains_below = mark.0.chains_read;
        live = ends_chains z.w ∙ ap (ltb 0) (sym mark.0.chains_read);
        follows_below = record { before = f.before; after = z.n; ended = z.c; is = deep; few = below-few; marked = mark.1 };
        follows_beside = record {
          before = z.c;
          after = y.n;
          ended = y.c;
          is = subst (λ (j : ℕ). walk_rules t room left go sh st ks j z.c ≡ walked y.w y.n y.c) next y.is;
          few = let e = ap count_of v.all in let g = f.few in omega arith;
          marked = subst (λ (j : ℕ). Marked m j y.w) own mark.2;
        };
      }

  -- A walk is followed by any bytes that agree with its marks.
  pub follow_kept : (st m' : List ℕ) → Agree m' m 0 marks_length → Follows left t room class st m n w → Follows left t room class st m' n w
  follow_kept st m' a f =
      let i = walk_is left t room class st n f.before w f.after f.ended f.is in
      let s = ap size i.tree_is in
      let count = i.count_is in
      let few = f.few in
      record {
        before = f.before;
        after = f.after;
        ended = f.ended;
        is = f.is;
        few = f.few;
        marked = marked_agree m m' n w (narrow m' m 0 marks_length a (n * 4) (size w * 4) (omega arith) (omega arith)) f.marked;
      }

-- At a stack, by the action that a lookup gives of its top state.
module _ (t : Table) (left room class : ℕ) (m : List ℕ) (n : ℕ) (w : Walk) where
  pub follow_action : (st : List ℕ) (state : ℕ) (a : Action) → state ≡ get_or st 0 0 → a ≡ action_answer (action_of t state class) → a.count ≤ 4
      → Follows left t room class st m n w → FollowsRules left t room class (shift_of a) st (rules_from a 0) m n w
  unfolding record_at
  follow_action st state a top is four f =
      let r = record_at t class st in
      let e₁ : r.shift ≡ shift_of a = rw (← top) (sym (found_shift t state class a is)) in
      let e₂ : r.rules ≡ rules_from a 0 = rw (← top) (sym (found_rules t state class a is four)) in
      subst (λ (sh : Option ℕ). FollowsRules left t room class sh st (rules_from a 0) m n w) e₁
      (subst (λ (ks : List ℕ). FollowsRules left t room class r.shift st ks m n w) e₂ (follow_state left t room class m n w st f))
