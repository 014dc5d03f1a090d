-- Laws of the questions' core, one for each way out. Assumes nothing.
use Prim.Native.Nat.{ℕ, zero, suc, ◌+◌, ◌-◌, ◌<◌, ◌≤◌}
use native.Mathlib.Omega.{arith}
use native.Mathlib.Numerals.{add-one}
use mathlib.Core.Path.{◌≡◌, refl, sym, ap, ◌∙◌}
use mathlib.Core.Bool.{Bool, false}
use mathlib.Core.List.{List}
use lib.Dec.{ltb}
use lib.ListN.{length}
use Rattle.std.specs.Prelude.{Result, Ok, Err}
use Rattle.meaning.specs.TableFile.{Table}
use Rattle.meaning.specs.Walk.{plan, chains}
use Rattle.meaning.specs.Questions.{enough_room, planned, can_plan, or_else, recovers_from}
use Rattle.meaning.specs.declared.Refusal.{Refusal}
use Rattle.meaning.proofs.Trees.{walk_is}
use Rattle.chains.specs.Simulated.{stack_of}
use Rattle.chains.specs.Planning.{plan_of, marks_length}
use Rattle.chains.specs.declared.Planned.{Planned}
use Rattle.chains.proofs.Following.{ends_chains}
use Rattle.chains.proofs.Walking.{plan_refused, plan_walked}

-- One stack.
module _ (t : Table) (class : ℕ) (st : List ℕ) (r : Result Planned Refusal) (says : r ≡ plan_of (plan t enough_room class st 0)) where
  pub can_refused : (k : Refusal) → r ≡ Err k → Err k ≡ can_plan t class st
  unfolding can_plan
  can_refused k e = sym (ap planned (plan_refused (plan t enough_room class st 0) k (sym e ∙ says)))

  pub can_by_chains : (n c : ℕ) → r ≡ Ok (record { walked = n; chains = c }) → Ok (ltb 0 c) ≡ can_plan t class st
  unfolding can_plan plan
  can_by_chains n c e =
      let f = plan_walked (plan t enough_room class st 0) n c (sym e ∙ says) in
      let i = walk_is 32 t enough_room class st 0 0 f.walk n c f.is in
      let s = ap chains i.tree_is in
      let g = i.chains_is in
      let h : chains f.walk ≡ c = omega arith in
      sym (ap planned f.is ∙ ap (λ (b : Bool). Ok b) (ends_chains f.walk ∙ ap (ltb 0) h))

-- What is left of the heights decides.
pub record Recovering (t : Table) (a : List ℕ) (height left : ℕ) (marks : List ℕ) : Type 0 where
  pub lower : left ≤ height
  pub same : recovers_from t (stack_of a left) ≡ recovers_from t (stack_of a height)
  pub long : length marks ≡ marks_length

-- The heights of a stack, from the one where it stands down.
module _ (t : Table) (a : List ℕ) where
  pub recovers_none : (left : ℕ) → left ≤ 0 → recovers_from t (stack_of a left) ≡ Ok false
  unfolding recovers_from stack_of
  recovers_none zero le = refl
  recovers_none (suc left) le = absurd (omega arith)

  pub recovers_step : (left : ℕ) → 0 < left → recovers_from t (stack_of a left) ≡ or_else (can_plan t 1 (stack_of a (left - 1 + 1))) (recovers_from t (stack_of a (left - 1)))
  unfolding recovers_from stack_of
  recovers_step left more = by (left - 1) (omega arith)
    where
      by : (k : ℕ) → left ≡ suc k → recovers_from t (stack_of a left) ≡ or_else (can_plan t 1 (stack_of a (k + 1))) (recovers_from t (stack_of a k))
      by k e = rw (e, add-one k) refl
