-- The turns of a pass: what holds before each of them, and what follows by what taking the term has answered. Assumes nothing.
use Prim.Native.Nat.{ℕ, ◌+◌, ◌-◌}
use mathlib.Core.Path.{◌≡◌, sym, ◌∙◌, subst}
use mathlib.Core.List.{List}
use Rattle.std.specs.Prelude.{Ok, Err}
use Rattle.meaning.specs.TableFile.{Table}
use Rattle.meaning.specs.declared.Refusal.{Refusal}
use Rattle.meaning.specs.declared.Term.{Term}
use Rattle.state.specs.Layout.{readings_at, results_at, left_at}
use Rattle.state.specs.Readings.{put_slot}
use Rattle.actions.specs.declared.Top.{Top}
use Rattle.taking.specs.Taking.{top_of, TakeReady, Takes, Leaves, TakingIs}
use Rattle.taking.specs.declared.SoFar.{SoFar}
use Rattle.taking.specs.declared.Turn.{Turn}
use Rattle.taking.specs.declared.Turn.TheVariants.{Took, Left}
use Rattle.feeding.specs.OnePass.{stopped}
use Rattle.feeding.specs.Passing.{PassReady, Passes, pass_from}
use Rattle.feeding.specs.Ending.{pass_over}
use Rattle.feeding.proofs.Steps as steps
use Rattle.feeding.proofs.Ways as ways

-- The first i readings are still to come, and what they come to is what the pass comes to.
pub record Goes (t : Table) (x : Term) (state w : List ℕ) (i : ℕ) (so : SoFar) (left : ℕ) : Type 0 where
  pub ready : PassReady state w i so left
  pub same : pass_from t x state w i so left ≡ pass_over t x state

module _ (t : Table) (x : Term) (state w : List ℕ) (i : ℕ) (so : SoFar) (left : ℕ) (g : Goes t x state w i so left) where
  pub pass_ends : i ≡ 0 → Passes state (pass_over t x state) w so left
  pass_ends z = let p = ways.pass_end t x state w i so left g.ready z in record { is = sym g.same ∙ p.is; stands = p.stands }

  module _ (z : i ≡ 0 → ⊥) where
    module _ (r : Top) (e : r ≡ top_of state readings_at (i - 1)) where
      pub turn_ready : TakeReady w results_at r so
      turn_ready = steps.take_ready state w i so left g.ready z r e

      module _ (w₁ : List ℕ) where
        pub turn_refused : (k : Refusal) → TakingIs t x results_at w r so w₁ (Err k) → pass_over t x state ≡ stopped k
        turn_refused k h = sym g.same ∙ ways.pass_refused t x state w i so left g.ready z r e k w₁ h

        module _ (turn : Turn) (h : TakingIs t x results_at w r so w₁ (Ok turn)) where
          pub turn_took : (so₁ : SoFar) → turn ≡ Took so₁ → Goes t x state w₁ (i - 1) so₁ left
          turn_took so₁ f =
              let took : Takes t x results_at w r so w₁ so₁ = subst (λ (q : Turn). TakingIs t x results_at w r so w₁ (Ok q)) f h in
              record {
                ready = ways.took_ready t x state w i so left g.ready z r e w₁ so₁ took;
                same = ways.took_same t x state w i so left g.ready z r e w₁ so₁ took ∙ g.same;
              }

          module _ (so₁ : SoFar) (f : turn ≡ Left so₁) where
            leaves : Leaves t x results_at w r so w₁ so₁
            leaves = subst (λ (q : Turn). TakingIs t x results_at w r so w₁ (Ok q)) f h

            pub turn_left : (w₂ : List ℕ) → w₂ ≡ put_slot w₁ left_at left (record { top = r.cell; mark = r.mark }) → Goes t x state w₂ (i - 1) so₁ (left + 1)
            turn_left w₂ p =
                record {
                  ready = ways.left_ready t x state w i so left g.ready z r e w₁ so₁ leaves w₂ p;
                  same = ways.left_same t x state w i so left g.ready z r e w₁ so₁ leaves w₂ p ∙ g.same;
                }
