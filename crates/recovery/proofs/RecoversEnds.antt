-- The ends of recovery: no reading results, or the recovered readings take the term. Assumes nothing.
use Prim.Native.Nat.{ℕ, zero, suc, ◌*◌}
use native.Mathlib.Omega.{arith}
use mathlib.Core.Path.{◌≡◌, refl, sym, ap, ◌∙◌, subst}
use mathlib.Core.Bool.{Bool, true, false, not}
use mathlib.Core.List.{List, ◌++◌, map}
use lib.Dec.{eqb}
use borrow.Author.Tests.{eq-eqb, ne_eqb}
use Rattle.meaning.specs.Answers.{done, not_taken}
use Rattle.meaning.specs.Applying.{unplanned}
use Rattle.meaning.specs.Basics.{is_nil}
use Rattle.std.specs.Prelude.{if◌then◌else◌, Result, Ok, Err}
use Rattle.meaning.specs.Outcome.{Fed as MeantFed}
use Rattle.meaning.specs.Readings.{Reading}
use Rattle.meaning.specs.Recovery.{Stage as Meant, came, term_taken, none_recovered, after_recovery}
use Rattle.meaning.specs.TableFile.{Table}
use Rattle.meaning.specs.declared.Refusal.{Refusal}
use Rattle.meaning.specs.declared.Term.{Term}
use Rattle.state.specs.Layout.{results_at, left_at}
use Rattle.state.specs.Readings.{readings_from, results_of}
use Rattle.state.proofs.Lists.{length_readings}
use Rattle.actions.specs.Errors.{errors_of}
use Rattle.taking.specs.Stages.{made_of}
use Rattle.taking.specs.declared.SoFar.{SoFar}
use Rattle.feeding.specs.Ending.{Holds, EndReady, FedIs}
use Rattle.feeding.specs.Unplanned.{UnplannedDone}
use Rattle.feeding.specs.declared.Ended.{Ended}
use Rattle.feeding.proofs.Endings.{area_after}
use Rattle.recovery.specs.Stages.{Comes, StageIs}
use Rattle.recovery.specs.Again.{AgainReady, AgainDone}
use Rattle.recovery.specs.Recovering.{SecondReady, NoneDone, second_stage, TermDone, LookedDone}

-- whether a list has readings, by its count
nil_is : (w : List ℕ) (at k : ℕ) → is_nil (results_of w at k) ≡ eqb k 0
unfolding readings_from
nil_is w at zero = refl
nil_is w at (suc k) = sym (ne_eqb (suc k) 0 (λ z. omega arith))

-- No reading results: the list of results is empty, and the readings left have their records.
pub none_recovered_way : (w : List ℕ) (so : SoFar) (left : ℕ) → EndReady w so left → (w' : List ℕ) (r : ℕ) → UnplannedDone (readings_from w left_at 0 left) w so.counts.errors w' r →
    NoneDone w so left w' (record { taken = false; list = 41824; counts = record { cells = so.counts.cells; results = 0; errors = r }; walked = so.walked })
unfolding readings_from
none_recovered_way w so left y w' r d rs e =
    let n = d.count_is in let k = length_readings w 41920 0 left in
    let room = y.room in let few = y.few in let v = y.walked in
    record {
      answer = refl;
      readings = refl;
      errors = d.errors_are ∙ ap (λ (l : List Reading). errors_of w so.counts.errors ++ map unplanned l) e;
      walked = refl;
      few = v;
      area = area_after 41824 w so.counts.cells 0 so.counts.errors _ w' r y.area.long (omega arith) (omega arith) y.area.cells (omega arith) (λ j p q. absurd (omega arith)) d (omega arith);
    }

-- The second stage begins: no result, no chain, and the errors so far.
abbrev second_of : SoFar → SoFar
second_of so = record { counts = record { cells = so.counts.cells; results = 0; errors = so.counts.errors }; walked = so.walked; chains = 0 }

-- and ends: with its results
abbrev ended : SoFar → Ended
ended so = record { taken = not (eqb so.counts.results 0); list = 41920; counts = so.counts; walked = so.walked }

module _ (w : List ℕ) (so : SoFar) (y : SecondReady w so) where
  pub second_begins : AgainReady w so.counts.results (second_of so)
  second_begins =
      let far = y.walked in let few = y.area.results in let errors = y.few_errors in
      record {
        area = record { long = y.area.long; low = omega arith; high = omega arith; cells = y.area.cells; results = omega arith; errors = y.area.errors; stand = λ j p q. absurd (omega arith) };
        few = few;
        stand = y.area.stand;
        roomy =
            record {
              found = y.found;
              cells = so.counts.cells;
              errors = so.counts.errors;
              few_errors = errors;
              paced = record { chains = omega arith; unborn = λ q. refl; results = omega arith; both = omega arith };
            };
        walked = omega arith;
      }

  module _ (t : Table) (x : Term) (w' : List ℕ) where
    abbrev meant : Meant
    meant = second_stage t x w so

    stage_is : (q : Result SoFar Refusal) → AgainDone t x w so.counts.results (second_of so) w' q → StageIs left_at w (second_of so) (1024 * so.counts.results) meant w' q
    unfolding readings_from
    stage_is q h = h

    pub second_stopped : (k : Refusal) → AgainDone t x w so.counts.results (second_of so) w' (Err k) → TermDone t x w so w' (Err k)
    second_stopped k h rs next = ap (term_taken rs next) (stage_is (Err k) h)

    pub second_came : (so' : SoFar) → AgainDone t x w so.counts.results (second_of so) w' (Ok so') → TermDone t x w so w' (Ok (ended so'))
    second_came so' h rs next =
        let g : Comes left_at w (second_of so) (1024 * so.counts.results) meant w' so' = stage_is (Ok so') h in
        let far = g.few in let all = y.walked in let few = y.area.results in
        subst (λ (m : Meant). Holds w' (ended so') (term_taken rs next m)) (sym g.is)
        (record { answer = answer_is; readings = refl; errors = refl; walked = refl; few = omega arith; area = g.further.area })
      where
        by : (b : Bool) → (if b then not_taken else done) ≡ (if not b then done else not_taken)
        by true = refl
        by false = refl

        answer_is : (if is_nil (results_of w' 41920 so'.counts.results) then not_taken else done) ≡ (if not (eqb so'.counts.results 0) then done else not_taken)
        answer_is = rw (nil_is w' 41920 so'.counts.results) (by (eqb so'.counts.results 0))

-- Which end it is.
module _ (t : Table) (x : Term) (w : List ℕ) (so : SoFar) (left : ℕ) where
  by_count : (rs : List Reading) (next : ℕ) → after_recovery t x rs next (came (made_of results_at w so.counts) so.walked so.chains) ≡
      (if eqb so.counts.results 0 then none_recovered rs (made_of results_at w so.counts) so.walked else term_taken rs next (second_stage t x w so))
  by_count rs next = rw (nil_is w 41824 so.counts.results)

  pub looked_none : (w' : List ℕ) (e : Ended) → so.counts.results ≡ 0 → NoneDone w so left w' e → LookedDone t x w so left w' (Ok e)
  looked_none w' e z h rs next f = subst (Holds w' e) (sym (by_count rs next ∙ rw (eq-eqb so.counts.results 0 z))) (h rs f)

  pub looked_some : (w' : List ℕ) (q : Result Ended Refusal) → (so.counts.results ≡ 0 → ⊥) → TermDone t x w so w' q → LookedDone t x w so left w' q
  looked_some w' q z h rs next f = subst (λ (m : MeantFed). FedIs m rs next w' q) (sym (by_count rs next ∙ rw (ne_eqb so.counts.results 0 z))) (h rs next)

-- The two ends of `after_looking`.
pub ruleset looked_ways = (looked_none, looked_some)
