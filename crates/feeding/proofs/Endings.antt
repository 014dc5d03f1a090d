-- What the end of a pass leaves in the work area, and which end it comes to. Assumes nothing.
use Prim.Native.Nat.{ℕ, zero, suc, ◌+◌, ◌≤◌}
use native.Mathlib.Omega.{arith}
use mathlib.Core.Path.{◌≡◌, refl, sym, ◌∙◌}
use mathlib.Core.Bool.{Bool, true, false, not}
use mathlib.Core.List.{List, reverse}
use lib.Dec.{eqb}
use lib.ListN.{length, length-reverse}
use borrow.Author.Tests.{eq-eqb, ne_eqb}
use Rattle.meaning.specs.Basics.{either, is_nil}
use Rattle.std.specs.Prelude.{if◌then◌else◌}
use Rattle.meaning.specs.Readings.{Reading}
use Rattle.meaning.specs.Feeding.{settles, must_recover, some_took, none_took}
use Rattle.meaning.specs.TableFile.{Table}
use Rattle.state.specs.Layout.{results_at, left_at}
use Rattle.state.specs.Readings.{readings_from, results_of, AllStand}
use Rattle.state.proofs.Lists.{length_readings}
use Rattle.actions.specs.Telling.{Area}
use Rattle.actions.specs.declared.Counts.{Counts}
use Rattle.taking.specs.Stages.{made_of}
use Rattle.taking.specs.declared.SoFar.{SoFar}
use Rattle.feeding.specs.OnePass.{first_of_pass}
use Rattle.feeding.specs.Unplanned.{UnplannedReady, UnplannedDone}
use Rattle.feeding.specs.Ending.{Holds, EndReady, pass_of, EndsWith, Waits}
use Rattle.feeding.specs.declared.Ended.{Ended}
use Rattle.feeding.proofs.LeftRecords.{list_agree, stand_agree}

abbrev counts_of : SoFar → (results errors : ℕ) → Counts
counts_of so results errors = record { cells = so.counts.cells; results = results; errors = errors }

-- Error records are written: what stands below them stands as before.
pub area_after : (list : ℕ) (w : List ℕ) (cells count errors : ℕ) (rs : List Reading) (w' : List ℕ) (r : ℕ) → length w ≡ 46464 → 41824 ≤ list → list + 96 ≤ 42016 → cells ≤ 2096 → count ≤ 16 → AllStand cells w list 0 count → UnplannedDone rs w errors w' r → r ≤ 32
    → Area list w' (record { cells = cells; results = count; errors = r })
area_after list w cells count errors rs w' r long low high pool few stand d room =
    record { long = d.same ∙ long; low = low; high = high; cells = pool; results = few; errors = room; stand = stand_agree w w' d.kept cells pool list 0 count (omega arith) stand }

module _ (w : List ℕ) (so : SoFar) (left : ℕ) (y : EndReady w so left) where
  pub end_unplanned : UnplannedReady w 0 left so.counts.errors
  end_unplanned = record { long = y.area.long; cells = so.counts.cells; pool = y.area.cells; few = (let f = y.few in omega arith); stand = y.lefts; room = y.room }

  pub some_took_holds : (w' : List ℕ) (r : ℕ) → UnplannedDone (reverse (readings_from w left_at 0 left)) w so.counts.errors w' r →
      Holds w' (record { taken = true; list = 41824; counts = counts_of so so.counts.results r; walked = so.walked }) (some_took (results_of w left_at left) so.walked (made_of results_at w so.counts))
  some_took_holds w' r d =
      let n = d.count_is in let l = length-reverse (readings_from w 41920 0 left) in let k = length_readings w 41920 0 left in
      let room = y.room in let few = y.area.results in let v = y.walked in
      record {
        answer = refl;
        readings = list_agree w w' d.kept so.counts.cells y.area.cells 41824 0 so.counts.results (omega arith) y.area.stand;
        errors = d.errors_are;
        walked = refl;
        few = v;
        area = area_after 41824 w so.counts.cells so.counts.results so.counts.errors _ w' r y.area.long (omega arith) (omega arith) y.area.cells few y.area.stand d (omega arith);
      }

  pub none_took_holds : (w' : List ℕ) (r : ℕ) → UnplannedDone (readings_from w left_at 0 left) w so.counts.errors w' r →
      Holds w' (record { taken = false; list = 41920; counts = counts_of so left r; walked = so.walked }) (none_took (results_of w left_at left) so.walked (made_of results_at w so.counts))
  none_took_holds w' r d =
      let n = d.count_is in let k = length_readings w 41920 0 left in
      let room = y.room in let few = y.few in let v = y.walked in
      record {
        answer = refl;
        readings = list_agree w w' d.kept so.counts.cells y.area.cells 41920 0 left (omega arith) y.lefts;
        errors = d.errors_are;
        walked = refl;
        few = v;
        area = area_after 41920 w so.counts.cells left so.counts.errors _ w' r y.area.long (omega arith) (omega arith) y.area.cells few y.lefts d (omega arith);
      }

-- Which end it is.
module _ (recovers : Bool) (w : List ℕ) (so : SoFar) (left : ℕ) where
  nil_is : (k : ℕ) → is_nil (results_of w 41824 k) ≡ eqb k 0
  unfolding readings_from
  nil_is zero = refl
  nil_is (suc k) = sym (ne_eqb (suc k) 0 (λ z. omega arith))

  -- meaning's rule, by the counts
  by_counts : (t : Table) → t.recovers ≡ recovers → first_of_pass t (pass_of w so left) ≡
      (if not (eqb so.counts.results 0) then settles (some_took (results_of w left_at left) so.walked (made_of results_at w so.counts))
      else if either (not recovers) (not (eqb so.chains 0)) then settles (none_took (results_of w left_at left) so.walked (made_of results_at w so.counts))
      else must_recover so.walked)
  by_counts t e = rw (nil_is so.counts.results, e)

  pub settle_some : (w' : List ℕ) (e : Ended) → (so.counts.results ≡ 0 → ⊥) → Holds w' e (some_took (results_of w left_at left) so.walked (made_of results_at w so.counts)) → EndsWith recovers w so left w' e
  settle_some w' e z h = record { fed = some_took (results_of w 41920 left) so.walked (made_of 41824 w so.counts); is = λ t f. by_counts t f ∙ rw (ne_eqb so.counts.results 0 z); holds = h }

  module _ (z : so.counts.results ≡ 0) where
    pub settle_planned : (w' : List ℕ) (e : Ended) → (so.chains ≡ 0 → ⊥) → Holds w' e (none_took (results_of w left_at left) so.walked (made_of results_at w so.counts)) → EndsWith recovers w so left w' e
    settle_planned w' e c h = record { fed = none_took (results_of w 41920 left) so.walked (made_of 41824 w so.counts); is = λ t f. by_counts t f ∙ rw (eq-eqb so.counts.results 0 z, ne_eqb so.chains 0 c) (at recovers); holds = h }
      where
        at : (b : Bool) → (if either (not b) true then settles (none_took (results_of w 41920 left) so.walked (made_of 41824 w so.counts)) else must_recover so.walked) ≡ settles (none_took (results_of w 41920 left) so.walked (made_of 41824 w so.counts))
        at true = refl
        at false = refl

    pub settle_unused : (w' : List ℕ) (e : Ended) → recovers ≡ false → Holds w' e (none_took (results_of w left_at left) so.walked (made_of results_at w so.counts)) → EndsWith recovers w so left w' e
    settle_unused w' e b h = record { fed = none_took (results_of w 41920 left) so.walked (made_of 41824 w so.counts); is = λ t f. by_counts t f ∙ rw (eq-eqb so.counts.results 0 z, b); holds = h }

    pub settle_waits : so.chains ≡ 0 → recovers ≡ true → Waits recovers w so left w so.walked left
    settle_waits c b = record { is = λ t f. by_counts t f ∙ rw (eq-eqb so.counts.results 0 z, eq-eqb so.chains 0 c, b); none = c; walked_is = refl; left_is = refl; same = refl }
