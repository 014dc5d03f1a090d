-- The parts of the feed by value: the stages over the loaded cells, the commit and the gathered errors. Assumes nothing.
use mathlib.Core.Path.{◌≡◌, sym, ap, ◌∙◌, subst}
use mathlib.Core.List.{List}
use Prim.Native.Nat.{ℕ, ◌≤◌}
use native.Mathlib.Omega.{arith}
use lib.ListN.{length}
use Rattle.std.specs.Prelude.{if◌then◌else◌, Result, Ok, Err}
use Rattle.meaning.specs.Feeding.{first, finish, feed}
use Rattle.meaning.specs.Outcome.{Fed, refusal}
use Rattle.meaning.specs.Recovery.{recover}
use Rattle.meaning.specs.TableFile.{Table}
use Rattle.meaning.specs.declared.Refusal.{Refusal}
use Rattle.meaning.specs.declared.Term.{Term}
use Rattle.lists.specs.Filling.{Errors}
use Rattle.state.specs.Areas.{loaded, LoadReady}
use Rattle.state.specs.Layout.{state_len, work_len, state_cells}
use Rattle.state.specs.Readings.{used_of, readings_of}
use Rattle.state.proofs.Loading.{length_loaded, loaded_cells}
use Rattle.state.proofs.Valid.{count_few, used_few, all_stand}
use Rattle.commit.specs.Committing.{Results, Commits}
use Rattle.feeding.specs.Ending.{Holds, FirstReady, MustRecover, Settles, FirstIs, FedIs}
use Rattle.feeding.specs.declared.Ended.{Ended}
use Rattle.feeding.specs.declared.First.{First}
use Rattle.feeding.specs.declared.First.TheVariants as at_first
use Rattle.gathering.specs.Gathering.{Gathered}
use Rattle.recovery.specs.Recovering.{RecoverReady}
use Rattle.by_value.specs.Feeding.{StagesReady, fed_in, EndsReady, EndedRun}

-- The end: gathered, committed, answered.
module _ (state work : List ℕ) (e : Ended) (y : EndsReady work e) where
  pub commit_ready : length state ≡ state_len → Results work state e.list e.counts.results e.counts.cells
  commit_ready l =
      let h = y.area.high in let n = y.area.results in
      record { work = y.area.long; state = l; pool = y.area.cells; few = n; list = omega arith; stands = y.area.stand }

  pub ended_run : (errors : Errors) (work' state' : List ℕ) → Gathered work e.counts.errors errors → Commits work state e.list e.counts.results e.counts.cells work' state' → length state ≡ state_len → length state' ≡ state_len →
      EndedRun (fed_in work e) state (record { answer = Ok (record { taken = e.taken; errors = errors.count; walked = e.walked }); errors = errors }) state'
  ended_run errors work' state' g c l m =
      record {
        answers = λ i. record { answer = if e.taken then 0 else 12; errors = g.count_is i; walked = e.walked };
        committed = c.promise;
        errors_are = g;
        long = m ∙ sym l;
      }

-- The stages.
module _ (t : Table) (state : List ℕ) (y : StagesReady t state) where
  pub load_ready : used_of state ≤ state_cells
  load_ready = used_few t.counts.states state y.valid

  pub first_ready : (work work₁ : List ℕ) → length state ≡ state_len → length work ≡ work_len → work₁ ≡ loaded state work → FirstReady state work₁
  first_ready work work₁ l m e =
      let k : LoadReady state work = record { state = l; work = m; used = load_ready } in
      rw e (record {
        long = length_loaded state work k ∙ m;
        loaded = record { long = l; used = load_ready; cells = loaded_cells state work k };
        few = count_few t.counts.states state y.valid;
        readings = all_stand t.counts.states state y.valid;
      })

  module _ (x : Term) (work₁ : List ℕ) (q : Result First Refusal) (h : FirstIs (first t x (readings_of state) (used_of state)) state work₁ q) where
    abbrev meant : Fed
    meant = feed t x (readings_of state) (used_of state)

    pub stages_refused : (k : Refusal) → q ≡ Err k → meant ≡ refusal k (readings_of state) (used_of state)
    unfolding feed
    stages_refused k e = ap (finish t x (readings_of state) (used_of state)) (subst (FirstIs (first t x (readings_of state) (used_of state)) state work₁) e h)

    pub stages_ended : (ended : Ended) → q ≡ Ok (at_first.Ended ended) → Holds work₁ ended meant
    unfolding feed
    stages_ended ended e =
        let s : Settles (first t x (readings_of state) (used_of state)) work₁ ended = subst (FirstIs (first t x (readings_of state) (used_of state)) state work₁) e h in
        subst (Holds work₁ ended) (sym (ap (finish t x (readings_of state) (used_of state)) s.is)) s.holds

    module _ (walked left : ℕ) (e : q ≡ Ok (at_first.Recovers walked left)) where
      must : MustRecover (first t x (readings_of state) (used_of state)) state work₁ walked left
      must = subst (FirstIs (first t x (readings_of state) (used_of state)) state work₁) e h

      pub recover_ready : RecoverReady state work₁ walked left
      recover_ready =
          record {
            few = count_few t.counts.states state y.valid;
            readings = all_stand t.counts.states state y.valid;
            first = first t x (readings_of state) (used_of state);
            must = must;
          }

      pub stages_recovered : (work₂ : List ℕ) (o : Result Ended Refusal) → FedIs (recover t x (readings_of state) (used_of state) walked) (readings_of state) (used_of state) work₂ o → FedIs meant (readings_of state) (used_of state) work₂ o
      unfolding feed
      stages_recovered work₂ o g = subst (λ (f : Fed). FedIs f (readings_of state) (used_of state) work₂ o) (sym (ap (finish t x (readings_of state) (used_of state)) must.is)) g
