-- The ways out of the feed by value. Assumes nothing.
use mathlib.Core.Path.{◌≡◌, refl, sym, ap, ◌∙◌, subst}
use mathlib.Core.Bool.{Bool, true, false}
use mathlib.Core.List.{List, map}
use Prim.Native.Nat.{ℕ, ◌+◌, ◌-◌, ◌*◌, ◌≤◌}
use native.Mathlib.Omega.{arith}
use lib.ListN.{length}
use borrow.Author.Tests.{eq-eqb, ne_eqb}
use Rattle.std.specs.Prelude.{if◌then◌else◌, Result, Ok, Err, Some, MatchResult}
use Rattle.std.specs.Array.{IsWholeChunk}
use Rattle.meaning.specs.Answers.{feed_numbers}
use Rattle.meaning.specs.Basics.{is_nil}
use Rattle.meaning.specs.Calls.{State, FeedCall, feed_refused, feed_ended, feed_right, feed_call, wrong_term}
use Rattle.meaning.specs.Feeding.{feed}
use Rattle.meaning.specs.Identities.{ren_reading}
use Rattle.meaning.specs.Outcome.{Fed, refusal}
use Rattle.meaning.specs.Readings.{Reading}
use Rattle.meaning.specs.TableFile.{Table, table_of}
use Rattle.meaning.specs.declared.Refusal.{Refusal}
use Rattle.meaning.specs.declared.Refusal.TheVariants.{WrongLength, Consumed, WrongArgument}
use Rattle.meaning.specs.declared.Term.{Term}
use Rattle.meaning.specs.declared.FeedNumbers.{FeedNumbers}
use Rattle.meaning.proofs.Booleans.{both_false}
use Rattle.meaning.proofs.Settled.{number_range}
use Rattle.meaning.proofs.States.{states_kept}
use Rattle.numbers.specs.Writing.{Agree}
use Rattle.numbers.specs.Zeros.{zeros}
use Rattle.lists.specs.Filling.{no_record, padded}
use Rattle.state.specs.Check.{valid_state, StatesKnown}
use Rattle.state.specs.Layout.{state_len, work_len}
use Rattle.state.specs.Readings.{count_of, used_of, readings_from, readings_of}
use Rattle.state.proofs.Valid.{known}
use Rattle.commit.specs.Committing.{Committed}
use Rattle.commit.proofs.After.{state_after}
use Rattle.feeding.specs.Ending.{Holds, FedIs}
use Rattle.feeding.specs.declared.Ended.{Ended}
use Rattle.gathering.specs.Gathering.{no_errors}
use Rattle.promises.proofs.Identities.{state_self}
use Rattle.promises.specs.Buffers.{lengths_right, feed_lengths, state_for, work_after}
use Rattle.promises.specs.Calls.{SameState, Spared, feed_for}
use Rattle.checks.specs.Checks.{found_of, FileOf}
use Rattle.checks.proofs.Checks.{some_readings, file_found, valid_found, checked_refused, checked_right}
use Rattle.by_value.specs.Feeding.{refused_run, handed_run, StagesReady, fed_in, EndedRun, feed_in, feed_line, RunLine, RunPromise}
use Rattle.by_value.specs.declared.running.FeedRun.{FeedRun}

spared_same : (state : List ℕ) → Spared state state
spared_same state = record { long = refl; cells = λ j p q. refl; slots = λ j p q. refl }

-- A refusal leaves the state as it was.
line_refused : (table state : List ℕ) (call : FeedCall) (k : Refusal) → feed_refused (state_for table state) no_errors.list k ≡ call → RunLine table state call (refused_run k) state
line_refused table state call k e =
    subst (λ (c : FeedCall). RunLine table state c (refused_run k) state) e (record {
      leaves =
          record { answers = refl; readings = state_self (state_for table state); refused = λ p. refl; compact = λ p. absurd (p (number_range k)); spared = spared_same state; errors_are = refl };
      count_is = refl;
      few = omega arith;
    })

line_as : (table state : List ℕ) (call call' : FeedCall) (r : FeedRun) (state' : List ℕ) → call ≡ call' → RunLine table state call r state' → RunLine table state call' r state'
line_as table state call call' r state' e = subst (λ (c : FeedCall). RunLine table state c r state') e

-- On a table and a state that were found right.
module _ (file : List ℕ) (t : Table) (f : FileOf file t) (state : List ℕ) (y : StagesReady t state) (x : Term) where
  valid_here : valid_state (table_of file).counts.states state ≡ true
  valid_here = rw f.is at y.valid

  state_here : state_for file state ≡ Some (readings_of state)
  state_here = rw valid_here

  -- a refusal of the definition, which names the readings
  refused_here : (k : Refusal) → feed_refused (state_for file state) no_errors.list k ≡ feed_refused (Some (readings_of state)) no_errors.list k
  refused_here k = ap (λ (s : State). feed_refused s no_errors.list k) state_here

  pub right_consumed : (n : ℕ) → n ≡ count_of state → n ≡ 0 → RunLine file state (feed_in t state x) (refused_run Consumed) state
  unfolding feed_right readings_from
  right_consumed n e z = line_refused file state (feed_in t state x) Consumed (refused_here Consumed ∙ rw (nil (count_of state) (sym e ∙ z)))
    where
      nil : (k : ℕ) → k ≡ 0 → is_nil (readings_from state 18432 0 k) ≡ true
      nil k q = rw q

  module _ (n : ℕ) (e : n ≡ count_of state) (z : n ≡ 0 → ⊥) (b : Bool) (w : b ≡ wrong_term t.counts.classes x) where
    some : is_nil (readings_of state) ≡ false
    some = ap (λ (k : ℕ). is_nil (readings_from state 18432 0 k)) (sym e) ∙ some_readings state n z

    pub right_wrong : b ≡ true → RunLine file state (feed_in t state x) (refused_run WrongArgument) state
    unfolding feed_right
    right_wrong g = line_refused file state (feed_in t state x) WrongArgument (refused_here WrongArgument ∙ rw (some, ← w, g))

    abbrev fed_here : Fed
    fed_here = feed t x (readings_of state) (used_of state)

    goes : b ≡ false → feed_ended no_errors.list fed_here ≡ feed_in t state x
    unfolding feed_right
    goes g = rw (some, ← w, g)

    module _ (g : b ≡ false) (q : Result Ended Refusal) (work₁ : List ℕ) (h : FedIs fed_here (readings_of state) (used_of state) work₁ q) where
      pub right_refused : (k : Refusal) → q ≡ Err k → RunLine file state (feed_in t state x) (refused_run k) state
      right_refused k u =
          let is : fed_here ≡ refusal k (readings_of state) (used_of state) = subst (FedIs fed_here (readings_of state) (used_of state) work₁) u h in
          line_refused file state (feed_in t state x) k (refused_here k ∙ sym (ap (feed_ended no_errors.list) is) ∙ goes g)

      module _ (ended : Ended) (u : q ≡ Ok ended) where
        held : Holds work₁ ended fed_here
        held = subst (FedIs fed_here (readings_of state) (used_of state) work₁) u h

        -- the definition's outcome has the fields that the work area holds
        known_states : StatesKnown (table_of file).counts.states fed_here.readings
        known_states =
            subst (λ (v : Table). StatesKnown (table_of file).counts.states (feed v x (readings_of state) (used_of state)).readings) (sym f.is)
            (states_kept file f.ok x (readings_of state) (used_of state) (known (table_of file).counts.states state valid_here).states)

        pub right_ended : (r : FeedRun) (state' : List ℕ) → EndedRun (fed_in work₁ ended) state r state' → RunLine file state (feed_in t state x) r state'
        right_ended r state' d =
            line_as file state (feed_ended no_errors.list fed_here) (feed_in t state x) r state' (goes g) (record {
              leaves =
                  record {
                    answers = numbers;
                    readings = subst (SameState (Some fed_here.readings)) (sym after) (record { rename = c.rename; same = refl; apart = c.apart });
                    refused = λ p. absurd (not_refused ended.taken (ap (λ (m : FeedNumbers). m.answer) d.answers) p);
                    compact = λ p. c.compact;
                    spared = record { long = d.long; cells = c.cells; slots = subst (λ (k : ℕ). Agree state' state (18432 + 6 * k) (18528 - (18432 + 6 * k))) (sym c.count) c.slots };
                    errors_are = d.errors_are.list_is ∙ ap (padded 32 no_record) held.errors;
                  };
              count_is = d.errors_are.count_is ∙ ap length held.errors;
              few = d.errors_are.few;
            })
          where
            c : Committed fed_here.readings state state'
            c = subst (λ (l : List Reading). Committed l state state') held.readings d.committed

            after : state_for file state' ≡ Some (map (ren_reading c.rename) fed_here.readings)
            after = state_after (table_of file).counts.states fed_here.readings state state' c known_states

            numbers : feed_numbers r.answer ≡ record { answer = fed_here.answer; errors = length fed_here.errors; walked = fed_here.walked }
            numbers =
                let a = held.answer in let e = held.errors in let w = held.walked in
                d.answers ∙ (λ i. record { answer = sym a i; errors = length (e i); walked = w i })

            not_refused : (t : Bool) → (feed_numbers r.answer).answer ≡ (if t then 0 else 12) → (1 ≤ (feed_numbers r.answer).answer) × ((feed_numbers r.answer).answer ≤ 11) → ⊥
            not_refused true m p = let p0 = p.0 in omega arith
            not_refused false m p = let p1 = p.1 in omega arith

-- By what the checks 2 and 3 have found.
module _ (table state : List ℕ) (x : Term) (q : Result Table Refusal) (says : q ≡ found_of table state) where
  -- what the definition goes on with
  abbrev go : Table → List Reading → FeedCall
  go t rs = feed_right t x rs no_errors.list (used_of state)

  pub found_refused : (k : Refusal) → q ≡ Err k → RunLine table state (feed_line table state x) (refused_run k) state
  unfolding feed_call
  found_refused k e = line_refused table state (feed_line table state x) k (checked_refused table state q says (feed_refused (state_for table state) no_errors.list) go k e)

  module _ (t : Table) (e : q ≡ Ok t) where
    pub right_ready : StagesReady t state
    right_ready = record { valid = valid_found table state q says t e }

    pub found_right : (r : FeedRun) (state' : List ℕ) → ((file : List ℕ) → FileOf file t → RunLine file state (feed_in t state x) r state') → RunLine table state (feed_line table state x) r state'
    unfolding feed_call
    found_right r state' h =
        let f = file_found table state q says t e in
        line_as table state (feed_in t state x) (feed_line table state x) r state' (checked_right table state t f (valid_found table state q says t e) (feed_refused (state_for table state) no_errors.list) go) (h table f)

-- what a feed on buffers of the right lengths is handed back as
pub run_handed : (q : Result FeedRun Refusal) (r : FeedRun) → MatchResult q (λ x. r ≡ x) (λ k. r ≡ refused_run k) → r ≡ handed_run q
run_handed (Ok x) r e = e
run_handed (Err k) r e = e

-- Check 1, and the work area cleared at every answer but 1.
module _ (table state work : List ℕ) (x : Term) (places : ℕ) where
  -- the definition's call, by what the check has found
  call_is : (c : Bool) → feed_lengths state work places ≡ c → feed_call c table (state_for table state) x no_errors.list (used_of state) ≡ feed_for table state work x places no_errors.list
  call_is c e = ap (λ (d : Bool). feed_call d table (state_for table state) x no_errors.list (used_of state)) (sym e)

  run_length : feed_lengths state work places ≡ false → (r : FeedRun) → r ≡ refused_run WrongLength → RunPromise table state work x places r state work
  unfolding work_after feed_call
  run_length e r g = rw g (record { line = line_refused table state (feed_for table state work x places no_errors.list) WrongLength (call_is false e); cleared = rw e })

  pub run_state_length : (length state ≡ state_len → ⊥) → (r : FeedRun) → r ≡ refused_run WrongLength → RunPromise table state work x places r state work
  unfolding feed_lengths lengths_right
  run_state_length l = run_length (rw (ne_eqb (length state) 18532 l))

  module _ (same : List ℕ) (s : IsWholeChunk state same state_len) where
    pub run_work_length : (length work ≡ work_len → ⊥) → (r : FeedRun) → r ≡ refused_run WrongLength → RunPromise table state work x places r same work
    unfolding feed_lengths lengths_right
    run_work_length l r g = rw s.same (run_length (rw (ne_eqb (length work) 46464 l, both_false)) r g)

    module _ (work₁ : List ℕ) (w : IsWholeChunk work work₁ work_len) where
      pub run_places : (places ≡ 32 → ⊥) → (r : FeedRun) → r ≡ refused_run WrongLength → RunPromise table state work x places r same work₁
      unfolding feed_lengths
      run_places l r g = rw (s.same, w.same) (run_length (rw (ne_eqb places 32 l, both_false)) r g)

      pub run_done : places ≡ 32 → (q r : FeedRun) (state' work₂ work' : List ℕ) → RunLine table same (feed_line table same x) q state' → length work₂ ≡ work_len → work' ≡ zeros (length work₂) → r ≡ q → RunPromise table state work x places r state' work'
      unfolding work_after feed_lengths lengths_right
      run_done p q r state' work₂ work' y l z g =
          let yes : feed_lengths state work places ≡ true = rw (eq-eqb (length state) 18532 s.long, eq-eqb (length work) 46464 w.long, eq-eqb places 32 p) in
          rw g (record {
            line = line_as table state (feed_line table state x) (feed_for table state work x places no_errors.list) q state' (call_is true yes) (rw s.same at y);
            cleared = rw yes (z ∙ ap zeros (l ∙ sym w.long));
          })
