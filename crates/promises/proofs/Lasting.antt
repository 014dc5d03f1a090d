-- Answer 3 never comes for a buffer that a start answered 0 left, or a call that passed the check, with the same table. Assumes nothing.
use Prim.Native.Nat.{ℕ}
use native.Mathlib.Omega.{arith}
use mathlib.Core.Path.{◌≡◌, refl, sym, ap, ◌∙◌, subst}
use mathlib.Core.Bool.{Bool}
use mathlib.Core.List.{List, [], ◌∷◌}
use mathlib.Core.Logic.{◌⊎◌, inl, inr}
use lib.ListN.{length}
use Rattle.std.specs.Prelude.{None, Some}
use Rattle.meaning.specs.Answers.{StartAnswer, FeedAnswer, QuestionAnswer, StackAnswer, number, start_number, feed_numbers, question_numbers, stack_numbers}
use Rattle.meaning.specs.Calls.{State, StartCall, FeedCall}
use Rattle.meaning.specs.Feeding.{feed}
use Rattle.meaning.specs.Readings.{start_reading}
use Rattle.meaning.specs.TableFile.{table_of}
use Rattle.meaning.specs.declared.Entry.{Entry as SeenEntry}
use Rattle.meaning.specs.declared.ErrorRecord.{ErrorRecord}
use Rattle.meaning.specs.declared.FeedNumbers.{FeedNumbers}
use Rattle.meaning.specs.declared.StackNumbers.{StackNumbers}
use Rattle.meaning.specs.declared.Term.{Term}
use Rattle.meaning.proofs.Settled.{number_range}
use Rattle.state.specs.Readings.{used_of}
use Rattle.promises.specs.Buffers.{lengths_right, feed_lengths, lists_right, state_for}
use Rattle.promises.specs.Calls.{StartPromise, QuestionPromise, StackPromise, SameState, feed_on, FeedPromise}
use Rattle.promises.specs.Claims.{Fits, PassedCheck, NeverWrongState}
use Rattle.promises.proofs.Asking.{Asked, takes_asked, can_end_asked, can_recover_asked, stack_tells}
use Rattle.promises.proofs.Buffers.{found_holds, fits_some, some_fits}
use Rattle.promises.proofs.Checks.{no_nothing, StartStopped, StartWent, start_case, Tells, FeedStopped, FeedWent, feed_case, feed_tells}

-- Start.
start_leaves : (table state work : List ℕ) (r : StartAnswer) (state' work' : List ℕ) → StartPromise table state work r state' work' → start_number r ≡ 0 → Fits table state'
start_leaves table state work r state' work' a z = at (start_case b table (state_for table state) 0)
  where
    b : Bool
    b = lengths_right state work

    at : StartStopped b table (state_for table state) 0 ⊎ StartWent b table (state_for table state) 0 → Fits table state'
    at (inl s) =
        let e : start_number r ≡ number s.by = a.leaves.answers ∙ ap (λ (c : StartCall). c.answer) s.is in
        let l = (number_range s.by).0 in
        absurd (omega arith)
    at (inr w) = (found_holds table state' (start_reading (table_of table) 0 ∷ []) (a.leaves.readings ∙ ap (λ (c : StartCall). c.state) w.is)).fits

-- Feed: what it leaves is found, if what it began with was.
same_some : (s s' : State) → SameState s s' → (s ≡ None → ⊥) → s' ≡ None → ⊥
same_some None None h f e = f refl
same_some None (Some rs) h f e = h
same_some (Some rs) None h f e = h
same_some (Some rs) (Some rs') h f e = no_nothing rs' e

module _ (table state work : List ℕ) (x : Term) (errors : List ErrorRecord) (r : FeedAnswer) (state' work' : List ℕ) (errors' : List ErrorRecord)
    (a : FeedPromise table state work x errors r state' work' errors') where
  abbrev right : Bool
  right = feed_lengths state work (length errors)

  told : Tells right (state_for table state) (feed_numbers r).answer
  told =
      subst (λ (m : FeedNumbers). Tells right (state_for table state) m.answer) (sym a.leaves.answers) (feed_tells right table (state_for table state) x errors (used_of state))

  kept : (state_for table state ≡ None → ⊥) → Fits table state'
  kept h = some_fits table state' (same_some (feed_on table state work x errors).state (state_for table state') a.leaves.readings (at (feed_case right table (state_for table state) x errors (used_of state))))
    where
      at : FeedStopped right table (state_for table state) x errors (used_of state) ⊎ FeedWent right table (state_for table state) x errors (used_of state) → (feed_on table state work x errors).state ≡ None → ⊥
      at (inl s) e = h (sym (ap (λ (c : FeedCall). c.state) s.is) ∙ e)
      at (inr w) e = no_nothing (feed (table_of table) x w.found (used_of state)).readings (sym (ap (λ (c : FeedCall). c.state) w.is) ∙ e)

  feed_leaves : PassedCheck (feed_numbers r).answer → Fits table state'
  feed_leaves p = kept (told.passed p)

  feed_takes : Fits table state → ((feed_numbers r).answer ≡ 3 → ⊥) × Fits table state'
  feed_takes f = (told.right_state (fits_some table state f), kept (fits_some table state f))

-- The questions.
module _ (call : Bool → QuestionAnswer) (table state work : List ℕ) (r : QuestionAnswer) (work' : List ℕ) (h : (b : Bool) → Asked b (state_for table state) (question_numbers (call b)).answer)
    (a : QuestionPromise call state work r work') where
  asked_told : Tells (lengths_right state work) (state_for table state) (question_numbers r).answer
  asked_told = subst (λ (q : QuestionAnswer). Tells (lengths_right state work) (state_for table state) (question_numbers q).answer) (sym a.answers) (h (lengths_right state work)).tells_of

  asked_leaves : PassedCheck (question_numbers r).answer → Fits table state
  asked_leaves p = some_fits table state (asked_told.passed p)

  asked_takes : Fits table state → (question_numbers r).answer ≡ 3 → ⊥
  asked_takes f = asked_told.right_state (fits_some table state f)

-- Reading a stack out.
module _ (table state : List ℕ) (i : ℕ) (entries : List SeenEntry) (r : StackAnswer) (entries' : List SeenEntry) (a : StackPromise table state i entries r entries') where
  stack_told : Tells (lists_right state (length entries)) (state_for table state) (stack_numbers r).answer
  stack_told =
      subst (λ (m : StackNumbers). Tells (lists_right state (length entries)) (state_for table state) m.answer) (sym a.answers)
      (stack_tells (lists_right state (length entries)) table (state_for table state) i entries)

  stack_leaves : PassedCheck (stack_numbers r).answer → Fits table state
  stack_leaves p = some_fits table state (stack_told.passed p)

  stack_takes : Fits table state → (stack_numbers r).answer ≡ 3 → ⊥
  stack_takes f = stack_told.right_state (fits_some table state f)

pub never_wrong_state : NeverWrongState
never_wrong_state =
    record {
      start_leaves = start_leaves;
      feed_leaves = feed_leaves;
      takes_leaves = λ table state work class r work' a. asked_leaves _ table state work r work' (λ b. takes_asked b table (state_for table state) class) a;
      can_end_leaves = λ table state work r work' a. asked_leaves _ table state work r work' (λ b. can_end_asked b table (state_for table state)) a;
      can_recover_leaves = λ table state work r work' a. asked_leaves _ table state work r work' (λ b. can_recover_asked b table (state_for table state)) a;
      stack_leaves = stack_leaves;
      feed_takes = feed_takes;
      takes_takes = λ table state work class r work' a. asked_takes _ table state work r work' (λ b. takes_asked b table (state_for table state) class) a;
      can_end_takes = λ table state work r work' a. asked_takes _ table state work r work' (λ b. can_end_asked b table (state_for table state)) a;
      can_recover_takes = λ table state work r work' a. asked_takes _ table state work r work' (λ b. can_recover_asked b table (state_for table state)) a;
      stack_takes = stack_takes;
    }
