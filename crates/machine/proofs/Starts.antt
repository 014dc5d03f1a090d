-- The ways out of start. Assumes nothing.
use mathlib.Core.Path.{◌≡◌, refl, ap, ◌∙◌}
use mathlib.Core.Bool.{true, false}
use mathlib.Core.List.{List}
use Prim.Native.Nat.{ℕ, ◌<◌}
use native.Mathlib.Omega.{arith}
use lib.ListN.{length}
use borrow.Author.Tests.{eq-eqb, ne_eqb}
use Rattle.std.specs.Prelude.{Ok, Err, Option, Some, None}
use Rattle.std.specs.Option.{IsSome}
use Rattle.std.specs.Array.{IsWholeChunk}
use Rattle.meaning.specs.Answers.{StartAnswer}
use Rattle.meaning.specs.Calls.{start_call}
use Rattle.meaning.specs.TableFile.{Table, table_of, state_no, action_of, start_state}
use Rattle.meaning.specs.declared.Refusal.TheVariants.{WrongLength, WrongTable}
use Rattle.meaning.specs.declared.StateNo.{StateNo}
use Rattle.meaning.proofs.Booleans.{both_false}
use Rattle.numbers.specs.Zeros.{zeros}
use Rattle.state.specs.Areas.{Started}
use Rattle.state.specs.Layout.{state_len, work_len}
use Rattle.state.proofs.Valid.{state_is}
use Rattle.table.specs.Answers.{checked_of, action_answer}
use Rattle.table.specs.declared.Action.{Action}
use Rattle.table.proofs.Bounds.{start_found, start_state_below}
use Rattle.table.proofs.Checking.{decoded_of, right_of, not_right_of}
use Rattle.promises.specs.Buffers.{lengths_right, work_after}
use Rattle.promises.specs.Calls.{StartPromise}
use Rattle.machine.specs.Lines.{StartLine}

module _ (table state : List ℕ) (r : Option Table) (says : r ≡ checked_of table) where
  pub start_wrong : r ≡ None → StartLine table state (Err WrongTable) state
  unfolding start_call
  start_wrong e =
      let no = not_right_of table r says e in
      record { answers = rw no; readings = rw no; refused = λ _. refl; started = λ z. absurd (omega arith) }

  module _ (t : Table) (e : r ≡ Some t) (a : Action) (f : a ≡ action_answer (action_of t 0 2)) where
    shift_is : a.shift ≡ Some (state_no (start_state (table_of table)))
    shift_is = start_found table (right_of table t r says e) a (rw (decoded_of table t r says e) at f)

    pub start_shifts : IsSome a.shift
    start_shifts = rw shift_is

    pub start_right : (state' : List ℕ) (q : StateNo) → a.shift ≡ Some q → Started q state state' → StartLine table state (Ok tt) state'
    unfolding start_call
    start_right state' q g s =
        let ok = right_of table t r says e in
        let is = shift_is in
        let same : q ≡ state_no (start_state (table_of table)) = cc in
        let u : Started (state_no (start_state (table_of table))) state state' = rw same at s in
        let l : start_state (table_of table) < (table_of table).counts.states = start_state_below table ok in
        record {
          answers = rw ok;
          readings = rw ok (state_is (table_of table).counts.states state' (u.valid _ l) ∙ ap Some (u.readings (table_of table) refl));
          refused = λ z. absurd (z refl);
          started = λ _. u;
        }

module _ (table state work : List ℕ) where
  start_length : lengths_right state work ≡ false → StartPromise table state work (Err WrongLength) state work
  unfolding start_call work_after
  start_length f = record { leaves = record { answers = rw f; readings = rw f; refused = λ _. refl; started = λ z. absurd (omega arith) }; cleared = rw f }

  pub start_state_length : (length state ≡ state_len → ⊥) → StartPromise table state work (Err WrongLength) state work
  unfolding lengths_right
  start_state_length l = start_length (rw (ne_eqb (length state) 18532 l))

  pub start_work_length : (same : List ℕ) → IsWholeChunk state same state_len → (length work ≡ work_len → ⊥) → StartPromise table state work (Err WrongLength) same work
  unfolding lengths_right
  start_work_length same s l = rw s.same (start_length (rw (ne_eqb (length work) 46464 l, both_false)))

  pub start_done : (same work₁ : List ℕ) (r : StartAnswer) (state' work' : List ℕ) → IsWholeChunk state same state_len → IsWholeChunk work work₁ work_len → StartLine table same r state' → work' ≡ zeros (length work₁) →
      StartPromise table state work r state' work'
  unfolding work_after lengths_right
  start_done same work₁ r state' work' s w l z =
      let yes : lengths_right state work ≡ true = rw (eq-eqb (length state) 18532 s.long, eq-eqb (length work) 46464 w.long) in
      record { leaves = rw yes (rw s.same at l); cleared = rw yes (z ∙ ap (λ (x : List ℕ). zeros (length x)) w.same) }
