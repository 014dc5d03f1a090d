-- The ways out of the measured calls. Assumes nothing.
use mathlib.Core.Path.{◌≡◌, refl, sym, ap, ◌∙◌}
use mathlib.Core.Bool.{Bool, true, false}
use mathlib.Core.List.{List}
use Prim.Native.Nat.{ℕ, ◌<◌, ◌≤◌}
use lib.ListN.{length}
use mir.Val.{bool_byte}
use borrow.Author.Tests.{eq-eqb, ne_eqb, le-leb, lt-leb}
use Rattle.std.specs.Prelude.{Option, Some, None, if◌then◌else◌}
use Rattle.std.specs.Option.{is_some}
use Rattle.std.specs.Array.{IsWholeChunk}
use Rattle.meaning.specs.TableFile.{Table, view_of, action_of, goto_of, target}
use Rattle.meaning.specs.TableRight.{table_ok}
use Rattle.meaning.specs.declared.StateNo.{StateNo}
use Rattle.meaning.specs.declared.View.{View}
use Rattle.state.specs.Areas.{loaded}
use Rattle.state.specs.Check.{valid_state}
use Rattle.state.specs.Layout.{state_len, work_len, state_cells}
use Rattle.state.specs.Readings.{used_of}
use Rattle.table.specs.Answers.{check_of, checked_of, action_answer, goto_answer}
use Rattle.table.specs.declared.Action.{Action}
use Rattle.table.proofs.Checking.{decoded_of, right_of, not_right_of}
use Rattle.bench.specs.Measured.{one_if, place_to, action_target, goto_target, state_right, loaded_if}

-- a test as a number
byte_is : (b : Bool) → bool_byte b ≡ one_if b
byte_is true = refl
byte_is false = refl

-- The check.
pub check_is : (table : List ℕ) (q : Option View) (b : Bool) (r : ℕ) → q ≡ check_of table → b ≡ is_some q → r ≡ bool_byte b → r ≡ one_if (table_ok table)
unfolding check_of
check_is table q b r e f g = g ∙ byte_is b ∙ ap one_if (f ∙ ap is_some e ∙ some_is (table_ok table))
  where
    some_is : (c : Bool) → is_some (if c then Some (view_of table) else None) ≡ c
    some_is true = refl
    some_is false = refl

-- Where an answer leads.
target_is : (m : Option ℕ) → place_to (goto_answer m) ≡ target m
unfolding goto_answer
target_is None = refl
target_is (Some to) = refl

-- A lookup behind the check.
module _ (table : List ℕ) (q : Option Table) (says : q ≡ checked_of table) (state key : ℕ) where
  pub action_wrong : q ≡ None → 0 ≡ action_target table state key
  unfolding action_target
  action_wrong e = rw (not_right_of table q says e)

  pub goto_wrong : q ≡ None → 0 ≡ goto_target table state key
  unfolding goto_target
  goto_wrong e = rw (not_right_of table q says e)

  module _ (t : Table) (e : q ≡ Some t) where
    pub action_right : (a : Action) (r : ℕ) → a ≡ action_answer (action_of t state key) → r ≡ place_to a.shift → r ≡ action_target table state key
    unfolding action_target action_answer
    action_right a r f g =
        rw (right_of table t q says e)
        (g ∙ ap (λ (b : Action). place_to b.shift) f ∙ target_is (action_of t state key).shift ∙ ap (λ (u : Table). target (action_of u state key).shift) (decoded_of table t q says e))

    pub goto_right : (a : Option StateNo) (r : ℕ) → a ≡ goto_answer (goto_of t state key) → r ≡ place_to a → r ≡ goto_target table state key
    unfolding goto_target
    goto_right a r f g =
        rw (right_of table t q says e)
        (g ∙ ap place_to f ∙ target_is (goto_of t state key) ∙ ap (λ (u : Table). target (goto_of u state key)) (decoded_of table t q says e))

-- The check of a state.
module _ (state : List ℕ) (states : ℕ) where
  pub state_other : (length state ≡ state_len → ⊥) → 0 ≡ state_right state states
  unfolding state_right
  state_other l = rw (ne_eqb (length state) 18532 l)

  pub state_asked : (same : List ℕ) → IsWholeChunk state same state_len → (b : Bool) (r : ℕ) → b ≡ valid_state states same → r ≡ bool_byte b → r ≡ state_right state states
  unfolding state_right
  state_asked same w b r e f = rw (eq-eqb (length state) 18532 w.long) (f ∙ byte_is b ∙ ap one_if (rw w.same at e))

-- The load.
module _ (state work : List ℕ) where
  pub load_other_state : (length state ≡ state_len → ⊥) → work ≡ loaded_if state work
  unfolding loaded_if
  load_other_state l = rw (ne_eqb (length state) 18532 l)

  module _ (same : List ℕ) (s : IsWholeChunk state same state_len) where
    pub load_other_work : (length work ≡ work_len → ⊥) → work ≡ loaded_if state work
    unfolding loaded_if
    load_other_work k = rw (eq-eqb (length state) 18532 s.long, ne_eqb (length work) 46464 k)

    module _ (work₁ : List ℕ) (w : IsWholeChunk work work₁ work_len) (n : ℕ) (e : n ≡ used_of same) where
      used_here : used_of state ≡ n
      used_here = sym (rw s.same at e)

      pub load_too_many : state_cells < n → work₁ ≡ loaded_if state work
      unfolding loaded_if
      load_too_many h = rw (eq-eqb (length state) 18532 s.long, eq-eqb (length work) 46464 w.long, used_here, lt-leb n state_cells h) w.same

      pub load_done : n ≤ state_cells → (work' : List ℕ) → work' ≡ loaded same work₁ → work' ≡ loaded_if state work
      unfolding loaded_if
      load_done h work' f = rw (eq-eqb (length state) 18532 s.long, eq-eqb (length work) 46464 w.long, used_here, le-leb n state_cells h) (rw (s.same, w.same) at f)
