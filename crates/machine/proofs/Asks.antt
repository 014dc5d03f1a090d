-- The ways out of the questions. Assumes nothing.
use mathlib.Core.Path.{◌≡◌, refl, sym, ap, ◌∙◌}
use mathlib.Core.Bool.{Bool, true, false}
use mathlib.Core.List.{List}
use Prim.Native.Nat.{ℕ}
use native.Mathlib.Omega.{arith}
use lib.ListN.{length, drop, length-drop}
use lib.Seq.{length-take-le}
use borrow.Rule.Slice.PartMut.{mid_of, put_mid, same_len_mid}
use borrow.Author.Tests.{eq-eqb, ne_eqb}
use Rattle.std.specs.Prelude.{Result, Ok, Err}
use Rattle.std.specs.Array.{IsWholeChunk}
use Rattle.meaning.specs.Answers.{QuestionAnswer}
use Rattle.meaning.specs.Basics.{is_nil}
use Rattle.meaning.specs.Calls.{wrong_class, takes_right, takes_call, can_end_call, can_recover_call}
use Rattle.meaning.specs.Questions.{takes, can_end, can_recover}
use Rattle.meaning.specs.TableFile.{Table}
use Rattle.meaning.specs.declared.Refusal.{Refusal}
use Rattle.meaning.specs.declared.Refusal.TheVariants.{WrongLength, WrongArgument}
use Rattle.meaning.proofs.Booleans.{both_false}
use Rattle.numbers.specs.Zeros.{zeros}
use Rattle.questions.specs.Asking.{AsksState}
use Rattle.state.specs.Layout.{marks_at, state_len, work_len}
use Rattle.state.specs.Readings.{readings_from, readings_of, count_of}
use Rattle.promises.specs.Buffers.{lengths_right, work_after}
use Rattle.promises.specs.Calls.{QuestionPromise}
use Rattle.checks.specs.Checks.{found_of}
use Rattle.checks.proofs.Checks.{some_readings, file_found, valid_found, checked_refused, checked_right}
use Rattle.machine.specs.Lines.{MarksLine, asked_right, asked_on}
use Rattle.machine.specs.declared.asking.Question.{Question}
use Rattle.machine.specs.declared.asking.Question.TheVariants.{Takes, CanEnd, CanRecover}

-- Takes, of a table and a state that were found right.
module _ (t : Table) (state : List ℕ) (class n : ℕ) (e : n ≡ count_of state) where
  pub takes_consumed : n ≡ 0 → Ok false ≡ takes_right t class (readings_of state)
  unfolding takes_right readings_from
  takes_consumed z = rw (← e, z)

  module _ (some : n ≡ 0 → ⊥) (b : Bool) (f : b ≡ wrong_class t.counts.classes class) where
    not_nil : is_nil (readings_of state) ≡ false
    not_nil = some_readings state (count_of state) (λ z. some (e ∙ z))

    pub takes_wrong : b ≡ true → Err WrongArgument ≡ takes_right t class (readings_of state)
    unfolding takes_right
    takes_wrong g = rw (not_nil, ← f, g)

    pub takes_asked : b ≡ false → (r : QuestionAnswer) → r ≡ takes t class (readings_of state) → r ≡ takes_right t class (readings_of state)
    unfolding takes_right
    takes_asked g r h = rw (not_nil, ← f, g) h

-- Each question, by what the checks find.
module _ (table state : List ℕ) (q : Result Table Refusal) (says : q ≡ found_of table state) where
  pub asked_refused : (k : Refusal) (x : Question) → q ≡ Err k → Err k ≡ asked_on table state x true
  unfolding takes_call can_end_call can_recover_call
  asked_refused k (Takes class) e = checked_refused table state q says Err (λ t rs. takes_right t class rs) k e
  asked_refused k CanEnd e = checked_refused table state q says Err can_end k e
  asked_refused k CanRecover e = checked_refused table state q says Err can_recover k e

  module _ (t : Table) (e : q ≡ Ok t) where
    pub asks_state : (marks : List ℕ) → MarksLine marks → AsksState t.counts.states state marks
    asks_state marks y = record { valid = valid_found table state q says t e; long = y.long }

    pub asked_found : (x : Question) (r : QuestionAnswer) → r ≡ asked_right t x (readings_of state) → r ≡ asked_on table state x true
    unfolding takes_call can_end_call can_recover_call
    asked_found (Takes class) r f = f ∙ checked_right table state t (file_found table state q says t e) (valid_found table state q says t e) Err (λ u rs. takes_right u class rs)
    asked_found CanEnd r f = f ∙ checked_right table state t (file_found table state q says t e) (valid_found table state q says t e) Err can_end
    asked_found CanRecover r f = f ∙ checked_right table state t (file_found table state q says t e) (valid_found table state q says t e) Err can_recover

-- Check 1, and the work area cleared at every answer but 1.
asked_short : (table state : List ℕ) (x : Question) → asked_on table state x false ≡ Err WrongLength
unfolding takes_call can_end_call can_recover_call
asked_short table state (Takes class) = refl
asked_short table state CanEnd = refl
asked_short table state CanRecover = refl

module _ (table state work : List ℕ) (x : Question) where
  asked_length : lengths_right state work ≡ false → QuestionPromise (asked_on table state x) state work (Err WrongLength) work
  unfolding work_after
  asked_length e = record { answers = rw e (sym (asked_short table state x)); cleared = rw e }

  pub asked_state_length : (length state ≡ state_len → ⊥) → QuestionPromise (asked_on table state x) state work (Err WrongLength) work
  unfolding lengths_right
  asked_state_length l = asked_length (rw (ne_eqb (length state) 18532 l))

  pub asked_work_length : (length work ≡ work_len → ⊥) → QuestionPromise (asked_on table state x) state work (Err WrongLength) work
  unfolding lengths_right
  asked_work_length l = asked_length (rw (ne_eqb (length work) 46464 l, both_false))

  pub asked_done : (state₁ work₁ marks work' : List ℕ) (r : QuestionAnswer) → IsWholeChunk state state₁ state_len → IsWholeChunk work work₁ work_len → r ≡ asked_on table state₁ x true →
      length marks ≡ length (mid_of marks_at 4096 work₁) → work' ≡ zeros (length (put_mid marks_at 4096 work₁ marks)) → QuestionPromise (asked_on table state x) state work r work'
  unfolding work_after lengths_right
  asked_done state₁ work₁ marks work' r s w e l z =
      let yes : lengths_right state work ≡ true = rw (eq-eqb (length state) 18532 s.long, eq-eqb (length work) 46464 w.long) in
      record { answers = rw yes (rw s.same at e); cleared = rw yes (z ∙ ap zeros (same_len_mid marks_at 4096 work₁ marks l ∙ ap length w.same)) }

-- what the questions ask of the marks' part of the work area
pub marks_line : (work : List ℕ) → length work ≡ work_len → MarksLine (mid_of marks_at 4096 work)
marks_line work l =
    let d = length-drop marks_at work in
    record { long = length-take-le 4096 (drop marks_at work) (omega arith) }
