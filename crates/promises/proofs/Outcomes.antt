-- Each promise leaves one outcome: any two that it allows are equal, of start, of the questions and of reading out to the last byte, of a feed but for which cell holds which entry. Assumes nothing.
use mathlib.Core.Path.{◌≡◌, refl, sym, ap, ◌∙◌, subst}
use mathlib.Core.Bool.{Bool, true, false}
use mathlib.Core.List.{List, [], ◌∷◌}
use Prim.Native.Nat.{ℕ, zero, suc, ◌≤◌}
use native.Mathlib.Omega.{arith}
use Rattle.std.specs.Prelude.{Ok, Err, if◌then◌else◌, None, Some}
use Rattle.meaning.specs.Answers.{StartAnswer, FeedAnswer, QuestionAnswer, StackAnswer, number, start_number, feed_numbers, stack_numbers, done, not_taken}
use Rattle.meaning.specs.Calls.{State}
use Rattle.meaning.specs.TableFile.{table_of}
use Rattle.meaning.specs.declared.Entry.{Entry as SeenEntry}
use Rattle.meaning.specs.declared.ErrorRecord.{ErrorRecord}
use Rattle.meaning.specs.declared.FeedNumbers.{FeedNumbers}
use Rattle.meaning.specs.declared.Refusal.{Refusal}
use Rattle.meaning.specs.declared.Refusal.TheVariants.{WrongLength, WrongTable, WrongState, Consumed, WrongArgument, ReachesStart, NoGoto, TooHigh, ChainTooLong, WalkTooLong, TooManyReadings}
use Rattle.meaning.specs.declared.StackNumbers.{StackNumbers}
use Rattle.meaning.specs.declared.Term.{Term}
use Rattle.state.specs.Readings.{readings_of}
use Rattle.promises.specs.Buffers.{state_for}
use Rattle.promises.specs.Calls.{StartPromise, QuestionPromise, StackPromise, SameState, FeedPromise, feed_on}
use Rattle.promises.specs.Cells.{EqualButCells}
use Rattle.promises.specs.Claims.{Refusing, plain_state, SameOutcome}
use Rattle.promises.proofs.Buffers.{fits_found}
use Rattle.promises.proofs.Identities.{renamed_plain, state_back, state_on}
use Rattle.promises.proofs.Lasting.{never_wrong_state}
use Rattle.promises.proofs.SameCells.{equal_but_cells}

-- An answer by its number: done, refused, not taken.
abbrev nth_of : {A : Type 0} → A → List A → ℕ → A
nth_of none [] n = none
nth_of none (a ∷ more) zero = a
nth_of none (a ∷ more) (suc n) = nth_of none more n

abbrev by_number : {A : Type 0} → (done last : A) → (Refusal → A) → ℕ → A
by_number done last f n =
    nth_of last
    (done ∷ f WrongLength ∷ f WrongTable ∷ f WrongState ∷ f Consumed ∷ f WrongArgument ∷ f ReachesStart ∷ f NoGoto ∷ f TooHigh ∷ f ChainTooLong ∷ f WalkTooLong ∷ f TooManyReadings ∷ [])
    n

refused_back : {A : Type 0} (done last : A) (f : Refusal → A) (k : Refusal) → by_number done last f (number k) ≡ f k
refused_back done last f WrongLength = refl
refused_back done last f WrongTable = refl
refused_back done last f WrongState = refl
refused_back done last f Consumed = refl
refused_back done last f WrongArgument = refl
refused_back done last f ReachesStart = refl
refused_back done last f NoGoto = refl
refused_back done last f TooHigh = refl
refused_back done last f ChainTooLong = refl
refused_back done last f WalkTooLong = refl
refused_back done last f TooManyReadings = refl

abbrev start_of : ℕ → StartAnswer
start_of n = by_number (Ok tt) (Ok tt) Err n

start_back : (r : StartAnswer) → start_of (start_number r) ≡ r
start_back (Ok _) = refl
start_back (Err k) = refused_back (Ok tt) (Ok tt) Err k

abbrev fed : Bool → FeedNumbers → FeedAnswer
fed taken m = Ok (record { taken = taken; errors = m.errors; walked = m.walked })

abbrev feed_of : FeedNumbers → FeedAnswer
feed_of m = by_number (fed true m) (fed false m) Err m.answer

feed_back : (r : FeedAnswer) → feed_of (feed_numbers r) ≡ r
feed_back (Ok f) = at f.taken
  where
    at : (taken : Bool) → feed_of (record { answer = (if taken then done else not_taken); errors = f.errors; walked = f.walked }) ≡ Ok (record f { taken = taken })
    at true = refl
    at false = refl
feed_back (Err k) = refused_back (fed true none) (fed false none) Err k
  where
    none : FeedNumbers
    none = record { answer = number k; errors = 0; walked = 0 }

abbrev stack_of : StackNumbers → StackAnswer
stack_of m = by_number (Ok (record { height = m.height; mark = m.mark })) (Ok (record { height = m.height; mark = m.mark })) Err m.answer

stack_back : (r : StackAnswer) → stack_of (stack_numbers r) ≡ r
stack_back (Ok s) = refl
stack_back (Err k) = refused_back (Ok (record { height = 0; mark = 0 })) (Ok (record { height = 0; mark = 0 })) Err k

-- So an answer is known by its numbers.
pub start_known : (r q : StartAnswer) → start_number r ≡ start_number q → r ≡ q
start_known r q e = sym (start_back r) ∙ ap start_of e ∙ start_back q

pub feed_known : (r q : FeedAnswer) → feed_numbers r ≡ feed_numbers q → r ≡ q
feed_known r q e = sym (feed_back r) ∙ ap feed_of e ∙ feed_back q

pub stack_known : (r q : StackAnswer) → stack_numbers r ≡ stack_numbers q → r ≡ q
stack_known r q e = sym (stack_back r) ∙ ap stack_of e ∙ stack_back q

module _ (table state work : List ℕ) (r q : StartAnswer) (state₁ work₁ state₂ work₂ : List ℕ) (a : StartPromise table state work r state₁ work₁) (b : StartPromise table state work q state₂ work₂) where
  same_number : start_number r ≡ start_number q
  same_number = a.leaves.answers ∙ sym b.leaves.answers

  -- the state by the number
  same_state : (n : ℕ) → start_number r ≡ n → state₁ ≡ state₂
  same_state zero e = (a.leaves.started e).exact ∙ sym (b.leaves.started (sym same_number ∙ e)).exact
  same_state (suc n) e = a.leaves.refused (λ z. omega arith) ∙ sym (b.leaves.refused (λ z. let y = same_number in omega arith))

  pub start_determined : (r ≡ q) × (state₁ ≡ state₂) × (work₁ ≡ work₂)
  start_determined = (start_known r q same_number, same_state (start_number r) refl, a.cleared ∙ sym b.cleared)

pub question_determined : (call : Bool → QuestionAnswer) (state work : List ℕ) (r q : QuestionAnswer) (work₁ work₂ : List ℕ) → QuestionPromise call state work r work₁ → QuestionPromise call state work q work₂ → (r ≡ q) × (work₁ ≡ work₂)
question_determined call state work r q work₁ work₂ a b = (a.answers ∙ sym b.answers, a.cleared ∙ sym b.cleared)

pub stack_determined : (table state : List ℕ) (i : ℕ) (entries : List SeenEntry) (r q : StackAnswer) (entries₁ entries₂ : List SeenEntry) → StackPromise table state i entries r entries₁ → StackPromise table state i entries q entries₂ →
    (r ≡ q) × (entries₁ ≡ entries₂)
stack_determined table state i entries r q entries₁ entries₂ a b =
    (stack_known r q (a.answers ∙ sym b.answers), a.entries_are ∙ sym b.entries_are)

-- Readings that are the same but for identities look the same.
same_plain : (s s' : State) → SameState s s' → plain_state s ≡ plain_state s'
same_plain None None h = refl
same_plain None (Some rs) h = absurd h
same_plain (Some rs) None h = absurd h
same_plain (Some rs) (Some rs') h = ap {B = State} Some (sym (renamed_plain rs rs' h))

module _ (table state work : List ℕ) (x : Term) (errors : List ErrorRecord) (r q : FeedAnswer) (state₁ work₁ state₂ work₂ : List ℕ) (errors₁ errors₂ : List ErrorRecord)
    (a : FeedPromise table state work x errors r state₁ work₁ errors₁) (b : FeedPromise table state work x errors q state₂ work₂ errors₂) where
  same_numbers : feed_numbers r ≡ feed_numbers q
  same_numbers = a.leaves.answers ∙ sym b.leaves.answers

  -- both are the definition's, each under identities of its own
  same_states : SameState (state_for table state₁) (state_for table state₂)
  same_states =
      let s : State = (feed_on table state work x errors).state in
      state_on (state_for table state₁) s (state_for table state₂) (state_back s (state_for table state₁) a.leaves.readings) b.leaves.readings

  -- where it is not refused both are states of the table
  same_cells : (Refusing (feed_numbers r).answer → ⊥) → EqualButCells state₁ state₂
  same_cells h =
      let k : Refusing (feed_numbers q).answer → ⊥ = λ z. h (subst (λ (m : FeedNumbers). Refusing m.answer) (sym same_numbers) z) in
      let u = never_wrong_state.feed_leaves table state work x errors r state₁ work₁ errors₁ a (λ z. h (z.0, omega arith)) in
      let v = never_wrong_state.feed_leaves table state work x errors q state₂ work₂ errors₂ b (λ z. k (z.0, omega arith)) in
      equal_but_cells (table_of table).counts.states state state₁ state₂ u v (a.leaves.compact h) (b.leaves.compact k) a.leaves.spared b.leaves.spared
      (subst (λ (s : State). SameState s (Some (readings_of state₂))) (fits_found table state₁ u) (subst (SameState (state_for table state₁)) (fits_found table state₂ v) same_states))

  pub feed_determined : SameOutcome table r q state₁ state₂ work₁ work₂ errors₁ errors₂
  feed_determined =
      record {
        answer = feed_known r q same_numbers;
        states = same_states;
        readings = same_plain (state_for table state₁) (state_for table state₂) same_states;
        refused = λ h. a.leaves.refused h ∙ sym (b.leaves.refused (subst (λ (m : FeedNumbers). (1 ≤ m.answer) × (m.answer ≤ 11)) same_numbers h));
        taken = same_cells;
        work = a.cleared ∙ sym b.cleared;
        errors = a.leaves.errors_are ∙ sym b.leaves.errors_are;
      }
