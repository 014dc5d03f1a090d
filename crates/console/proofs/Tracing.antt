-- Readings that can be read out: which there are, and how many. Assumes nothing.
use mathlib.Core.Path.{◌≡◌, refl, sym, ap, ◌∙◌}
use mathlib.Core.Bool.{Bool, true, false, not}
use mathlib.Core.List.{List, [], ◌∷◌}
use Prim.Native.Nat.{ℕ, ◌+◌, ◌≤◌}
use native.Mathlib.Omega.{arith}
use lib.Dec.{eqb, ltb, leb}
use lib.ListN.{length}
use borrow.Author.Tests.{eq-eqb, ne_eqb, ltb-true, ltb-false, lt-ltb, le-ltb, leb-true, leb-false}
use Rattle.meaning.specs.Answers.{StackAnswer, stack_numbers}
use Rattle.std.specs.Prelude.{if◌then◌else◌, Ok, Err, is_ok, None, Some}
use Rattle.meaning.specs.Calls.{State, check_state, StackCall, stack_refused, stack_right, stack_call}
use Rattle.meaning.specs.TableRight.{table_ok}
use Rattle.meaning.specs.declared.Refusal.TheVariants.{WrongTable}
use Rattle.meaning.specs.declared.StackNumbers.{StackNumbers}
use Rattle.meaning.proofs.Booleans.{not_no, not_yes}
use Rattle.meaning.proofs.Settled.{number_range}
use Rattle.state.specs.Layout.{state_len}
use Rattle.promises.specs.Buffers.{lists_right, state_for}
use Rattle.promises.specs.Calls.{stack_on}
use Rattle.promises.proofs.Buffers.{found_holds}
use Rattle.by_value.specs.Reading.{no_entries, ReadPromise}
use Rattle.by_value.specs.declared.reading.StackRead.{StackRead}
use Rattle.console.specs.Tracing.{readings_left}

-- By what the checks find: how many readings there are, and what reading one out answers.
abbrev left_if : (ok : Bool) → State → ℕ
left_if ok s = if not ok then 0 else check_state s (λ k. 0) (λ rs. length rs)

abbrev read_if : (ok : Bool) → State → (i : ℕ) → StackCall
read_if ok s i = if not ok then stack_refused no_entries.list WrongTable else check_state s (stack_refused no_entries.list) (λ rs. stack_right rs i no_entries.list)

-- a reading is there exactly where reading it out answers 0
answers_there : (ok : Bool) (s : State) (i : ℕ) → eqb (read_if ok s i).says.answer 0 ≡ ltb i (left_if ok s)
unfolding stack_right
answers_there false s i = sym (le-ltb i 0 (omega arith))
answers_there true None i = sym (le-ltb i 0 (omega arith))
answers_there true (Some []) i = sym (le-ltb i 0 (omega arith))
answers_there true (Some (r ∷ rs)) i = at (leb (length (r ∷ rs)) i) refl
  where
    at : (b : Bool) → leb (length (r ∷ rs)) i ≡ b → eqb (stack_right (r ∷ rs) i no_entries.list).says.answer 0 ≡ ltb i (length (r ∷ rs))
    at true e = rw (e, le-ltb i (length (r ∷ rs)) (leb-true (length (r ∷ rs)) i e))
    at false e = rw (e, lt-ltb i (length (r ∷ rs)) (leb-false (length (r ∷ rs)) i e))

-- an answer is 0 exactly where it is no refusal
ok_is_0 : (a : StackAnswer) → is_ok a ≡ eqb (stack_numbers a).answer 0
ok_is_0 (Ok s) = refl
ok_is_0 (Err k) = let l = (number_range k).0 in sym (ne_eqb (stack_numbers (Err k)).answer 0 (λ z. omega arith))

module _ (table state : List ℕ) (long : length state ≡ state_len) (i : ℕ) (r : StackRead) (p : ReadPromise (stack_on (lists_right state 64) table state i) r) where
  right : lists_right state 64 ≡ true
  unfolding lists_right
  right = rw (eq-eqb (length state) 18532 long)

  told : eqb (stack_numbers r.answer).answer 0 ≡ ltb i (readings_left table state)
  unfolding readings_left stack_call
  told =
      ap (λ (n : StackNumbers). eqb n.answer 0) (p.answers ∙ ap (λ (b : Bool). (stack_on b table state i no_entries.list).says) right)
      ∙ answers_there (table_ok table) (state_for table state) i

  pub reading_there : is_ok r.answer ≡ ltb i (readings_left table state)
  reading_there = ok_is_0 r.answer ∙ told

-- There are never more than 16.
pub few_left : (table state : List ℕ) → readings_left table state ≤ 16
unfolding readings_left
few_left table state = at (table_ok table) (state_for table state) refl
  where
    at : (ok : Bool) (s : State) → state_for table state ≡ s → left_if ok s ≤ 16
    at false s e = omega arith
    at true None e = omega arith
    at true (Some rs) e = (found_holds table state rs e).facts.few

-- The count so far: the readings below it are there; the first that is not ends it.
module _ (left i : ℕ) (h : i ≤ left) (b : Bool) (e : b ≡ ltb i left) where
  pub counted_on : not b ≡ false → i + 1 ≤ left
  counted_on f = let l = ltb-true i left (sym e ∙ not_no b f) in omega arith

  pub counted_all : not b ≡ true → i ≡ left
  counted_all f = let l = ltb-false i left (sym e ∙ not_yes b f) in omega arith

pub counted_16 : (table state : List ℕ) (i : ℕ) → i ≤ readings_left table state → 16 ≤ i → 16 ≡ readings_left table state
counted_16 table state i h l = let few = few_left table state in omega arith
