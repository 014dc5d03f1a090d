-- The first demand, of every call: which numbers it answers by and what it keeps, whatever it is given. Assumes nothing.
use Prim.Native.Nat.{ℕ, zero, suc, ◌≤◌}
use native.Mathlib.Omega.{arith}
use mathlib.Core.Path.{◌≡◌, refl, sym, ap, ◌∙◌, subst}
use mathlib.Core.Bool.{Bool, true, false}
use mathlib.Core.List.{List, map}
use mathlib.Core.Logic.{◌⊎◌, inl, inr}
use lib.ListN.{length, get_or, drop}
use borrow.Author.Tests.{leb-false}
use Rattle.std.specs.Prelude.{Ok, Err, if◌then◌else◌}
use Rattle.meaning.specs.Answers.{StartAnswer, FeedAnswer, QuestionAnswer, StackAnswer, number, start_number, feed_numbers, question_numbers, stack_numbers, done, not_taken}
use Rattle.meaning.specs.Bounds.{Standing, Bounded}
use Rattle.meaning.specs.Calls.{State, no_reading, StartCall, FeedCall, StackCall}
use Rattle.meaning.specs.Feeding.{feed}
use Rattle.meaning.specs.Readings.{Reading, seen}
use Rattle.meaning.specs.TableFile.{table_of}
use Rattle.meaning.specs.declared.Entry.{Entry as SeenEntry}
use Rattle.meaning.specs.declared.ErrorRecord.{ErrorRecord}
use Rattle.meaning.specs.declared.FeedNumbers.{FeedNumbers}
use Rattle.meaning.specs.declared.StackNumbers.{StackNumbers}
use Rattle.meaning.specs.declared.StateNo.{StateNo}
use Rattle.meaning.specs.declared.Term.{Term}
use Rattle.meaning.proofs.Bounds.{bounds}
use Rattle.meaning.proofs.Tools.{length-map}
use Rattle.numbers.specs.Writing.{length_put_u16}
use Rattle.cells.proofs.Records.{length_put_cell}
use Rattle.state.specs.Areas.{start_of}
use Rattle.state.specs.Readings.{used_of}
use Rattle.state.proofs.Slots.{length_put_slot}
use Rattle.meaning.proofs.Booleans.{no_false}
use Rattle.promises.specs.Buffers.{lengths_right, feed_lengths, lists_right, state_for, work_after}
use Rattle.promises.specs.Calls.{StartPromise, QuestionPromise, StackPromise, feed_on, FeedPromise}
use Rattle.promises.specs.Claims.{Refusing, WorkLeft, StartKeeps, FeedKeeps, QuestionKeeps, StackKeeps, Demand1}
use Rattle.promises.proofs.Asking.{Asked, takes_asked, can_end_asked, can_recover_asked, StackStopped, StackWent, stack_case, all_at}
use Rattle.promises.proofs.Buffers.{found_holds, feed_long, list_long, written_long, written_past, written_none}
use Rattle.promises.proofs.Checks.{StartStopped, StartWent, start_case, FeedStopped, FeedWent, feed_case, feed_tells}
use Rattle.promises.proofs.Refusals.{feed_ranged}

-- The work area by the lengths, where 1 is answered for wrong ones and for no other reason.
work_is : (lengths : Bool) (n : ℕ) (work work' : List ℕ) → (lengths ≡ false → n ≡ 1) → (lengths ≡ true → n ≡ 1 → ⊥) → work' ≡ work_after lengths work → WorkLeft n work work'
unfolding work_after
work_is true n work work' wrong right e = record { untouched = λ z. absurd (right refl z); zeroed = λ z. e }
work_is false n work work' wrong right e = record { untouched = λ z. e; zeroed = λ z. absurd (z (wrong refl)) }

-- Start.

length_start_of : (q : StateNo) (s : List ℕ) → length (start_of q s) ≡ length s
unfolding start_of
length_start_of q s = simp (length_put_u16, length_put_slot, length_put_cell)

module _ (table state work : List ℕ) (r : StartAnswer) (state' work' : List ℕ) (a : StartPromise table state work r state' work') where
  state_by : (n : ℕ) → start_number r ≡ n → length state' ≡ length state
  state_by zero e = ap length (a.leaves.started e).exact ∙ length_start_of _ state
  state_by (suc n) e = ap length (a.leaves.refused (λ z. omega arith))

  start_keeps : StartKeeps state work r state' work'
  start_keeps = at (start_case (lengths_right state work) table (state_for table state) 0)
    where
      keeps : start_number r ≤ 2 → (lengths_right state work ≡ false → start_number r ≡ 1) → (lengths_right state work ≡ true → start_number r ≡ 1 → ⊥) → StartKeeps state work r state' work'
      keeps few wrong right =
          record {
            answer = few;
            state_kept = λ h. a.leaves.refused (λ z. let l = h.0 in omega arith);
            state_long = state_by (start_number r) refl;
            work_left = work_is (lengths_right state work) (start_number r) work work' wrong right a.cleared;
          }

      at : StartStopped (lengths_right state work) table (state_for table state) 0 ⊎ StartWent (lengths_right state work) table (state_for table state) 0 → StartKeeps state work r state' work'
      at (inl s) =
          let e : start_number r ≡ number s.by = a.leaves.answers ∙ ap (λ (c : StartCall). c.answer) s.is in
          let f = s.few in
          keeps (omega arith) (λ q. e ∙ s.wrong_lengths q) (λ q z. let t = s.right_lengths q in omega arith)
      at (inr w) =
          let e : start_number r ≡ 0 = a.leaves.answers ∙ ap (λ (c : StartCall). c.answer) w.is in
          keeps (omega arith) (λ q. no_false (sym q ∙ w.lengths_hold)) (λ q z. omega arith)

-- The questions.

asks_keep : (call : Bool → QuestionAnswer) (s : State) (state work : List ℕ) (r : QuestionAnswer) (work' : List ℕ) → ((b : Bool) → Asked b s (question_numbers (call b)).answer) →
    QuestionPromise call state work r work' → QuestionKeeps work r work'
asks_keep call s state work r work' h a =
    let k = h (lengths_right state work) in
    let e : (question_numbers r).answer ≡ (question_numbers (call (lengths_right state work))).answer = ap (λ (q : QuestionAnswer). (question_numbers q).answer) a.answers in
    let f = k.few in
    record {
      answer = omega arith;
      answer_not_4 = λ z. k.not_4 (sym e ∙ z);
      work_left = work_is (lengths_right state work) (question_numbers r).answer work work' (λ q. e ∙ k.tells_of.wrong_lengths q) (λ q z. k.tells_of.right_lengths q (sym e ∙ z)) a.cleared;
    }

-- Reading a stack out.

module _ (table state : List ℕ) (i : ℕ) (entries : List SeenEntry) (r : StackAnswer) (entries' : List SeenEntry) (a : StackPromise table state i entries r entries') where
  stack_keeps : StackKeeps entries r entries'
  stack_keeps = at (stack_case b table (state_for table state) i entries)
    where
      b : Bool
      b = lists_right state (length entries)

      at : StackStopped b table (state_for table state) i entries ⊎ StackWent b table (state_for table state) i entries → StackKeeps entries r entries'
      at (inl s) =
          let e : stack_numbers r ≡ record { answer = number s.by; height = 0; mark = 0 } = a.answers ∙ ap (λ (c : StackCall). c.says) s.is in
          let n : (stack_numbers r).answer ≡ number s.by = ap (λ (m : StackNumbers). m.answer) e in
          let same : entries' ≡ entries = a.entries_are ∙ ap (λ (c : StackCall). c.entries) s.is in
          let f = s.few in
          record { answer = omega arith; entries_kept = λ h. same; entries_long = ap length same; entries_past = ap (drop (stack_numbers r).height) same }
      at (inr w) =
          let q : Reading = get_or w.found i no_reading in
          let e : stack_numbers r ≡ record { answer = 0; height = length q.stack; mark = q.mark } = a.answers ∙ ap (λ (c : StackCall). c.says) w.is in
          let n : (stack_numbers r).answer ≡ 0 = ap (λ (m : StackNumbers). m.answer) e in
          let high : (stack_numbers r).height ≡ length (map seen q.stack) = ap (λ (m : StackNumbers). m.height) e ∙ sym (length-map seen q.stack) in
          let is = a.entries_are ∙ ap (λ (c : StackCall). c.entries) w.is in
          let stands : Standing q = all_at Standing w.found i no_reading (found_holds table state w.found w.state_is).facts.standing (leb-false (length w.found) i w.there) in
          let top = stands.1 in
          let l = list_long state (length entries) w.right_lengths in
          let m = length-map seen q.stack in
          record {
            answer = omega arith;
            entries_kept = λ h. let z = h.0 in absurd (omega arith);
            entries_long = ap length is ∙ written_long (map seen q.stack) entries (omega arith);
            entries_past =
                subst (λ (k : ℕ). drop k entries' ≡ drop k entries) (sym high) (ap (drop (length (map seen q.stack))) is ∙ written_past (map seen q.stack) entries);
          }

-- Feed.

-- a refusal has no errors
refusing_none : (r : FeedAnswer) → Refusing (feed_numbers r).answer → (feed_numbers r).errors ≡ 0
refusing_none (Ok f) h = absurd (never f.taken h)
  where
    never : (taken : Bool) → Refusing (if taken then done else not_taken) → ⊥
    never true h = let z = h.0 in omega arith
    never false h = let z = h.1 in omega arith
refusing_none (Err k) h = refl

module _ (table state work : List ℕ) (x : Term) (errors : List ErrorRecord) (r : FeedAnswer) (state' work' : List ℕ) (errors' : List ErrorRecord)
    (a : FeedPromise table state work x errors r state' work' errors') where
  right : Bool
  right = feed_lengths state work (length errors)

  -- the parts that do not depend on how the feed went
  feed_parts : (feed_numbers r).answer ≤ 12 → (Refusing (feed_numbers r).answer → errors' ≡ errors) → length errors' ≡ length errors → drop (feed_numbers r).errors errors' ≡ drop (feed_numbers r).errors errors →
      (feed_numbers r).errors ≤ 32 → (feed_numbers r).walked ≤ 1081344 → FeedKeeps state work errors r state' work' errors'
  unfolding right
  feed_parts few kept long past some walked =
      let n : (feed_numbers r).answer ≡ (feed_on table state work x errors).says.answer = ap (λ (m : FeedNumbers). m.answer) a.leaves.answers in
      let t = feed_tells right table (state_for table state) x errors (used_of state) in
      record {
        answer = few;
        state_kept = a.leaves.refused;
        state_long = a.leaves.spared.long;
        errors_kept = kept;
        errors_long = long;
        errors_past = past;
        errors_few = some;
        walked_few = walked;
        work_left = work_is right (feed_numbers r).answer work work' (λ q. n ∙ t.wrong_lengths q) (λ q z. t.right_lengths q (sym n ∙ z)) a.cleared;
      }

  feed_keeps : FeedKeeps state work errors r state' work' errors'
  unfolding right
  feed_keeps = at (feed_case right table (state_for table state) x errors (used_of state))
    where
      at : FeedStopped right table (state_for table state) x errors (used_of state) ⊎ FeedWent right table (state_for table state) x errors (used_of state) → FeedKeeps state work errors r state' work' errors'
      at (inl s) =
          let e : feed_numbers r ≡ record { answer = number s.by; errors = 0; walked = 0 } = a.leaves.answers ∙ ap (λ (c : FeedCall). c.says) s.is in
          let n : (feed_numbers r).answer ≡ number s.by = ap (λ (m : FeedNumbers). m.answer) e in
          let c : (feed_numbers r).errors ≡ 0 = ap (λ (m : FeedNumbers). m.errors) e in
          let w : (feed_numbers r).walked ≡ 0 = ap (λ (m : FeedNumbers). m.walked) e in
          let same : errors' ≡ errors = a.leaves.errors_are ∙ ap (λ (c : FeedCall). c.errors) s.is in
          let f = s.few in
          feed_parts (omega arith) (λ h. same) (ap length same) (ap (drop (feed_numbers r).errors) same) (omega arith) (omega arith)
      at (inr w) =
          let f = feed (table_of table) x w.found (used_of state) in
          let e : feed_numbers r ≡ record { answer = f.answer; errors = length f.errors; walked = f.walked } = a.leaves.answers ∙ ap (λ (c : FeedCall). c.says) w.is in
          let n : (feed_numbers r).answer ≡ f.answer = ap (λ (m : FeedNumbers). m.answer) e in
          let c : (feed_numbers r).errors ≡ length f.errors = ap (λ (m : FeedNumbers). m.errors) e in
          let k : (feed_numbers r).walked ≡ f.walked = ap (λ (m : FeedNumbers). m.walked) e in
          let is = a.leaves.errors_are ∙ ap (λ (c : FeedCall). c.errors) w.is in
          let facts = (found_holds table state w.found w.state_is).facts in
          let bound : Bounded (used_of state) f = bounds (table_of table) x w.found (used_of state) facts.few facts.standing in
          let most = bound.errors in
          let far = bound.walked in
          let range = feed_ranged (table_of table) x w.found (used_of state) in
          let top = range.1 in
          let places = (feed_long state work (length errors) w.right_lengths).2 in
          feed_parts (omega arith) (λ h. let z = refusing_none r h in is ∙ written_none f.errors errors (omega arith)) (ap length is ∙ written_long f.errors errors (omega arith))
          (subst (λ (m : ℕ). drop m errors' ≡ drop m errors) (sym c) (ap (drop (length f.errors)) is ∙ written_past f.errors errors)) (omega arith) (omega arith)

pub demand1 : Demand1
demand1 =
    record {
      start = start_keeps;
      feed = feed_keeps;
      takes = λ table state work class r work' a. asks_keep _ (state_for table state) state work r work' (λ b. takes_asked b table (state_for table state) class) a;
      can_end = λ table state work r work' a. asks_keep _ (state_for table state) state work r work' (λ b. can_end_asked b table (state_for table state)) a;
      can_recover = λ table state work r work' a. asks_keep _ (state_for table state) state work r work' (λ b. can_recover_asked b table (state_for table state)) a;
      stack = stack_keeps;
    }
