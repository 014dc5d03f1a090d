-- Determinacy over a run: each call of a caller, on two states that are the same but for cells, comes to the same. Assumes nothing.
use Prim.Native.Nat.{ℕ, zero, suc}
use native.Mathlib.Omega.{arith}
use mathlib.Core.Path.{◌≡◌, refl, sym, ap, ◌∙◌, subst}
use mathlib.Core.Bool.{Bool, true, false}
use mathlib.Core.List.{List, [], ◌∷◌}
use mathlib.Core.Logic.{◌⊎◌, inl, inr}
use lib.Dec.{eqb, leb}
use lib.ListN.{length}
use borrow.Author.Tests.{eqb-true, leb-true, leb-false}
use Rattle.meaning.specs.Answers.{StartAnswer, QuestionAnswer, number, start_number, feed_numbers}
use Rattle.meaning.specs.Basics.{both}
use Rattle.meaning.specs.Calls.{State, StartCall, start_call, feed_call, StackCall}
use Rattle.meaning.specs.Limits.{max_height, max_errors}
use Rattle.meaning.specs.Readings.{start_reading}
use Rattle.meaning.specs.TableFile.{table_of}
use Rattle.meaning.specs.declared.Entry.{Entry as SeenEntry}
use Rattle.meaning.specs.declared.ErrorRecord.{ErrorRecord}
use Rattle.meaning.specs.declared.FeedNumbers.{FeedNumbers}
use Rattle.meaning.specs.declared.Term.{Term}
use Rattle.meaning.proofs.Booleans.{both_left}
use Rattle.meaning.proofs.Settled.{number_range}
use Rattle.numbers.specs.Writing.{length_put_u16, u16_back}
use Rattle.state.specs.Areas.{start_of}
use Rattle.state.specs.Layout.{used_at, state_len, work_len}
use Rattle.state.specs.Readings.{used_of, readings_of}
use Rattle.promises.specs.Buffers.{lengths_right, feed_lengths, lists_right, state_for, work_after}
use Rattle.promises.specs.Calls.{StartPromise, QuestionPromise, StackPromise, takes_on, can_end_on, can_recover_on, stack_on, Renamed, SameState, feed_on}
use Rattle.promises.specs.Claims.{Refusing, Fits}
use Rattle.promises.specs.Sequences.{Request, start, feed, takes, can_end, can_recover, stack, Reply, Left, QuestionReply, Answered, Caller, ends, asks, Run, AllAnswered, SameButCells, Exchange, SameRuns, RunDetermined}
use Rattle.promises.proofs.Answering.{takes_same, can_end_same, can_recover_same, stack_same, start_same, SameCalls, feed_same}
use Rattle.promises.proofs.Buffers.{found_holds, fits_found}
use Rattle.promises.proofs.Checks.{StartStopped, StartWent, start_case}
use Rattle.promises.proofs.Identities.{renamed_self, state_self, state_back, state_on}
use Rattle.promises.proofs.Keeping.{demand1}
use Rattle.promises.proofs.Lasting.{never_wrong_state}
use Rattle.promises.proofs.Outcomes.{start_known, feed_known, stack_determined}
use Rattle.promises.proofs.SameCells.{used_same}
use Rattle.promises.proofs.Sameness.{same_anew}

-- A start answered 0 leaves one reading and one cell in use, whatever the buffer held.
module _ (table state work : List ℕ) (r : StartAnswer) (state' work' : List ℕ) (a : StartPromise table state work r state' work') (z : start_number r ≡ 0) where
  start_long : length state ≡ state_len
  unfolding lengths_right
  start_long = at (start_case (lengths_right state work) table (state_for table state) 0)
    where
      at : StartStopped (lengths_right state work) table (state_for table state) 0 ⊎ StartWent (lengths_right state work) table (state_for table state) 0 → length state ≡ state_len
      at (inl s) =
          let e : start_number r ≡ number s.by = a.leaves.answers ∙ ap (λ (c : StartCall). c.answer) s.is in
          let l = (number_range s.by).0 in
          absurd (omega arith)
      at (inr w) = eqb-true (length state) state_len (both_left (eqb (length state) state_len) (eqb (length work) work_len) w.lengths_hold)

  start_long' : length state' ≡ state_len
  start_long' = (demand1.start table state work r state' work' a).state_long ∙ start_long

  start_used : used_of state' ≡ 1
  unfolding start_of
  start_used =
      let e = (a.leaves.started z).exact in
      let l = ap length e ∙ length_put_u16 _ used_at 1 in
      let m = start_long' in
      ap used_of e ∙ u16_back _ used_at 1 (omega arith)

  start_fits : Fits table state'
  start_fits = never_wrong_state.start_leaves table state work r state' work' a z

  start_readings : readings_of state' ≡ start_reading (table_of table) 0 ∷ []
  start_readings = (a.leaves.started z).readings (table_of table) refl

started_same : (table state work : List ℕ) (r : StartAnswer) (state' work' : List ℕ) (twin spare : List ℕ) (q : StartAnswer) (twin' spare' : List ℕ) →
    StartPromise table state work r state' work' → StartPromise table twin spare q twin' spare' → start_number r ≡ 0 → start_number q ≡ 0 → SameButCells state' twin'
started_same table state work r state' work' twin spare q twin' spare' a b y z =
    same_anew table state' twin' (start_fits table state work r state' work' a y) (start_fits table twin spare q twin' spare' b z) same
    (start_long' table state work r state' work' a y ∙ sym (start_long' table twin spare q twin' spare' b z))
    (start_used table state work r state' work' a y ∙ sym (start_used table twin spare q twin' spare' b z))
  where
    same : Renamed (readings_of state') (readings_of twin')
    same =
        subst (Renamed (readings_of state')) (start_readings table state work r state' work' a y ∙ sym (start_readings table twin spare q twin' spare' b z)) (renamed_self (readings_of state'))

-- Refused or not.
refusing? : (n : ℕ) → Refusing n ⊎ (Refusing n → ⊥)
refusing? zero = inr (λ k. let l = k.0 in omega arith)
refusing? (suc n) = at (leb (suc n) 11) refl
  where
    at : (b : Bool) → leb (suc n) 11 ≡ b → Refusing (suc n) ⊎ (Refusing (suc n) → ⊥)
    at true e = inl (omega arith, leb-true (suc n) 11 e)
    at false e = let l = leb-false (suc n) 11 e in inr (λ k. let g = k.1 in omega arith)

-- One call, on two states that are the same but for cells.
record Alike (q : Request) (c d : Left q) : Type 0 where
  replies : c.reply ≡ d.reply
  states : SameButCells c.state' d.state'

module _ (state twin : List ℕ) (h : SameButCells state twin) where
  same_lengths : (work : List ℕ) → lengths_right state work ≡ lengths_right twin work
  unfolding lengths_right
  same_lengths work = ap (λ (n : ℕ). both (eqb n state_len) (eqb (length work) work_len)) h.long

  same_feed_lengths : (work : List ℕ) (places : ℕ) → feed_lengths state work places ≡ feed_lengths twin work places
  unfolding feed_lengths
  same_feed_lengths work places = ap (λ (b : Bool). both b (eqb places max_errors)) (same_lengths work)

  same_lists : (places : ℕ) → lists_right state places ≡ lists_right twin places
  unfolding lists_right
  same_lists places = ap (λ (n : ℕ). both (eqb n state_len) (eqb places max_height)) h.long

  -- what both calls leave as it was
  kept : (state' twin' : List ℕ) → state' ≡ state → twin' ≡ twin → SameButCells state' twin'
  kept state' twin' e f = subst (λ (s : List ℕ). SameButCells s twin') (sym e) (subst (SameButCells state) (sym f) h)

  -- A question.
  asked_step : (call call' : Bool → QuestionAnswer) → ((b : Bool) → call b ≡ call' b) → (work : List ℕ) (r q : QuestionReply) → QuestionPromise call state work r.answer r.work' →
      QuestionPromise call' twin work q.answer q.work' → r ≡ q
  asked_step call call' e work r q a b =
      let l = same_lengths work in
      let answer = a.answers ∙ e (lengths_right state work) ∙ ap call' l ∙ sym b.answers in
      let area = a.cleared ∙ ap (λ (c : Bool). work_after c work) l ∙ sym b.cleared in
      λ i. record { answer = answer i; work' = area i }

  -- Reading out: what is promised of the one state is promised of the other.
  stack_step : (table : List ℕ) (i : ℕ) (entries : List SeenEntry) (c d : Left (stack table i entries)) → Answered (stack table i entries) state c → Answered (stack table i entries) twin d →
      Alike (stack table i entries) c d
  stack_step table i entries c d a b =
      record { replies = λ j. record { answer = one.0 j; entries' = one.1 j }; states = kept c.state' d.state' a.kept b.kept }
    where
      same : stack_on (lists_right twin (length entries)) table twin i entries ≡ stack_on (lists_right state (length entries)) table state i entries
      same =
          ap (λ (l : Bool). stack_on l table twin i entries) (sym (same_lists (length entries)))
          ∙ sym (stack_same (lists_right state (length entries)) table (state_for table state) (state_for table twin) (h.states table) i entries)

      here : StackPromise table state i entries d.reply.answer d.reply.entries'
      here = record {
        answers = b.meets.answers ∙ ap (λ (o : StackCall). o.says) same;
        entries_are = b.meets.entries_are ∙ ap (λ (o : StackCall). o.entries) same;
      }

      one : (c.reply.answer ≡ d.reply.answer) × (c.reply.entries' ≡ d.reply.entries')
      one = stack_determined table state i entries c.reply.answer d.reply.answer c.reply.entries' d.reply.entries' a.meets here

  -- A start.
  module _ (table work : List ℕ) (c d : Left (start table work)) (a : Answered (start table work) state c) (b : Answered (start table work) twin d) where
    start_numbers : start_number c.reply.answer ≡ start_number d.reply.answer
    start_numbers =
        a.leaves.answers ∙ start_same (lengths_right state work) table (state_for table state) (state_for table twin) 0
        ∙ ap (λ (l : Bool). (start_call l table (state_for table twin) 0).answer) (same_lengths work) ∙ sym b.leaves.answers

    start_left : (n : ℕ) → start_number c.reply.answer ≡ n → SameButCells c.state' d.state'
    start_left zero e =
        started_same table state work c.reply.answer c.state' c.reply.work' twin work d.reply.answer d.state' d.reply.work' a b e (sym start_numbers ∙ e)
    start_left (suc n) e = let s = start_numbers in kept c.state' d.state' (a.leaves.refused (λ z. omega arith)) (b.leaves.refused (λ z. omega arith))

    start_step : Alike (start table work) c d
    start_step =
        let answer = start_known c.reply.answer d.reply.answer start_numbers in
        let area = a.cleared ∙ ap (λ (l : Bool). work_after l work) (same_lengths work) ∙ sym b.cleared in
        record { replies = λ i. record { answer = answer i; work' = area i }; states = start_left (start_number c.reply.answer) refl }

  -- A feed.
  module _ (table work : List ℕ) (x : Term) (errors : List ErrorRecord) (c d : Left (feed table work x errors)) (a : Answered (feed table work x errors) state c)
      (b : Answered (feed table work x errors) twin d) where
    calls : SameCalls (feed_on table state work x errors) (feed_on table twin work x errors)
    calls =
        subst (λ (l : Bool). SameCalls (feed_on table state work x errors) (feed_call l table (state_for table twin) x errors (used_of twin))) (same_feed_lengths work (length errors))
        (feed_same x errors (used_of state) (used_of twin) (feed_lengths state work (length errors)) table (state_for table state) (state_for table twin) (h.states table)
        (λ rs e. (found_holds table state rs e).facts.owned) (λ rs e. (found_holds table twin rs e).facts.owned))

    feed_numbers_lem : feed_numbers c.reply.answer ≡ feed_numbers d.reply.answer
    feed_numbers_lem = a.leaves.answers ∙ calls.says ∙ sym b.leaves.answers

    feed_lists : c.reply.errors' ≡ d.reply.errors'
    feed_lists = a.leaves.errors_are ∙ calls.errors ∙ sym b.leaves.errors_are

    refused_too : Refusing (feed_numbers c.reply.answer).answer → Refusing (feed_numbers d.reply.answer).answer
    refused_too = subst (λ (m : FeedNumbers). Refusing m.answer) feed_numbers_lem

    refused_back : Refusing (feed_numbers d.reply.answer).answer → Refusing (feed_numbers c.reply.answer).answer
    refused_back = subst (λ (m : FeedNumbers). Refusing m.answer) (sym feed_numbers_lem)

    -- both are the definition's, under identities of their own
    feed_states : SameState (state_for table c.state') (state_for table d.state')
    feed_states =
        let s : State = (feed_on table state work x errors).state in
        let t : State = (feed_on table twin work x errors).state in
        state_on (state_for table c.state') s (state_for table d.state') (state_back s (state_for table c.state') a.leaves.readings)
        (state_on s t (state_for table d.state') calls.states b.leaves.readings)

    feed_left : Refusing (feed_numbers c.reply.answer).answer ⊎ (Refusing (feed_numbers c.reply.answer).answer → ⊥) → SameButCells c.state' d.state'
    feed_left (inl k) = kept c.state' d.state' (a.leaves.refused k) (b.leaves.refused (refused_too k))
    feed_left (inr k) =
        same_anew table c.state' d.state' fits fits' same long
        (sym (used_same (table_of table).counts.states c.state' d.state' fits fits' (a.leaves.compact k) (b.leaves.compact (λ g. k (refused_back g))) same))
      where
        fits : Fits table c.state'
        fits = never_wrong_state.feed_leaves table state work x errors c.reply.answer c.state' c.reply.work' c.reply.errors' a (λ g. let l = g.1 in k (g.0, omega arith))

        fits' : Fits table d.state'
        fits' =
            never_wrong_state.feed_leaves table twin work x errors d.reply.answer d.state' d.reply.work' d.reply.errors' b
            (λ g. let l = g.1 in k (refused_back (g.0, omega arith)))

        same : Renamed (readings_of c.state') (readings_of d.state')
        same = rw (fits_found table c.state' fits, fits_found table d.state' fits') at feed_states

        long : length c.state' ≡ length d.state'
        long = a.leaves.spared.long ∙ h.long ∙ sym b.leaves.spared.long

    feed_step : Alike (feed table work x errors) c d
    feed_step =
        let answer = feed_known c.reply.answer d.reply.answer feed_numbers_lem in
        let area = a.cleared ∙ ap (λ (l : Bool). work_after l work) (same_feed_lengths work (length errors)) ∙ sym b.cleared in
        let list = feed_lists in
        record { replies = λ i. record { answer = answer i; work' = area i; errors' = list i }; states = feed_left (refusing? (feed_numbers c.reply.answer).answer) }

  -- Any call.
  step : (q : Request) (c d : Left q) → Answered q state c → Answered q twin d → Alike q c d
  step (start table work) c d a b = start_step table work c d a b
  step (feed table work x errors) c d a b = feed_step table work x errors c d a b
  step (takes table work class) c d a b =
      record {
        replies = asked_step (takes_on table state class) (takes_on table twin class) (λ l. takes_same l table (state_for table state) (state_for table twin) (h.states table) class) work c.reply d.reply a.meets b.meets;
        states = kept c.state' d.state' a.kept b.kept;
      }
  step (can_end table work) c d a b =
      record {
        replies = asked_step (can_end_on table state) (can_end_on table twin) (λ l. can_end_same l table (state_for table state) (state_for table twin) (h.states table)) work c.reply d.reply a.meets b.meets;
        states = kept c.state' d.state' a.kept b.kept;
      }
  step (can_recover table work) c d a b =
      record {
        replies = asked_step (can_recover_on table state) (can_recover_on table twin) (λ l. can_recover_same l table (state_for table state) (state_for table twin) (h.states table)) work c.reply d.reply a.meets b.meets;
        states = kept c.state' d.state' a.kept b.kept;
      }
  step (stack table i entries) c d a b = stack_step table i entries c d a b

all_steps : (k : Caller) (state twin : List ℕ) (run other : Run k) → SameButCells state twin → AllAnswered k state run → AllAnswered k twin other → SameRuns k k run other
all_steps ends state twin run other h a b = tt
all_steps (asks q next) state twin run other h a b =
    let first = step state twin h q run.0 other.0 a.0 b.0 in
    let rest =
    subst (λ (r : Reply q). (o : Run (next r)) → AllAnswered (next r) other.0.state' o → SameRuns (next run.0.reply) (next r) run.1 o) first.replies
    (λ o g. all_steps (next run.0.reply) run.0.state' other.0.state' run.1 o first.states a.1 g) in
    (record { exchanges = ap {B = Exchange} (λ (r : Reply q). record { request = q; reply = r }) first.replies; states = first.states }, rest other.1 b.1)

same_self : (state : List ℕ) → SameButCells state state
same_self state = record { long = refl; used = refl; count = refl; states = λ table. state_self (state_for table state) }

pub run_determined : RunDetermined
run_determined = record { runs = all_steps; from_one = same_self; from_start = started_same }
