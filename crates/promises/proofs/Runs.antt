-- P1 to P10 of calls that meet their promises: they show what the definitions show, step by step, under identities of their own. Assumes nothing.
use Prim.Native.Nat.{ℕ, ◌+◌, ◌<◌}
use mathlib.Core.Path.{◌≡◌, refl, sym, ap, ap₂, ◌∙◌, subst}
use mathlib.Core.Bool.{Bool, true, false, not}
use mathlib.Core.List.{List, [], ◌∷◌, ◌++◌, map, reverse, append-nil}
use lib.Dec.{ltb}
use lib.ListN.{length, get_or, take, drop}
use lib.Seq.{take-append_seam, drop-nil}
use borrow.Author.Tests.{ltb-true}
use Rattle.meaning.specs.Answers.{feed_numbers}
use Rattle.meaning.specs.Applying.{act_on, span_start, reduced, shifted, refused_action, unplanned, apply}
use Rattle.meaning.specs.Basics.{both, is_nil, every, AllOf, find}
use Rattle.std.specs.Prelude.{if◌then◌else◌, Option, None, Some}
use Rattle.meaning.specs.Bounds.{max_births}
use Rattle.meaning.specs.Bytes.{u16_at, u32_at}
use Rattle.meaning.specs.Calls.{State, check_state, StartCall, start_call, wrong_class, wrong_term, FeedCall, feed_refused, feed_ended, feed_right, feed_call}
use Rattle.meaning.specs.Chains.{record_at}
use Rattle.meaning.specs.Feeding.{plan_all, apply_all, settle, first, feed}
use Rattle.meaning.specs.Identities.{ren_entry, ren_reading}
use Rattle.meaning.specs.Kinds.{act}
use Rattle.meaning.specs.KnownRuns.{SeenReading, Outcome, Run, seen_reading, seen_state, started, fed, feed_all, outcome, known_runs}
use Rattle.meaning.specs.Outcome.{Fed}
use Rattle.meaning.specs.Readings.{Entry, Reading, seen, holds, held_by, start_reading}
use Rattle.meaning.specs.Recovery.{error_term, is_held, recover_one, recover_all, longer_top, stays, take_term, recover}
use Rattle.meaning.specs.TableFile.{field_at, counts_of, view_of, places, rule_at, rules_from, shift_to, numbers, action_at, goto_at, actions_of, gotos_of, table_of, action_of, goto_of, rule_of, start_state}
use Rattle.meaning.specs.TableRight.{counts_right, front_right, middle_right, back_right, shape_right, frame_right, picks, kind_right, rule_right, rules_below, action_right, goto_right, action_format, goto_format, key_of, ascends, records_right, field_right, content_right, table_ok}
use Rattle.meaning.specs.Walk.{end_chain, reduction, walk_rules, walk_state, walk_from, plan, ends}
use Rattle.meaning.specs.declared.Entry.{Entry as SeenEntry}
use Rattle.meaning.specs.declared.ErrorRecord.{ErrorRecord}
use Rattle.meaning.specs.declared.FeedNumbers.{FeedNumbers}
use Rattle.meaning.specs.declared.Refusal.TheVariants.{WrongTable}
use Rattle.meaning.specs.declared.Term.{Term}
use Rattle.meaning.proofs.Known.{known}
use Rattle.meaning.proofs.Tools.{nil_map}
use Rattle.meaning.proofs.Booleans.{both_left, both_right}
use Rattle.state.specs.Layout.{state_len}
use Rattle.state.specs.Readings.{used_of}
use Rattle.promises.specs.Buffers.{feed_lengths, state_for}
use Rattle.promises.specs.Calls.{start_on, Renamed, SameState, feed_on}
use Rattle.promises.specs.Runs.{Feeding, Meets, AllMeet, Calls, seen_start, seen_feed, last_seen, seen_of, KnownCalls}
use Rattle.promises.proofs.Buffers.{found_holds, long_lengths, long_feed}
use Rattle.promises.proofs.Checks.{goes_by, goes}
use Rattle.promises.proofs.Identities.{state_self, state_on}
use Rattle.promises.proofs.Keeping.{demand1}
use Rattle.promises.proofs.Steps.{OfAll, fed_onward, left_onward}

-- Identities below n, as a claim and as a test.

abbrev Below : ℕ → State → Type 0
Below n None = Unit {0}
Below n (Some rs) = OfAll (λ a. a < n) rs

unfoldable pub below : ℕ → State → Bool
below n None = true
below n (Some rs) = every (λ (r : Reading). every (λ (e : Entry). ltb e.born n) r.stack) rs

below_claim : (n : ℕ) (s : State) → below n s ≡ true → Below n s
unfolding below
below_claim n None h = tt
below_claim n (Some rs) h = readings rs h
  where
    entries : (s : List Entry) → every (λ (e : Entry). ltb e.born n) s ≡ true → AllOf (λ (e : Entry). e.born < n) s
    entries [] h = tt
    entries (e ∷ s) h = (ltb-true e.born n (both_left (ltb e.born n) _ h), entries s (both_right (ltb e.born n) _ h))

    readings : (rs : List Reading) → every (λ (r : Reading). every (λ (e : Entry). ltb e.born n) r.stack) rs ≡ true → OfAll (λ a. a < n) rs
    readings [] h = tt
    readings (r ∷ rs) h = (entries r.stack (both_left (every (λ (e : Entry). ltb e.born n) r.stack) _ h), readings rs (both_right (every (λ (e : Entry). ltb e.born n) r.stack) _ h))

-- a buffer's own identities lie below its count of cells
below_used : (table state : List ℕ) → Below (used_of state) (state_for table state)
below_used table state = at (state_for table state) refl
  where
    at : (s : State) → state_for table state ≡ s → Below (used_of state) s
    at None e = tt
    at (Some rs) e = (found_holds table state rs e).facts.owned

-- What is seen of states that are the same but for identities.

pub seen_stack : (ρ : ℕ → ℕ) (s : List Entry) → map seen (map (ren_entry ρ) s) ≡ map seen s
seen_stack ρ [] = refl
seen_stack ρ (e ∷ s) = ap (λ (l : List SeenEntry). seen e ∷ l) (seen_stack ρ s)

seen_readings : (ρ : ℕ → ℕ) (rs : List Reading) → map seen_reading (map (ren_reading ρ) rs) ≡ map seen_reading rs
seen_readings ρ [] = refl
seen_readings ρ (r ∷ rs) =
    let first = seen_stack ρ r.stack in
    let rest = seen_readings ρ rs in
    λ i. record { mark = r.mark; entries = reverse (first i) } ∷ rest i

seen_same : (s s' : State) → SameState s s' → seen_state s' ≡ seen_state s
seen_same None None h = refl
seen_same None (Some rs) h = absurd h
seen_same (Some rs) None h = absurd h
seen_same (Some rs) (Some rs') h = ap {B = Option (List SeenReading)} Some (ap (map seen_reading) h.same ∙ seen_readings h.rename rs)

-- One feed, from the definition's readings and from a buffer's.

record SameCall (c c' : FeedCall) : Type 0 where
  says : c'.says ≡ c.says
  states : SameState c.state c'.state
  errors : take c'.says.errors c'.errors ≡ c.errors

module _ (table : List ℕ) (ok : table_ok table ≡ true) (x : Term) where
  -- past the checks of lengths and table
  abbrev past : State → List ErrorRecord → (next : ℕ) → FeedCall
  past s errors n = check_state s (feed_refused s errors) (goes true table s x errors n (table_of table))

  call_is : (s : State) (errors : List ErrorRecord) (n : ℕ) → feed_call true table s x errors n ≡ past s errors n
  unfolding feed_call feed_right
  call_is s errors n = ap (λ (b : Bool). if not b then feed_refused s errors WrongTable else past s errors n) ok

  ended : (rs rs' : List Reading) (errors : List ErrorRecord) (n m : ℕ) → Below n (Some rs) → Below m (Some rs') → Renamed rs rs' →
      SameCall (feed_ended [] (feed (table_of table) x rs n)) (feed_ended errors (feed (table_of table) x rs' m))
  ended rs rs' errors n m a b h =
      let f = feed (table_of table) x rs n in
      let f' = feed (table_of table) x rs' m in
      let e = fed_onward rs rs' n m a b h (table_of table) x in
      record {
        says = ap {B = FeedNumbers} (λ (g : Fed). record { answer = g.answer; errors = length g.errors; walked = g.walked }) e;
        states = left_onward rs rs' n m a b h (table_of table) x;
        errors =
            take-append_seam f'.errors (drop (length f'.errors) errors) ∙ ap (λ (g : Fed). g.errors) e
            ∙ sym (ap (λ (l : List ErrorRecord). f.errors ++ l) (drop-nil (length f.errors)) ∙ append-nil f.errors);
      }

  past_same : (s s' : State) (errors : List ErrorRecord) (n m : ℕ) → Below n s → Below m s' → SameState s s' → SameCall (past s [] n) (past s' errors m)
  past_same None None errors n m a b h = record { says = refl; states = tt; errors = refl }
  past_same None (Some rs) errors n m a b h = absurd h
  past_same (Some rs) None errors n m a b h = absurd h
  past_same (Some rs) (Some rs') errors n m a b h =
      subst (λ (c : Bool). SameCall (past (Some rs) [] n) (goes_by true table (Some rs') x errors m c (wrong_term (table_of table).counts.classes x) (table_of table) rs')) (sym (nil_map (ren_reading h.rename) rs) ∙ sym (ap is_nil h.same))
      (at (is_nil rs) (wrong_term (table_of table).counts.classes x))
    where
      at : (c d : Bool) → SameCall (goes_by true table (Some rs) x [] n c d (table_of table) rs) (goes_by true table (Some rs') x errors m c d (table_of table) rs')
      at true d = record { says = refl; states = h; errors = refl }
      at false true = record { says = refl; states = h; errors = refl }
      at false false = ended rs rs' errors n m a b h

  calls_same : (s s' : State) (errors : List ErrorRecord) (n m : ℕ) → Below n s → Below m s' → SameState s s' → SameCall (feed_call true table s x [] n) (feed_call true table s' x errors m)
  calls_same s s' errors n m a b h = rw (call_is s [] n, call_is s' errors m) (past_same s s' errors n m a b h)

  -- so a feed that meets its promise shows what the definition shows, and leaves the same
  record Shown (s : State) (n : ℕ) (c : Feeding) : Type 0 where
    shows : seen_feed table c ≡ fed (feed_call true table s x [] n)
    leaves : SameState (feed_call true table s x [] n).state (state_for table c.state')
    long : length c.state' ≡ state_len

  shown : (s : State) (n : ℕ) (state : List ℕ) (c : Feeding) → length state ≡ state_len → Below n s → SameState s (state_for table state) → Meets table state x c → Shown s n c
  shown s n state c l a h k =
      record {
        shows = λ i. record { says = (k.promise.leaves.answers ∙ same.says) i; readings = seen_same d.state (state_for table c.state') left i; errors = errors_are i };
        leaves = left;
        long = k.promise.leaves.spared.long ∙ l;
      }
    where
      d : FeedCall
      d = feed_call true table s x [] n

      d' : FeedCall
      d' = feed_on table state c.work x c.errors

      right : feed_lengths state c.work (length c.errors) ≡ true
      right = long_feed state c.work (length c.errors) l k.work_long k.errors_long

      same : SameCall d d'
      same =
          subst (λ (b : Bool). SameCall d (feed_call b table (state_for table state) x c.errors (used_of state))) (sym right)
          (calls_same s (state_for table state) c.errors n (used_of state) a (below_used table state) h)

      left : SameState d.state (state_for table c.state')
      left = state_on d.state d'.state (state_for table c.state') same.states k.promise.leaves.readings

      errors_are : take (feed_numbers c.answer).errors c.errors' ≡ d.errors
      errors_are = ap₂ {C = List ErrorRecord} (λ (m : FeedNumbers) l. take m.errors l) k.promise.leaves.answers k.promise.leaves.errors_are ∙ same.errors

-- A run is ready if its table is right and the identities of each state that it feeds lie below those that the feed is given.

unfoldable pub fresh_all : (table : List ℕ) → State → List Term → (next : ℕ) → Bool
fresh_all table s [] n = true
fresh_all table s (x ∷ more) n = both (below n s) (fresh_all table (feed_call true table s x [] n).state more (n + max_births))

unfoldable pub ready : Run → Bool
ready r = both (table_ok r.table) (fresh_all r.table (start_call true r.table None 0).state r.terms 1)

feeds_shown : (table : List ℕ) → table_ok table ≡ true → (xs : List Term) (cs : List Feeding) (s : State) (n : ℕ) (state : List ℕ) (last last' : Outcome) → length state ≡ state_len →
    SameState s (state_for table state) → fresh_all table s xs n ≡ true → last ≡ last' → AllMeet table state xs cs → last_seen table last cs ≡ feed_all table s xs n last'
unfolding last_seen feed_all fresh_all
feeds_shown table ok [] [] s n state last last' l h f e k = e
feeds_shown table ok [] (c ∷ cs) s n state last last' l h f e k = absurd k
feeds_shown table ok (x ∷ xs) [] s n state last last' l h f e k = absurd k
feeds_shown table ok (x ∷ xs) (c ∷ cs) s n state last last' l h f e k =
    let g = shown table ok x s n state c l (below_claim n s (both_left (below n s) _ f)) h k.0 in
    feeds_shown table ok xs cs (feed_call true table s x [] n).state (n + max_births) c.state' (seen_feed table c) (fed (feed_call true table s x [] n)) g.long g.leaves (both_right (below n s) _ f)
    g.shows k.1

-- A start under a right table does not depend on what the buffer held.
start_is : (table : List ℕ) → table_ok table ≡ true → (s : State) → start_call true table s 0 ≡ record { answer = 0; state = Some (start_reading (table_of table) 0 ∷ []) }
unfolding start_call
start_is table ok s = ap {B = StartCall} (λ (b : Bool). if not b then record { answer = 2; state = s } else record { answer = 0; state = Some (start_reading (table_of table) 0 ∷ []) }) ok

-- The calls of a ready run show what its definition shows.
pub run_shown : (run : Run) → ready run ≡ true → (c : Calls run) → seen_of run c ≡ outcome run
unfolding ready outcome
run_shown run f c =
    feeds_shown table ok run.terms c.feeds d.state 1 c.state' (seen_start table c.answer c.state') (started d) long
    (subst (SameState d.state) (sym state_is) (state_self d.state)) (both_right (table_ok table) (fresh_all table d.state run.terms 1) f)
    (λ i. record { says = record { answer = (c.start.leaves.answers ∙ ap (λ (e : StartCall). e.answer) same) i; errors = 0; walked = 0 }; readings = seen_state (state_is i); errors = [] })
    c.meet
  where
    table : List ℕ
    table = run.table

    d : StartCall
    d = start_call true table None 0

    ok : table_ok table ≡ true
    ok = both_left (table_ok table) (fresh_all table d.state run.terms 1) f

    same : start_on table c.state c.work ≡ d
    same =
        ap (λ (b : Bool). start_call b table (state_for table c.state) 0) (long_lengths c.state c.work c.state_long c.work_long)
        ∙ start_is table ok (state_for table c.state) ∙ sym (start_is table ok None)

    state_is : state_for table c.state' ≡ d.state
    state_is = c.start.leaves.readings ∙ ap (λ (e : StartCall). e.state) same

    long : length c.state' ≡ state_len
    long = (demand1.start table c.state c.work c.answer c.state' c.work' c.start).state_long ∙ c.state_long

-- Every run of a list whose definitions leave what they are to leave.
runs_shown : (l : List Run) → map outcome l ≡ map (λ (r : Run). r.leaves) l → every ready l ≡ true → AllOf (λ (run : Run). (c : Calls run) → seen_of run c ≡ run.leaves) l
runs_shown [] e f = tt
runs_shown (run ∷ l) e f = (
  λ c. run_shown run (both_left (ready run) (every ready l) f) c ∙ ap (λ (os : List Outcome). get_or os 0 run.leaves) e,
  runs_shown l (ap (drop 1) e) (both_right (ready run) (every ready l) f),
)

all_ready : every ready known_runs ≡ true
unfolding find u16_at u32_at field_at counts_of view_of places rule_at rules_from shift_to numbers action_at goto_at actions_of gotos_of table_of action_of goto_of rule_of start_state counts_right front_right middle_right back_right shape_right frame_right picks kind_right rule_right rules_below action_right goto_right action_format goto_format key_of ascends records_right field_right content_right table_ok act holds held_by start_reading record_at end_chain reduction walk_rules walk_state walk_from plan ends act_on span_start reduced shifted refused_action unplanned apply error_term is_held recover_one recover_all longer_top stays take_term recover plan_all apply_all settle first feed start_call wrong_class wrong_term feed_right feed_call below fresh_all ready known_runs
all_ready = refl

pub known_calls : KnownCalls
known_calls = runs_shown known_runs known all_ready
