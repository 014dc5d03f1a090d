-- What is claimed of the calls by value follows from their promises: a feed for 32 places is the public feed of a list without records, and so is reading out for 64. Assumes nothing.
use mathlib.Core.Path.{◌≡◌, refl, sym, ◌∙◌}
use mathlib.Core.List.{List, [], ◌∷◌, map}
use Prim.Native.Nat.{ℕ}
use lib.ListN.{length}
use Rattle.meaning.specs.Basics.{AllOf}
use Rattle.meaning.specs.KnownRuns.{Run, known_runs}
use Rattle.meaning.specs.Limits.{max_errors, max_height}
use Rattle.meaning.specs.declared.Entry.{Entry as SeenEntry}
use Rattle.meaning.specs.declared.ErrorRecord.{ErrorRecord}
use Rattle.meaning.specs.declared.Term.{Term}
use Rattle.gathering.specs.Gathering.{no_errors}
use Rattle.promises.specs.Buffers.{lists_right}
use Rattle.promises.specs.Calls.{stack_on, StackPromise, FeedPromise}
use Rattle.promises.specs.Claims.{SameOutcome}
use Rattle.promises.specs.Runs.{AllMeet, Calls, seen_of}
use Rattle.promises.proofs.Demand3.{demand3}
use Rattle.promises.proofs.Keeping.{demand1}
use Rattle.promises.proofs.Lasting.{never_wrong_state}
use Rattle.promises.proofs.Outcomes.{feed_determined, stack_determined}
use Rattle.promises.proofs.Runs.{known_calls}
use Rattle.by_value.specs.Claims.{PublicCalls, OneOutcome, with_errors, with_entries, Made, AllMade, CallsByValue, as_feeding, seen_by_value, HoldsByValue}
use Rattle.by_value.specs.Feeding.{RunPromise}
use Rattle.by_value.specs.Reading.{no_entries, ReadPromise}
use Rattle.by_value.specs.declared.reading.StackRead.{StackRead}
use Rattle.by_value.specs.declared.running.FeedRun.{FeedRun}
use Rattle.by_value.proofs.Feeds.{feed_listed}
use Rattle.by_value.proofs.Stacks.{stack_listed}

pub public_calls : PublicCalls
public_calls = record { feed = feed_listed; stack = stack_listed }

-- One outcome.
module _ (table state work : List ℕ) (x : Term) (ys : List ErrorRecord) (r q : FeedRun) (state₁ work₁ state₂ work₂ : List ℕ)
    (a : RunPromise table state work x (length ys) r state₁ work₁) (b : RunPromise table state work x (length ys) q state₂ work₂) where
  one_feed : (r ≡ q) × SameOutcome table r.answer q.answer state₁ state₂ work₁ work₂ (with_errors r ys) (with_errors q ys)
  one_feed =
      let same = feed_determined table state work x ys r.answer q.answer state₁ work₁ state₂ work₂ (with_errors r ys) (with_errors q ys)
      (feed_listed table state work x ys r state₁ work₁ a) (feed_listed table state work x ys q state₂ work₂ b) in
      let answer = same.answer in
      let list = a.line.leaves.errors_are ∙ sym b.line.leaves.errors_are in
      let count = a.line.count_is ∙ sym b.line.count_is in
      (λ i. record { answer = answer i; errors = record { list = list i; count = count i } }, same)

module _ (table state : List ℕ) (i : ℕ) (ys : List SeenEntry) (r q : StackRead)
    (a : ReadPromise (stack_on (lists_right state (length ys)) table state i) r) (b : ReadPromise (stack_on (lists_right state (length ys)) table state i) q) where
  one_stack : r ≡ q
  one_stack =
      let answer = (stack_determined table state i ys r.answer q.answer (with_entries r ys) (with_entries q ys) (stack_listed table state i ys r a) (stack_listed table state i ys q b)).0 in
      let list = a.entries_are ∙ sym b.entries_are in
      let count = a.count_is ∙ sym b.count_is in
      λ k. record { answer = answer k; entries = record { list = list k; count = count k } }

pub one_outcome : OneOutcome
one_outcome = record { feed = one_feed; stack = one_stack }

-- With 32 and 64 places, over the list without records and the list without entries.
public_feed : (table state work : List ℕ) (x : Term) (r : FeedRun) (state' work' : List ℕ) → RunPromise table state work x max_errors r state' work' → FeedPromise table state work x no_errors.list r.answer state' work' r.errors.list
public_feed table state work x r state' work' p = record { leaves = p.line.leaves; cleared = p.cleared }

public_stack : (table state : List ℕ) (i : ℕ) (r : StackRead) → ReadPromise (stack_on (lists_right state max_height) table state i) r → StackPromise table state i no_entries.list r.answer r.entries.list
public_stack table state i r p = record { answers = p.answers; entries_are = p.entries_are }

all_meet : (table state : List ℕ) (xs : List Term) (feeds : List Made) → AllMade table state xs feeds → AllMeet table state xs (map as_feeding feeds)
all_meet table state [] [] h = tt
all_meet table state [] (c ∷ more) h = h
all_meet table state (x ∷ xs) [] h = h
all_meet table state (x ∷ xs) (c ∷ more) h = (
  record { work_long = h.0.work_long; errors_long = refl; promise = public_feed table state c.work x c.run c.state' c.work' h.0.promise },
  all_meet table c.state' xs more h.1,
)

public_run : (run : Run) → CallsByValue run → Calls run
public_run run c =
    record {
      state = c.state;
      work = c.work;
      state_long = c.state_long;
      work_long = c.work_long;
      answer = c.answer;
      state' = c.state';
      work' = c.work';
      start = c.start;
      feeds = map as_feeding c.feeds;
      meet = all_meet run.table c.state' run.terms c.feeds c.made;
    }

known_by_value : (l : List Run) → AllOf (λ (run : Run). (c : Calls run) → seen_of run c ≡ run.leaves) l → AllOf (λ (run : Run). (c : CallsByValue run) → seen_by_value run c ≡ run.leaves) l
unfolding public_run
known_by_value [] h = tt
known_by_value (run ∷ l) h = (λ c. h.0 (public_run run c), known_by_value l h.1)

pub holds_by_value : HoldsByValue
holds_by_value =
    record {
      feed_keeps = λ table state work x r state' work' p. demand1.feed table state work x no_errors.list r.answer state' work' r.errors.list (public_feed table state work x r state' work' p);
      stack_keeps = λ table state i r p. demand1.stack table state i no_entries.list r.answer r.entries.list (public_stack table state i r p);
      feed_leaves = λ table state work x r state' work' p. never_wrong_state.feed_leaves table state work x no_errors.list r.answer state' work' r.errors.list (public_feed table state work x r state' work' p);
      feed_takes = λ table state work x r state' work' p. never_wrong_state.feed_takes table state work x no_errors.list r.answer state' work' r.errors.list (public_feed table state work x r state' work' p);
      stack_leaves = λ table state i r p. never_wrong_state.stack_leaves table state i no_entries.list r.answer r.entries.list (public_stack table state i r p);
      stack_takes = λ table state i r p. never_wrong_state.stack_takes table state i no_entries.list r.answer r.entries.list (public_stack table state i r p);
      order = λ table x state work r state' work' twin spare q twin' spare' a b.
          demand3.order table x state work no_errors.list r.answer state' work' r.errors.list twin spare no_errors.list q.answer twin' spare' q.errors.list
          (public_feed table state work x r state' work' a) (public_feed table twin spare x q twin' spare' b);
      chains = λ table x state work r state' work' p. demand3.chains table x state work no_errors.list r.answer state' work' r.errors.list (public_feed table state work x r state' work' p);
      feed_answered = public_feed;
      stack_answered = λ table state i r p. record { meets = public_stack table state i r p; kept = refl };
      known = known_by_value known_runs known_calls;
    }
