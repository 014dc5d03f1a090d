-- The feed by value is a public feed: for every lent list, filled with the error records, what `Machine::feed` promises. Assumes nothing.
--     feed_listed    the promise of a public feed, for every list of so many places
--     feed_filled    the same, of a list that was filled by `lists::errors::fill`
use mathlib.Core.Path.{◌≡◌, refl, sym, ap, ◌∙◌, subst}
use mathlib.Core.Bool.{Bool, true, false}
use mathlib.Core.List.{List}
use Prim.Native.Nat.{ℕ}
use lib.Dec.{eqb}
use lib.ListN.{length}
use borrow.Author.Tests.{le-leb}
use Rattle.meaning.specs.Calls.{State, FeedCall, feed_call}
use Rattle.meaning.specs.declared.ErrorRecord.{ErrorRecord}
use Rattle.meaning.specs.Answers.{FeedAnswer}
use Rattle.meaning.specs.declared.FeedNumbers.{FeedNumbers}
use Rattle.meaning.specs.declared.Term.{Term}
use Rattle.meaning.proofs.Booleans.{both_false}
use Rattle.lists.specs.Filling.{stored, filled}
use Rattle.state.specs.Readings.{used_of}
use Rattle.gathering.specs.Gathering.{no_errors}
use Rattle.promises.specs.Buffers.{lengths_right, feed_lengths, state_for}
use Rattle.promises.specs.Calls.{SameState, FeedLeaves, feed_for, feed_on, FeedPromise}
use Rattle.by_value.specs.Feeding.{RunPromise}
use Rattle.by_value.specs.declared.running.FeedRun.{FeedRun}
use Rattle.by_value.proofs.Listing.{filled_on, besides, feed_lists}

-- Calls that differ only in the lent list.
leaves_on : (table state : List ℕ) (c c' : FeedCall) (r : FeedAnswer) (state' : List ℕ) (errors errors' : List ErrorRecord) → besides c ≡ besides c' → errors' ≡ c'.errors →
    FeedLeaves table state c r state' errors → FeedLeaves table state c' r state' errors'
leaves_on table state c c' r state' errors errors' e f l =
    record {
      answers = l.answers ∙ ap (λ (b : FeedNumbers × State). b.0) e;
      readings = subst (λ (s : State). SameState s (state_for table state')) (ap (λ (b : FeedNumbers × State). b.1) e) l.readings;
      refused = l.refused;
      compact = l.compact;
      spared = l.spared;
      errors_are = f;
    }

feed_short : (state work : List ℕ) (places : ℕ) → eqb places 32 ≡ false → feed_lengths state work places ≡ false
unfolding feed_lengths
feed_short state work places e = rw (e, both_false (lengths_right state work))

no_errors_lem : (table state : List ℕ) (x : Term) → (feed_call false table (state_for table state) x no_errors.list (used_of state)).says.errors ≡ 0
unfolding feed_call
no_errors_lem table state x = refl

module _ (table state work : List ℕ) (x : Term) (ys : List ErrorRecord) (r : FeedRun) (state' work' : List ℕ) (p : RunPromise table state work x (length ys) r state' work') where
  errors_on : filled r.errors.list ys r.errors.count ≡ (feed_on table state work x ys).errors
  errors_on =
      rw (p.line.leaves.errors_are, p.line.count_is)
      (filled_on _ _ _ (feed_for table state work x (length ys)) (feed_lists (feed_lengths state work (length ys)) table (state_for table state) x (used_of state)) no_errors.list ys)

  pub feed_listed : FeedPromise table state work x ys r.answer state' work' (filled r.errors.list ys r.errors.count)
  feed_listed =
      record {
        leaves =
            leaves_on table state (feed_for table state work x (length ys) no_errors.list) (feed_on table state work x ys) r.answer state' r.errors.list _
            ((feed_lists (feed_lengths state work (length ys)) table (state_for table state) x (used_of state)).same no_errors.list ys) errors_on p.line.leaves;
        cleared = p.cleared;
      }

  -- where the list has another length, there are no records to be stored
  all_stored : (b : Bool) → eqb (length ys) 32 ≡ b → stored 32 (length ys) r.errors.count ≡ r.errors.count
  all_stored true e = rw (e, le-leb r.errors.count 32 p.line.few)
  all_stored false e = rw e (sym (p.line.count_is ∙ rw (feed_short state work (length ys) e) (no_errors_lem table state x)))

  pub feed_filled : (n : ℕ) (zs : List ErrorRecord) → n ≡ stored 32 (length ys) r.errors.count → zs ≡ filled r.errors.list ys n → FeedPromise table state work x ys r.answer state' work' zs
  feed_filled n zs e f =
      let is : zs ≡ filled r.errors.list ys r.errors.count = f ∙ ap (filled r.errors.list ys) (e ∙ all_stored (eqb (length ys) 32) refl) in
      subst (FeedPromise table state work x ys r.answer state' work') (sym is) feed_listed
