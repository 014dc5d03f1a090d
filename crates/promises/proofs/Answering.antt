-- Calls on the same readings under other identities: each comes to the same. Assumes nothing.
use Prim.Native.Nat.{ℕ, zero, suc, ◌<◌}
use mathlib.Core.Path.{◌≡◌, refl, sym, ap, ap₂, ◌∙◌, subst}
use mathlib.Core.Bool.{Bool, true, false, not}
use mathlib.Core.List.{List, [], ◌∷◌, map}
use lib.Dec.{leb}
use lib.ListN.{length, get_or}
use Rattle.meaning.specs.Answers.{QuestionAnswer}
use Rattle.meaning.specs.Basics.{is_nil}
use Rattle.std.specs.Prelude.{Ok, Err, if◌then◌else◌, None, Some}
use Rattle.meaning.specs.Calls.{State, check_state, checked, written, StartCall, start_call, wrong_class, wrong_term, FeedCall, feed_refused, feed_ended, feed_right, feed_call, takes_right, takes_call, can_end_call, can_recover_call, StackCall, no_reading, stack_refused, stack_read, stack_right, stack_call}
use Rattle.meaning.specs.Feeding.{feed}
use Rattle.meaning.specs.Identities.{ren_reading}
use Rattle.meaning.specs.Outcome.{Fed}
use Rattle.meaning.specs.Questions.{can_plan, or_else, takes, can_end, recovers_from, some_recovers, can_recover}
use Rattle.meaning.specs.Readings.{Reading, start_reading}
use Rattle.meaning.specs.TableFile.{Table, table_of, end_class}
use Rattle.meaning.specs.TableRight.{table_ok}
use Rattle.meaning.specs.declared.Entry.{Entry as SeenEntry}
use Rattle.meaning.specs.declared.ErrorRecord.{ErrorRecord}
use Rattle.meaning.specs.declared.FeedNumbers.{FeedNumbers}
use Rattle.meaning.specs.declared.Refusal.{Refusal}
use Rattle.meaning.specs.declared.Refusal.TheVariants.{WrongLength, WrongTable, WrongState, Consumed, WrongArgument}
use Rattle.meaning.specs.declared.Term.{Term}
use Rattle.meaning.proofs.Renamed.{states_ren}
use Rattle.meaning.proofs.Tools.{nil_map, length-map}
use Rattle.promises.specs.Calls.{Renamed, SameState}
use Rattle.promises.proofs.Runs.{seen_stack}
use Rattle.promises.proofs.Steps.{OfAll, fed_onward, left_onward}

-- Past the same checks the same, if what comes after them is.
checked_same : {A : Type 0} (R : A → A → Type 0) (lengths : Bool) (table : List ℕ) (s s' : State) (refuse refuse' : Refusal → A) (go go' : Table → List Reading → A) → SameState s s' →
    ((k : Refusal) → R (refuse k) (refuse' k)) → ((t : Table) (rs rs' : List Reading) → s ≡ Some rs → s' ≡ Some rs' → Renamed rs rs' → R (go t rs) (go' t rs')) →
    R (checked lengths table s refuse go) (checked lengths table s' refuse' go')
checked_same R false table s s' refuse refuse' go go' h stop on = stop WrongLength
checked_same R true table s s' refuse refuse' go go' h stop on = at (table_ok table) s s' h on
  where
    at : (b : Bool) (s s' : State) → SameState s s' → ((t : Table) (rs rs' : List Reading) → s ≡ Some rs → s' ≡ Some rs' → Renamed rs rs' → R (go t rs) (go' t rs')) →
        R (if not b then refuse WrongTable else check_state s refuse (go (table_of table))) (if not b then refuse' WrongTable else check_state s' refuse' (go' (table_of table)))
    at false s s' h on = stop WrongTable
    at true None None h on = stop WrongState
    at true None (Some rs) h on = absurd h
    at true (Some rs) None h on = absurd h
    at true (Some rs) (Some rs') h on = on (table_of table) rs rs' refl refl h

-- What is asked of readings is the same of the renamed ones.

module _ (ρ : ℕ → ℕ) (t : Table) where
  takes_ren : (class : ℕ) (rs : List Reading) → takes t class rs ≡ takes t class (map (ren_reading ρ) rs)
  unfolding takes
  takes_ren class [] = refl
  takes_ren class (r ∷ rs) = ap₂ {C = QuestionAnswer} (λ st q. or_else (can_plan t class st) q) (sym (states_ren ρ r.stack)) (takes_ren class rs)

  recovers_ren : (rs : List Reading) → some_recovers t rs ≡ some_recovers t (map (ren_reading ρ) rs)
  unfolding some_recovers
  recovers_ren [] = refl
  recovers_ren (r ∷ rs) = ap₂ {C = QuestionAnswer} (λ st q. or_else (recovers_from t st) q) (sym (states_ren ρ r.stack)) (recovers_ren rs)

-- An equation about renamed readings is one about the readings that are the same.
to_renamed : {A : Type 0} (f : List Reading → A) (rs rs' : List Reading) → ((ρ : ℕ → ℕ) → f rs ≡ f (map (ren_reading ρ) rs)) → Renamed rs rs' → f rs ≡ f rs'
to_renamed f rs rs' e h = e h.rename ∙ sym (ap f h.same)

module _ (lengths : Bool) (table : List ℕ) (s s' : State) (h : SameState s s') where
  pub takes_same : (class : ℕ) → takes_call lengths table s class ≡ takes_call lengths table s' class
  unfolding takes_call takes_right
  takes_same class =
      checked_same (λ (p q : QuestionAnswer). p ≡ q) lengths table s s' Err Err _ _ h (λ k. refl)
      (λ t rs rs' d e. to_renamed (λ l. if is_nil l then Ok false else if wrong_class t.counts.classes class then Err WrongArgument else takes t class l) rs rs'
      (λ ρ. ap₂ {C = QuestionAnswer} (λ b q. if b then Ok false else if wrong_class t.counts.classes class then Err WrongArgument else q) (sym (nil_map (ren_reading ρ) rs)) (takes_ren ρ t class rs)))

  pub can_end_same : can_end_call lengths table s ≡ can_end_call lengths table s'
  unfolding can_end_call can_end
  can_end_same =
      checked_same (λ (p q : QuestionAnswer). p ≡ q) lengths table s s' Err Err _ _ h (λ k. refl) (λ t rs rs' d e. to_renamed (takes t end_class) rs rs' (λ ρ. takes_ren ρ t end_class rs))

  pub can_recover_same : can_recover_call lengths table s ≡ can_recover_call lengths table s'
  unfolding can_recover_call can_recover
  can_recover_same =
      checked_same (λ (p q : QuestionAnswer). p ≡ q) lengths table s s' Err Err _ _ h (λ k. refl)
      (λ t rs rs' d e. to_renamed (λ l. if t.recovers then some_recovers t l else Ok false) rs rs' (λ ρ. ap (λ (q : QuestionAnswer). if t.recovers then q else Ok false) (recovers_ren ρ t rs)))

-- Reading out.

module _ (ρ : ℕ → ℕ) (entries : List SeenEntry) where
  read_ren : (r : Reading) → stack_read entries r ≡ stack_read entries (ren_reading ρ r)
  read_ren r =
      ap₂ {C = StackCall} (λ (n : ℕ) (l : List SeenEntry). record { says = record { answer = 0; height = n; mark = r.mark }; entries = written l entries }) (sym (length-map _ r.stack))
      (sym (seen_stack ρ r.stack))

  read_at : (rs : List Reading) (i : ℕ) → stack_read entries (get_or rs i no_reading) ≡ stack_read entries (get_or (map (ren_reading ρ) rs) i no_reading)
  read_at [] i = refl
  read_at (r ∷ rs) zero = read_ren r
  read_at (r ∷ rs) (suc i) = read_at rs i

  stack_ren : (rs : List Reading) (i : ℕ) → stack_right rs i entries ≡ stack_right (map (ren_reading ρ) rs) i entries
  unfolding stack_right
  stack_ren [] i = refl
  stack_ren (r ∷ rs) i =
      ap₂ {C = StackCall} (λ (n : ℕ) c. if leb n i then stack_refused entries WrongArgument else c) (sym (length-map (ren_reading ρ) (r ∷ rs))) (read_at (r ∷ rs) i)

pub stack_same : (lengths : Bool) (table : List ℕ) (s s' : State) → SameState s s' → (i : ℕ) (entries : List SeenEntry) → stack_call lengths table s i entries ≡ stack_call lengths table s' i entries
unfolding stack_call
stack_same lengths table s s' h i entries =
    checked_same (λ (c d : StackCall). c ≡ d) lengths table s s' (stack_refused entries) (stack_refused entries) _ _ h (λ k. refl)
    (λ t rs rs' d e. to_renamed (λ l. stack_right l i entries) rs rs' (λ ρ. stack_ren ρ entries rs i))

-- Start answers by lengths and table alone.
pub start_same : (lengths : Bool) (table : List ℕ) (s s' : State) (n : ℕ) → (start_call lengths table s n).answer ≡ (start_call lengths table s' n).answer
unfolding start_call
start_same false table s s' n = refl
start_same true table s s' n = at (table_ok table)
  where
    call : State → Bool → StartCall
    call u b = (if not b then record { answer = 2; state = u } else record { answer = 0; state = Some (start_reading (table_of table) n ∷ []) })

    at : (b : Bool) → (call s b).answer ≡ (call s' b).answer
    at true = refl
    at false = refl

-- A feed, from identities below n and from identities below m.

pub record SameCalls (c d : FeedCall) : Type 0 where
  pub says : c.says ≡ d.says
  pub states : SameState c.state d.state
  pub errors : c.errors ≡ d.errors

module _ (x : Term) (errors : List ErrorRecord) (n m : ℕ) where
  module _ (t : Table) (rs rs' : List Reading) (a : OfAll (λ i. i < n) rs) (b : OfAll (λ i. i < m) rs') (h : Renamed rs rs') where
    ended_same : SameCalls (feed_ended errors (feed t x rs n)) (feed_ended errors (feed t x rs' m))
    ended_same =
        let e = fed_onward rs rs' n m a b h t x in
        record {
          says = sym (ap {B = FeedNumbers} (λ (f : Fed). record { answer = f.answer; errors = length f.errors; walked = f.walked }) e);
          states = left_onward rs rs' n m a b h t x;
          errors = sym (ap (λ (f : Fed). written f.errors errors) e);
        }

    right_same : SameCalls (feed_right t x rs errors n) (feed_right t x rs' errors m)
    unfolding feed_right
    right_same =
        subst (λ (c : Bool). SameCalls (feed_right t x rs errors n) (goes c (wrong_term t.counts.classes x) rs' m)) (sym (nil_map (ren_reading h.rename) rs) ∙ sym (ap is_nil h.same))
        (at (is_nil rs) (wrong_term t.counts.classes x))
      where
        goes : Bool → Bool → List Reading → ℕ → FeedCall
        goes c d l next = (if c then feed_refused (Some l) errors Consumed else if d then feed_refused (Some l) errors WrongArgument else feed_ended errors (feed t x l next))

        at : (c d : Bool) → SameCalls (goes c d rs n) (goes c d rs' m)
        at true d = record { says = refl; states = h; errors = refl }
        at false true = record { says = refl; states = h; errors = refl }
        at false false = ended_same

  pub feed_same : (lengths : Bool) (table : List ℕ) (s s' : State) → SameState s s' → ((rs : List Reading) → s ≡ Some rs → OfAll (λ i. i < n) rs) →
      ((rs : List Reading) → s' ≡ Some rs → OfAll (λ i. i < m) rs) → SameCalls (feed_call lengths table s x errors n) (feed_call lengths table s' x errors m)
  unfolding feed_call
  feed_same lengths table s s' h a b =
      checked_same SameCalls lengths table s s' (feed_refused s errors) (feed_refused s' errors) _ _ h (λ k. record { says = refl; states = h; errors = refl })
      (λ t rs rs' d e. right_same t rs rs' (a rs d) (b rs' e))
