-- What a call leaves of a lent list depends on that list only past the count. So what it leaves of a list without records, filled into any other list, is what it leaves of that one. Assumes nothing.
--     Lists          a call on every lent list: what it writes there, and that nothing else depends on the list
--     filled_on      from one lent list to another
--     feed_lists, stack_lists    the definitions of feed and of reading out are such calls
use mathlib.Core.Path.{◌≡◌, refl, sym, ◌∙◌}
use mathlib.Core.Bool.{Bool, true, false, not}
use mathlib.Core.List.{List, [], map}
use Prim.Native.Nat.{ℕ}
use lib.Dec.{leb}
use lib.ListN.{length, get_or, length-map}
use Rattle.meaning.specs.Basics.{is_nil}
use Rattle.std.specs.Prelude.{if◌then◌else◌, None, Some}
use Rattle.meaning.specs.Calls.{State, check_state, checked, written, wrong_term, FeedCall, feed_refused, feed_ended, feed_right, feed_call, StackCall, no_reading, stack_refused, stack_read, stack_right, stack_call}
use Rattle.meaning.specs.Feeding.{feed}
use Rattle.meaning.specs.Outcome.{Fed}
use Rattle.meaning.specs.Readings.{Reading, seen}
use Rattle.meaning.specs.TableFile.{Table, table_of}
use Rattle.meaning.specs.TableRight.{table_ok}
use Rattle.meaning.specs.declared.Entry.{Entry as SeenEntry}
use Rattle.meaning.specs.declared.ErrorRecord.{ErrorRecord}
use Rattle.meaning.specs.declared.FeedNumbers.{FeedNumbers}
use Rattle.meaning.specs.declared.Refusal.{Refusal}
use Rattle.meaning.specs.declared.Refusal.TheVariants.{WrongLength, WrongTable, WrongState, Consumed, WrongArgument}
use Rattle.meaning.specs.declared.StackNumbers.{StackNumbers}
use Rattle.meaning.specs.declared.Term.{Term}
use Rattle.lists.specs.Filling.{filled}
use Rattle.lists.proofs.Laws.{padded_filled}

module _ {A C R : Type 0} (list : C → List A) (count : C → ℕ) (rest : C → R) where
  pub record Lists (call : List A → C) : Type 0 where
    pub es : List A
    pub listed : (ys : List A) → list (call ys) ≡ written es ys
    pub counted : (ys : List A) → count (call ys) ≡ length es
    pub same : (ys zs : List A) → rest (call ys) ≡ rest (call zs)

  if_lists : (b : Bool) (f g : List A → C) → Lists f → Lists g → Lists (λ ys. if b then f ys else g ys)
  if_lists true f g a b = a
  if_lists false f g a b = b

  checked_lists : (lengths : Bool) (table : List ℕ) (state : State) (refuse : List A → Refusal → C) (go : List A → Table → List Reading → C) →
      ((k : Refusal) → Lists (λ ys. refuse ys k)) → ((t : Table) (rs : List Reading) → Lists (λ ys. go ys t rs)) → Lists (λ ys. checked lengths table state (refuse ys) (go ys))
  checked_lists lengths table state refuse go a b =
      if_lists (not lengths) (λ ys. refuse ys WrongLength) _ (a WrongLength) (if_lists (not (table_ok table)) (λ ys. refuse ys WrongTable) _ (a WrongTable) (at state))
    where
      at : (s : State) → Lists (λ ys. check_state s (refuse ys) (go ys (table_of table)))
      at None = a WrongState
      at (Some rs) = b (table_of table) rs

  pub filled_on : (call : List A → C) → Lists call → (ys zs : List A) → filled (list (call ys)) zs (count (call ys)) ≡ list (call zs)
  filled_on call l ys zs = rw (l.listed ys, l.counted ys) (padded_filled l.es ys zs ∙ sym (l.listed zs))

-- Feed: numbers and state do not depend on the lent list.
abbrev errors_in : FeedCall → List ErrorRecord
errors_in c = c.errors

abbrev count_in : FeedCall → ℕ
count_in c = c.says.errors

abbrev pub besides : FeedCall → FeedNumbers × State
besides c = (c.says, c.state)

feed_refused_lists : (s : State) (k : Refusal) → Lists errors_in count_in besides (λ ys. feed_refused s ys k)
feed_refused_lists s k = record { es = []; listed = λ ys. refl; counted = λ ys. refl; same = λ ys zs. refl }

feed_ended_lists : (f : Fed) → Lists errors_in count_in besides (λ ys. feed_ended ys f)
feed_ended_lists f = record { es = f.errors; listed = λ ys. refl; counted = λ ys. refl; same = λ ys zs. refl }

feed_right_lists : (t : Table) (x : Term) (rs : List Reading) (next : ℕ) → Lists errors_in count_in besides (λ ys. feed_right t x rs ys next)
unfolding feed_right
feed_right_lists t x rs next =
    if_lists errors_in count_in besides (is_nil rs) (λ ys. feed_refused (Some rs) ys Consumed) _ (feed_refused_lists (Some rs) Consumed)
    (if_lists errors_in count_in besides (wrong_term t.counts.classes x) (λ ys. feed_refused (Some rs) ys WrongArgument) _ (feed_refused_lists (Some rs) WrongArgument) (feed_ended_lists (feed t x rs next)))

pub feed_lists : (lengths : Bool) (table : List ℕ) (s : State) (x : Term) (next : ℕ) → Lists errors_in count_in besides (λ ys. feed_call lengths table s x ys next)
unfolding feed_call
feed_lists lengths table s x next =
    checked_lists errors_in count_in besides lengths table s (feed_refused s) (λ ys t rs. feed_right t x rs ys next) (feed_refused_lists s) (λ t rs. feed_right_lists t x rs next)

-- Reading out: the numbers do not.
abbrev entries_in : StackCall → List SeenEntry
entries_in c = c.entries

abbrev height_in : StackCall → ℕ
height_in c = c.says.height

abbrev says_in : StackCall → StackNumbers
says_in c = c.says

stack_refused_lists : (k : Refusal) → Lists entries_in height_in says_in (λ ys. stack_refused ys k)
stack_refused_lists k = record { es = []; listed = λ ys. refl; counted = λ ys. refl; same = λ ys zs. refl }

stack_read_lists : (r : Reading) → Lists entries_in height_in says_in (λ ys. stack_read ys r)
stack_read_lists r = record { es = map seen r.stack; listed = λ ys. refl; counted = λ ys. sym (length-map r.stack seen); same = λ ys zs. refl }

stack_right_lists : (rs : List Reading) (i : ℕ) → Lists entries_in height_in says_in (stack_right rs i)
unfolding stack_right
stack_right_lists rs i =
    if_lists entries_in height_in says_in (is_nil rs) (λ ys. stack_refused ys Consumed) _ (stack_refused_lists Consumed)
    (if_lists entries_in height_in says_in (leb (length rs) i) (λ ys. stack_refused ys WrongArgument) _ (stack_refused_lists WrongArgument) (stack_read_lists (get_or rs i no_reading)))

pub stack_lists : (lengths : Bool) (table : List ℕ) (s : State) (i : ℕ) → Lists entries_in height_in says_in (stack_call lengths table s i)
unfolding stack_call
stack_lists lengths table s i =
    checked_lists entries_in height_in says_in lengths table s stack_refused (λ ys t rs. stack_right rs i ys) stack_refused_lists (λ t rs. stack_right_lists rs i)
