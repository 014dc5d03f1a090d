-- The third demand as definitions: what it compares, and what it says of the readings that a feed leaves. Theorems: proofs/Demand3.
use Rattle.std.specs.Prelude.{ℕ, ◌≤◌, ◌≡◌, false, Option, Some}
use mathlib.Core.List.{List, [], ◌∷◌, map, reverse, Permᴰ, Memᴰ}
use Rattle.meaning.specs.Basics.{bind, each, flat, nth, AllOf}
use Rattle.meaning.specs.TableFile.{Table, rule_of}
use Rattle.meaning.specs.Readings.{Reading, states, plain}
use Rattle.meaning.specs.Chains.{Chain, IsChain, record_at, landing, chains_at}
use Rattle.meaning.specs.Applying.{act_on, reduced, shifted}
use Rattle.meaning.specs.Outcome.{Fed}
use Rattle.meaning.specs.Feeding.{feed, starts_recovery}
use Rattle.meaning.specs.declared.Term.{Term}

-- The same in another order, each as often.
abbrev pub Same : {A : Type 0} → List A → List A → Type 0
Same = Permᴰ

-- A feed that is answered by none of 1 to 11 and starts no recovery.
pub record Undisturbed (t : Table) (x : Term) (rs : List Reading) (next : ℕ) : Type 0 where
  pub no_recovery : starts_recovery t x rs next ≡ false
  pub not_refused : (1 ≤ (feed t x rs next).answer) × ((feed t x rs next).answer ≤ 11) → ⊥

-- Two outcomes with the same readings and the same errors, each as often; the same answer and walked count.
pub record Alike (f g : Fed) : Type 0 where
  pub answer : f.answer ≡ g.answer
  pub walked : f.walked ≡ g.walked
  pub readings : Same (map plain f.readings) (map plain g.readings)
  pub errors : Same f.errors g.errors

-- One chain, run on a reading; identities are left at 0. Nothing if an action refuses, or if it is no chain of this reading.
unfoldable pub run : Table → Term → Chain → Reading → Option Reading
run t x [] r = bind (record_at t x.class (states r.stack)).shift (λ to. Some (shifted x to r 0))
run t x (i ∷ chain) r =
    bind (nth (record_at t x.class (states r.stack)).rules i) (λ k.
    bind (landing t (rule_of t k) (states r.stack)) (λ to.
    bind (act_on (rule_of t k) r.stack) (λ v. run t x chain (reduced (rule_of t k) to v r 0))))

-- The runs of a reading's chains that succeed, in chain order.
unfoldable pub succeeded : Table → Term → Reading → List Reading
succeeded t x r = each (λ (chain : Chain). run t x chain r) (chains_at t x.class (states r.stack))

-- One of a list; all of a list different.
abbrev pub Among : Chain → List Chain → Type 0
Among = Memᴰ

abbrev pub Different : List Chain → Type 0
Different [] = Unit {0}
Different (a ∷ more) = (Among a more → ⊥) × Different more

-- `chains_at` has every chain at this stack, once, and nothing else.
pub record Enumerates (t : Table) (class : ℕ) (st : List ℕ) : Type 0 where
  pub chain : (ch : Chain) → Among ch (chains_at t class st) → IsChain t class ch st
  pub every : (ch : Chain) → IsChain t class ch st → Among ch (chains_at t class st)
  pub once : Different (chains_at t class st)

-- The readings left are exactly one for each chain whose actions all succeed: those of the last reading first, each reading's in chain order.
pub record ByChains (t : Table) (x : Term) (rs : List Reading) (f : Fed) : Type 0 where
  pub readings : map plain f.readings ≡ flat (succeeded t x) (reverse (map plain rs))
  pub chains : AllOf (λ (r : Reading). Enumerates t x.class (states r.stack)) rs
