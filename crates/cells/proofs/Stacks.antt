-- Stacks: the test of one and what it says, what stays where other cells are written, popping, who is held, the states as a list. Assumes nothing.
use mathlib.Core.Path.{◌≡◌, refl, ap, sym, ◌∙◌}
use mathlib.Core.Bool.{Bool, true, false}
use mathlib.Core.List.{List, ◌∷◌, ◌++◌, reverse, reverse-cons}
use Prim.Native.Nat.{ℕ, zero, suc, ◌+◌, ◌-◌, ◌*◌, ◌<◌, ◌≤◌}
use native.Mathlib.Omega.{arith}
use lib.Dec.{ltb, eqb}
use lib.ListN.{length, get_or, set, drop, length-set, length-map, length-reverse}
use lib.Seq.{drop-cons, drop-set-lt, get_or-set_same, append_snoc}
use borrow.Author.Tests.{lt-ltb, le-ltb, eq-eqb, ne_eqb, ltb-true, eqb-true}
use Rattle.meaning.specs.Basics.{AllOf}
use Rattle.meaning.specs.Calls.{written}
use Rattle.meaning.specs.Readings.{Entry, no_entry, holds, states}
use Rattle.cells.specs.Pool.{cell_size, cell_at}
use Rattle.cells.specs.Stacks.{Pool, entry_at, entries_of, down_from, linked, Linked, StatesBelow, StackIn}
use Rattle.cells.specs.declared.Cell.{Cell}
use Rattle.meaning.proofs.Booleans.{both_left, both_right, both_true, both_false}

-- The ways out of the test. A law takes the cell x that was read, and that it is the pool's.
module _ (n m : ℕ) (p : Pool) where
  pub linked_none : (h c : ℕ) → h ≡ 0 → true ≡ linked n m p h c
  unfolding linked
  linked_none h c e = rw e

  pub linked_out : (h c : ℕ) → (h ≡ 0 → ⊥) → n ≤ c → false ≡ linked n m p h c
  unfolding linked
  linked_out zero c e o = absurd (e refl)
  linked_out (suc h) c e o = rw (le-ltb c n o)

  pub linked_height : (h c : ℕ) (x : Cell) → x ≡ p c → (h ≡ 0 → ⊥) → (x.height ≡ h → ⊥) → false ≡ linked n m p h c
  unfolding linked
  linked_height zero c x r e o = absurd (e refl)
  linked_height (suc h) c x r e o = rw (ne_eqb (p c).height (suc h) (λ q. o (ap (λ (y : Cell). y.height) r ∙ q))) (sym (both_false (ltb c n)))

  pub linked_state : (h c : ℕ) (x : Cell) → x ≡ p c → (h ≡ 0 → ⊥) → m ≤ x.state.0 → false ≡ linked n m p h c
  unfolding linked
  linked_state zero c x r e o = absurd (e refl)
  linked_state (suc h) c x r e o = rw (le-ltb (p c).state.0 m (rw r at o), both_false, both_false)

  pub linked_down : (h c : ℕ) (x : Cell) → x ≡ p c → (h ≡ 0 → ⊥) → c < n → x.height ≡ h → x.state.0 < m →
      linked n m p (h - 1) x.parent.0 ≡ linked n m p h c
  unfolding linked
  linked_down zero c x r e i o s = absurd (e refl)
  linked_down (suc h) c x r e i o s =
      let u : suc h - 1 ≡ h = omega arith in
      rw (lt-ltb c n i, eq-eqb (p c).height (suc h) (rw r at o), lt-ltb (p c).state.0 m (rw r at s), u, r)

-- The test says what it means: the cells are linked and the states are known.
pub linked_claim : (n m : ℕ) (p : Pool) (h c : ℕ) → linked n m p h c ≡ true → Linked n p h c × StatesBelow m (entries_of p h c)
unfolding linked Linked entries_of
linked_claim n m p zero c e = (tt, tt)
linked_claim n m p (suc h) c e =
    let r1 = both_right (ltb c n) _ e in
    let r2 = both_right (eqb (p c).height (suc h)) _ r1 in
    let rest = linked_claim n m p h (p c).parent.0 (both_right (ltb (p c).state.0 m) _ r2) in (
      (ltb-true c n (both_left _ _ e), eqb-true (p c).height (suc h) (both_left _ _ r1), rest.0),
      (ltb-true (p c).state.0 m (both_left _ _ r2), rest.1),
    )

pub claim_linked : (n m : ℕ) (p : Pool) (h c : ℕ) → Linked n p h c → StatesBelow m (entries_of p h c) → linked n m p h c ≡ true
unfolding linked Linked entries_of
claim_linked n m p zero c l s = refl
claim_linked n m p (suc h) c l s =
    both_true _ _ (lt-ltb c n l.0)
    (both_true _ _ (eq-eqb (p c).height (suc h) l.1)
    (both_true _ _ (lt-ltb (p c).state.0 m s.0) (claim_linked n m p h (p c).parent.0 l.2 s.1)))

-- What a stack of some height says of its top.
pub linked_top : (n : ℕ) (p : Pool) (h c : ℕ) → 0 < h → Linked n p h c → c < n
unfolding Linked
linked_top n p zero c z l = absurd (omega arith)
linked_top n p (suc h) c z l = l.0

pub linked_top_height : (n : ℕ) (p : Pool) (h c : ℕ) → 0 < h → Linked n p h c → (p c).height ≡ h
unfolding Linked
linked_top_height n p zero c z l = absurd (omega arith)
linked_top_height n p (suc h) c z l = l.1

pub linked_under : (n : ℕ) (p : Pool) (h c : ℕ) (x : Cell) → x ≡ p c → (h ≡ 0 → ⊥) → Linked n p h c → Linked n p (h - 1) x.parent.0
unfolding Linked
linked_under n p zero c x r z l = absurd (z refl)
linked_under n p (suc h) c x r z l =
    let u : suc h - 1 ≡ h = omega arith in
    rw (u, r) l.2

-- What a stack in a buffer asks and gives on the way down.
module _ (s : List ℕ) (h c : ℕ) (z : h ≡ 0 → ⊥) (l : StackIn s h c) where
  pub in_room : cell_size * c + cell_size ≤ length s
  in_room = let t = linked_top l.cells (cell_at s) h c (omega arith) l.stack in let r = l.room in omega arith

  pub in_under : (x : Cell) → x ≡ cell_at s c → StackIn s (h - 1) x.parent.0
  in_under x r = record { cells = l.cells; room = l.room; stack = linked_under l.cells (cell_at s) h c x r z l.stack }

pub length_entries : (p : Pool) (h c : ℕ) → length (entries_of p h c) ≡ h
unfolding entries_of
length_entries p zero c = refl
length_entries p (suc h) c = ap suc (length_entries p h (p c).parent.0)

-- The identities of a stack are below the number of cells.
pub born_below : (n : ℕ) (p : Pool) (h c : ℕ) → Linked n p h c → AllOf (λ (e : Entry). e.born < n) (entries_of p h c)
unfolding entries_of Linked
born_below n p zero c l = tt
born_below n p (suc h) c l = (l.0, born_below n p h (p c).parent.0 l.2)

-- Popping: the cell k below the top, and the stack that it is the top of.
pub down_none : (p : Pool) (k c : ℕ) → k ≡ 0 → c ≡ down_from p k c
unfolding down_from
down_none p k c e = rw e

pub down_more : (p : Pool) (k c : ℕ) (x : Cell) → x ≡ p c → (k ≡ 0 → ⊥) → down_from p (k - 1) x.parent.0 ≡ down_from p k c
unfolding down_from
down_more p zero c x r e = absurd (e refl)
down_more p (suc k) c x r e = let u : suc k - 1 ≡ k = omega arith in rw (u, r)

pub entries_down : (p : Pool) (k h c : ℕ) → entries_of p h (down_from p k c) ≡ drop k (entries_of p (k + h) c)
unfolding entries_of down_from
entries_down p zero h c = let e : 0 + h ≡ h = omega arith in rw e
entries_down p (suc k) h c = let e : suc k + h ≡ suc (k + h) = omega arith in rw e (entries_down p k h (p c).parent.0)

pub linked_down_from : (n : ℕ) (p : Pool) (k h c : ℕ) → Linked n p (k + h) c → Linked n p h (down_from p k c)
unfolding down_from Linked
linked_down_from n p zero h c l = let e : 0 + h ≡ h = omega arith in rw e at l
linked_down_from n p (suc k) h c l =
    let e : suc k + h ≡ suc (k + h) = omega arith in
    linked_down_from n p k h (p c).parent.0 (rw e at l).2

-- The entry k below the top is the one in the cell k below the top.
pub entry_down : (p : Pool) (h c k : ℕ) → k < h → get_or (entries_of p h c) k no_entry ≡ entry_at p (down_from p k c)
unfolding entries_of down_from
entry_down p zero c k b = absurd (omega arith)
entry_down p (suc h) c zero b = refl
entry_down p (suc h) c (suc k) b = entry_down p h (p c).parent.0 k (omega arith)

-- The ways out of the question who is held.
pub holds_none : (p : Pool) (h c d : ℕ) → h ≡ 0 → false ≡ holds (entries_of p h c) d
unfolding holds entries_of
holds_none p h c d e = rw e

pub holds_here : (p : Pool) (h c d : ℕ) (is : Bool) → (h ≡ 0 → ⊥) → is ≡ eqb c d → is ≡ true → true ≡ holds (entries_of p h c) d
unfolding holds entries_of
holds_here p zero c d is z e q = absurd (z refl)
holds_here p (suc h) c d is z e q = rw (← (sym q ∙ e))

pub holds_down : (p : Pool) (h c d : ℕ) (is : Bool) (x : Cell) (r : Bool) → x ≡ p c → (h ≡ 0 → ⊥) → is ≡ eqb c d → is ≡ false →
    r ≡ holds (entries_of p (h - 1) x.parent.0) d → r ≡ holds (entries_of p h c) d
unfolding holds entries_of
holds_down p zero c d is x r a z e q b = absurd (z refl)
holds_down p (suc h) c d is x r a z e q b = let u : suc h - 1 ≡ h = omega arith in rw (← (sym q ∙ e)) (rw (u, a) at b)

-- The ways out of the copy of the states.
pub states_none : (p : Pool) (h c : ℕ) (a : List ℕ) → h ≡ 0 → a ≡ written (reverse (states (entries_of p h c))) a
unfolding entries_of
states_none p h c a e = rw e

length_states : (p : Pool) (h c : ℕ) → length (reverse (states (entries_of p h c))) ≡ h
length_states p h c = length-reverse (states (entries_of p h c)) ∙ length-map (entries_of p h c) (λ e. e.state) ∙ length_entries p h c

-- the state v on top of h states
states_over : (h v : ℕ) (below a : List ℕ) → length (reverse below) ≡ h → h < length a →
    written (reverse below) (set a h v) ≡ written (reverse (v ∷ below)) a
states_over h v below a l b =
    let inside : h < length (set a h v) = simp length-set b in
    let more : length (reverse (v ∷ below)) ≡ suc h = length-reverse (v ∷ below) ∙ ap suc (sym (length-reverse below) ∙ l) in
    ap (λ (k : ℕ). reverse below ++ drop k (set a h v)) l
    ∙ ap (λ (r : List ℕ). reverse below ++ r) (drop-cons (set a h v) h 0 inside)
    ∙ rw (get_or-set_same a h v 0 b, drop-set-lt (suc h) a h v (omega arith)) (sym (append_snoc (reverse below) v (drop (suc h) a)))
    ∙ ap (λ (r : List ℕ). r ++ drop (suc h) a) (sym (reverse-cons v below))
    ∙ ap (λ (k : ℕ). reverse (v ∷ below) ++ drop k a) (sym more)

states_top : (p : Pool) (h c : ℕ) (x : Cell) → x ≡ p c → x.state.0 ∷ states (entries_of p h x.parent.0) ≡ states (entries_of p (suc h) c)
unfolding entries_of
states_top p h c x e = rw e

pub states_more : (p : Pool) (h c : ℕ) (a : List ℕ) (x : Cell) (i : ℕ) → x ≡ p c → (h ≡ 0 → ⊥) → i ≡ h - 1 → h ≤ length a →
    written (reverse (states (entries_of p (h - 1) x.parent.0))) (set a i x.state.0) ≡ written (reverse (states (entries_of p h c))) a
states_more p zero c a x i e z f b = absurd (z refl)
states_more p (suc h) c a x i e z f b =
    let u : suc h - 1 ≡ h = omega arith in
    rw (f, u) (states_over h x.state.0 (states (entries_of p h x.parent.0)) a (length_states p h x.parent.0) (omega arith))
    ∙ ap (λ (r : List ℕ). written (reverse r) a) (states_top p h c x e)

-- For each function that goes down a stack, its ways out and what its calls ask.
pub ruleset linked_ways = (linked_none, linked_out, linked_height, linked_state, linked_down)

pub ruleset down_ways = (in_under, down_none, down_more)

pub ruleset holds_ways = (in_under, holds_none, holds_here, holds_down)

pub ruleset states_ways = (in_under, states_none, states_more)
