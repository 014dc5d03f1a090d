-- Who holds a cell: the ways out of the question, and what it asks. Assumes nothing.
use mathlib.Core.Path.{◌≡◌, refl, ◌∙◌}
use mathlib.Core.Bool.{Bool, true, false}
use mathlib.Core.List.{List, [], ◌∷◌, ◌++◌}
use Prim.Native.Nat.{ℕ, zero, suc, ◌+◌, ◌-◌, ◌*◌, ◌<◌, ◌≤◌}
use native.Mathlib.Omega.{arith}
use lib.ListN.{length}
use Rattle.meaning.specs.Basics.{either}
use Rattle.meaning.specs.Readings.{Reading, holds, held_by}
use Rattle.cells.specs.Pool.{cell_size, cell_at}
use Rattle.cells.specs.Stacks.{entries_of, StackIn}
use Rattle.cells.specs.declared.Cell.{Cell}
use Rattle.cells.proofs.Stacks.{in_room}
use Rattle.state.specs.Layout.{slot_size}
use Rattle.state.specs.Readings.{slot_at, height_at, top_at, reading_at, readings_from, ListIn}
use Rattle.state.specs.declared.Slot.{Slot}

-- The reading that is looked at: its slot, its top cell, its stack.
module _ (s : List ℕ) (at i k : ℕ) (z : k ≡ 0 → ⊥) (y : ListIn s at i k) where
  pub first_slot : at + slot_size * i + slot_size ≤ length s
  first_slot = let h = y.slots in omega arith

  first_stack : StackIn s (height_at s at i) (top_at s at i)
  first_stack = record { cells = y.cells; room = y.room; stack = (y.stands i (omega arith) (omega arith)).stack }

  module _ (r : Slot) (e : r ≡ slot_at s at i) where
    pub top_room : cell_size * r.top.0 + cell_size ≤ length s
    top_room =
        let low = (y.stands i (omega arith) (omega arith)).low in
        rw e (in_room s (height_at s at i) (top_at s at i) (λ q. omega arith) first_stack)

    pub top_stack : (x : Cell) → x ≡ cell_at s r.top.0 → StackIn s x.height r.top.0
    top_stack x f = rw (f, e) first_stack

  pub list_rest : ListIn s at (i + 1) (k - 1)
  list_rest =
      let h = y.slots in
      let f = y.few in
      record { cells = y.cells; room = y.room; slots = omega arith; few = omega arith; stands = λ j a b. y.stands j (omega arith) (omega arith) }

-- The readings that are still to be looked at, where the loop has come to the reading k.
list_from : (s : List ℕ) (at i n k : ℕ) → i ≤ k → k < i + n → ListIn s at i n → ListIn s at k (i + n - k)
list_from s at i n k a b y =
    let h = y.slots in
    let f = y.few in
    record { cells = y.cells; room = y.room; slots = omega arith; few = omega arith; stands = λ j u v. y.stands j (omega arith) (omega arith) }

-- The loop's step: what is left decides.
held_first : (s : List ℕ) (at i k c : ℕ) (b : Bool) → (k ≡ 0 → ⊥) → b ≡ holds (reading_at s at i).stack c →
    either b (held_by (readings_from s at (i + 1) (k - 1)) c) ≡ held_by (readings_from s at i k) c
unfolding held_by readings_from
held_first s at i zero c b z e = absurd (z refl)
held_first s at i (suc k) c b z e = let u : suc k - 1 ≡ k = omega arith in rw (u, e)

module _ (s : List ℕ) (at i n k : ℕ) (low : i ≤ k) (y : ListIn s at i n) (h : k < i + n) where
  pub slot_room : at + slot_size * k + slot_size ≤ length s
  slot_room = first_slot s at k (i + n - k) (λ z. omega arith) (list_from s at i n k low h y)

  module _ (r : Slot) (e : r ≡ slot_at s at k) where
    pub cell_room : cell_size * r.top.0 + cell_size ≤ length s
    cell_room = top_room s at k (i + n - k) (λ z. omega arith) (list_from s at i n k low h y) r e

    module _ (x : Cell) (f : x ≡ cell_at s r.top.0) where
      pub stack_room : StackIn s x.height r.top.0
      stack_room = top_stack s at k (i + n - k) (λ z. omega arith) (list_from s at i n k low h y) r e x f

      module _ (c : ℕ) (b : Bool) (g : b ≡ holds (entries_of (cell_at s) x.height r.top.0) c) (whole : Bool) (t : held_by (readings_from s at k (i + n - k)) c ≡ whole) where
        step : either b (held_by (readings_from s at (k + 1) (i + n - k - 1)) c) ≡ whole
        step = held_first s at k (i + n - k) c b (λ z. omega arith) (rw (f, e) at g) ∙ t

        pub held_here : b ≡ true → true ≡ whole
        held_here q = rw q at step

        pub held_more : b ≡ false → held_by (readings_from s at (k + 1) (i + n - (k + 1))) c ≡ whole
        held_more q = let u : i + n - (k + 1) ≡ i + n - k - 1 = omega arith in rw u (rw q at step)

pub held_end : (s : List ℕ) (at i n k c : ℕ) (whole : Bool) → i + n ≤ k → held_by (readings_from s at k (i + n - k)) c ≡ whole → false ≡ whole
unfolding held_by readings_from
held_end s at i n k c whole h t = let u : i + n - k ≡ 0 = omega arith in rw u at t

-- Two lists, one behind the other.
pub held_append : (xs ys : List Reading) (c : ℕ) → held_by (xs ++ ys) c ≡ either (held_by xs c) (held_by ys c)
unfolding held_by
held_append [] ys c = refl
held_append (x ∷ xs) ys c = either_assoc (holds x.stack c) (held_by xs c) (held_by ys c) (held_append xs ys c)
  where
    either_assoc : (b z w : Bool) {y : Bool} → y ≡ either z w → either b y ≡ either (either b z) w
    either_assoc true z w e = refl
    either_assoc false z w e = e

module _ (xs ys : List Reading) (c : ℕ) (b : Bool) (e : b ≡ held_by xs c) where
  pub held_left : b ≡ true → true ≡ held_by (xs ++ ys) c
  held_left q = rw (held_append, ← e, q)

  pub held_right : b ≡ false → held_by ys c ≡ held_by (xs ++ ys) c
  held_right q = rw (held_append, ← e, q)

-- For each of the two functions, its ways out and what its calls ask.
pub ruleset held_ways = (slot_room, stack_room, held_more, held_end)

pub ruleset others_ways = (held_left, held_right)
