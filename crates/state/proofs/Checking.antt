-- The ways out of the check, and what its parts ask. Assumes nothing.
use mathlib.Core.Path.{◌≡◌, refl, ap, sym, ◌∙◌}
use mathlib.Core.Bool.{Bool, true, false}
use mathlib.Core.List.{List}
use Prim.Native.Nat.{ℕ, zero, suc, ◌+◌, ◌-◌, ◌<◌, ◌≤◌}
use native.Mathlib.Omega.{arith}
use lib.Dec.{ltb, leb}
use borrow.Author.Tests.{lt-ltb, le-ltb, le-leb, lt-leb}
use Rattle.cells.specs.Pool.{cell_at}
use Rattle.cells.specs.Stacks.{linked}
use Rattle.cells.specs.declared.Cell.{Cell}
use Rattle.meaning.specs.Basics.{both}
use Rattle.meaning.proofs.Booleans.{both_false}
use Rattle.state.specs.Layout.{readings_at}
use Rattle.state.specs.Readings.{slot_at, top_at, height_at, count_of, used_of}
use Rattle.state.specs.Check.{slot_right, slots_right, valid_state, SlotReady, SlotsReady}
use Rattle.state.specs.declared.Slot.{Slot}

-- A law takes the slot and the cell that were read, and that they are the buffer's.
module _ (cells m : ℕ) (s : List ℕ) (at i : ℕ) (r : Slot) (e : r ≡ slot_at s at i) where
  pub slot_top : cells ≤ r.top.0 → false ≡ slot_right cells m s at i
  unfolding slot_right
  slot_top h =
      let out : cells ≤ top_at s at i = rw e at h in
      rw (le-ltb (top_at s at i) cells out)

  module _ (x : Cell) (f : x ≡ cell_at s r.top.0) where
    height_is : x.height ≡ height_at s at i
    height_is = ap (λ (y : Cell). y.height) f ∙ ap (λ (y : Slot). (cell_at s y.top.0).height) e

    pub slot_low : x.height < 1 → false ≡ slot_right cells m s at i
    unfolding slot_right
    slot_low h =
        let low : height_at s at i < 1 = rw height_is at h in
        rw (le-ltb 0 (height_at s at i) (omega arith)) (sym (both_false (ltb (top_at s at i) cells)))

    pub slot_high : 64 < x.height → false ≡ slot_right cells m s at i
    unfolding slot_right
    slot_high h =
        let high : 64 < height_at s at i = rw height_is at h in
        rw (lt-leb (height_at s at i) 64 high, both_false, both_false)

    pub slot_linked : r.top.0 < cells → (x.height ≡ 0 → ⊥) → x.height ≤ 64 → linked cells m (cell_at s) x.height r.top.0 ≡ slot_right cells m s at i
    unfolding slot_right
    slot_linked a b d =
        let inside : top_at s at i < cells = rw e at a in
        let low : 0 < height_at s at i = let z = height_is in omega arith in
        let high : height_at s at i ≤ 64 = rw height_is at d in
        rw (lt-ltb (top_at s at i) cells inside, lt-ltb 0 (height_at s at i) low, le-leb (height_at s at i) 64 high) (rw (e, height_is) refl)

-- The loop's step: what is left decides.
slots_first : (cells m : ℕ) (s : List ℕ) (at i k : ℕ) (b : Bool) → (k ≡ 0 → ⊥) → b ≡ slot_right cells m s at i →
    both b (slots_right cells m s at (i + 1) (k - 1)) ≡ slots_right cells m s at i k
unfolding slots_right
slots_first cells m s at i zero b z e = absurd (z refl)
slots_first cells m s at i (suc k) b z e = let u : suc k - 1 ≡ k = omega arith in rw (u, e)

module _ (cells m : ℕ) (s : List ℕ) (at n i : ℕ) (whole : Bool) (t : slots_right cells m s at i (n - i) ≡ whole) where
  module _ (h : i < n) (b : Bool) (e : b ≡ slot_right cells m s at i) where
    step : both b (slots_right cells m s at (i + 1) (n - i - 1)) ≡ whole
    step = slots_first cells m s at i (n - i) b (λ z. omega arith) e ∙ t

    pub slots_bad : b ≡ false → false ≡ whole
    slots_bad q = rw q at step

    pub slots_more : b ≡ true → slots_right cells m s at (i + 1) (n - (i + 1)) ≡ whole
    slots_more q = let u : n - (i + 1) ≡ n - i - 1 = omega arith in rw u (rw q at step)

  pub slots_end : n ≤ i → true ≡ whole
  unfolding slots_right
  slots_end h = let u : n - i ≡ 0 = omega arith in rw u at t

pub slot_ready : (s : List ℕ) (cells at n i : ℕ) → SlotsReady s cells at 0 n → i < n → SlotReady s cells at i
slot_ready s cells at n i y h = let r = y.slots in record { room = y.room; slot = omega arith }

module _ (m : ℕ) (s : List ℕ) (k : ℕ) (e : k ≡ count_of s) where
  pub valid_count : 16 < k → false ≡ valid_state m s
  unfolding valid_state
  valid_count h = let over : 16 < count_of s = rw e at h in rw (lt-leb (count_of s) 16 over)

  pub valid_used : (n : ℕ) → n ≡ used_of s → 1024 < n → false ≡ valid_state m s
  unfolding valid_state
  valid_used n g h = let over : 1024 < used_of s = rw g at h in rw (lt-leb (used_of s) 1024 over) (sym (both_false (leb (count_of s) 16)))

  pub valid_slots : (n : ℕ) → n ≡ used_of s → k ≤ 16 → n ≤ 1024 → slots_right n m s readings_at 0 k ≡ valid_state m s
  unfolding valid_state
  valid_slots n g h i =
      let few : count_of s ≤ 16 = rw e at h in
      let room : used_of s ≤ 1024 = rw g at i in
      rw (le-leb (count_of s) 16 few, le-leb (used_of s) 1024 room) (rw (e, g) refl)

-- For each function of the check, its ways out and what its calls ask.
pub ruleset slot_ways = (slot_top, slot_low, slot_high, slot_linked)

pub ruleset slots_ways = (slot_ready, slots_bad, slots_more, slots_end)

pub ruleset valid_ways = (valid_count, valid_used, valid_slots)
