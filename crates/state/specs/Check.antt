-- The layout's rules, as a test on any bytes: answer 3 where it is false. And what a state is known to be where it is true.
use Rattle.std.specs.Prelude.{Bool, true, List, ℕ, zero, suc, ◌+◌, ◌*◌, ◌<◌, ◌≤◌, ltb, leb, length, Some, None}
use Rattle.meaning.specs.Basics.{both, AllOf}
use Rattle.std.specs.Prelude.{if◌then◌else◌}
use Rattle.meaning.specs.Bounds.{Standing}
use Rattle.meaning.specs.Calls.{State}
use Rattle.meaning.specs.Limits.{max_readings, max_height}
use Rattle.meaning.specs.Readings.{Entry, Reading}
use Rattle.cells.specs.Pool.{cell_size, cell_at}
use Rattle.cells.specs.Stacks.{linked, StatesBelow}
use Rattle.state.specs.Layout.{readings_at, slot_size, state_cells}
use Rattle.state.specs.Readings.{top_at, height_at, count_of, used_of, readings_of}

-- The reading i of a list, over cells below `cells`, for a table of m states.
unfoldable pub slot_right : (cells m : ℕ) → List ℕ → (at i : ℕ) → Bool
slot_right cells m s at i =
    both (ltb (top_at s at i) cells) (both (ltb 0 (height_at s at i)) (both (leb (height_at s at i) max_height) (linked cells m (cell_at s) (height_at s at i) (top_at s at i))))

-- `count` readings, from the reading i on
unfoldable pub slots_right : (cells m : ℕ) → List ℕ → (at i count : ℕ) → Bool
slots_right cells m s at i zero = true
slots_right cells m s at i (suc k) = both (slot_right cells m s at i) (slots_right cells m s at (i + 1) k)

-- At most 16 readings, at most 1,024 cells in use, and each reading over the cells in use.
unfoldable pub valid_state : (states : ℕ) → List ℕ → Bool
valid_state m s = both (leb (count_of s) max_readings) (both (leb (used_of s) state_cells) (slots_right (used_of s) m s readings_at 0 (count_of s)))

-- What the calls' definitions take for a state buffer.
abbrev pub state_of : (states : ℕ) → List ℕ → State
state_of m s = if valid_state m s then Some (readings_of s) else None

-- Every state of every stack is one of a table of m states.
abbrev pub StatesKnown : (m : ℕ) → List Reading → Type 0
StatesKnown m = AllOf (λ (r : Reading). StatesBelow m r.stack)

-- What is known of readings whose entries stand in cells below `cells`, under a table of m states: no byte in sight.
pub record Known (m cells : ℕ) (rs : List Reading) : Type 0 where
  pub few : length rs ≤ max_readings
  pub standing : AllOf Standing rs
  pub states : StatesKnown m rs
  pub owned : AllOf (λ (r : Reading). AllOf (λ (e : Entry). e.born < cells) r.stack) rs

-- What the test of one reading asks, and of several: slots and cells lie in the bytes.
pub record SlotReady (s : List ℕ) (cells at i : ℕ) : Type 0 where
  pub room : cell_size * cells ≤ length s
  pub slot : at + slot_size * i + slot_size ≤ length s

pub record SlotsReady (s : List ℕ) (cells at i count : ℕ) : Type 0 where
  pub room : cell_size * cells ≤ length s
  pub slots : at + slot_size * (i + count) ≤ length s
  pub few : i + count ≤ max_readings
