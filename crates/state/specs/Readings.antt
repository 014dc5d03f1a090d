-- The readings that bytes mean: a slot names a top cell and a mark, and the stack is what the parent links give. Identities are cell numbers.
use Rattle.std.specs.Prelude.{◌≡◌, true, List, [], ◌∷◌, ℕ, zero, suc, ◌+◌, ◌*◌, ◌<◌, ◌≤◌, length}
use Rattle.meaning.specs.Bytes.{u16_at, u32_at}
use Rattle.meaning.specs.Limits.{max_readings, max_height}
use Rattle.meaning.specs.Readings.{Reading, held_by}
use Rattle.numbers.specs.Writing.{put_u16, put_u32}
use Rattle.cells.specs.Pool.{cell_size, cell_at}
use Rattle.cells.specs.Stacks.{Pool, entries_of, Linked}
use Rattle.state.specs.Layout.{slot_size, readings_at, count_at, used_at}
use Rattle.state.specs.declared.Slot.{Slot}

-- the slot i of a list of slots that begins at the byte `at`
unfoldable pub slot_at : List ℕ → (at i : ℕ) → Slot
slot_at s at i = record { top = record { 0 = u16_at s (at + slot_size * i) }; mark = u32_at s (at + slot_size * i + 2) }

unfoldable pub put_slot : List ℕ → (at i : ℕ) → Slot → List ℕ
put_slot s at i x = put_u32 (put_u16 s (at + slot_size * i) x.top.0) (at + slot_size * i + 2) x.mark

abbrev pub top_at : List ℕ → (at i : ℕ) → ℕ
top_at s at i = (slot_at s at i).top.0

abbrev pub height_at : List ℕ → (at i : ℕ) → ℕ
height_at s at i = (cell_at s (top_at s at i)).height

-- the reading that a slot means in a pool
abbrev pub reading_of : Pool → Slot → Reading
reading_of p x = record { mark = x.mark; stack = entries_of p (p x.top.0).height x.top.0 }

abbrev pub reading_at : List ℕ → (at i : ℕ) → Reading
reading_at s at i = reading_of (cell_at s) (slot_at s at i)

-- `count` readings of a list, from the reading i on
unfoldable pub readings_from : List ℕ → (at i count : ℕ) → List Reading
readings_from s at i zero = []
readings_from s at i (suc k) = reading_at s at i ∷ readings_from s at (i + 1) k

-- a list of results in the work area
abbrev pub results_of : List ℕ → (at count : ℕ) → List Reading
results_of w at count = readings_from w at 0 count

-- The readings of a state.
abbrev pub count_of : List ℕ → ℕ
count_of s = u16_at s count_at

abbrev pub used_of : List ℕ → ℕ
used_of s = u16_at s used_at

abbrev pub readings_of : List ℕ → List Reading
readings_of s = results_of s readings_at (count_of s)

-- Every cell in use is held by a reading, and the parent of a lowest one is 0: nothing of the cells in use is open but which of them holds which entry.
pub record Compact (s : List ℕ) : Type 0 where
  pub held : (c : ℕ) → c < used_of s → held_by (readings_of s) c ≡ true
  pub lowest : (c : ℕ) → c < used_of s → (cell_at s c).height ≡ 1 → (cell_at s c).parent.0 ≡ 0

-- A reading of a list stands: its stack is linked, from a height from 1 to 64 down to 1, through cells below `cells`.
pub record StandsAt (cells : ℕ) (s : List ℕ) (at i : ℕ) : Type 0 where
  pub low : 1 ≤ height_at s at i
  pub high : height_at s at i ≤ max_height
  pub stack : Linked cells (cell_at s) (height_at s at i) (top_at s at i)

abbrev pub AllStand : (cells : ℕ) → List ℕ → (at i count : ℕ) → Type 0
AllStand cells s at i count = (j : ℕ) → i ≤ j → j < i + count → StandsAt cells s at j

-- What who reads a list asks: its slots and its cells lie in the bytes, and its readings stand.
pub record ListIn (s : List ℕ) (at i count : ℕ) : Type 0 where
  pub cells : ℕ
  pub room : cell_size * cells ≤ length s
  pub slots : at + slot_size * (i + count) ≤ length s
  pub few : i + count ≤ max_readings
  pub stands : AllStand cells s at i count
