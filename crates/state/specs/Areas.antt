-- The bytes that start and load leave, and what they mean.
use Rattle.std.specs.Prelude.{◌≡◌, true, List, [], ◌∷◌, ◌++◌, ℕ, ◌+◌, ◌-◌, ◌*◌, ◌<◌, ◌≤◌, length, take, drop}
use Rattle.meaning.specs.Readings.{start_reading}
use Rattle.meaning.specs.TableFile.{Table, start_state}
use Rattle.meaning.specs.declared.StateNo.{StateNo}
use Rattle.numbers.specs.Writing.{put_u16, Agree}
use Rattle.cells.specs.Pool.{cell_size, put_cell}
use Rattle.cells.specs.declared.Cell.{Cell}
use Rattle.state.specs.Layout.{state_cells, state_len, work_len, readings_at, slot_size, count_at, used_at}
use Rattle.state.specs.Readings.{used_of, put_slot, readings_of}
use Rattle.state.specs.Check.{valid_state}
use Rattle.state.specs.declared.Slot.{Slot}

-- The cells in use of s at the front, the rest of w.
unfoldable pub loaded : (s w : List ℕ) → List ℕ
loaded s w = take (cell_size * used_of s) s ++ drop (cell_size * used_of s) w

pub record LoadReady (s w : List ℕ) : Type 0 where
  pub state : length s ≡ state_len
  pub work : length w ≡ work_len
  pub used : used_of s ≤ state_cells

-- Start writes cell 0, slot 0 and both counts.
abbrev pub start_cell : StateNo → Cell
start_cell q = record { parent = record { 0 = 0 }; height = 1; state = q; value = 0; start = 0; end = 0 }

abbrev pub start_slot : Slot
start_slot = record { top = record { 0 = 0 }; mark = 0 }

unfoldable pub start_of : StateNo → List ℕ → List ℕ
start_of q s = put_u16 (put_u16 (put_slot (put_cell s 0 (start_cell q)) readings_at 0 start_slot) count_at 1) used_at 1

-- The promise of start, for every table whose start state it was given; the cells and slots beyond the first keep their bytes.
pub record Started (q : StateNo) (s s' : List ℕ) : Type 0 where
  pub exact : s' ≡ start_of q s
  pub readings : (t : Table) → start_state t ≡ q.0 → readings_of s' ≡ start_reading t 0 ∷ []
  pub valid : (m : ℕ) → q.0 < m → valid_state m s' ≡ true
  pub cells : Agree s' s cell_size (readings_at - cell_size)
  pub slots : Agree s' s (readings_at + slot_size) (count_at - (readings_at + slot_size))
