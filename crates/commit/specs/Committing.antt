-- The commit: each result moves in its turn and is written to the state's list of readings; then the two counts. And its promise.
use Rattle.std.specs.Prelude.{◌≡◌, true, List, map, ℕ, zero, suc, ◌+◌, ◌-◌, ◌*◌, ◌<◌, ◌≤◌, length}
use Rattle.meaning.specs.Identities.{ren_reading}
use Rattle.meaning.specs.Limits.{max_readings, max_height}
use Rattle.meaning.specs.Readings.{Reading, held_by}
use Rattle.numbers.specs.Writing.{put_u16, Agree}
use Rattle.cells.specs.Pool.{cell_size}
use Rattle.state.specs.Layout.{readings_at, slot_size, count_at, used_at, map_at, state_cells, state_len, work_cells, work_len}
use Rattle.state.specs.Readings.{slot_at, put_slot, top_at, height_at, count_of, used_of, readings_of, results_of, Compact, StandsAt, AllStand}
use Rattle.state.specs.Check.{valid_state, StatesKnown}
use Rattle.state.specs.declared.Slot.{Slot}
use Rattle.commit.specs.Moving.{forgotten, Move, move, move_stack}

-- the result i of the list at `at`
unfoldable pub move_one : (at : ℕ) → (work state : List ℕ) → (i next : ℕ) → Move
move_one at w s i n = move_stack (height_at w at i) w s n (top_at w at i)

abbrev pub slot : (top mark : ℕ) → Slot
slot c m = record { top = record { 0 = c }; mark = m }

unfoldable pub commit_one : (at : ℕ) → (work state : List ℕ) → (i next : ℕ) → Move
commit_one at w s i n =
    move (move_one at w s i n).work
    (put_slot (move_one at w s i n).state readings_at i (slot (move_one at w s i n).no (slot_at w at i).mark))
    (move_one at w s i n).next
    0

-- `left` results, from the result i on
unfoldable pub commit_from : (at left : ℕ) → (work state : List ℕ) → (i next : ℕ) → Move
commit_from at zero w s i n = move w s n 0
commit_from at (suc k) w s i n = commit_from at k (commit_one at w s i n).work (commit_one at w s i n).state (i + 1) (commit_one at w s i n).next

-- all of them, and both counts
unfoldable pub commit_of : (work state : List ℕ) → (at count cells : ℕ) → Move
commit_of w s at count cells = counted (commit_from at count (forgotten w cells) s 0 0)
  where
    counted : Move → Move
    counted r = move r.work (put_u16 (put_u16 r.state count_at count) used_at r.next) r.next 0

-- What the commit asks: each result stands in cells below `cells`, and the list does not reach into the map.
pub record Results (w s : List ℕ) (at count cells : ℕ) : Type 0 where
  pub work : length w ≡ work_len
  pub state : length s ≡ state_len
  pub pool : cells ≤ work_cells
  pub few : count ≤ max_readings
  pub list : at + slot_size * count ≤ map_at
  pub stands : AllStand cells w at 0 count

-- THE PROMISE: the readings of the state are the results, in order, under other identities, and no two identities that occur become one. So marks, heights,
-- states, values and spans are the same, and so is the sharing. The state is valid for every table that knows the results' states. Every cell in use is held by a
-- reading. The cells that are not in use and the slots beyond the count keep their bytes.
pub record Committed (results : List Reading) (s s' : List ℕ) : Type 0 where
  pub rename : ℕ → ℕ
  pub same : readings_of s' ≡ map (ren_reading rename) results
  pub apart : (a b : ℕ) → held_by results a ≡ true → held_by results b ≡ true → rename a ≡ rename b → a ≡ b
  pub valid : (m : ℕ) → StatesKnown m results → valid_state m s' ≡ true
  pub count : count_of s' ≡ length results
  pub compact : Compact s'
  pub cells : Agree s' s (cell_size * used_of s') (readings_at - cell_size * used_of s')
  pub slots : Agree s' s (readings_at + slot_size * length results) (count_at - (readings_at + slot_size * length results))

pub record Commits (w s : List ℕ) (at count cells : ℕ) (w' s' : List ℕ) : Type 0 where
  pub work : w' ≡ (commit_of w s at count cells).work
  pub state : s' ≡ (commit_of w s at count cells).state
  pub promise : Committed (results_of w at count) s s'

-- What the inner functions ask.
pub record OneReady (w s : List ℕ) (at i n : ℕ) : Type 0 where
  pub work : length w ≡ work_len
  pub state : length s ≡ state_len
  pub room : n + max_height ≤ state_cells
  pub few : i < max_readings
  pub list : at + slot_size * i + slot_size ≤ map_at
  pub stands : StandsAt work_cells w at i

pub record ListReady (w s : List ℕ) (at left i n : ℕ) : Type 0 where
  pub work : length w ≡ work_len
  pub state : length s ≡ state_len
  pub room : n + max_height * left ≤ state_cells
  pub few : i + left ≤ max_readings
  pub list : at + slot_size * (i + left) ≤ map_at
  pub stands : AllStand work_cells w at i left
