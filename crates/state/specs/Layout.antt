-- Where things stand: every offset and size of the state buffer and of the work area, once. docs/LAYOUT.md has them as a table.
use Rattle.std.specs.Prelude.{ℕ}

-- The state buffer: a pool of cells from byte 0 on; reading slots of a top cell (2) and a mark (4); two counts.
abbrev pub state_cells : ℕ
state_cells = 1024

abbrev pub readings_at : ℕ
readings_at = 18432

abbrev pub slot_size : ℕ
slot_size = 6

-- the number of readings
abbrev pub count_at : ℕ
count_at = 18528

-- the number of cells in use: those with lower numbers
abbrev pub used_at : ℕ
used_at = 18530

abbrev pub state_len : ℕ
state_len = 18532

-- The work area: a pool of cells from byte 0 on, the state's and those that a feed bears.
abbrev pub work_cells : ℕ
work_cells = 2096

-- the planner's marks, 4 bytes for each reduction of a walk
abbrev pub marks_at : ℕ
marks_at = 37728

-- two lists of reading slots: results of the stage that runs first, and readings left: those that could not be planned, or in the second stage of recovery its results
abbrev pub results_at : ℕ
results_at = 41824

abbrev pub left_at : ℕ
left_at = 41920

-- error records: rule 2, state 2, mark 4
abbrev pub errors_at : ℕ
errors_at = 42016

-- where the commit moved each cell, 2 bytes for each
abbrev pub map_at : ℕ
map_at = 42272

abbrev pub work_len : ℕ
work_len = 46464
