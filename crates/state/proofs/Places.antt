-- The areas of both buffers follow one another without a gap, within the limits. Assumes nothing.
use mathlib.Core.Path.{◌≡◌, refl}
use Prim.Native.Nat.{◌+◌, ◌*◌, ◌≤◌}
use native.Mathlib.Omega.{arith}
use Rattle.meaning.specs.Bounds.{max_births}
use Rattle.meaning.specs.Limits.{max_readings, max_height, max_walked, max_errors, max_bytes}
use Rattle.cells.specs.Pool.{cell_size}
use Rattle.state.specs.Layout.{state_cells, readings_at, slot_size, count_at, used_at, state_len, work_cells, marks_at, results_at, left_at, errors_at, map_at, work_len}

pub record StateAreas : Type 0 where
  pub cells : state_cells ≡ max_readings * max_height
  pub readings : readings_at ≡ cell_size * state_cells
  pub count : count_at ≡ readings_at + slot_size * max_readings
  pub used : used_at ≡ count_at + 2
  pub end : state_len ≡ used_at + 2
  pub small : state_len ≤ max_bytes

pub state_areas : StateAreas
state_areas = record { cells = refl; readings = refl; count = refl; used = refl; end = refl; small = omega arith }

pub record WorkAreas : Type 0 where
  pub cells : work_cells ≡ state_cells + max_births
  pub marks : marks_at ≡ cell_size * work_cells
  pub results : results_at ≡ marks_at + 4 * max_walked
  pub left : left_at ≡ results_at + slot_size * max_readings
  pub errors : errors_at ≡ left_at + slot_size * max_readings
  pub map : map_at ≡ errors_at + 8 * max_errors
  pub end : work_len ≡ map_at + 2 * work_cells
  pub small : work_len ≤ max_bytes

pub work_areas : WorkAreas
work_areas = record { cells = refl; marks = refl; results = refl; left = refl; errors = refl; map = refl; end = refl; small = omega arith }
