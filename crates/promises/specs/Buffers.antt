-- The lent buffers of a call: their lengths, the state that bytes are, and the work area afterwards.
use Rattle.std.specs.Prelude.{Bool, List, ℕ, eqb, length}
use Rattle.meaning.specs.Basics.{both}
use Rattle.std.specs.Prelude.{if◌then◌else◌}
use Rattle.meaning.specs.Calls.{State}
use Rattle.meaning.specs.Limits.{max_height, max_errors}
use Rattle.meaning.specs.TableFile.{table_of}
use Rattle.numbers.specs.Zeros.{zeros}
use Rattle.state.specs.Check.{state_of}
use Rattle.state.specs.Layout.{state_len, work_len}

-- Check 1: state buffer and work area have their lengths,
unfoldable pub lengths_right : (state work : List ℕ) → Bool
lengths_right state work = both (eqb (length state) state_len) (eqb (length work) work_len)

-- of a feed also: the lent list has a place for each error record,
unfoldable pub feed_lengths : (state work : List ℕ) → (places : ℕ) → Bool
feed_lengths state work places = both (lengths_right state work) (eqb places max_errors)

-- of reading out, which has no work area: the lent list has a place for each height.
unfoldable pub lists_right : (state : List ℕ) → (places : ℕ) → Bool
lists_right state places = both (eqb (length state) state_len) (eqb places max_height)

-- the state that bytes are, for a table's count of states
abbrev pub state_for : (table state : List ℕ) → State
state_for table state = state_of (table_of table).counts.states state

-- The work area is all zero at every answer but 1, and untouched at 1.
unfoldable pub work_after : (lengths : Bool) → List ℕ → List ℕ
work_after lengths work = if lengths then zeros (length work) else work
