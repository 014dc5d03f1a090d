-- The bounds of a feed, which buffers and counters rest on. Theorems: proofs/Bounds.
use Rattle.std.specs.Prelude.{ℕ, ◌+◌, ◌*◌, ◌<◌, ◌≤◌, length}
use Rattle.meaning.specs.Basics.{AllOf}
use Rattle.meaning.specs.Limits.{max_readings, max_height, max_chain, max_walked, max_errors}
use Rattle.meaning.specs.Readings.{Entry, Reading}
use Rattle.meaning.specs.Outcome.{Fed}

-- In each stage at most 16 chains of 32 reductions and a shift, and at most 16 error entries that grow.
abbrev pub max_births : ℕ
max_births = 2 * max_readings * (max_chain + 1) + max_readings

-- Each of 16 readings is planned once for the term, at each of 64 heights for the error class, and each of 16 recovered ones once more.
abbrev pub max_walked_by_feed : ℕ
max_walked_by_feed = (max_readings + max_readings * max_height + max_readings) * max_walked

-- A reading has its start entry, and is not too high.
abbrev pub Standing : Reading → Type 0
Standing r = (1 ≤ length r.stack) × (length r.stack ≤ max_height)

-- Every entry's state is one of a table of m states.
abbrev pub StatesBelow : (m : ℕ) → Reading → Type 0
StatesBelow m r = AllOf (λ (e : Entry). e.state < m) r.stack

pub record Bounded (next : ℕ) (f : Fed) : Type 0 where
  pub errors : length f.errors ≤ max_errors
  pub readings : length f.readings ≤ max_readings
  pub heights : AllOf Standing f.readings
  pub grows : next ≤ f.next
  pub births : f.next ≤ next + max_births
  pub walked : f.walked ≤ max_walked_by_feed
