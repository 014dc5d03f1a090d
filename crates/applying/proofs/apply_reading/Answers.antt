-- `apply_reading` meets its contract. Assumes nothing.
use Rattle.applying.proofs.Readings.{reading_ready, reading_done}
use Rattle.applying.proofs.apply_reading.Goals as goal

pub apply_state-requires : goal.apply_state-requires
apply_state-requires c = search (reading_ready)

pub returns : goal.returns
returns c = search (reading_done)
