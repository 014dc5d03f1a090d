-- `put_all` meets its contract. Assumes nothing.
use Rattle.feeding.proofs.LeftRecords.{no_turn, turn_ready, turn_done}
use Rattle.feeding.proofs.unplanned.put_all.Goals as goal

pub loop-k-init : goal.loop-k-init
loop-k-init c = search (no_turn)

pub put_one-requires : goal.put_one-requires
put_one-requires c = search (turn_ready)

pub loop-k-preserved : goal.loop-k-preserved
loop-k-preserved c = search (turn_done)
