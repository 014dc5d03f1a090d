-- `errors_of` begins with no records. Assumes nothing.
use Rattle.gathering.proofs.Laws.{gather_first}
use Rattle.gathering.proofs.errors_of.Goals as goal

pub loop-i-init : goal.loop-i-init
loop-i-init c = gather_first _ _ _ (cc)
