-- `faults::diagnose` meets its contract. Assumes nothing.
use Rattle.faults.proofs.Agreeing.{diagnosed_right, diagnosed_wrong}
use Rattle.faults.proofs.diagnose.Goals as goal

pub returns-in-Some : goal.returns-in-Some
returns-in-Some c = search (diagnosed_right)

pub returns-in-None : goal.returns-in-None
returns-in-None c = search (diagnosed_wrong)
