-- `settle` meets its contract. Assumes nothing.
use Rattle.feeding.proofs.Endings.{settle_some, settle_planned, settle_waits, settle_unused}
use Rattle.feeding.proofs.settle.Goals as goal
use Rattle.feeding.proofs.settle.Goals.{else-recovers-via-then-recovers+else-so-eq0, else-recovers-via-else-recovers}

pub returns-then-so-ne0 : goal.returns-then-so-ne0
returns-then-so-ne0 c = search (settle_some)

pub returns-then-so-eq0 : goal.returns-then-so-eq0
returns-then-so-eq0 c = search (settle_waits)

pub returns : goal.returns
returns c =
    elim c.else-recovers.branch [
      | else-recovers-via-then-recovers+else-so-eq0 w ↦ search (settle_planned)
      | else-recovers-via-else-recovers w ↦ search (settle_unused)
    ]
