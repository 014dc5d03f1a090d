-- `table::Table::recovers` meets its contract. Assumes nothing.
use Rattle.table.proofs.Checking.{checked_recovers}
use Rattle.table.proofs.Table.recovers.Goals as goal

pub returns : goal.returns
returns c = checked_recovers _ _ c.self.invariant _ c.self.view_is
