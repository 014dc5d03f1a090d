-- `table::Table::goto` meets its contract. Assumes nothing.
use Rattle.table.proofs.Checking.{checked_gotos, checked_goto}
use Rattle.table.proofs.Table.goto.Goals as goal

pub find_goto-requires : goal.find_goto-requires
find_goto-requires c = checked_gotos _ _ c.self.invariant

pub returns : goal.returns
returns c = checked_goto _ _ c.self.invariant _ c.self.view_is _ _ _ c.find_goto.ensures
