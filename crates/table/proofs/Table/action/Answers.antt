-- `table::Table::action` meets its contract. Assumes nothing.
use Rattle.table.proofs.Bounds.{action_found_within}
use Rattle.table.proofs.Checking.{checked_actions, checked_action}
use Rattle.table.proofs.Table.action.Goals as goal

pub find_action-requires : goal.find_action-requires
find_action-requires c = checked_actions _ _ c.self.invariant

pub returns-clause-is : goal.returns-clause-is
returns-clause-is c = checked_action _ _ c.self.invariant _ c.self.view_is _ _ _ c.find_action.ensures

pub returns-clause-within : goal.returns-clause-within
returns-clause-within c = rw (checked_action _ _ c.self.invariant _ c.self.view_is _ _ _ c.find_action.ensures, ← c.self.view_is) (action_found_within _ c.self.invariant.ok _ _)
