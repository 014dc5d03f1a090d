-- `table::Table::rule` meets its contract. Assumes nothing.
use Rattle.table.proofs.Checking.{checked_framed, checked_rule}
use Rattle.table.proofs.Table.rule.Goals as goal

pub find_rule-requires : goal.find_rule-requires
find_rule-requires c = (checked_framed _ _ c.self.invariant).rules

pub returns : goal.returns
returns c = checked_rule _ _ c.self.invariant _ c.self.view_is _ _ c.find_rule.ensures
