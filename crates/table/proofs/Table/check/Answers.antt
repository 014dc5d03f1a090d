-- `table::Table::check` meets its contract. Assumes nothing.
use mathlib.Core.Path.{◌∙◌}
use Rattle.table.proofs.Checking.{belongs_of, wrong_of, checked_right, checked_wrong}
use Rattle.table.proofs.Table.check.Goals as goal

pub returns-in_err-view : goal.returns-in_err-view
returns-in_err-view c = c.from_residual.ensures ∙ checked_wrong _ (wrong_of _ _ c.check_table.ensures c.in_err-view.was)

pub invariant_of-result : goal.invariant_of-result
invariant_of-result c = belongs_of _ _ _ c.check_table.ensures c.in_ok-view.was

pub returns : goal.returns
returns c = checked_right _ _ (belongs_of _ _ _ c.check_table.ensures c.in_ok-view.was)
