-- `table::Table::classes` meets its contract. Assumes nothing.
use mathlib.Core.Path.{ap}
use Rattle.meaning.specs.declared.Counts.{Counts}
use Rattle.table.proofs.Checking.{checked_counts}
use Rattle.table.proofs.Table.classes.Goals as goal

pub returns : goal.returns
returns c = ap (λ (x : Counts). x.classes) (checked_counts _ _ c.self.invariant _ c.self.view_is)
