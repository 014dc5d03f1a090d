-- `table::actions::number_at` meets its contract. Assumes nothing.
use Rattle.table.proofs.ActionLaws.{number_found, number_out}
use Rattle.table.proofs.actions.number_at.Goals as goal

pub returns-then-i-n : goal.returns-then-i-n
returns-then-i-n c = search (number_found)

pub returns : goal.returns
returns c = search (number_out)
