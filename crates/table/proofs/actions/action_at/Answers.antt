-- `table::actions::action_at` meets its contract. Assumes nothing.
use Rattle.table.proofs.ActionLaws.{action_made}
use Rattle.table.proofs.actions.action_at.Goals as goal

pub returns : goal.returns
returns c = search (action_made)
