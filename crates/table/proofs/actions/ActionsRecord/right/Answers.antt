-- `right` of the records of actions meets its contract. Assumes nothing.
use Rattle.meaning.specs.TableRight.{action_format}
use Rattle.table.proofs.actions.ActionsRecord.right.Goals as goal

pub returns : goal.returns
unfolding action_format
returns c = c.action_right.ensures
