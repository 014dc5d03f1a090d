-- `right` of the records of gotos meets its contract. Assumes nothing.
use Rattle.meaning.specs.TableRight.{goto_format}
use Rattle.table.proofs.gotos.GotosRecord.right.Goals as goal

pub returns : goal.returns
unfolding goto_format
returns c = c.goto_right.ensures
