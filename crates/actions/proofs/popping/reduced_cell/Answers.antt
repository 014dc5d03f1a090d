-- `popping::reduced_cell` meets its contract. Assumes nothing.
use Rattle.actions.proofs.PoppingLaws.{reduced_is}
use Rattle.actions.proofs.popping.reduced_cell.Goals as goal

pub returns : goal.returns
returns c = search (reduced_is)
