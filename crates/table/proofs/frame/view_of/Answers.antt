-- `table::frame::view_of` meets its contract. Assumes nothing.
use Rattle.meaning.specs.TableFile.{view_of}
use Rattle.table.proofs.frame.view_of.Goals as goal

pub returns-clause-is : goal.returns-clause-is
unfolding view_of
returns-clause-is c = cc
