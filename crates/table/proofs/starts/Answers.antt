-- `table::starts` meets its contract. Assumes nothing.
use Rattle.table.specs.Records.{start_in}
use Rattle.table.proofs.starts.Goals as goal

pub returns : goal.returns
unfolding start_in
returns c = cc
