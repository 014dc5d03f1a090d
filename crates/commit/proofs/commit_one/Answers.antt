-- `commit::commit_one` meets its contract. Assumes nothing.
use Rattle.commit.proofs.Results.{one_done, one_read}
use Rattle.commit.proofs.commit_one.Goals as goal

pub get_cell-x-requires : goal.get_cell-x-requires
get_cell-x-requires c = search (one_read)

pub returns : goal.returns
returns c = search (one_done)
