-- `running::end_feed` meets its contract. Assumes nothing.
use Rattle.by_value.proofs.RunParts.{commit_ready, ended_run}
use Rattle.by_value.proofs.running.end_feed.Goals as goal

pub commit-requires : goal.commit-requires
commit-requires c = search (commit_ready)

pub returns : goal.returns
returns c = search (ended_run)
