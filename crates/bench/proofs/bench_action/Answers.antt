-- `bench::bench_action` meets its contract. Assumes nothing.
use Rattle.bench.proofs.Measuring.{action_right, action_wrong}
use Rattle.bench.proofs.bench_action.Goals as goal

pub returns-in-Some : goal.returns-in-Some
returns-in-Some c = search (action_right)

pub returns-in-None : goal.returns-in-None
returns-in-None c = search (action_wrong)
