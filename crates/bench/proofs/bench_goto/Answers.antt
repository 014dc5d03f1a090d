-- `bench::bench_goto` meets its contract. Assumes nothing.
use Rattle.bench.proofs.Measuring.{goto_right, goto_wrong}
use Rattle.bench.proofs.bench_goto.Goals as goal

pub returns-in-Some : goal.returns-in-Some
returns-in-Some c = search (goto_right)

pub returns-in-None : goal.returns-in-None
returns-in-None c = search (goto_wrong)
