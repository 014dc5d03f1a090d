-- `bench::bench_check` meets its contract. Assumes nothing.
use Rattle.bench.proofs.Measuring.{check_is}
use Rattle.bench.proofs.bench_check.Goals as goal

pub returns : goal.returns
returns c = check_is _ _ _ _ c.check_table.ensures c.is_some.ensures c.from.ensures
