-- `bench::bench_state` meets its contract. Assumes nothing.
use Rattle.bench.proofs.Measuring.{state_other, state_asked}
use Rattle.bench.proofs.bench_state.Goals as goal

pub returns-in-Some : goal.returns-in-Some
returns-in-Some c = state_asked _ _ _ c.in-Some.ensures.cases _ _ c.valid_state.ensures c.from.ensures

pub returns-in-None : goal.returns-in-None
returns-in-None c = state_other _ _ c.in-None.ensures.cases
