-- `bench::bench_load` meets its contract. Assumes nothing.
use Rattle.bench.proofs.Measuring.{load_other_state, load_other_work, load_too_many, load_done}
use Rattle.bench.proofs.bench_load.Goals as goal

pub returns-in_default : goal.returns-in_default
returns-in_default c = load_other_state _ _ c.in_default.ensures.cases

pub returns-in_default-as_mut_array : goal.returns-in_default-as_mut_array
returns-in_default-as_mut_array c = load_other_work _ _ _ c.in-Some.ensures.cases c.in_default-as_mut_array.ensures.cases

pub returns-then-cells_in_use-le-STATE_CELLS : goal.returns-then-cells_in_use-le-STATE_CELLS
returns-then-cells_in_use-le-STATE_CELLS c =
    load_done _ _ _ c.in-Some.ensures.cases _ c.in-Some-as_mut_array.ensures.cases _ c.cells_in_use.ensures c.if-cells_in_use-le-STATE_CELLS.true _ c.load.ensures

pub returns-else-cells_in_use-le-STATE_CELLS : goal.returns-else-cells_in_use-le-STATE_CELLS
returns-else-cells_in_use-le-STATE_CELLS c =
    load_too_many _ _ _ c.in-Some.ensures.cases _ c.in-Some-as_mut_array.ensures.cases _ c.cells_in_use.ensures c.if-cells_in_use-le-STATE_CELLS.false
