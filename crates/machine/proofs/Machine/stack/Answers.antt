-- `Machine::stack`: the call by value, and its entries filled into the lent list.
use Rattle.by_value.proofs.Stacks.{stack_filled}
use Rattle.machine.proofs.Machine.stack.Goals as goal

pub returns : goal.returns
returns c = stack_filled _ _ _ _ _ c.stack_of-read.ensures _ _ c.fill.ensures.stores c.fill.ensures.writes
