-- `table::actions::all_below` meets its contract. Assumes nothing.
use Rattle.std.proofs.Common.{arith}
use Rattle.table.proofs.ActionLaws.{below_more, below_bad, below_none}
use Rattle.table.proofs.actions.all_below.Goals as goal

pub returns-then-m-get16 : goal.returns-then-m-get16
returns-then-m-get16 c = below_bad _ _ _ _ _ _ c.loop-i.invariant _ (omega arith) c.get16.ensures c.if-m-get16.true

pub loop-i-preserved : goal.loop-i-preserved
loop-i-preserved c = below_more _ _ _ _ _ _ c.loop-i.invariant _ (omega arith) c.get16.ensures c.if-m-get16.false

pub returns : goal.returns
returns c = below_none _ _ _ _ _ _ c.loop-i.invariant (omega arith)
