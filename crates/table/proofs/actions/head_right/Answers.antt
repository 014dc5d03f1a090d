-- `table::actions::head_right` meets its contract. Assumes nothing.
use Rattle.table.specs.Records.{head_right}
use Rattle.std.proofs.Common.{arith}
use Rattle.std.proofs.lemmas.Grind.{common_steps}
use Rattle.table.proofs.actions.head_right.Goals as goal

pub returns-then-known : goal.returns-then-known
unfolding head_right
returns-then-known c = grind (arith, common_steps)

pub returns-else-known : goal.returns-else-known
unfolding head_right
returns-else-known c = grind (arith, common_steps)

pub returns-then-known-2 : goal.returns-then-known-2
unfolding head_right
returns-then-known-2 c = grind (arith, common_steps)

pub returns-else-known-2 : goal.returns-else-known-2
unfolding head_right
returns-else-known-2 c = grind (arith, common_steps)
