-- `table::frame::front_right` meets its contract. Assumes nothing.
use Rattle.meaning.specs.TableRight.{front_right}
use Rattle.std.proofs.Common.{arith}
use Rattle.std.proofs.lemmas.Grind.{common_steps}
use Rattle.table.proofs.frame.front_right.Goals as goal

pub returns-then-head_at : goal.returns-then-head_at
unfolding front_right
returns-then-head_at c = grind (arith, common_steps)

pub returns-else-head_at : goal.returns-else-head_at
unfolding front_right
returns-else-head_at c = grind (arith, common_steps)
