-- `table::frame::shape_right` meets its contract. Assumes nothing.
use Rattle.meaning.specs.TableRight.{shape_right}
use Rattle.std.proofs.Common.{arith}
use Rattle.std.proofs.lemmas.Grind.{common_steps}
use Rattle.table.proofs.frame.shape_right.Goals as goal

pub returns-then-middle_right : goal.returns-then-middle_right
unfolding shape_right
returns-then-middle_right c = grind (arith, common_steps)

pub returns-else-middle_right : goal.returns-else-middle_right
unfolding shape_right
returns-else-middle_right c = grind (arith, common_steps)
