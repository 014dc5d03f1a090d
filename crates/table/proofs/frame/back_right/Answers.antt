-- `table::frame::back_right` meets its contract. Assumes nothing.
use Rattle.meaning.specs.TableRight.{back_right}
use Rattle.std.proofs.Common.{arith}
use Rattle.std.proofs.lemmas.Grind.{common_steps}
use Rattle.table.proofs.frame.back_right.Goals as goal

pub returns-then-byte_at-le1 : goal.returns-then-byte_at-le1
unfolding back_right
returns-then-byte_at-le1 c = grind (arith, common_steps)

pub returns-else-byte_at-le1 : goal.returns-else-byte_at-le1
unfolding back_right
returns-else-byte_at-le1 c = grind (arith, common_steps)
