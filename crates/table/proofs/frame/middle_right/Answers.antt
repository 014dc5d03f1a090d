-- `table::frame::middle_right` meets its contract. Assumes nothing.
use Rattle.meaning.specs.TableRight.{middle_right}
use Rattle.std.proofs.Common.{arith}
use Rattle.std.proofs.lemmas.Grind.{common_steps}
use Rattle.table.proofs.frame.middle_right.Goals as goal

pub returns-then-byte_at-eq3 : goal.returns-then-byte_at-eq3
unfolding middle_right
returns-then-byte_at-eq3 c = grind (arith, common_steps)

pub returns-else-byte_at-eq3 : goal.returns-else-byte_at-eq3
unfolding middle_right
returns-else-byte_at-eq3 c = grind (arith, common_steps)
