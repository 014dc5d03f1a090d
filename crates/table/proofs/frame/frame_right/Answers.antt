-- `table::frame::frame_right` meets its contract. Assumes nothing.
use Rattle.meaning.specs.TableRight.{frame_right}
use Rattle.std.proofs.Common.{arith}
use Rattle.std.proofs.lemmas.Grind.{common_steps}
use Rattle.table.proofs.frame.frame_right.Goals as goal

pub returns-then-counts_right : goal.returns-then-counts_right
unfolding frame_right
returns-then-counts_right c = grind (arith, common_steps)

pub returns-else-counts_right : goal.returns-else-counts_right
unfolding frame_right
returns-else-counts_right c = grind (arith, common_steps)
