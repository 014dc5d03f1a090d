-- `table::rules::picks` meets its contract. Assumes nothing.
use Rattle.meaning.specs.TableRight.{picks}
use Rattle.std.proofs.Common.{arith}
use Rattle.std.proofs.lemmas.Grind.{common_steps}
use Rattle.table.proofs.rules.picks.Goals as goal

pub returns-then-r-ge1 : goal.returns-then-r-ge1
unfolding picks
returns-then-r-ge1 c = grind (arith, common_steps)

pub returns-else-r-ge1 : goal.returns-else-r-ge1
unfolding picks
returns-else-r-ge1 c = grind (arith, common_steps)
