-- `table::rules::kind_right` meets its contract. Assumes nothing.
use Rattle.meaning.specs.TableRight.{kind_right}
use Rattle.std.proofs.Common.{arith}
use Rattle.std.proofs.lemmas.Grind.{common_steps}
use Rattle.table.proofs.rules.kind_right.Goals as goal

pub returns-then-r-eq0-2 : goal.returns-then-r-eq0-2
unfolding kind_right
returns-then-r-eq0-2 c = grind (arith, common_steps)

pub returns-else-r-eq0-2 : goal.returns-else-r-eq0-2
unfolding kind_right
returns-else-r-eq0-2 c = grind (arith, common_steps)

pub returns-then-r-eq0-3 : goal.returns-then-r-eq0-3
unfolding kind_right
returns-then-r-eq0-3 c = grind (arith, common_steps)

pub returns-else-r-eq0-3 : goal.returns-else-r-eq0-3
unfolding kind_right
returns-else-r-eq0-3 c = grind (arith, common_steps)

pub returns-then-picks-2 : goal.returns-then-picks-2
unfolding kind_right
returns-then-picks-2 c = grind (arith, common_steps)

pub returns-else-picks-2 : goal.returns-else-picks-2
unfolding kind_right
returns-else-picks-2 c = grind (arith, common_steps)

pub returns-then-picks-3 : goal.returns-then-picks-3
unfolding kind_right
returns-then-picks-3 c = grind (arith, common_steps)

pub returns-else-picks-3 : goal.returns-else-picks-3
unfolding kind_right
returns-else-picks-3 c = grind (arith, common_steps)

pub returns-in_default : goal.returns-in_default
unfolding kind_right
returns-in_default c = grind (arith, common_steps)
