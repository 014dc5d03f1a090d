-- `table::rules::rule_right` meets its contract. Assumes nothing.
use Rattle.meaning.specs.TableRight.{rule_right}
use Rattle.std.proofs.Common.{arith}
use Rattle.std.proofs.lemmas.Grind.{common_steps}
use Rattle.table.proofs.rules.rule_right.Goals as goal

pub returns-then-r-le15 : goal.returns-then-r-le15
unfolding rule_right
returns-then-r-le15 c = grind (arith, common_steps)

pub returns-else-r-le15 : goal.returns-else-r-le15
unfolding rule_right
returns-else-r-le15 c = grind (arith, common_steps)
