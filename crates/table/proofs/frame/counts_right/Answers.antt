-- `table::frame::counts_right` meets its contract. Assumes nothing.
use Rattle.meaning.specs.TableRight.{counts_right}
use Rattle.std.proofs.Common.{arith}
use Rattle.std.proofs.lemmas.Grind.{common_steps}
use Rattle.table.proofs.frame.counts_right.Goals as goal

pub returns-then-nonterminals : goal.returns-then-nonterminals
unfolding counts_right
returns-then-nonterminals c = grind (arith, common_steps)

pub returns-else-nonterminals : goal.returns-else-nonterminals
unfolding counts_right
returns-else-nonterminals c = grind (arith, common_steps)
