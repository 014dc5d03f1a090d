-- `table::gotos::goto_right` meets its contract. Assumes nothing.
use Rattle.meaning.specs.TableRight.{goto_right}
use Rattle.meaning.specs.TableFile.{goto_at}
use Rattle.std.proofs.Common.{arith}
use Rattle.std.proofs.lemmas.Grind.{common_steps}
use Rattle.table.proofs.gotos.goto_right.Goals as goal

pub returns-then-nonterminal-counts : goal.returns-then-nonterminal-counts
unfolding goto_right goto_at
returns-then-nonterminal-counts c = grind (arith, common_steps)

pub returns-else-nonterminal-counts : goal.returns-else-nonterminal-counts
unfolding goto_right goto_at
returns-else-nonterminal-counts c = grind (arith, common_steps)
