-- `table::actions::shift` meets its contract. Assumes nothing.
use Rattle.meaning.specs.TableFile.{shift_to}
use Rattle.table.specs.Answers.{goto_answer}
use Rattle.std.proofs.Common.{arith}
use Rattle.std.proofs.lemmas.Grind.{common_steps}
use Rattle.table.proofs.actions.shift.Goals as goal

pub returns-then-to-eq-NO_SHIFT : goal.returns-then-to-eq-NO_SHIFT
unfolding shift_to goto_answer
returns-then-to-eq-NO_SHIFT c = grind (arith, common_steps)

pub returns : goal.returns
unfolding shift_to goto_answer
returns c = grind (arith, common_steps)
