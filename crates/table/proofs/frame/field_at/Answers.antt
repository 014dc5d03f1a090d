-- `table::frame::field_at` meets its contract. Assumes nothing.
use Rattle.meaning.specs.TableFile.{field_at}
use Rattle.std.proofs.Common.{arith}
use Rattle.std.proofs.lemmas.Grind.{common_steps}
use Rattle.table.proofs.frame.field_at.Goals as goal

pub returns : goal.returns
unfolding field_at
returns c = grind (arith, common_steps)
