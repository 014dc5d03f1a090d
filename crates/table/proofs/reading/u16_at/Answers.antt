-- `table::reading::u16_at` meets its contract. Assumes nothing.
use Rattle.meaning.specs.Bytes.{u16_at}
use Rattle.std.proofs.Common.{arith}
use Rattle.std.proofs.lemmas.Grind.{common_steps}
use Rattle.table.proofs.reading.u16_at.Goals as goal

pub returns : goal.returns
unfolding u16_at
returns c = grind (arith, common_steps)
