-- `end_chain` meets its contract. Assumes nothing.
use Rattle.applying.proofs.Endings.{told_shift}
use Rattle.applying.proofs.end_chain.Goals as goal

pub returns-in-Some : goal.returns-in-Some
returns-in-Some c = search (told_shift)
