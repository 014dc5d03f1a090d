-- `starting::start_line` meets its contract. Assumes nothing.
use Rattle.machine.proofs.Starts.{start_wrong, start_shifts, start_right}
use Rattle.machine.proofs.starting.start_line.Goals as goal

pub returns-in_default : goal.returns-in_default
returns-in_default c = search (start_wrong)

pub unwrap-start-requires : goal.unwrap-start-requires
unwrap-start-requires c = search (start_shifts)

pub returns : goal.returns
returns c = search (start_right)
