-- `faults::frame::frame_fault` meets its contract. Assumes nothing.
use Rattle.std.proofs.Common.{arith}
use Rattle.std.proofs.lemmas.Grind.{common_steps}
use Rattle.faults.specs.Frame.{frame_fault}
use Rattle.faults.proofs.frame.frame_fault.Goals as goal

pub returns-in_err-front_fault : goal.returns-in_err-front_fault
unfolding frame_fault
returns-in_err-front_fault c = grind (arith, common_steps)

pub returns-in_err-tag_fault : goal.returns-in_err-tag_fault
unfolding frame_fault
returns-in_err-tag_fault c = grind (arith, common_steps)

pub returns-in_err-tag_fault-2 : goal.returns-in_err-tag_fault-2
unfolding frame_fault
returns-in_err-tag_fault-2 c = grind (arith, common_steps)

pub returns : goal.returns
unfolding frame_fault
returns c = grind (arith, common_steps)
