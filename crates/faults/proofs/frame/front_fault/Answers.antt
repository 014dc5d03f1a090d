-- `faults::frame::front_fault` meets its contract. Assumes nothing.
use Rattle.std.proofs.Common.{arith}
use Rattle.std.proofs.lemmas.Grind.{common_steps}
use Rattle.faults.specs.Frame.{front_fault}
use Rattle.faults.proofs.frame.front_fault.Goals as goal

pub returns-in_err-test : goal.returns-in_err-test
unfolding front_fault
returns-in_err-test c = grind (arith, common_steps)

pub returns-in_err-head_fault : goal.returns-in_err-head_fault
unfolding front_fault
returns-in_err-head_fault c = grind (arith, common_steps)

pub returns-in_err-counts_fault : goal.returns-in_err-counts_fault
unfolding front_fault
returns-in_err-counts_fault c = grind (arith, common_steps)

pub returns : goal.returns
unfolding front_fault
returns c = grind (arith, common_steps)
