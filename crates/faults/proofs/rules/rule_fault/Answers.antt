-- `faults::rules::rule_fault` meets its contract. Assumes nothing.
use Rattle.std.proofs.Common.{arith}
use Rattle.std.proofs.lemmas.Grind.{common_steps}
use Rattle.faults.specs.Rules.{rule_fault}
use Rattle.faults.proofs.rules.rule_fault.Goals as goal

pub returns-in_err-test : goal.returns-in_err-test
unfolding rule_fault
returns-in_err-test c = grind (arith, common_steps)

pub returns-in_err-test-2 : goal.returns-in_err-test-2
unfolding rule_fault
returns-in_err-test-2 c = grind (arith, common_steps)

pub returns : goal.returns
unfolding rule_fault
returns c = grind (arith, common_steps)
