-- `faults::rules::rules_fault` meets its contract. Assumes nothing.
use Rattle.std.proofs.Common.{arith}
use Rattle.std.proofs.lemmas.Grind.{common_steps}
use Rattle.faults.proofs.LoopLaws.{goes_on, stops, rules_end, rules_first}
use Rattle.faults.proofs.rules.rules_fault.Goals as goal

pub returns-in_err-rule_fault : goal.returns-in_err-rule_fault
returns-in_err-rule_fault c =
    rw (stops _ _ _ (rules_first _ _ _ _ _ _ c.loop-i.invariant _ _ (omega arith) c.rule_at.ensures c.rule_fault.ensures) _ c.in_err-rule_fault.was) (grind (arith, common_steps))

pub loop-i-preserved : goal.loop-i-preserved
loop-i-preserved c =
    goes_on _ _ _ (rules_first _ _ _ _ _ _ c.loop-i.invariant _ _ (omega arith) c.rule_at.ensures c.rule_fault.ensures) _ c.in_ok-rule_fault.was

pub returns : goal.returns
returns c = rules_end _ _ _ _ _ _ c.loop-i.invariant (omega arith)
