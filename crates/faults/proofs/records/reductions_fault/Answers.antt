-- `faults::records::reductions_fault` meets its contract. Assumes nothing.
use Rattle.std.proofs.Common.{arith}
use Rattle.std.proofs.lemmas.Grind.{common_steps}
use Rattle.faults.proofs.LoopLaws.{goes_on, stops, reductions_end, reductions_first}
use Rattle.faults.proofs.records.reductions_fault.Goals as goal

pub returns-in_err-test : goal.returns-in_err-test
returns-in_err-test c =
    rw (stops _ _ _ (reductions_first _ _ _ _ _ _ _ c.loop-k.invariant _ _ (omega arith) c.u16_at.ensures c.test.ensures) _ c.in_err-test.was) (grind (arith, common_steps))

pub loop-k-preserved : goal.loop-k-preserved
loop-k-preserved c =
    goes_on _ _ _ (reductions_first _ _ _ _ _ _ _ c.loop-k.invariant _ _ (omega arith) c.u16_at.ensures c.test.ensures) _ c.in_ok-test.was

pub returns : goal.returns
returns c = reductions_end _ _ _ _ _ _ _ c.loop-k.invariant (omega arith)
