-- `faults::records::records_fault` meets its contract. Assumes nothing.
use Rattle.std.proofs.Common.{arith}
use Rattle.std.proofs.lemmas.Grind.{common_steps}
use Rattle.faults.proofs.LoopLaws.{field_end, past_stops, right_stops, order_stops, order_goes_on}
use Rattle.faults.proofs.records.records_fault.Goals as goal

pub returns-in_err-test : goal.returns-in_err-test
returns-in_err-test g c =
    rw (past_stops _ _ g.F.Record.laws _ _ _ _ _ _ _ _ _ c.loop-at.invariant.1 _ _ c.loop-at-test.true c.size.ensures.0 (rw c.FIELD-field.ensures at c.test.ensures) _ c.in_err-test.was) (grind (arith, common_steps))

pub returns-in_err-fault : goal.returns-in_err-fault
returns-in_err-fault g c =
    rw (right_stops _ _ g.F.Record.laws _ _ _ _ _ _ _ _ _ c.loop-at.invariant.1 _ _ c.loop-at-test.true c.size.ensures.0 (rw c.FIELD-field.ensures at c.test.ensures) _ c.in_ok-test.was _ (rw c.FIELD-field.ensures at c.fault.ensures) _ c.in_err-fault.was)
    (grind (arith, common_steps))

pub returns-in_err-test-2 : goal.returns-in_err-test-2
returns-in_err-test-2 g c =
    rw (order_stops _ _ g.F.Record.laws _ _ _ _ _ _ _ _ _ c.loop-at.invariant.1 _ _ c.loop-at-test.true c.size.ensures.0 (rw c.FIELD-field.ensures at c.test.ensures) _ c.in_ok-test.was _ (rw c.FIELD-field.ensures at c.fault.ensures) _ c.in_ok-fault.was _ c.key_at-key.ensures.0 _ (rw c.FIELD-field.ensures at c.test-in-loop-at.ensures) _ c.in_err-test-2.was)
    (grind (arith, common_steps))

pub loop-at-preserved : goal.loop-at-preserved
loop-at-preserved g c =
    (omega (arith, g.F.Record.laws.long c.args.table.now c.loop-at.at), order_goes_on _ _ g.F.Record.laws _ _ _ _ _ _ _ _ _ c.loop-at.invariant.1 _ _ c.loop-at-test.true c.size.ensures.0 (rw c.FIELD-field.ensures at c.test.ensures) _ c.in_ok-test.was _ (rw c.FIELD-field.ensures at c.fault.ensures) _ c.in_ok-fault.was _ c.key_at-key.ensures.0 _ (rw c.FIELD-field.ensures at c.test-in-loop-at.ensures) _ c.in_ok-test-2.was)

pub returns : goal.returns
returns g c = field_end _ _ _ _ _ _ _ _ c.loop-at.invariant.1 c.loop-at-test.false
