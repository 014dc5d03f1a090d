-- `faults::first_broken` meets its contract. Assumes nothing.
use Rattle.std.proofs.Common.{arith}
use Rattle.std.proofs.lemmas.Grind.{common_steps}
use Rattle.meaning.specs.TableRight.{action_format, goto_format}
use Rattle.faults.specs.Diagnosis.{faults_over}
use Rattle.faults.specs.Records.{action_fault, goto_fault}
use Rattle.faults.proofs.Agreeing.{frame_said}
use Rattle.faults.proofs.LoopLaws.{placed_fault}
use Rattle.faults.proofs.first_broken.Goals as goal

pub returns-in_err-frame_fault : goal.returns-in_err-frame_fault
unfolding faults_over
returns-in_err-frame_fault c = rw (← c.view_of-view.ensures.is) (grind (arith, common_steps))

pub rules_fault-requires : goal.rules_fault-requires
rules_fault-requires c =
    let f = frame_said _ _ _ _ c.view_of-view.ensures.is c.frame_fault.ensures c.in_ok-frame_fault.was in
    (omega (arith, c.view_of-view.ensures.within.rules_at), f.rules)

pub returns-in_err-rules_fault : goal.returns-in_err-rules_fault
unfolding faults_over
returns-in_err-rules_fault c = rw (← c.view_of-view.ensures.is) (grind (arith, common_steps))

pub records_fault-requires : goal.records_fault-requires
records_fault-requires c =
    let f = frame_said _ _ _ _ c.view_of-view.ensures.is c.frame_fault.ensures c.in_ok-frame_fault.was in
    (f.actions, omega (arith, f.actions, f.small))

pub returns-in_err-records_fault : goal.returns-in_err-records_fault
unfolding faults_over
returns-in_err-records_fault c =
    let s = c.args.table.now in let v = c.view_of-view.result in
    rw (← c.view_of-view.ensures.is, ← placed_fault (action_format s v.counts) 3 (action_fault s v.counts) v.actions.end 0 0 v.actions.at) (grind (arith, common_steps))

pub records_fault-requires-2 : goal.records_fault-requires-2
records_fault-requires-2 c =
    let f = frame_said _ _ _ _ c.view_of-view.ensures.is c.frame_fault.ensures c.in_ok-frame_fault.was in
    (f.gotos, omega (arith, f.gotos, f.small))

pub returns-in_err-records_fault-2 : goal.returns-in_err-records_fault-2
unfolding faults_over
returns-in_err-records_fault-2 c =
    let s = c.args.table.now in let v = c.view_of-view.result in
    rw (← c.view_of-view.ensures.is, ← placed_fault (action_format s v.counts) 3 (action_fault s v.counts) v.actions.end 0 0 v.actions.at, ← placed_fault (goto_format s v.counts) 4 (goto_fault s v.counts) v.gotos.end 0 0 v.gotos.at) (grind (arith, common_steps))

pub returns : goal.returns
unfolding faults_over
returns c =
    let s = c.args.table.now in let v = c.view_of-view.result in
    rw (← c.view_of-view.ensures.is, ← placed_fault (action_format s v.counts) 3 (action_fault s v.counts) v.actions.end 0 0 v.actions.at, ← placed_fault (goto_format s v.counts) 4 (goto_fault s v.counts) v.gotos.end 0 0 v.gotos.at) (grind (arith, common_steps))
