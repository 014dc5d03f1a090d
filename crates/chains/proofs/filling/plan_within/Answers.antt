-- `plan_within`: the planner is lent a part of the bytes that hold the stack; all other bytes stay as they are.
use Rattle.std.proofs.Common.{◌+◌, ◌-◌, arith}
use Rattle.chains.proofs.Within.{planned_within}
use Rattle.chains.proofs.filling.plan_within.Goals as goal

pub returns : goal.returns
returns c =
    let e = c.plan.ensures in
    let x = planned_within _ c.args.at (c.args.at + 4096 - c.args.at) c.args.work.now c.plan.new.marks c.plan.result c.requires.inside (omega arith) c.plan.auto.marks (e.answer, e.marked) in
    rw (← c.filled-stack.ensures.same) x
