-- `table::actions::action_right` meets its contract. Assumes nothing.
use Rattle.std.proofs.Common.{arith}
use Rattle.std.proofs.lemmas.Grind.{common_steps}
use Rattle.table.proofs.ActionLaws.{action_raw}
use Rattle.table.proofs.actions.action_right.Goals as goal

pub returns-then-head_right : goal.returns-then-head_right
returns-then-head_right c = rw (action_raw c.args.counts c.args.table.now c.args.p) (grind (arith, common_steps))

pub returns-else-head_right : goal.returns-else-head_right
returns-else-head_right c = rw (action_raw c.args.counts c.args.table.now c.args.p) (grind (arith, common_steps))
