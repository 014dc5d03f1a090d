-- `table::content_right` meets its contract. Assumes nothing.
use Rattle.std.proofs.Common.{arith}
use Rattle.std.proofs.lemmas.Grind.{common_steps}
use Rattle.meaning.specs.TableRight.{action_format, goto_format, content_right}
use Rattle.table.proofs.Placed.{placed_field}
use Rattle.table.proofs.content_right.Goals as goal

pub returns-then-records_right : goal.returns-then-records_right
unfolding content_right
returns-then-records_right c =
    let s = c.args.table.now in let v = c.args.view in
    rw (← placed_field (action_format s v.counts) v.actions.end 0 v.actions.at, ← placed_field (goto_format s v.counts) v.gotos.end 0 v.gotos.at) (grind (arith, common_steps))

pub returns-else-records_right : goal.returns-else-records_right
unfolding content_right
returns-else-records_right c =
    let s = c.args.table.now in let v = c.args.view in
    rw (← placed_field (action_format s v.counts) v.actions.end 0 v.actions.at) (grind (arith, common_steps))
