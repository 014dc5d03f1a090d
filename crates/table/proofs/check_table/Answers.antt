-- `table::check_table` meets its contract. Assumes nothing.
use Rattle.std.proofs.Common.{arith}
use Rattle.std.proofs.lemmas.Grind.{common_steps}
use Rattle.table.proofs.Checking.{framed, actions_sound, check_is}
use Rattle.table.proofs.check_table.Goals as goal

pub content_right-requires : goal.content_right-requires
content_right-requires c = search (framed)

pub starts-requires : goal.starts-requires
starts-requires c = search (actions_sound, framed)

pub returns-then-starts : goal.returns-then-starts
returns-then-starts c = rw (← check_is c.args.table.now c.view_of-view.result c.view_of-view.ensures.is) (grind (arith, common_steps))

pub returns : goal.returns
returns c = rw (← check_is c.args.table.now c.view_of-view.result c.view_of-view.ensures.is) (grind (arith, common_steps))
