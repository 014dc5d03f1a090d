-- `console::lines::next_line` meets its contract. Assumes nothing.
use Rattle.console.proofs.Filling.{left_begins, left_at_end, left_at_feed, left_on, none_left}
use Rattle.console.proofs.lines.next_line.Goals as goal

pub loop-turns-init : goal.loop-turns-init
loop-turns-init c = search (left_begins)

pub returns-in_default : goal.returns-in_default
returns-in_default c = search (left_at_end)

pub returns-then-next-eq-FEED : goal.returns-then-next-eq-FEED
returns-then-next-eq-FEED c = search (left_at_feed)

pub loop-turns-preserved : goal.loop-turns-preserved
loop-turns-preserved c = search (left_on)

pub returns : goal.returns
returns c = search (none_left)
