-- `reading::stack_of` meets its contract. Assumes nothing.
use Rattle.by_value.proofs.Stacks.{stack_length, stack_places, stack_long, read_handed}
use Rattle.by_value.proofs.reading.stack_of.Goals as goal

pub returns-in_default : goal.returns-in_default
returns-in_default c = stack_length _ _ _ _ c.in_default.ensures.cases _ c.refused.ensures

pub returns-then-not-listed : goal.returns-then-not-listed
returns-then-not-listed c = search (stack_places)

pub returns : goal.returns
returns c = stack_long _ _ _ _ _ c.in-Some.ensures.cases c.if-not-listed.false _ _ c.stack_found.ensures (read_handed _ _ c.unwrap_or_else.ensures)
