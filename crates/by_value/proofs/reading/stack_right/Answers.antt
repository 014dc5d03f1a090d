-- `reading::stack_right` meets its contract. Assumes nothing.
use Rattle.by_value.proofs.Stacks.{stack_consumed, stack_none, number_slot, number_room, number_ready, stack_done}
use Rattle.by_value.proofs.reading.stack_right.Goals as goal

pub returns-then-count-eq0 : goal.returns-then-count-eq0
returns-then-count-eq0 c = search (stack_consumed)

pub returns-then-number-count : goal.returns-then-number-count
returns-then-number-count c = search (stack_none)

pub get_slot-slot-requires : goal.get_slot-slot-requires
get_slot-slot-requires c = search (number_slot)

pub get_cell-x-requires : goal.get_cell-x-requires
get_cell-x-requires c = search (number_room)

pub entries_of-entries-requires : goal.entries_of-entries-requires
entries_of-entries-requires c = search (number_ready)

pub returns : goal.returns
returns c = search (stack_done)
