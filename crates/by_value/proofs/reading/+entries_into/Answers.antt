-- `reading::entries_into` meets its contract. Assumes nothing.
use native.Mathlib.Omega.{arith}
use Rattle.cells.proofs.Stacks.{in_room, in_under}
use Rattle.by_value.proofs.Stacks.{into_none, into_more, into_room}
use Rattle.by_value.proofs.reading.+entries_into.Goals as goal

pub returns-then-height-eq0 : goal.returns-then-height-eq0
returns-then-height-eq0 t c = search (into_none)

pub entry_at-requires : goal.entry_at-requires
entry_at-requires t c = search (in_room)

pub get_cell-x-requires : goal.get_cell-x-requires
get_cell-x-requires t c = search (in_room)

pub entries_into-requires : goal.entries_into-requires
entries_into-requires t c = (omega arith, (search (into_room), search (in_under)))

pub returns : goal.returns
returns t c = search (into_more)
