-- `reading::entries_of` meets its contract. Assumes nothing.
use Rattle.by_value.proofs.Stacks.{entries_read}
use Rattle.by_value.proofs.reading.entries_of.Goals as goal

pub returns : goal.returns
returns c = entries_read _ _ _ _ _ _ c.requires c.default-list.ensures c.entries_into.ensures c.from.ensures
