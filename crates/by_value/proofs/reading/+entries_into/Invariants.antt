-- `reading::entries_into` meets its contract. The measure is the height left. Assumes nothing.
use Rattle.by_value.proofs.reading.+entries_into.Given as goal

abbrev pub decreases-entries_into : goal.decreases-entries_into
decreases-entries_into l = l.height
