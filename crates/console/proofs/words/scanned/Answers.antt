-- `console::words::scanned` meets its contract. Assumes nothing.
use Rattle.console.proofs.Text.{scan_stops, scan_ends}
use Rattle.console.proofs.words.scanned.Goals as goal

pub returns-in_default : goal.returns-in_default
returns-in_default c = rw c.scan_of.ensures (search (scan_stops))

pub returns : goal.returns
returns c = rw c.scan_of-2.ensures (search (scan_ends))
