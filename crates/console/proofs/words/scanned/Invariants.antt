-- `console::words::scanned` meets its contract: the loop keeps the number so far. Assumes nothing.
use Rattle.console.proofs.Text.{Scanned}
use Rattle.console.proofs.words.scanned.Given as goal

abbrev pub invariant-loop-count : goal.invariant-loop-count
invariant-loop-count l = Scanned l.text l.value l.count
