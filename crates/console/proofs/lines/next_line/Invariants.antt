-- `console::lines::next_line` meets its contract: the loop keeps which bytes were taken in, and that the line has them. Assumes nothing.
use Rattle.console.proofs.Filling.{FillingLeft}
use Rattle.console.proofs.lines.next_line.Given as goal

abbrev pub invariant-loop-turns : goal.invariant-loop-turns
invariant-loop-turns l = FillingLeft l.initial.piece l.initial.rest l.initial.line l.piece l.rest l.line l.length l.turns

abbrev pub decreases-loop-turns : goal.decreases-loop-turns
decreases-loop-turns l = l.turns
