-- `ask`: the readings from the reading i on decide.
use Rattle.questions.proofs.Answering.{Asked}
use Rattle.questions.proofs.ask.Given as goal

abbrev pub invariant-loop-i : goal.invariant-loop-i
invariant-loop-i l = Asked l.table l.question l.state l.i l.marks
