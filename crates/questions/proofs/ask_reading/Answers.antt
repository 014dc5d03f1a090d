-- `ask_reading`: the top cell of the reading lies in the state.
use Rattle.std.proofs.Common.{arith}
use Rattle.state.proofs.Holding.{top_room}
use Rattle.questions.proofs.ask_reading.Goals as goal

pub get_cell-height-requires : goal.get_cell-height-requires
get_cell-height-requires c = top_room _ _ _ 1 (λ z. omega arith) c.requires.reading _ c.get_slot.ensures
