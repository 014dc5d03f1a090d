-- `state::start_state` meets its contract. Assumes nothing.
use Rattle.state.proofs.Starting.{started}
use Rattle.state.proofs.start_state.Goals as goal

pub returns : goal.returns
returns c = search (started)
