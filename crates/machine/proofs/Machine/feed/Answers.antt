-- `Machine::feed`: the call by value, and its records filled into the lent list.
use Rattle.by_value.proofs.Feeds.{feed_filled}
use Rattle.machine.proofs.Machine.feed.Goals as goal

pub returns : goal.returns
returns c = feed_filled _ _ _ _ _ _ _ _ c.feed_of-run.ensures _ _ c.fill.ensures.stores c.fill.ensures.writes
