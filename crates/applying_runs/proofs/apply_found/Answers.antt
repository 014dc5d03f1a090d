-- `apply_found` meets its contract. Assumes nothing.
use Rattle.std.proofs.Common.{rules}
use Rattle.applying_runs.proofs.Finding.{apply_ready}
use Rattle.applying_runs.proofs.apply_found.Goals as goal

pub apply_reading-requires : goal.apply_reading-requires
apply_reading-requires g c = rw c.nothing_yet-none.ensures (apply_ready c.args.work.now (search rules) _ _ c.requires _ _ _ _ c.in-Ok.ensures)
