-- The call of `print_entries` by itself: the height falls. Assumes nothing.
use Rattle.applying_runs.proofs.+print_entries.Given as goal

abbrev pub decreases-print_entries : goal.decreases-print_entries
decreases-print_entries g l = l.height
