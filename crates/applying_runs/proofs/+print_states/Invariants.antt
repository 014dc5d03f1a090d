-- The call of `print_states` by itself: the height falls. Assumes nothing.
use Rattle.applying_runs.proofs.+print_states.Given as goal

abbrev pub decreases-print_states : goal.decreases-print_states
decreases-print_states g l = l.height
