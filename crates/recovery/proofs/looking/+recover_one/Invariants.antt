-- A reading is looked at from its top down.
use Rattle.recovery.proofs.looking.+recover_one.Given as goal

abbrev pub decreases-recover_one : goal.decreases-recover_one
decreases-recover_one l = l.reading.height
