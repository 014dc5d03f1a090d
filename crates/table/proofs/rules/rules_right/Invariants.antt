-- `table::rules::rules_right` meets its contract: the rules that are left decide. Assumes nothing.
use Rattle.std.proofs.Common.{◌≡◌, ◌+◌, ◌-◌, ◌*◌}
use Rattle.meaning.specs.Basics.{every}
use Rattle.meaning.specs.TableFile.{rules_from}
use Rattle.meaning.specs.TableRight.{rule_right}
use Rattle.table.proofs.rules.rules_right.Given as goal

abbrev pub invariant-loop-i : goal.invariant-loop-i
invariant-loop-i l = every (rule_right l.counts) (rules_from (l.n - l.i) l.table (l.p + 17 * l.i)) ≡ every (rule_right l.counts) (rules_from l.n l.table l.p)
