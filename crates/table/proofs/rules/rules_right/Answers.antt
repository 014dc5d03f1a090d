-- `table::rules::rules_right` meets its contract. Assumes nothing.
use Rattle.std.proofs.Common.{arith}
use Rattle.table.proofs.RuleLaws.{rules_more, rules_bad, rules_none}
use Rattle.table.proofs.rules.rules_right.Goals as goal

pub returns-then-not-rule_right : goal.returns-then-not-rule_right
returns-then-not-rule_right c = rules_bad _ _ _ _ _ _ c.loop-i.invariant _ _ (omega arith) c.rule_at.ensures c.rule_right.ensures c.if-not-rule_right.true

pub loop-i-preserved : goal.loop-i-preserved
loop-i-preserved c = rules_more _ _ _ _ _ _ c.loop-i.invariant _ _ (omega arith) c.rule_at.ensures c.rule_right.ensures c.if-not-rule_right.false

pub returns : goal.returns
returns c = rules_none _ _ _ _ _ _ c.loop-i.invariant (omega arith)
