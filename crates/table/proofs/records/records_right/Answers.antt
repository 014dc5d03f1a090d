-- `table::records::records_right` meets its contract. Assumes nothing.
use Rattle.table.proofs.Fields.{check_bad, check_end, check_more}
use Rattle.table.proofs.Sought.{kind_key, kind_size, kind_inside}
use native.Mathlib.Omega.{arith}
use Rattle.table.proofs.records.records_right.Goals as goal

pub returns-then-not-record_test : goal.returns-then-not-record_test
returns-then-not-record_test g c = check_bad _ _ _ _ _ c.loop-at.invariant _ c.loop-at-test.true c.record_test.ensures c.if-not-record_test.true

pub key_at-low-requires : goal.key_at-low-requires
key_at-low-requires g c = let h = kind_inside _ _ g.R.Record.laws _ _ _ _ _ _ c.requires.0 c.record_test.ensures c.if-not-record_test.false in omega arith

pub loop-at-preserved : goal.loop-at-preserved
loop-at-preserved g c =
    check_more _ _ _ _ _ c.loop-at.invariant _ c.loop-at-test.true c.record_test.ensures _ _ c.if-not-record_test.false (kind_key _ _ g.R.Record.laws _ _ _ _ c.key_at-low.ensures.0) (kind_size _ _ g.R.Record.laws _ _ _ _ c.size-at.ensures.0)

pub returns : goal.returns
returns g c = check_end _ _ _ _ _ c.loop-at.invariant c.loop-at-test.false
