-- `table::records::record_test` meets its contract. Assumes nothing.
use Rattle.table.proofs.Sought.{kind_short, kind_right, kind_wrong}
use Rattle.table.proofs.records.record_test.Goals as goal

pub returns-then-end-p : goal.returns-then-end-p
returns-then-end-p g c = let l = g.R.Record.laws in kind_short _ _ l _ _ _ _ _ _ c.size.ensures.0 c.if-end-p.true

pub returns-then-right : goal.returns-then-right
returns-then-right g c = let l = g.R.Record.laws in kind_right _ _ l _ _ _ _ _ _ c.size.ensures.0 _ c.if-end-p.false c.right.ensures _ c.key_at.ensures.0 c.if-right.true

pub returns-else-right : goal.returns-else-right
returns-else-right g c = let l = g.R.Record.laws in kind_wrong _ _ l _ _ _ _ _ _ c.size.ensures.0 _ c.if-end-p.false c.right.ensures c.if-right.false
