-- `table::records::find` meets its contract: no record passed has the pair that is wanted, and what is left is right. Assumes nothing.
use mathlib.Core.Path.{◌≡◌}
use native.Mathlib.Omega.{arith}
use Rattle.table.proofs.Sought.{sought_end, sought_fits, sought_found, sought_past, sought_next}
use Rattle.table.proofs.records.find.Goals as goal

pub key_at-key-requires : goal.key_at-key-requires
key_at-key-requires g c =
    let l = g.R.Record.laws in
    omega (arith, sought_fits _ _ l _ _ _ _ _ _ c.loop-at.invariant c.loop-at-test.true, l.long c.args.table.now c.loop-at.at, c.requires.sound.ends)

pub returns-then-wanted-key-2-clause-is : goal.returns-then-wanted-key-2-clause-is
returns-then-wanted-key-2-clause-is g c =
    sought_found _ _ g.R.Record.laws _ _ _ _ _ _ c.loop-at.invariant c.loop-at-test.true _ _ (omega arith) c.key_at-key.ensures.1.1 c.pair-wanted.ensures.0 c.key_at-key.ensures.0 c.if-wanted-key-2.true

pub returns-then-wanted-key-2-clause-inside : goal.returns-then-wanted-key-2-clause-inside
returns-then-wanted-key-2-clause-inside g c = λ p e.
    let q : c.loop-at.at ≡ p = cc in
    let l = sought_fits _ _ g.R.Record.laws _ _ _ _ _ _ c.loop-at.invariant c.loop-at-test.true in
    rw (← q) (omega (arith, l, c.requires.sound.ends))

pub returns-then-wanted-key-clause-is : goal.returns-then-wanted-key-clause-is
returns-then-wanted-key-clause-is g c =
    sought_past _ _ g.R.Record.laws _ _ _ _ _ _ c.loop-at.invariant c.loop-at-test.true _ _ c.pair-wanted.ensures.0 c.key_at-key.ensures.0 c.if-wanted-key.true c.if-wanted-key-2.false

pub loop-at-preserved : goal.loop-at-preserved
loop-at-preserved g c =
    sought_next _ _ g.R.Record.laws _ _ _ _ _ _ c.loop-at.invariant c.loop-at-test.true _ _ _ c.pair-wanted.ensures.0 c.key_at-key.ensures.0 c.if-wanted-key.false c.size-at.ensures.0

pub returns-clause-is : goal.returns-clause-is
returns-clause-is g c = sought_end _ _ g.R.Record.laws _ _ _ _ _ _ c.loop-at.invariant c.loop-at-test.false
