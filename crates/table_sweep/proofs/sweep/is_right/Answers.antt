-- `table_sweep::sweep::is_right` meets its contract, by what the check's answer says of the table. Assumes nothing.
use Rattle.std.proofs.Common.{◌≡◌, Bool, true, false, Some, None, refl, if◌then◌else◌, ap, ◌∙◌}
use Rattle.std.specs.Option.{is_some}
use Rattle.meaning.specs.TableFile.{view_of}
use Rattle.meaning.specs.TableRight.{table_ok}
use Rattle.meaning.specs.declared.View.{View}
use Rattle.table.specs.Answers.{check_of}
use Rattle.table_sweep.proofs.sweep.is_right.Goals as goal

some_if : (b : Bool) (v : View) → is_some (if b then Some v else None) ≡ b
some_if true v = refl
some_if false v = refl

pub returns : goal.returns
unfolding check_of
returns c = c.is_some.ensures ∙ ap is_some c.check_table.ensures ∙ some_if (table_ok c.args.bytes.now) (view_of c.args.bytes.now)
