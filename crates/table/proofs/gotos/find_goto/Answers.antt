-- `table::gotos::find_goto` meets its contract. Assumes nothing.
use mathlib.Core.Path.{ap, ◌∙◌}
use Rattle.std.specs.Prelude.{None}
use Rattle.std.proofs.Common.{Some}
use Rattle.meaning.specs.TableFile.{state_no, goto_at}
use Rattle.meaning.specs.TableRight.{goto_format}
use Rattle.table.specs.Answers.{goto_answer}
use Rattle.table.proofs.Placed.{placed_ordered, placed_some, placed_none}
use Rattle.table.proofs.gotos.find_goto.Goals as goal

pub find-requires : goal.find-requires
find-requires c = placed_ordered (goto_format c.args.table.now) _ _ _ _ c.requires

pub returns-in_err-p : goal.returns-in_err-p
unfolding goto_answer
returns-in_err-p c =
    c.from_residual.ensures
    ∙ ap goto_answer (placed_none (goto_format c.args.table.now c.args.view.counts) (λ g. Some g.target) None _ _ _ _ _ (c.find.ensures.is c.args.view.counts) c.in_err-p.was)

pub returns : goal.returns
unfolding goto_answer goto_format goto_at
returns c =
    ap (λ y. Some (state_no y)) c.get16.ensures
    ∙ ap goto_answer (placed_some (goto_format c.args.table.now c.args.view.counts) (λ g. Some g.target) None _ _ _ _ _ (c.find.ensures.is c.args.view.counts) _ c.in_ok-p.was)
