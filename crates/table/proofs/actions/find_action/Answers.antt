-- `table::actions::find_action` meets its contract. Assumes nothing.
use mathlib.Core.Path.{ap, ◌∙◌}
use Rattle.meaning.specs.TableFile.{no_record}
use Rattle.meaning.specs.TableRight.{action_format}
use Rattle.table.specs.Answers.{action_answer, goto_answer}
use Rattle.table.proofs.Placed.{placed_ordered, placed_some, placed_none}
use Rattle.table.proofs.actions.find_action.Goals as goal

pub find-requires : goal.find-requires
find-requires c = placed_ordered (action_format c.args.table.now) _ _ _ _ c.requires

pub returns-in-Some : goal.returns-in-Some
unfolding action_format
returns-in-Some c =
    c.action_at.ensures
    ∙ ap action_answer (placed_some (action_format c.args.table.now c.args.view.counts) (λ a. a) no_record _ _ _ _ _ (c.find.ensures.is c.args.view.counts) _ c.in-Some.is)

pub returns-in-None : goal.returns-in-None
unfolding action_answer goto_answer
returns-in-None c =
    ap action_answer (placed_none (action_format c.args.table.now c.args.view.counts) (λ a. a) no_record _ _ _ _ _ (c.find.ensures.is c.args.view.counts) c.in-None.is)
