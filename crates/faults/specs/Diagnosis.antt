-- The whole diagnosis: the first broken rule, in the order of the file, then whether a line can start. It names one exactly if the file is wrong.
use Rattle.std.specs.Prelude.{◌≡◌, List, ℕ}
use Rattle.std.specs.Result.{is_ok}
use Rattle.meaning.specs.TableFile.{view_of, table_of, action_of, start_class}
use Rattle.meaning.specs.TableRight.{shifts, table_ok}
use Rattle.meaning.specs.declared.View.{View}
use Rattle.faults.specs.Verdicts.{Verdict, first, framed}
use Rattle.faults.specs.Frame.{frame_fault}
use Rattle.faults.specs.Rules.{rules_fault}
use Rattle.faults.specs.Records.{actions_fault, gotos_fault}
use Rattle.faults.specs.declared.Fault.TheVariants.{NoStart}

-- the frame and the records, and then what is said of the start
unfoldable pub faults_over : List ℕ → View → (start : Verdict) → Verdict
faults_over s v start =
    first (frame_fault s v)
    (first (rules_fault v.counts v.counts.rules s 0 v.rules.at)
    (first (actions_fault s v.counts v.actions.end 0 0 v.actions.at) (first (gotos_fault s v.counts v.gotos.end 0 0 v.gotos.at) start)))

-- state 0 must have a shift on class 2
unfoldable pub fault_of : List ℕ → Verdict
fault_of s = faults_over s (view_of s) (framed (shifts (action_of (table_of s) 0 start_class).shift) NoStart 3 (view_of s).actions.at)

pub record Diagnosed (s : List ℕ) (r : Verdict) : Type 0 where
  pub names : r ≡ fault_of s
  pub agrees : is_ok r ≡ table_ok s
