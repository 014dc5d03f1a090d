-- P1 to P10: every known run leaves what it is to leave, and the table check accepts the three tables.
use mathlib.Core.Path.{◌≡◌, refl}
use mathlib.Core.Bool.{true}
use mathlib.Core.List.{[], ◌∷◌, map}
use Rattle.meaning.specs.Basics.{find}
use Rattle.meaning.specs.Bytes.{u16_at, u32_at}
use Rattle.meaning.specs.TableFile.{field_at, counts_of, view_of, places, rule_at, rules_from, shift_to, numbers, action_at, goto_at, actions_of, gotos_of, table_of, action_of, goto_of, rule_of, start_state}
use Rattle.meaning.specs.TableRight.{counts_right, front_right, middle_right, back_right, shape_right, frame_right, picks, kind_right, rule_right, rules_below, action_right, goto_right, action_format, goto_format, key_of, ascends, records_right, field_right, content_right, table_ok}
use Rattle.meaning.specs.Kinds.{act}
use Rattle.meaning.specs.Readings.{holds, held_by, start_reading}
use Rattle.meaning.specs.Chains.{record_at}
use Rattle.meaning.specs.Walk.{end_chain, reduction, walk_rules, walk_state, walk_from, plan, ends}
use Rattle.meaning.specs.Applying.{act_on, span_start, reduced, shifted, refused_action, unplanned, apply}
use Rattle.meaning.specs.Recovery.{error_term, is_held, recover_one, recover_all, longer_top, stays, take_term, recover}
use Rattle.meaning.specs.Feeding.{plan_all, apply_all, settle, first, feed}
use Rattle.meaning.specs.Calls.{start_call, wrong_class, wrong_term, feed_right, feed_call}
use Rattle.meaning.specs.KnownRuns.{Run, feed_all, outcome, known_runs}
use Rattle.meaning.specs.KnownTables.{t1, t2, t4}

pub accepted : map table_ok (t1 ∷ t2 ∷ t4 ∷ []) ≡ true ∷ true ∷ true ∷ []
unfolding find u16_at u32_at field_at counts_of view_of places rule_at rules_from shift_to numbers action_at goto_at actions_of gotos_of table_of action_of counts_right front_right middle_right back_right shape_right frame_right picks kind_right rule_right rules_below action_right goto_right action_format goto_format key_of ascends records_right field_right content_right table_ok
accepted = refl

pub known : map outcome known_runs ≡ map (λ (r : Run). r.leaves) known_runs
unfolding find u16_at u32_at field_at counts_of view_of places rule_at rules_from shift_to numbers action_at goto_at actions_of gotos_of table_of action_of goto_of rule_of start_state counts_right front_right middle_right back_right shape_right frame_right picks kind_right rule_right rules_below action_right goto_right action_format goto_format key_of ascends records_right field_right content_right table_ok act holds held_by start_reading record_at end_chain reduction walk_rules walk_state walk_from plan ends act_on span_start reduced shifted refused_action unplanned apply error_term is_held recover_one recover_all longer_top stays take_term recover plan_all apply_all settle first feed start_call wrong_class wrong_term feed_right feed_call feed_all outcome known_runs
known = refl
