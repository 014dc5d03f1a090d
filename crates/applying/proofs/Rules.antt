-- At a rule list: its end, and its next rule with what stands below and beside it. Assumes nothing.
use Prim.Native.Nat.{ℕ, ◌+◌, ◌-◌, ◌<◌, ◌≤◌}
use native.Mathlib.Omega.{arith}
use mathlib.Core.Path.{◌≡◌, refl, sym, ap, ◌∙◌, subst}
use mathlib.Core.Bool.{Bool, true}
use mathlib.Core.List.{List, ◌∷◌}
use lib.Dec.{ltb}
use lib.ListN.{length, take, drop}
use borrow.Author.Tests.{lt-ltb}
use Rattle.std.specs.Prelude.{if◌then◌else◌, Option, None, Some}
use Rattle.meaning.specs.Readings.{Reading, states}
use Rattle.meaning.specs.TableFile.{Table, rule_of}
use Rattle.meaning.specs.Walk.{shift, ends}
use Rattle.meaning.specs.Applying.{act_on, reduced, refused_action, Applied, nothing_applied, one_error, joined, then_applied, if_acts, apply}
use Rattle.meaning.specs.declared.Term.{Term}
use Rattle.table.specs.declared.Action.{Action}
use Rattle.chains.specs.Actions.{shift_of, rules_from}
use Rattle.chains.specs.Following.{Follows, FollowsRules, FollowsRule}
use Rattle.chains.specs.Marks.{chains_mark, size_mark}
use Rattle.chains.proofs.Actions.{rule_at, no_rules, more_rules}
use Rattle.chains.proofs.Following.{follow_end, follow_rule}
use Rattle.actions.specs.Acting.{stack_in, reading_in}
use Rattle.actions.specs.Steps.{StepRoom, StepReady, Reduces, Refuses}
use Rattle.actions.specs.Telling.{Area, RoomFor, Told}
use Rattle.actions.specs.declared.Counts.{Counts}
use Rattle.actions.specs.declared.Top.{Top}
use Rattle.actions.proofs.Keeping.{marks_kept, reading_kept_in, stands_on}
use Rattle.actions.proofs.Outcomes.{told_none, told_then, area_on}
use Rattle.actions.proofs.Reductions.{length_states, reduces_told, reduces_reading, reduces_states, reduces_stands, refuses_told}
use Rattle.meaning.proofs.Kept.{apply_grows}
use Rattle.applying.specs.Following.{marks_of, Place, place, applied, Way, StateFits, RulesFit, ToldBy, StateDone, RulesDone, end_applied, EndReady, EndDone}
use Rattle.applying.proofs.Windows.{marks_same}
use Rattle.applying.proofs.Rooms.{room_first, room_rest}

-- The end: the shift, if there is one.
end_is : (t : Table) (x : Term) (sh : Option ℕ) (r : Reading) (n : ℕ) → apply t x (shift sh) r n ≡ end_applied x sh r n
unfolding apply
end_is t x None r n = refl
end_is t x (Some to) r n = refl

module _ (p : Place) (a : Action) (next : ℕ) (le : a.count ≤ next) where
  module _ (y : Way) (f : RulesFit p a next y) where
    ended : applied p y.tree ≡ end_applied p.ask.term (shift_of a) (reading_in p.work p.reading) p.counts.cells
    ended =
        let t = p.table in
        let st = states (stack_in p.work p.reading) in
        let e = follow_end y.left t y.room p.ask.term.class (marks_of p.work) p.at y.tree (shift_of a) st
        (subst (λ (l : List ℕ). FollowsRules y.left t y.room p.ask.term.class (shift_of a) st l (marks_of p.work) p.at y.tree) (no_rules a next le) f.follows) in
        ap (applied p) e ∙ end_is t p.ask.term (shift_of a) (reading_in p.work p.reading) p.counts.cells

    pub end_ready : EndReady p.ask p.work p.reading p.counts a
    end_ready = record { area = f.fits.area; stands = f.fits.stands; higher = f.higher; room = subst (RoomFor p.counts) ended f.fits.room }

  pub told_end : (w' : List ℕ) (n' : Counts) → EndDone p.ask p.work p.reading p.counts a w' n' → RulesDone p a next w' n'
  told_end w' n' done y f = subst (Told p.ask.list p.work p.counts w' n') (sym (ended y f)) done

-- The next rule.
module _ (p : Place) (a : Action) (next : ℕ) (lt : next < length (take a.count a.rules)) (y : Way) (f : RulesFit p a next y) where
  abbrev t : Table
  t = p.table

  abbrev x : Term
  x = p.ask.term

  abbrev list : ℕ
  list = p.ask.list

  abbrev w : List ℕ
  w = p.work

  abbrev r : Top
  r = p.reading

  abbrev n : Counts
  n = p.counts

  abbrev k : ℕ
  k = rule_at a next

  abbrev st : List ℕ
  st = states (stack_in w r)

  pub node : FollowsRule y.left t y.room x.class (shift_of a) st k (rules_from a (next + 1)) (marks_of w) p.at y.tree
  node =
      follow_rule y.left t y.room x.class (marks_of w) p.at y.tree (shift_of a) st k (rules_from a (next + 1))
      (subst (λ (l : List ℕ). FollowsRules y.left t y.room x.class (shift_of a) st l (marks_of w) p.at y.tree) (more_rules a next lt) f.follows)

  abbrev pub others : ℕ → Applied
  others j = apply t x node.beside (reading_in w r) j

  abbrev if_live : Bool → Option ℕ → Applied
  if_live b m =
      if b then if_acts m (λ v. apply t x node.below (reduced (rule_of t k) node.to v (reading_in w r) n.cells) (n.cells + 1)) (one_error (refused_action t k (reading_in w r)) n.cells)
      else nothing_applied n.cells

  parts : applied p y.tree ≡ then_applied (if_live (ends node.below) (act_on (rule_of t k) (stack_in w r))) others
  unfolding apply
  parts = ap (applied p) node.walk_is

  -- After the outcome o of the rule: the rules beside it.
  module _ (o : Applied) (is : applied p y.tree ≡ then_applied o others) (w' : List ℕ) (n' : Counts) (told : Told list w n w' n' o) (at : ℕ) (behind : at ≡ p.at + size_mark (marks_of w) p.at) where
    abbrev rest : Place
    rest = place p.table p.ask w' r n' at

    abbrev rest_way : Way
    rest_way = record { left = y.left; room = y.room; tree = node.beside }

    room : RoomFor n (then_applied o others)
    room = subst (RoomFor n) is f.fits.room

    area : Area list w' n'
    area = area_on list w n w' n' o told f.fits.area (room_first n o others room (apply_grows t x node.beside (reading_in w r) o.next))

    same_reading : reading_in w' r ≡ reading_in w r
    same_reading = reading_kept_in list w n w' n' f.fits.area told.kept r f.fits.stands

    same_marks : marks_of w' ≡ marks_of w
    same_marks = marks_same w w' f.fits.area.long told.kept.same (marks_kept list w n w' n' f.fits.area told.kept area.cells)

    pub fit_rest : RulesFit rest a (next + 1) rest_way
    fit_rest =
        record {
          fits = record {
            area = area;
            stands = stands_on list w n w' n' f.fits.area told.kept r f.fits.stands;
            room = subst (λ (q : Reading). RoomFor n' (apply t x node.beside q n'.cells)) (sym same_reading) (room_rest n o others room list w w' n' told);
          };
          higher = f.higher;
          follows = subst (λ (q : Reading). FollowsRules y.left t y.room x.class (shift_of a) (states q.stack) (rules_from a (next + 1)) (marks_of w') at node.beside) (sym same_reading)
              (subst (λ (m : List ℕ). FollowsRules y.left t y.room x.class (shift_of a) st (rules_from a (next + 1)) m at node.beside) (sym same_marks)
              (subst (λ (j : ℕ). FollowsRules y.left t y.room x.class (shift_of a) st (rules_from a (next + 1)) (marks_of w) j node.beside) (sym behind) node.follows_beside));
        }

    pub told_rest : (w'' : List ℕ) (n'' : Counts) → RulesDone rest a (next + 1) w'' n'' → ToldBy p y.tree w'' n''
    told_rest w'' n'' done =
        let two = subst (λ (q : Reading). Told list w' n' w'' n'' (apply t x node.beside q n'.cells)) same_reading (done rest_way fit_rest) in
        let two' = subst (λ (j : ℕ). Told list w' n' w'' n'' (others j)) told.next two in
        subst (Told list w n w'' n'') (sym is) (told_then list w w' w'' n n' n'' o (others o.next) told two')

  -- A dead end is passed over.
  pub dead : chains_mark (marks_of w) p.at ≡ 0 → applied p y.tree ≡ then_applied (nothing_applied n.cells) others
  dead z = parts ∙ ap (λ (b : Bool). then_applied (if_live b (act_on (rule_of t k) (stack_in w r))) others) (node.live ∙ ap (ltb 0) z)

  pub told_dead : Told list w n w n (nothing_applied n.cells)
  told_dead = told_none list w n f.fits.area

  -- A reduction with chains.
  module _ (some : chains_mark (marks_of w) p.at ≡ 0 → ⊥) where
    acts : applied p y.tree ≡ then_applied (if_live true (act_on (rule_of t k) (stack_in w r))) others
    acts = parts ∙ ap (λ (b : Bool). then_applied (if_live b (act_on (rule_of t k) (stack_in w r))) others) (node.live ∙ lt-ltb 0 (chains_mark (marks_of w) p.at) (omega arith))

    -- its action refused
    refused_is : act_on (rule_of t k) (stack_in w r) ≡ None → applied p y.tree ≡ then_applied (one_error (refused_action t k (reading_in w r)) n.cells) others
    refused_is e = acts ∙ ap (λ (m : Option ℕ). then_applied (if_live true m) others) e

    -- its action gave a value
    abbrev onward : ℕ → Reading
    onward v = reduced (rule_of t k) node.to v (reading_in w r) n.cells

    abbrev under : ℕ → Applied
    under v = apply t x node.below (onward v) (n.cells + 1)

    given_is : (v : ℕ) → act_on (rule_of t k) (stack_in w r) ≡ Some v → applied p y.tree ≡ then_applied (joined (nothing_applied (n.cells + 1)) (under v)) others
    given_is v e = acts ∙ ap (λ (m : Option ℕ). then_applied (if_live true m) others) e

    step_room : (m : Option ℕ) → act_on (rule_of t k) (stack_in w r) ≡ m → StepRoom n m
    step_room None e =
        let o = room_first n (one_error (refused_action t k (reading_in w r)) n.cells) others (subst (RoomFor n) (refused_is e) f.fits.room) (apply_grows t x node.beside (reading_in w r) n.cells) in
        let c = o.errors in
        omega arith
    step_room (Some v) e =
        let o = room_first n (joined (nothing_applied (n.cells + 1)) (under v)) others (subst (RoomFor n) (given_is v e) f.fits.room) (apply_grows t x node.beside (reading_in w r) (under v).next) in
        let c = o.cells in
        let g = apply_grows t x node.below (onward v) (n.cells + 1) in
        omega arith

    pub step_ready : StepReady t w r n k
    step_ready =
        let l = length_states w r in
        let u = node.pops in
        let area = f.fits.area in
        let long = area.long in
        let cells = area.cells in
        record {
          pops = record { under = omega arith; stack = record { cells = n.cells; room = omega arith; stack = f.fits.stands.stack } };
          high = f.fits.stands.high;
          cells = area.cells;
          errors = area.errors;
          room = step_room (act_on (rule_of t k) (stack_in w r)) refl;
        }

    module _ (w₁ : List ℕ) (n₁ : Counts) (d : Refuses t w r n k w₁ n₁) where
      pub refusal : applied p y.tree ≡ then_applied (one_error (refused_action t k (reading_in w r)) n.cells) others
      refusal = refused_is d.gives

      pub told_refusal : Told list w n w₁ n₁ (one_error (refused_action t k (reading_in w r)) n.cells)
      told_refusal = refuses_told t w r n k w₁ n₁ d list f.fits.area (subst (StepRoom n) d.gives (step_room (act_on (rule_of t k) (stack_in w r)) refl))

    module _ (w₁ : List ℕ) (r₁ : Top) (n₁ : Counts) (d : Reduces t w r n k w₁ r₁ n₁) where
      cells_left : n.cells < 2096
      cells_left = subst (StepRoom n) d.gives (step_room (act_on (rule_of t k) (stack_in w r)) refl)

      born : Told list w n w₁ n₁ (nothing_applied (n.cells + 1))
      born = reduces_told t w r n k w₁ r₁ n₁ d list f.fits.area f.fits.stands cells_left

      reading_is : reading_in w₁ r₁ ≡ onward d.value
      reading_is = reduces_reading t w r n k w₁ r₁ n₁ d list f.fits.area f.fits.stands cells_left node.to node.pops node.leads node.low

      pub reduction : applied p y.tree ≡ then_applied (joined (nothing_applied (n.cells + 1)) (under d.value)) others
      reduction = given_is d.value d.gives

      first : RoomFor n (joined (nothing_applied (n.cells + 1)) (under d.value))
      first = room_first n (joined (nothing_applied (n.cells + 1)) (under d.value)) others (subst (RoomFor n) reduction f.fits.room) (apply_grows t x node.beside (reading_in w r) (under d.value).next)

      area_born : Area list w₁ n₁
      area_born =
          area_on list w n w₁ n₁ (nothing_applied (n.cells + 1)) born f.fits.area
          (room_first n (nothing_applied (n.cells + 1)) (λ j. apply t x node.below (onward d.value) j) first (apply_grows t x node.below (onward d.value) (n.cells + 1)))

      abbrev deeper : Place
      deeper = place p.table p.ask w₁ r₁ n₁ (p.at + 1)

      abbrev deeper_way : Way
      deeper_way = record { left = y.left - 1; room = y.room; tree = node.below }

      pub fit_below : StateFits deeper deeper_way
      fit_below =
          record {
            fits = record {
              area = area_born;
              stands = reduces_stands t w r n k w₁ r₁ n₁ d list f.fits.area f.fits.stands cells_left node.to node.pops node.leads node.low;
              room = subst (λ (q : Reading). RoomFor n₁ (apply t x node.below q n₁.cells)) (sym reading_is)
                  (room_rest n (nothing_applied (n.cells + 1)) (λ j. apply t x node.below (onward d.value) j) first list w w₁ n₁ born);
            };
            follows = subst (λ (l : List ℕ). Follows (y.left - 1) t y.room x.class l (marks_of w₁) (p.at + 1) node.below)
                (sym (reduces_states t w r n k w₁ r₁ n₁ d list f.fits.area f.fits.stands cells_left node.to node.pops node.leads node.low))
                (subst (λ (m : List ℕ). Follows (y.left - 1) t y.room x.class (node.to ∷ drop (rule_of t k).len st) m (p.at + 1) node.below)
                (sym (marks_same w w₁ f.fits.area.long born.kept.same (marks_kept list w n w₁ n₁ f.fits.area born.kept area_born.cells))) node.follows_below);
          }

      pub told_below : (w₂ : List ℕ) (n₂ : Counts) → StateDone deeper w₂ n₂ → Told list w n w₂ n₂ (joined (nothing_applied (n.cells + 1)) (under d.value))
      told_below w₂ n₂ done =
          let two = subst (λ (q : Reading). Told list w₁ n₁ w₂ n₂ (apply t x node.below q n₁.cells)) reading_is (done deeper_way fit_below) in
          let two' = subst (λ (j : ℕ). Told list w₁ n₁ w₂ n₂ (apply t x node.below (onward d.value) j)) born.next two in
          told_then list w w₁ w₂ n n₁ n₂ (nothing_applied (n.cells + 1)) (under d.value) born two'
