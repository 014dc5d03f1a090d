-- Under a right table a feed leaves only states of that table, if it began with such.
use Prim.Native.Nat.{ℕ, ◌-◌, ◌<◌}
use mathlib.Core.Path.{◌≡◌, refl, sym, ap, subst}
use mathlib.Core.Bool.{Bool, true, false, not}
use mathlib.Core.List.{List, [], ◌∷◌, map}
use lib.Dec.{ltb, leb, T, ltb→lt}
use lib.ListN.{length}
use Rattle.meaning.specs.Basics.{both, either, is_nil, every, AllOf, find}
use Rattle.std.specs.Prelude.{if◌then◌else◌, Option, None, Some}
use Rattle.meaning.specs.TableFile.{ActionRecord, GotoRecord, view_of, places, rules_from, table_of, actions_of, gotos_of, is_pair, no_record, action_of, goto_of, start_class, target, start_state}
use Rattle.meaning.specs.TableRight.{frame_right, rule_right, shifts, shift_right, rules_below, action_right, goto_right, Format, action_format, goto_format, key_of, ascends, fits, records_right, field_right, content_right, table_ok}
use Rattle.meaning.specs.Readings.{Entry, Reading, start_reading}
use Rattle.meaning.specs.Feeding.{feed}
use Rattle.meaning.specs.Bounds.{StatesBelow}
use Rattle.meaning.specs.declared.Counts.{Counts}
use Rattle.meaning.specs.declared.Term.{Term}
use Rattle.meaning.proofs.Booleans.{IsTrue, both_parts}
use Rattle.meaning.proofs.Leads.{TargetsIn}
use Rattle.meaning.proofs.Kept.{feed_keeps}

every_true : {A : Type 0} (p : A → Bool) (l : List A) → every p l ≡ true → AllOf (λ (a : A). p a ≡ true) l
every_true p [] e = tt
every_true p (a ∷ l) e = let h = both_parts (p a) (every p l) e in (h.0, every_true p l h.1)

-- what is found is one of the list, or none
find_all : {A B : Type 0} (fits : A → Bool) (out : A → B) (none : B) (Q : A → Type 0) (S : B → Type 0) → ((a : A) → Q a → S (out a)) → S none → (l : List A) → AllOf Q l → S (find fits out none l)
unfolding find
find_all fits out none Q S f n [] h = n
find_all {A} {B} fits out none Q S f n (a ∷ l) h = at (fits a) (find_all fits out none Q S f n l h.1)
  where
    at : (b : Bool) → S (find fits out none l) → S (if b then out a else find fits out none l)
    at true g = f a h.0
    at false g = g

abbrev is_just : Option ℕ → Type 0
is_just None = ⊥
is_just (Some to) = Unit {0}

below : (a b : ℕ) → ltb a b ≡ true → a < b
below a b e = ltb→lt a b (subst T (sym e) tt)

just_below : (m to to' : ℕ) → ltb to m ≡ true → Some to ≡ Some to' → to' < m
just_below m to to' e f = subst (λ (k : ℕ). k < m) (ap target f) (below to m e)

action_below : (c : Counts) (a : ActionRecord) → action_right c a ≡ true → (to : ℕ) → a.shift ≡ Some to → to < c.states
unfolding action_right
action_below c a e to f = at a.shift (both_parts (shift_right c a.shift) (rules_below c a.rules) (both_parts leads full (both_parts key (both leads full) e).1).0).0 f
  where
    key : Bool
    key = both (ltb a.state c.states) (ltb a.class c.classes)

    leads : Bool
    leads = both (shift_right c a.shift) (rules_below c a.rules)

    full : Bool
    full = both (leb (length a.rules) 4) (either (shifts a.shift) (not (is_nil a.rules)))

    at : (sh : Option ℕ) → shift_right c sh ≡ true → sh ≡ Some to → to < c.states
    at None g k = absurd (subst is_just (sym k) tt)
    at (Some to') g k = just_below c.states to' to g k

goto_below : (c : Counts) (g : GotoRecord) → goto_right c g ≡ true → (to : ℕ) → Some g.target ≡ Some to → to < c.states
unfolding goto_right
goto_below c g e to f = just_below c.states g.target to (both_parts (ltb g.nonterminal c.nonterminals) (ltb g.target c.states) (both_parts (ltb g.state c.states) (both (ltb g.nonterminal c.nonterminals) (ltb g.target c.states)) e).1).1 f

-- every record of a right field is right
field_right_lem : {X : Type 0} (F : Format X) (e low at : ℕ) → field_right F e low at ≡ true → AllOf (λ (x : X). F.right x ≡ true) (map F.decode (places F.size (e - at) at e))
unfolding field_right records_right
field_right_lem F e low at h =
    let ps = places F.size (e - at) at e in
    let records = map F.decode ps in
    every_true F.right records
    (both_parts (every F.right records) (ascends low (map (key_of F) records))
    (both_parts (every (fits F e) ps) (both (every F.right records) (ascends low (map (key_of F) records))) h).1).0

module _ (s : List ℕ) (ok : table_ok s ≡ true) where
  right : content_right s (view_of s) ≡ true
  unfolding table_ok
  right =
      (both_parts (content_right s (view_of s)) (shifts (action_of (table_of s) 0 start_class).shift)
      (both_parts (frame_right s (view_of s)) (both (content_right s (view_of s)) (shifts (action_of (table_of s) 0 start_class).shift)) ok).1).0

  both_fields : (field_right (action_format s (view_of s).counts) (view_of s).actions.end 0 (view_of s).actions.at ≡ true)
      × (field_right (goto_format s (view_of s).counts) (view_of s).gotos.end 0 (view_of s).gotos.at ≡ true)
  unfolding content_right
  both_fields =
      let v = view_of s in
      let actions = field_right (action_format s v.counts) v.actions.end 0 v.actions.at in
      let gotos = field_right (goto_format s v.counts) v.gotos.end 0 v.gotos.at in
      both_parts actions gotos (both_parts (every (rule_right v.counts) (rules_from v.counts.rules s v.rules.at)) (both actions gotos) right).1

  -- Every target in a right table is one of its states.
  pub targets_below : TargetsIn (λ to. to < (table_of s).counts.states) (table_of s)
  unfolding action_format goto_format table_of actions_of gotos_of action_of goto_of
  targets_below =
      let v = view_of s in
      record {
        gotos = λ state left. find_all (λ (g : GotoRecord). is_pair state left g.state g.nonterminal) (λ (g : GotoRecord). Some g.target) None (λ (g : GotoRecord). goto_right v.counts g ≡ true)
            (λ (m : Option ℕ). (to : ℕ) → m ≡ Some to → to < v.counts.states) (goto_below v.counts) (λ to f. absurd (subst is_just (sym f) tt)) (gotos_of s v)
            (field_right_lem (goto_format s v.counts) v.gotos.end 0 v.gotos.at both_fields.1);
        shifted = λ state class. find_all (λ (a : ActionRecord). is_pair state class a.state a.class) (λ (a : ActionRecord). a) no_record (λ (a : ActionRecord). action_right v.counts a ≡ true)
            (λ (a : ActionRecord). (to : ℕ) → a.shift ≡ Some to → to < v.counts.states) (action_below v.counts) (λ to f. absurd (subst is_just (sym f) tt)) (actions_of s v)
            (field_right_lem (action_format s v.counts) v.actions.end 0 v.actions.at both_fields.0);
      }

  -- So is the start state.
  start_below : start_state (table_of s) < (table_of s).counts.states
  unfolding start_state table_ok
  start_below = at (action_of (table_of s) 0 start_class).shift refl shift_there
    where
      shift_there : shifts (action_of (table_of s) 0 start_class).shift ≡ true
      shift_there =
          (both_parts (content_right s (view_of s)) (shifts (action_of (table_of s) 0 start_class).shift)
          (both_parts (frame_right s (view_of s)) (both (content_right s (view_of s)) (shifts (action_of (table_of s) 0 start_class).shift)) ok).1).1

      at : (sh : Option ℕ) → (action_of (table_of s) 0 start_class).shift ≡ sh → shifts (action_of (table_of s) 0 start_class).shift ≡ true → target (action_of (table_of s) 0 start_class).shift < (table_of s).counts.states
      at None e f = absurd (subst (λ (m : Option ℕ). shifts m ≡ true → ⊥) (sym e) (λ g. subst IsTrue (sym g) tt) f)
      at (Some to) e f = subst (λ (m : Option ℕ). target m < (table_of s).counts.states) (sym e) (targets_below.shifted 0 start_class to e)

  -- A start begins with the table's states, and a feed keeps to them.
  pub start_kept : (born : ℕ) → StatesBelow (table_of s).counts.states (start_reading (table_of s) born)
  unfolding start_reading
  start_kept born = (start_below, tt)

  pub states_kept : (x : Term) (rs : List Reading) (next : ℕ) → AllOf (StatesBelow (table_of s).counts.states) rs
      → AllOf (StatesBelow (table_of s).counts.states) (feed (table_of s) x rs next).readings
  states_kept x rs n h =
      feed_keeps (λ (y : Entry). y.state < (table_of s).counts.states) (λ to. to < (table_of s).counts.states) n (record { born = λ y l k. k; longer = λ y end m l k. k }) (table_of s) targets_below x rs h
