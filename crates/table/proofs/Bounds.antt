-- What a checked table gives those who look things up in it: every number of an answer is below its count, and the counts are within the limits. Assumes nothing.
use mathlib.Core.Path.{◌≡◌, refl, ap, subst, ◌∙◌}
use mathlib.Core.Bool.{Bool, true, false}
use mathlib.Core.List.{List, [], ◌∷◌, map}
use Prim.Native.Nat.{ℕ, zero, suc, ◌+◌, ◌<◌, ◌≤◌}
use native.Mathlib.Omega.{arith}
use lib.Dec.{ltb, leb, eqb}
use lib.ListN.{length, take, get_or}
use borrow.Author.Tests.{ne_eqb, ltb-true, leb-true}
use Rattle.meaning.specs.Basics.{both, every, find}
use Rattle.std.specs.Prelude.{if◌then◌else◌, Option, None}
use Rattle.meaning.specs.TableFile.{state_no, view_of, rules_from, rule_at, no_rule, ActionRecord, target, no_record, is_pair, actions_of, gotos_of, table_of, rule_of, action_of, goto_of, start_state}
use Rattle.meaning.specs.TableRight.{counts_right, frame_right, picks, kind_right, rule_right, shift_right, rules_below, action_right, goto_right, Format, action_format, goto_format, fits, records_right, field_right, content_right, shifts, table_ok}
use Rattle.meaning.specs.declared.Counts.{Counts}
use Rattle.meaning.specs.declared.Rule.{Rule}
use Rattle.meaning.specs.declared.StateNo.{StateNo}
use Rattle.meaning.specs.declared.View.{View}
use Rattle.std.proofs.Common.{Some}
use Rattle.table.specs.Belonging.{Belongs}
use Rattle.table.specs.Answers.{action_answer, goto_answer}
use Rattle.table.specs.Bounds.{CountsWithin, ActionWithin, RuleWithin, GotoWithin}
use Rattle.table.specs.declared.Action.{Action}
use Rattle.meaning.proofs.Booleans.{both_left, both_right}
use Rattle.table.proofs.Checking.{checked_frame, checked_content, checked_actions, checked_gotos}

-- The counts.
counts_within : (c : Counts) → counts_right c ≡ true → CountsWithin c
unfolding counts_right
counts_within c e =
    let f = both_right (both (leb 1 c.states) (leb c.states 512)) _ e in
    let g = both_right (both (leb 4 c.classes) (leb c.classes 64)) _ f in
    let states = both_left (both (leb 1 c.states) (leb c.states 512)) _ e in
    let classes = both_left (both (leb 4 c.classes) (leb c.classes 64)) _ f in
    let nonterminals = both_left (both (leb 1 c.nonterminals) (leb c.nonterminals 64)) _ g in
    record {
      some_state = leb-true 1 _ (both_left _ _ states);
      states = leb-true _ 512 (both_right (leb 1 c.states) _ states);
      four_classes = leb-true 4 _ (both_left _ _ classes);
      classes = leb-true _ 64 (both_right (leb 4 c.classes) _ classes);
      some_nonterminal = leb-true 1 _ (both_left _ _ nonterminals);
      nonterminals = leb-true _ 64 (both_right (leb 1 c.nonterminals) _ nonterminals);
      rules = leb-true _ 256 (both_right (both (leb 1 c.nonterminals) (leb c.nonterminals 64)) _ g);
    }

-- Fields: what holds of every right record, and of none, holds of what is found.
find_holds : {X Y : Type 0} (Good : Y → Type 0) (is right : X → Bool) (out : X → Y) (none : Y) →
    Good none → ((x : X) → right x ≡ true → Good (out x)) →
    (xs : List X) → every right xs ≡ true → Good (find is out none xs)
unfolding find
find_holds Good is right out none z g [] e = z
find_holds Good is right out none z g (x ∷ xs) e =
    by_case (is x) (g x (both_left (right x) _ e)) (find_holds Good is right out none z g xs (both_right (right x) _ e))
  where
    by_case : (b : Bool) {x y : _} → Good x → Good y → Good (if b then x else y)
    by_case true gx gy = gx
    by_case false gx gy = gy

all_right : {X : Type 0} (F : Format X) (e low : ℕ) (ps : List ℕ) → records_right F e low ps ≡ true → every F.right (map F.decode ps) ≡ true
unfolding records_right
all_right F e low ps h = both_left _ _ (both_right (every (fits F e) ps) _ h)

-- An action record.
below_at : (c : Counts) (ks : List ℕ) (i : ℕ) → rules_below c ks ≡ true → i < length ks → get_or ks i 0 < c.rules
unfolding rules_below
below_at c [] i e h = absurd (omega arith)
below_at c (k ∷ ks) zero e h = ltb-true k c.rules (both_left _ _ e)
below_at c (k ∷ ks) (suc i) e h = below_at c ks i (both_right (ltb k c.rules) _ e) (omega arith)

-- the four places of the answer's array
four_rules : (ks : List ℕ) (i : ℕ) → i < 4 → get_or (get_or ks 0 0 ∷ get_or ks 1 0 ∷ get_or ks 2 0 ∷ get_or ks 3 0 ∷ []) i 0 ≡ get_or ks i 0
four_rules ks zero h = refl
four_rules ks (suc zero) h = refl
four_rules ks (suc (suc zero)) h = refl
four_rules ks (suc (suc (suc zero))) h = refl
four_rules ks (suc (suc (suc (suc i)))) h = absurd (omega arith)

pub answer_rule : (a : ActionRecord) (i : ℕ) → i < 4 → get_or (action_answer a).rules i 0 ≡ get_or a.rules i 0
unfolding action_answer
answer_rule a i h = four_rules a.rules i h

-- the first of the array, as many as the count, are the record's rules
first_rules : (ks : List ℕ) → length ks ≤ 4 → take (length ks) (get_or ks 0 0 ∷ get_or ks 1 0 ∷ get_or ks 2 0 ∷ get_or ks 3 0 ∷ []) ≡ ks
first_rules [] h = refl
first_rules (a ∷ []) h = refl
first_rules (a ∷ b ∷ []) h = refl
first_rules (a ∷ b ∷ c ∷ []) h = refl
first_rules (a ∷ b ∷ c ∷ d ∷ []) h = refl
first_rules (a ∷ b ∷ c ∷ d ∷ e ∷ ks) h = absurd (omega arith)

-- where a shift or a goto leads
led : (m : Option ℕ) (to : StateNo) → goto_answer m ≡ Some to → m ≡ Some to.0
unfolding goto_answer
led None to e = let z : ◌≡◌ {A = ℕ} 0 1 = cc in absurd (omega arith)
led (Some n) to e = let q : state_no n ≡ to = cc in ap (λ (x : StateNo). Some x.0) q

shift_target : (m : Option ℕ) → shifts m ≡ true → goto_answer m ≡ Some (state_no (target m))
unfolding goto_answer
shift_target None e = let z : ◌≡◌ {A = ℕ} 0 1 = cc in absurd (omega arith)
shift_target (Some to) e = refl

action_within : (c : Counts) (a : ActionRecord) → action_right c a ≡ true → ActionWithin c (action_answer a)
unfolding action_right action_answer
action_within c a e =
    let more = both_right (both (ltb a.state c.states) (ltb a.class c.classes)) _ e in
    let named = both_left (both (shift_right c a.shift) (rules_below c a.rules)) _ more in
    let few : length a.rules ≤ 4 = leb-true _ 4 (both_left _ _ (both_right (both (shift_right c a.shift) (rules_below c a.rules)) _ more)) in
    record {
      target = λ to f. ltb-true to.0 c.states (rw (led a.shift to f) at (both_left (shift_right c a.shift) _ named));
      count = few;
      rules = λ i l. rw (four_rules a.rules i (omega arith)) (below_at c a.rules i (both_right (shift_right c a.shift) _ named) l);
    }

none_within : (c : Counts) → ActionWithin c (action_answer no_record)
unfolding action_answer goto_answer
none_within c = record { target = λ to e. let z : ◌≡◌ {A = ℕ} 0 1 = cc in absurd (omega arith); count = omega arith; rules = λ i l. absurd (omega arith) }

-- A goto.
goto_within : (c : Counts) (to : ℕ) → to < c.states → GotoWithin c (goto_answer (Some to))
unfolding goto_answer
goto_within c to h = record { target = λ x e. let q : state_no to ≡ x = cc in let f : to ≡ x.0 = ap (λ (n : StateNo). n.0) q in omega arith }

nothing_within : (c : Counts) → GotoWithin c (goto_answer None)
unfolding goto_answer
nothing_within c = record { target = λ x e. let z : ◌≡◌ {A = ℕ} 0 1 = cc in absurd (omega arith) }

-- A rule.
every_at : (c : Counts) (s : List ℕ) (n p i : ℕ) → every (rule_right c) (rules_from n s p) ≡ true → i < n → rule_right c (get_or (rules_from n s p) i no_rule) ≡ true
unfolding rules_from
every_at c s zero p i e h = absurd (omega arith)
every_at c s (suc n) p zero e h = both_left _ _ e
every_at c s (suc n) p (suc i) e h = every_at c s n (p + 17) i (both_right (rule_right c (rule_at s p)) _ e) (omega arith)

-- kinds: a test that holds of a kind above 0 has a pick between 1 and the length, and no kind is above 3
by_kind : (x y z a b d p : Bool) → (if x then both p a else if y then both p b else if z then both p d else false) ≡ true → p ≡ true
by_kind true y z a b d p e = both_left p a e
by_kind false true z a b d p e = both_left p b e
by_kind false false true a b d p e = both_left p d e
by_kind false false false a b d p e = let w : ◌≡◌ {A = ℕ} 0 1 = cc in absurd (omega arith)

kind_pick : (r : Rule) → kind_right r ≡ true → 0 < r.kind → picks r ≡ true
unfolding kind_right
kind_pick r e h = by_kind (eqb r.kind 1) (eqb r.kind 2) (eqb r.kind 3) _ _ _ (picks r) (rw (ne_eqb r.kind 0 (λ q. omega arith)) at e)

kind_top : (r : Rule) → kind_right r ≡ true → 3 < r.kind → ⊥
unfolding kind_right
kind_top r e h =
    let f : ◌≡◌ {A = Bool} false true = rw (ne_eqb r.kind 0 (λ q. omega arith), ne_eqb r.kind 1 (λ q. omega arith), ne_eqb r.kind 2 (λ q. omega arith), ne_eqb r.kind 3 (λ q. omega arith)) at e in
    let z : ◌≡◌ {A = ℕ} 0 1 = cc in omega arith

rule_within : (c : Counts) (r : Rule) → rule_right c r ≡ true → RuleWithin c r
unfolding rule_right picks
rule_within c r e =
    let f = both_right (ltb r.left c.nonterminals) _ e in
    let k : kind_right r ≡ true = both_right (leb r.len 15) _ f in
    let t : 3 < r.kind → ⊥ = kind_top r k in
    record {
      left = ltb-true _ c.nonterminals (both_left _ _ e);
      len = leb-true _ 15 (both_left _ _ f);
      kind = omega arith;
      some_pick = λ h. leb-true 1 r.pick (both_left (leb 1 r.pick) _ (kind_pick r k h));
      pick = λ h. leb-true r.pick r.len (both_right (leb 1 r.pick) _ (kind_pick r k h));
    }

-- Lookups in a checked table.
module _ (s : List ℕ) (ok : table_ok s ≡ true) where
  of_view : Belongs s (view_of s)
  of_view = record { is = refl; ok = ok }

  pub counts_found_within : CountsWithin (table_of s).counts
  unfolding frame_right table_of
  counts_found_within = counts_within (view_of s).counts (both_left (counts_right (view_of s).counts) _ (checked_frame s (view_of s) of_view))

  pub rule_found_within : (k : ℕ) → k < (table_of s).counts.rules → RuleWithin (table_of s).counts (rule_of (table_of s) k)
  unfolding rule_of table_of content_right
  rule_found_within k h =
      let v : View = view_of s in
      rule_within v.counts _ (every_at v.counts s v.counts.rules v.rules.at k (both_left _ _ (checked_content s v of_view)) h)

  pub action_found_within : (a b : ℕ) → ActionWithin (table_of s).counts (action_answer (action_of (table_of s) a b))
  unfolding action_of table_of actions_of field_right action_format
  action_found_within a b =
      let v : View = view_of s in
      find_holds (λ x. ActionWithin v.counts (action_answer x)) (λ x. is_pair a b x.state x.class) (action_right v.counts) (λ x. x) no_record
      (none_within v.counts) (action_within v.counts) (actions_of s v) (all_right (action_format s v.counts) v.actions.end 0 _ (checked_actions s v of_view).right)

  pub goto_found_within : (a b : ℕ) → GotoWithin (table_of s).counts (goto_answer (goto_of (table_of s) a b))
  unfolding goto_of table_of gotos_of field_right goto_format goto_right
  goto_found_within a b =
      let v : View = view_of s in let c : Counts = v.counts in
      find_holds (λ x. GotoWithin c (goto_answer x)) (λ x. is_pair a b x.state x.nonterminal) (goto_right c) (λ x. Some x.target) None
      (nothing_within c) (λ g e. goto_within c g.target (ltb-true _ c.states (both_right (ltb g.nonterminal c.nonterminals) _ (both_right (ltb g.state c.states) _ e)))) (gotos_of s v) (all_right (goto_format s c) v.gotos.end 0 _ (checked_gotos s v of_view).right)

  -- state 0 shifts at class 2: to the start state, which is a state
  pub start_found : (a : Action) → a ≡ action_answer (action_of (table_of s) 0 2) → a.shift ≡ Some (state_no (start_state (table_of s)))
  unfolding action_answer start_state table_ok
  start_found a e =
      ap (λ (x : Action). x.shift) e
      ∙ shift_target (action_of (table_of s) 0 2).shift (both_right (content_right s (view_of s)) _ (both_right (frame_right s (view_of s)) _ ok))

  pub start_state_below : start_state (table_of s) < (table_of s).counts.states
  start_state_below = (action_found_within 0 2).target (state_no (start_state (table_of s))) (start_found _ refl)

-- The rules of an answer, as many as its count, are the record's.
pub answer_rules : (x : ActionRecord) (a : Action) → a ≡ action_answer x → a.count ≤ 4 → take a.count a.rules ≡ x.rules
unfolding action_answer
answer_rules x a e h =
    let few : length x.rules ≤ 4 = subst (λ (b : Action). b.count ≤ 4) e h in
    rw e (first_rules x.rules few)
