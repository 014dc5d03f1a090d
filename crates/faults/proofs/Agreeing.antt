-- A rule is named exactly if the table file is wrong: the diagnosis and `table_ok` agree, part by part. Assumes nothing.
use mathlib.Core.Path.{◌≡◌, refl, ap, sym, ◌∙◌}
use mathlib.Core.Bool.{Bool, true, false}
use mathlib.Core.List.{List, [], ◌∷◌, map}
use Prim.Native.Nat.{ℕ, zero, suc, ◌+◌, ◌-◌, ◌*◌}
use lib.Dec.{ltb, leb, eqb}
use lib.ListN.{length}
use Rattle.meaning.specs.Basics.{both, either, every}
use Rattle.std.specs.Prelude.{if◌then◌else◌}
use Rattle.meaning.specs.Bytes.{byte_at, u16_at}
use Rattle.meaning.specs.Limits.{max_bytes}
use Rattle.meaning.specs.TableFile.{places, numbers, rules_from, action_at, goto_at, shift_to, view_of, table_of, action_of, start_class}
use Rattle.meaning.specs.TableRight.{counts_right, head_at, front_right, middle_right, back_right, shape_right, frame_right, picks, kind_right, rule_right, shifts, shift_right, rules_below, action_right, goto_right, Format, action_format, goto_format, key_of, fits, ascends, records_right, field_right, content_right, table_ok}
use Rattle.meaning.specs.declared.Counts.{Counts}
use Rattle.meaning.specs.declared.Rule.{Rule}
use Rattle.meaning.specs.declared.View.{View}
use Rattle.meaning.proofs.Booleans.{no_false, regroup}
use Rattle.table.specs.Answers.{check_of}
use Rattle.table.specs.Records.{Framed}
use Rattle.table.proofs.ActionLaws.{length_numbers, some_number}
use Rattle.table.proofs.Checking.{belongs_of, wrong_of, framed as framed_by}
use Rattle.std.specs.Result.{is_ok}
use Rattle.std.proofs.Common.{Option, Some, None, Ok, Err}
use Rattle.faults.specs.Verdicts.{Verdict, first, tested, framed, one_of, no_start}
use Rattle.faults.specs.Frame.{front_fault, frame_fault}
use Rattle.faults.specs.Rules.{kind_fault, rule_fault, rules_fault}
use Rattle.faults.specs.Records.{target_fault, reductions_fault, pair_fault, action_fault, goto_fault, in_field, records_fault, field_fault, actions_fault, gotos_fault}
use Rattle.faults.specs.Diagnosis.{faults_over, fault_of, Diagnosed}
use Rattle.faults.specs.declared.Fault.{Fault}
use Rattle.faults.specs.declared.Place.{Place}
use Rattle.faults.specs.declared.Fault.TheVariants.{NoStart}

-- One test, and two.
ok_first : (a b : Verdict) → is_ok (first a b) ≡ both (is_ok a) (is_ok b)
ok_first (Ok u) b = refl
ok_first (Err e) b = refl

ok_tested : (b : Bool) (x : Fault) (y : Place) (w : ℕ) → is_ok (tested b x y w) ≡ b
ok_tested true x y w = refl
ok_tested false x y w = refl

-- The frame: the check has the counts first, the diagnosis has them where they stand.
ordered : (l h c k t u b : Bool) → both (both l (both h (both c k))) (both t (both u b)) ≡ both c (both (both l (both h k)) (both (both t u) b))
ordered true true true true true u b = refl
ordered true true true true false u b = refl
ordered true true true false t u b = refl
ordered true true false k t u b = refl
ordered true false true k t u b = refl
ordered true false false k t u b = refl
ordered false h true k t u b = refl
ordered false h false k t u b = refl

frame_agrees : (s : List ℕ) (v : View) → is_ok (frame_fault s v) ≡ frame_right s v
unfolding frame_fault front_fault frame_right shape_right front_right middle_right back_right counts_right
frame_agrees s v = simp (ok_first, ok_tested)
    (ordered (leb (length s) max_bytes) (head_at s 0 1 8) (counts_right v.counts) (head_at s 11 2 (17 * v.counts.rules)) (eqb (byte_at s v.rules.end) 3) (eqb (byte_at s v.actions.end) 4) (back_right s v.gotos.end))

-- Rules.
chosen : (b : Bool) (x y : Verdict) (t u : Bool) → is_ok x ≡ t → is_ok y ≡ u → is_ok (if b then x else y) ≡ (if b then t else u)
chosen true x y t u e f = e
chosen false x y t u e f = f

kind_agrees : (r : Rule) (place : Place) (p : ℕ) → is_ok (kind_fault r place p) ≡ kind_right r
unfolding kind_right picks
kind_agrees r place p =
    chosen (eqb r.kind 0) _ _ _ _ (simp (ok_first, ok_tested))
    (chosen (eqb r.kind 1) _ _ _ _ (simp (ok_first, ok_tested))
    (chosen (eqb r.kind 2) _ _ _ _ (simp (ok_first, ok_tested)) (chosen (eqb r.kind 3) _ _ _ _ (simp (ok_first, ok_tested)) refl)))

rule_agrees : (c : Counts) (r : Rule) (place : Place) (p : ℕ) → is_ok (rule_fault c r place p) ≡ rule_right c r
unfolding rule_fault rule_right
rule_agrees c r place p = simp (ok_first, ok_tested, kind_agrees)

rules_agree : (c : Counts) (n : ℕ) (s : List ℕ) (i p : ℕ) → is_ok (rules_fault c n s i p) ≡ every (rule_right c) (rules_from n s p)
unfolding rules_fault rules_from
rules_agree c zero s i p = refl
rules_agree c (suc n) s i p = simp (ok_first, rule_agrees, rules_agree c n s (i + 1) (p + 17))

-- Action records.
reductions_agree : (m n : ℕ) (s : List ℕ) (place : Place) (p : ℕ) → is_ok (reductions_fault m n s place p) ≡ every (λ k. ltb k m) (numbers n s p)
unfolding reductions_fault numbers
reductions_agree m zero s place p = refl
reductions_agree m (suc n) s place p = simp (ok_first, ok_tested, reductions_agree m n s place (p + 2))

pair_agrees : (s : List ℕ) (c : Counts) (place : Place) (p : ℕ) → is_ok (pair_fault s c place p) ≡ both (ltb (u16_at s p) c.states) (ltb (u16_at s (p + 2)) c.classes)
unfolding pair_fault
pair_agrees s c place p = simp (ok_first, ok_tested)

target_agrees : (to states count : ℕ) (place : Place) (p : ℕ) → is_ok (target_fault to states count place p) ≡ (if eqb to 65535 then ltb 0 count else ltb to states)
unfolding target_fault
target_agrees to states count place p = chosen (eqb to 65535) _ _ _ _ (ok_tested _ _ _ _) (ok_tested _ _ _ _)

without : (some few below : Bool) → both some (both few below) ≡ both below (both few some)
without true true true = refl
without true true false = refl
without true false true = refl
without true false false = refl
without false true true = refl
without false true false = refl
without false false true = refl
without false false false = refl

within : (known few below : Bool) → both known (both few below) ≡ both (both known below) (both few true)
within true true true = refl
within true true false = refl
within true false true = refl
within true false false = refl
within false few below = refl

shift_agrees : (c : Counts) (to : ℕ) (e some few below : Bool) →
    both (if e then some else ltb to c.states) (both few below) ≡
    both (both (shift_right c (if e then None else Some to)) below) (both few (either (shifts (if e then None else Some to)) some))
shift_agrees c to true some few below = without some few below
shift_agrees c to false some few below = within (ltb to c.states) few below

action_agrees : (s : List ℕ) (c : Counts) (place : Place) (p : ℕ) → is_ok (action_fault s c place p) ≡ action_right c (action_at s p)
unfolding action_fault action_right action_at rules_below shift_to
action_agrees s c place p =
    simp (ok_first, ok_tested, pair_agrees, target_agrees, reductions_agree, length_numbers, some_number)
    (ap (both (both (ltb (u16_at s p) c.states) (ltb (u16_at s (p + 2)) c.classes))) (shift_agrees c (u16_at s (p + 4)) (eqb (u16_at s (p + 4)) 65535) (ltb 0 (byte_at s (p + 6))) (leb (byte_at s (p + 6)) 4) (every (λ k. ltb k c.rules) (numbers (byte_at s (p + 6)) s (p + 7)))))

goto_agrees : (s : List ℕ) (c : Counts) (place : Place) (p : ℕ) → is_ok (goto_fault s c place p) ≡ goto_right c (goto_at s p)
unfolding goto_fault goto_right goto_at
goto_agrees s c place p = simp (ok_first, ok_tested)

-- The records of a field.
module _ {X : Type 0} (F : Format X) (field : ℕ) (one : Place → ℕ → Verdict) (so : (place : Place) (p : ℕ) → is_ok (one place p) ≡ F.right (F.decode p)) (e : ℕ) where
  records_agree : (low i : ℕ) (ps : List ℕ) → is_ok (records_fault F field one e low i ps) ≡ records_right F e low ps
  unfolding records_fault records_right in_field ascends
  records_agree low i [] = refl
  records_agree low i (p ∷ ps) =
      simp (ok_first, ok_tested, so (one_of field i) p, records_agree (key_of F (F.decode p) + 1) (i + 1) ps)
      (sym (regroup (fits F e p) (F.right (F.decode p)) (leb low (key_of F (F.decode p))) (every (fits F e) ps) (every F.right (map F.decode ps)) (ascends (key_of F (F.decode p) + 1) (map (key_of F) (map F.decode ps)))))

  field_agrees : (low i at : ℕ) → is_ok (field_fault F field one e low i at) ≡ field_right F e low at
  unfolding field_fault field_right
  field_agrees low i at = records_agree low i (places F.size (e - at) at e)

actions_agree : (s : List ℕ) (c : Counts) (e low i at : ℕ) → is_ok (field_fault (action_format s c) 3 (action_fault s c) e low i at) ≡ field_right (action_format s c) e low at
unfolding action_format
actions_agree s c e = field_agrees (action_format s c) 3 (action_fault s c) (action_agrees s c) e

gotos_agree : (s : List ℕ) (c : Counts) (e low i at : ℕ) → is_ok (field_fault (goto_format s c) 4 (goto_fault s c) e low i at) ≡ field_right (goto_format s c) e low at
unfolding goto_format
gotos_agree s c e = field_agrees (goto_format s c) 4 (goto_fault s c) (goto_agrees s c) e

-- The whole.
grouped : (f r a g t : Bool) → both f (both r (both a (both g t))) ≡ both f (both (both r (both a g)) t)
grouped false r a g t = refl
grouped true false a g t = refl
grouped true true false g t = refl
grouped true true true g t = refl

pub faults_agree : (s : List ℕ) → is_ok (fault_of s) ≡ table_ok s
unfolding fault_of faults_over table_ok content_right
faults_agree s = simp (ok_first, ok_tested, frame_agrees, rules_agree, actions_agree, gotos_agree)
    (grouped (frame_right s (view_of s)) (every (rule_right (view_of s).counts) (rules_from (view_of s).counts.rules s (view_of s).rules.at))
    (field_right (action_format s (view_of s).counts) (view_of s).actions.end 0 (view_of s).actions.at)
    (field_right (goto_format s (view_of s).counts) (view_of s).gotos.end 0 (view_of s).gotos.at) (shifts (action_of (table_of s) 0 start_class).shift))

-- A diagnosis that names nothing, and one whose last test does not matter.
right_is : (v : Verdict) → is_ok v ≡ true → Ok tt ≡ v
right_is (Ok u) e = refl
right_is (Err x) e = no_false e

wrong_last : (f r a g w : Verdict) → is_ok (first f (first r (first a (first g (Ok tt))))) ≡ false →
    first f (first r (first a (first g w))) ≡ first f (first r (first a (first g (Ok tt))))
wrong_last (Err x) r a g w e = refl
wrong_last (Ok u) (Err x) a g w e = refl
wrong_last (Ok u) (Ok _) (Err x) g w e = refl
wrong_last (Ok u) (Ok _) (Ok _) (Err x) w e = refl
wrong_last (Ok u) (Ok _) (Ok _) (Ok _) w e = no_false (sym e)

start_last : (s : List ℕ) (v : View) (b : Bool) → is_ok (faults_over s v (framed b NoStart 3 v.actions.at)) ≡ false →
    faults_over s v (no_start v) ≡ faults_over s v (framed b NoStart 3 v.actions.at)
unfolding faults_over
start_last s v false e = refl
start_last s v true e =
    wrong_last (frame_fault s v) (rules_fault v.counts v.counts.rules s 0 v.rules.at) (actions_fault s v.counts v.actions.end 0 0 v.actions.at)
    (gotos_fault s v.counts v.gotos.end 0 0 v.gotos.at) (no_start v) e

-- The fields lie in the file where the frame breaks no rule.
pub frame_said : (s : List ℕ) (v : View) (r : Verdict) (u : Unit {0}) → v ≡ view_of s → r ≡ frame_fault s v → r ≡ Ok u → Framed s v
frame_said s v r u e f g = framed_by s v (frame_right s v) e refl (sym (frame_agrees s v) ∙ ap is_ok (sym f ∙ g))

-- The two ways out of the diagnosis.
pub diagnosed_right : (s : List ℕ) (v : View) (r : Option View) → r ≡ check_of s → r ≡ Some v → Diagnosed s (Ok tt)
diagnosed_right s v r e f =
    let ok = (belongs_of s v r e f).ok in
    record { names = right_is (fault_of s) (faults_agree s ∙ ok); agrees = sym ok }

pub diagnosed_wrong : (s : List ℕ) (r : Option View) (x : Verdict) → r ≡ check_of s → r ≡ None → x ≡ faults_over s (view_of s) (no_start (view_of s)) → Diagnosed s x
unfolding fault_of
diagnosed_wrong s r x e f g =
    let bad = wrong_of s r e f in
    let named : x ≡ fault_of s = g ∙ start_last s (view_of s) (shifts (action_of (table_of s) 0 start_class).shift) (faults_agree s ∙ bad) in
    record { names = named; agrees = ap is_ok named ∙ faults_agree s }
