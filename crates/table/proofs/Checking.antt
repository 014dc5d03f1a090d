-- Laws of the check's ways out, of what it gives the lookups, and of what a caller learns from it. Assumes nothing.
use mathlib.Core.Path.{◌≡◌, refl, ap, sym, subst, ◌∙◌}
use mathlib.Core.Bool.{Bool, true, false}
use mathlib.Core.List.{List}
use Prim.Native.Nat.{ℕ, ◌+◌, ◌*◌, ◌≤◌}
use native.Mathlib.Omega.{arith}
use lib.Dec.{leb, eqb}
use lib.ListN.{length, get_or}
use borrow.Author.Tests.{leb-true, eqb-true}
use Rattle.meaning.specs.Basics.{both, every}
use Rattle.std.specs.Prelude.{if◌then◌else◌}
use Rattle.meaning.specs.Bytes.{byte_at, u16_at}
use Rattle.meaning.specs.TableFile.{Table, field_at, view_of, rules_from, no_rule, no_record, actions_of, gotos_of, table_of, rule_of, action_of, goto_of}
use Rattle.meaning.specs.TableRight.{counts_right, head_at, front_right, middle_right, back_right, shape_right, frame_right, rule_right, action_format, goto_format, field_right, content_right, shifts, table_ok}
use Rattle.meaning.specs.declared.Rule.{Rule}
use Rattle.meaning.specs.declared.StateNo.{StateNo}
use Rattle.meaning.specs.declared.View.{View}
use Rattle.std.proofs.Common.{Option, Some, None}
use Rattle.std.specs.Option.{is_some}
use Rattle.table.specs.Belonging.{Belongs}
use Rattle.table.specs.Answers.{check_of, checked_of, action_answer, goto_answer}
use Rattle.table.specs.Records.{Framed, Sound, seek, start_in}
use Rattle.table.specs.declared.Action.{Action}
use Rattle.meaning.proofs.Booleans.{both_left, both_right}

-- what find_action and find_goto give
abbrev pub action_in : List ℕ → View → (state class : ℕ) → Action
action_in s v a b = action_answer (seek (action_format s v.counts) (λ x. x) no_record a b v.actions.end v.actions.at)

abbrev pub goto_in : List ℕ → View → (state nonterminal : ℕ) → Option StateNo
goto_in s v a b = goto_answer (seek (goto_format s v.counts) (λ g. Some g.target) None a b v.gotos.end v.gotos.at)

action_in_lem : (s : List ℕ) (a b : ℕ) → action_in s (view_of s) a b ≡ action_answer (action_of (table_of s) a b)
unfolding seek action_format action_of table_of actions_of
action_in_lem s a b = refl

goto_in_lem : (s : List ℕ) (a b : ℕ) → goto_in s (view_of s) a b ≡ goto_answer (goto_of (table_of s) a b)
unfolding seek goto_format goto_of table_of gotos_of
goto_in_lem s a b = refl

-- The fields lie in the file.
framed_view : (s : List ℕ) → frame_right s (view_of s) ≡ true → Framed s (view_of s)
unfolding frame_right shape_right front_right back_right view_of field_at
framed_view s w =
    let t = both_right (counts_right (view_of s).counts) _ w in
    let front = both_left (front_right s (view_of s).counts.rules) _ t in
    let back = both_right (middle_right s (view_of s).rules.end (view_of s).actions.end) _ (both_right (front_right s (view_of s).counts.rules) _ t) in
    let small : length s ≤ 65536 = leb-true (length s) 65536 (both_left _ _ front) in
    let second = both_right (head_at s 0 1 8) _ (both_right (leb (length s) 65536) _ front) in
    let rules : u16_at s 12 ≡ 17 * (view_of s).counts.rules = eqb-true (u16_at s 12) _ (both_right (eqb (byte_at s 11) 2) _ second) in
    let tail = both_right (head_at s (view_of s).gotos.end 5 1) _ back in
    let all : length s ≡ (view_of s).gotos.end + 4 = eqb-true (length s) _ (both_right (leb (byte_at s ((view_of s).gotos.end + 3)) 1) _ tail) in
    record { rules = omega arith; actions = omega arith; gotos = omega arith; small = small }

pub framed : (s : List ℕ) (v : View) (b : Bool) → v ≡ view_of s → b ≡ frame_right s v → b ≡ true → Framed s v
framed s v b e f g = subst (λ (w : View). Framed s w) (sym e) (framed_view s (sym (ap (frame_right s) e) ∙ sym f ∙ g))

pub actions_sound : (s : List ℕ) (v : View) (b : Bool) → Framed s v → b ≡ content_right s v → b ≡ true → Sound (action_format s v.counts) s v.actions.at v.actions.end
unfolding content_right
actions_sound s v b l f g =
    record {
      ends = l.actions;
      small = omega (arith, l.actions, l.small);
      right = both_left (field_right (action_format s v.counts) v.actions.end 0 v.actions.at) _ (both_right (every (rule_right v.counts) (rules_from v.counts.rules s v.rules.at)) _ (sym f ∙ g));
    }

pub gotos_sound : (s : List ℕ) (v : View) (b : Bool) → Framed s v → b ≡ content_right s v → b ≡ true → Sound (goto_format s v.counts) s v.gotos.at v.gotos.end
unfolding content_right
gotos_sound s v b l f g =
    record {
      ends = l.gotos;
      small = omega (arith, l.gotos, l.small);
      right = both_right (field_right (action_format s v.counts) v.actions.end 0 v.actions.at) _ (both_right (every (rule_right v.counts) (rules_from v.counts.rules s v.rules.at)) _ (sym f ∙ g));
    }

-- What a checked table gives its lookups.
module _ (s : List ℕ) (v : View) (B : Belongs s v) where
  pub checked_frame : frame_right s v ≡ true
  unfolding table_ok
  checked_frame = rw B.is (both_left (frame_right s (view_of s)) _ B.ok)

  pub checked_content : content_right s v ≡ true
  unfolding table_ok
  checked_content = rw B.is (both_left (content_right s (view_of s)) _ (both_right (frame_right s (view_of s)) _ B.ok))

  pub checked_framed : Framed s v
  checked_framed = framed s v _ B.is refl checked_frame

  pub checked_actions : Sound (action_format s v.counts) s v.actions.at v.actions.end
  checked_actions = actions_sound s v _ checked_framed refl checked_content

  pub checked_gotos : Sound (goto_format s v.counts) s v.gotos.at v.gotos.end
  checked_gotos = gotos_sound s v _ checked_framed refl checked_content

  -- the table that the bytes say
  module _ (t : Table) (of : table_of s ≡ t) where
    pub checked_counts : v.counts ≡ t.counts
    unfolding table_of
    checked_counts = ap (λ (w : View). w.counts) B.is ∙ ap (λ (x : Table). x.counts) of

    pub checked_recovers : v.recovers ≡ t.recovers
    unfolding table_of
    checked_recovers = ap (λ (w : View). w.recovers) B.is ∙ ap (λ (x : Table). x.recovers) of

    pub checked_action : (a b : ℕ) (r : Action) → r ≡ action_in s v a b → r ≡ action_answer (action_of t a b)
    checked_action a b r e = e ∙ ap (λ w. action_in s w a b) B.is ∙ action_in_lem s a b ∙ ap (λ x. action_answer (action_of x a b)) of

    pub checked_goto : (a b : ℕ) (r : Option StateNo) → r ≡ goto_in s v a b → r ≡ goto_answer (goto_of t a b)
    checked_goto a b r e = e ∙ ap (λ w. goto_in s w a b) B.is ∙ goto_in_lem s a b ∙ ap (λ x. goto_answer (goto_of x a b)) of

    pub checked_rule : (k : ℕ) (r : Rule) → r ≡ get_or (rules_from v.counts.rules s v.rules.at) k no_rule → r ≡ rule_of t k
    unfolding rule_of table_of
    checked_rule k r e = e ∙ ap (λ w. get_or (rules_from w.counts.rules s w.rules.at) k no_rule) B.is ∙ ap (λ x. rule_of x k) of

-- The check, by its three tests.
shifts_some : (m : Option ℕ) → shifts m ≡ is_some (goto_answer m)
unfolding goto_answer
shifts_some None = refl
shifts_some (Some to) = refl

started : (s : List ℕ) → shifts (action_of (table_of s) 0 2).shift ≡ start_in s (view_of s)
unfolding start_in action_answer
started s =
    shifts_some (action_of (table_of s) 0 2).shift
    ∙ sym (ap (λ (x : Action). is_some x.shift) (action_in_lem s 0 2))

pub check_is : (s : List ℕ) (v : View) → v ≡ view_of s → (if both (frame_right s v) (both (content_right s v) (start_in s v)) then Some v else None) ≡ check_of s
unfolding check_of table_ok
check_is s v e = rw (e, started s)

-- What a caller learns from the check.
some_if : {A : Type 0} (b : Bool) (x y : A) → Some x ≡ (if b then Some y else None) → (x ≡ y) × (b ≡ true)
some_if true x y e = (cc, refl)
some_if false x y e = let z : ◌≡◌ {A = ℕ} 0 1 = cc in absurd (omega arith)

none_if : {A : Type 0} (b : Bool) (y : A) → None ≡ (if b then Some y else None) → b ≡ false
none_if false y e = refl
none_if true y e = let z : ◌≡◌ {A = ℕ} 0 1 = cc in absurd (omega arith)

pub belongs_of : (s : List ℕ) (v : View) (r : Option View) → r ≡ check_of s → r ≡ Some v → Belongs s v
unfolding check_of
belongs_of s v r e f = let p = some_if (table_ok s) v (view_of s) (sym f ∙ e) in record { is = p.0; ok = p.1 }

pub checked_right : (s : List ℕ) (v : View) → Belongs s v → Some (table_of s) ≡ checked_of s
unfolding checked_of
checked_right s v B = rw B.ok

pub checked_wrong : (s : List ℕ) → table_ok s ≡ false → None ≡ checked_of s
unfolding checked_of
checked_wrong s e = rw e

-- the same of the check that gives the whole table
pub decoded_of : (s : List ℕ) (t : Table) (r : Option Table) → r ≡ checked_of s → r ≡ Some t → t ≡ table_of s
unfolding checked_of
decoded_of s t r e f = (some_if (table_ok s) t (table_of s) (sym f ∙ e)).0

pub right_of : (s : List ℕ) (t : Table) (r : Option Table) → r ≡ checked_of s → r ≡ Some t → table_ok s ≡ true
unfolding checked_of
right_of s t r e f = (some_if (table_ok s) t (table_of s) (sym f ∙ e)).1

pub not_right_of : (s : List ℕ) (r : Option Table) → r ≡ checked_of s → r ≡ None → table_ok s ≡ false
unfolding checked_of
not_right_of s r e f = none_if (table_ok s) (table_of s) (sym f ∙ e)

pub wrong_of : (s : List ℕ) (r : Option View) → r ≡ check_of s → r ≡ None → table_ok s ≡ false
unfolding check_of
wrong_of s r e f = none_if (table_ok s) (view_of s) (sym f ∙ e)
