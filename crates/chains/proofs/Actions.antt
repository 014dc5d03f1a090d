-- Laws of a state's action: its shift and its rules are those of meaning's record. Assumes nothing.
use Rattle.std.proofs.Common.{ℕ, ◌+◌, ◌<◌, ◌≤◌, ◌≡◌, refl, ap, ◌∙◌, [], ◌∷◌, length, get_or, take, arith, add-one, drop-cons, length-take, drop_of_length-le}
use Rattle.std.specs.Prelude.{is_some, Option, None, Some}
use Rattle.meaning.specs.TableFile.{Table, action_of}
use Rattle.meaning.specs.TableRight.{shifts}
use Rattle.table.specs.Answers.{action_answer, goto_answer}
use Rattle.table.specs.declared.Action.{Action}
use Rattle.table.proofs.Bounds.{answer_rules}
use Rattle.chains.specs.Actions.{number_of, shift_of, rules_from}

-- the rule numbered i of an action
abbrev pub rule_at : Action → (i : ℕ) → ℕ
rule_at a i = get_or (take a.count a.rules) i 0

pub no_rules : (a : Action) (i : ℕ) → a.count ≤ i → rules_from a i ≡ []
unfolding rules_from
no_rules a i le = drop_of_length-le (take a.count a.rules) {i = i} (simp length-take (omega arith))

pub more_rules : (a : Action) (i : ℕ) → i < length (take a.count a.rules) → rules_from a i ≡ rule_at a i ∷ rules_from a (i + 1)
unfolding rules_from
more_rules a i lt = drop-cons (take a.count a.rules) i 0 lt ∙ rw (add-one i) refl

-- where a shift or a goto leads, back from the struct
pub number_back : (m : Option ℕ) → number_of (goto_answer m) ≡ m
unfolding goto_answer
number_back None = refl
number_back (Some to) = refl

pub shifts_back : (m : Option ℕ) → shifts m ≡ is_some (goto_answer m)
unfolding goto_answer
shifts_back None = refl
shifts_back (Some to) = refl

-- What a lookup gives.
module _ (t : Table) (state class : ℕ) (a : Action) (is : a ≡ action_answer (action_of t state class)) where
  pub found_shift : shift_of a ≡ (action_of t state class).shift
  unfolding action_answer
  found_shift = ap shift_of is ∙ number_back (action_of t state class).shift

  pub found_rules : a.count ≤ 4 → rules_from a 0 ≡ (action_of t state class).rules
  unfolding rules_from
  found_rules = answer_rules (action_of t state class) a is
