-- The table file: what its bytes say. Which bytes are right stands in TableRight.
use Rattle.std.specs.Prelude.{ℕ, zero, suc, ◌+◌, ◌-◌, ◌*◌, Bool, List, [], ◌∷◌, map, ltb, eqb, get_or, Option, None, Some}
use Rattle.meaning.specs.Basics.{both, find}
use Rattle.std.specs.Prelude.{if◌then◌else◌}
use Rattle.meaning.specs.Bytes.{byte_at, u16_at, u32_at}
use Rattle.meaning.specs.declared.Counts.{Counts}
use Rattle.meaning.specs.declared.Field.{Field}
use Rattle.meaning.specs.declared.View.{View}
use Rattle.meaning.specs.declared.Rule.{Rule}
use Rattle.meaning.specs.declared.StateNo.{StateNo}

-- Where things stand.

-- the field whose tag is at i: one byte tag, two bytes length, data
unfoldable pub field_at : List ℕ → ℕ → Field
field_at s i = record { at = i + 3; end = i + 3 + u16_at s (i + 1) }

-- field 1: its tag is at 0, its data are these four numbers
unfoldable pub counts_of : List ℕ → Counts
counts_of s = record { states = u16_at s 3; classes = u16_at s 5; nonterminals = u16_at s 7; rules = u16_at s 9 }

-- fields 2, 3 and 4 stand one after the other behind field 1; field 5 stands behind them, and its byte is 1 if the error class is used
unfoldable pub view_of : List ℕ → View
view_of s =
    let rules = field_at s 11 in
    let actions = field_at s rules.end in
    let gotos = field_at s actions.end in
    record { counts = counts_of s; rules = rules; actions = actions; gotos = gotos; recovers = eqb (byte_at s (gotos.end + 3)) 1 }

-- where the records begin that fill the bytes from at to e, by the size of each; the fuel is the number of these bytes
unfoldable pub places : (ℕ → ℕ) → (fuel : ℕ) → (at e : ℕ) → List ℕ
places size zero at e = []
places size (suc fuel) at e = if ltb at e then at ∷ places size fuel (at + size at) e else []

-- Records.

-- field 2: 17 bytes for each rule
unfoldable pub rule_at : List ℕ → ℕ → Rule
rule_at s p =
    record { left = u16_at s p; len = byte_at s (p + 2); kind = byte_at s (p + 3); pick = byte_at s (p + 4); mark = u32_at s (p + 5); low = u32_at s (p + 9); high = u32_at s (p + 13) }

unfoldable pub rules_from : (n : ℕ) → List ℕ → ℕ → List Rule
rules_from zero s p = []
rules_from (suc n) s p = rule_at s p ∷ rules_from n s (p + 17)

-- field 3: at a state and a class, the state to shift to, if any, and the rules to reduce by, in their order
pub record ActionRecord : Type 0 where
  pub state : ℕ
  pub class : ℕ
  pub shift : Option ℕ
  pub rules : List ℕ

unfoldable pub shift_to : ℕ → Option ℕ
shift_to target = if eqb target 65535 then None else Some target

unfoldable pub numbers : (n : ℕ) → List ℕ → ℕ → List ℕ
numbers zero s p = []
numbers (suc n) s p = u16_at s p ∷ numbers n s (p + 2)

unfoldable pub action_at : List ℕ → ℕ → ActionRecord
action_at s p = record { state = u16_at s p; class = u16_at s (p + 2); shift = shift_to (u16_at s (p + 4)); rules = numbers (byte_at s (p + 6)) s (p + 7) }

abbrev pub action_size : List ℕ → ℕ → ℕ
action_size s p = 7 + 2 * byte_at s (p + 6)

-- field 4: where a state goes on after a reduction to a nonterminal
pub record GotoRecord : Type 0 where
  pub state : ℕ
  pub nonterminal : ℕ
  pub target : ℕ

unfoldable pub goto_at : List ℕ → ℕ → GotoRecord
goto_at s p = record { state = u16_at s p; nonterminal = u16_at s (p + 2); target = u16_at s (p + 4) }

abbrev pub goto_size : ℕ → ℕ
goto_size p = 6

-- The decoded table.

pub record Table : Type 0 where
  pub counts : Counts
  pub rules : List Rule
  pub actions : List ActionRecord
  pub gotos : List GotoRecord
  -- whether the error class is used
  pub recovers : Bool

unfoldable pub actions_of : List ℕ → View → List ActionRecord
actions_of s v = map (action_at s) (places (action_size s) (v.actions.end - v.actions.at) v.actions.at v.actions.end)

unfoldable pub gotos_of : List ℕ → View → List GotoRecord
gotos_of s v = map (goto_at s) (places goto_size (v.gotos.end - v.gotos.at) v.gotos.at v.gotos.end)

unfoldable pub table_of : List ℕ → Table
table_of s =
    record {
      counts = (view_of s).counts;
      rules = rules_from (view_of s).counts.rules s (view_of s).rules.at;
      actions = actions_of s (view_of s);
      gotos = gotos_of s (view_of s);
      recovers = (view_of s).recovers;
    }

-- Classes: 0 is end, 1 error, 2 start, the rest are terms.

abbrev pub end_class : ℕ
end_class = 0

abbrev pub error_class : ℕ
error_class = 1

abbrev pub start_class : ℕ
start_class = 2

-- the first class of a term
abbrev pub first_term : ℕ
first_term = 3

-- A state number as structs hold it.
abbrev pub state_no : ℕ → StateNo
state_no n = record { 0 = n }

-- Lookups. Each has an answer for every number; what is not in the table has no shift, no rule and no goto.

-- whether the pair (x, y) is (a, b)
abbrev pub is_pair : (a b x y : ℕ) → Bool
is_pair a b x y = both (eqb x a) (eqb y b)

abbrev pub no_record : ActionRecord
no_record = record { state = 0; class = 0; shift = None; rules = [] }

unfoldable pub action_of : Table → (state class : ℕ) → ActionRecord
action_of t state class = find (λ a. is_pair state class a.state a.class) (λ a. a) no_record t.actions

unfoldable pub goto_of : Table → (state nonterminal : ℕ) → Option ℕ
goto_of t state nonterminal = find (λ g. is_pair state nonterminal g.state g.nonterminal) (λ g. Some g.target) None t.gotos

abbrev pub no_rule : Rule
no_rule = record { left = 0; len = 0; kind = 0; pick = 0; mark = 0; low = 0; high = 0 }

unfoldable pub rule_of : Table → ℕ → Rule
rule_of t k = get_or t.rules k no_rule

-- where a shift leads; 0 where there is none
abbrev pub target : Option ℕ → ℕ
target None = 0
target (Some to) = to

-- the start shift's state
unfoldable pub start_state : Table → ℕ
start_state t = target (action_of t 0 start_class).shift
