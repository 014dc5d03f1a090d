-- When a table file is right: `table_ok` has every rule of the section. Wrong is answer 2.
use Rattle.std.specs.Prelude.{ℕ, ◌+◌, ◌-◌, ◌*◌, ◌<◌, Bool, true, false, not, List, [], ◌∷◌, map, ltb, leb, eqb, length, Option, None, Some}
use Rattle.std.proofs.Common.{arith}
use Rattle.meaning.specs.Basics.{both, either, is_nil, every}
use Rattle.std.specs.Prelude.{if◌then◌else◌}
use Rattle.meaning.specs.Bytes.{byte_at, u16_at}
use Rattle.meaning.specs.Limits.{max_states, max_classes, max_nonterminals, max_rules, max_bytes}
use Rattle.meaning.specs.TableFile.{view_of, places, rules_from, ActionRecord, GotoRecord, action_at, action_size, goto_at, goto_size, table_of, action_of, start_class}
use Rattle.meaning.specs.declared.Counts.{Counts}
use Rattle.meaning.specs.declared.View.{View}
use Rattle.meaning.specs.declared.Rule.{Rule}

-- The counts: at most the limits, at least 4 classes, at least one state and one nonterminal.
unfoldable pub counts_right : Counts → Bool
counts_right c =
    both (both (leb 1 c.states) (leb c.states max_states))
    (both (both (leb 4 c.classes) (leb c.classes max_classes))
    (both (both (leb 1 c.nonterminals) (leb c.nonterminals max_nonterminals)) (leb c.rules max_rules)))

-- The five fields, in order, each once, with nothing behind them. Field 1 has 8 bytes, field 2 has 17 for each rule, field 5 has one, at most 1.

-- a tag and a length
abbrev pub head_at : List ℕ → (i tag len : ℕ) → Bool
head_at s i tag len = both (eqb (byte_at s i) tag) (eqb (u16_at s (i + 1)) len)

unfoldable pub front_right : List ℕ → (rules : ℕ) → Bool
front_right s rules = both (leb (length s) max_bytes) (both (head_at s 0 1 8) (head_at s 11 2 (17 * rules)))

unfoldable pub middle_right : List ℕ → (actions gotos : ℕ) → Bool
middle_right s actions gotos = both (eqb (byte_at s actions) 3) (eqb (byte_at s gotos) 4)

unfoldable pub back_right : List ℕ → ℕ → Bool
back_right s i = both (head_at s i 5 1) (both (leb (byte_at s (i + 3)) 1) (eqb (length s) (i + 4)))

unfoldable pub shape_right : List ℕ → View → Bool
shape_right s v = both (front_right s v.counts.rules) (both (middle_right s v.rules.end v.actions.end) (back_right s v.gotos.end))

unfoldable pub frame_right : List ℕ → View → Bool
frame_right s v = both (counts_right v.counts) (shape_right s v)

-- A rule: a left side in the table, a length up to 15, and what its kind asks of pick, low and high.

unfoldable pub picks : Rule → Bool
picks r = both (leb 1 r.pick) (leb r.pick r.len)

unfoldable pub kind_right : Rule → Bool
kind_right r =
    if eqb r.kind 0 then both (eqb r.pick 0) (both (eqb r.low 0) (eqb r.high 0))
    else if eqb r.kind 1 then both (picks r) (both (eqb r.low 0) (eqb r.high 0))
    else if eqb r.kind 2 then both (picks r) (eqb r.high 0)
    else if eqb r.kind 3 then both (picks r) (leb r.low r.high)
    else false

unfoldable pub rule_right : Counts → Rule → Bool
rule_right c r = both (ltb r.left c.nonterminals) (both (leb r.len 15) (kind_right r))

-- An action record: every number below its count, at most 4 rules, and a shift or a rule.

abbrev pub shifts : Option ℕ → Bool
shifts None = false
shifts (Some to) = true

abbrev pub shift_right : Counts → Option ℕ → Bool
shift_right c None = true
shift_right c (Some to) = ltb to c.states

unfoldable pub rules_below : Counts → List ℕ → Bool
rules_below c ks = every (λ k. ltb k c.rules) ks

unfoldable pub action_right : Counts → ActionRecord → Bool
action_right c a =
    both (both (ltb a.state c.states) (ltb a.class c.classes))
    (both (both (shift_right c a.shift) (rules_below c a.rules))
    (both (leb (length a.rules) 4) (either (shifts a.shift) (not (is_nil a.rules)))))

-- A goto: every number below its count.
unfoldable pub goto_right : Counts → GotoRecord → Bool
goto_right c g = both (ltb g.state c.states) (both (ltb g.nonterminal c.nonterminals) (ltb g.target c.states))

-- The records of a field: each ends by the field's end, each is right, and they ascend strictly by a pair of numbers.

-- a kind of record: its size (never 0), its meaning, when it is right, and the pair by which it ascends
pub record Format (X : Type 0) : Type 0 where
  pub size : ℕ → ℕ
  pub some : (p : ℕ) → 0 < size p
  pub decode : ℕ → X
  pub right : X → Bool
  pub high : X → ℕ
  pub low : X → ℕ

-- field 3 ascends by (state, class)
unfoldable pub action_format : List ℕ → Counts → Format ActionRecord
action_format s c =
    record { size = action_size s; some = λ p. omega arith; decode = action_at s; right = action_right c; high = λ a. a.state; low = λ a. a.class }

-- field 4 ascends by (state, nonterminal)
unfoldable pub goto_format : List ℕ → Counts → Format GotoRecord
goto_format s c =
    record { size = goto_size; some = λ p. omega arith; decode = goto_at s; right = goto_right c; high = λ g. g.state; low = λ g. g.nonterminal }

-- a pair as one number: pairs of 16 bit numbers ascend as these do
abbrev pub pair : ℕ → ℕ → ℕ
pair a b = a * 65536 + b

unfoldable pub key_of : {X : Type 0} → Format X → X → ℕ
key_of F x = pair (F.high x) (F.low x)

-- strictly ascending, from low on
unfoldable pub ascends : (low : ℕ) → List ℕ → Bool
ascends low [] = true
ascends low (k ∷ ks) = both (leb low k) (ascends (k + 1) ks)

abbrev pub fits : {X : Type 0} → Format X → (e p : ℕ) → Bool
fits F e p = leb (p + F.size p) e

unfoldable pub records_right : {X : Type 0} → Format X → (e low : ℕ) → List ℕ → Bool
records_right F e low ps =
    both (every (fits F e) ps) (both (every F.right (map F.decode ps)) (ascends low (map (key_of F) (map F.decode ps))))

-- the records that fill the bytes from at to e, with keys from low on
unfoldable pub field_right : {X : Type 0} → Format X → (e low at : ℕ) → Bool
field_right F e low at = records_right F e low (places F.size (e - at) at e)

unfoldable pub content_right : List ℕ → View → Bool
content_right s v =
    both (every (rule_right v.counts) (rules_from v.counts.rules s v.rules.at))
    (both (field_right (action_format s v.counts) v.actions.end 0 v.actions.at)
    (field_right (goto_format s v.counts) v.gotos.end 0 v.gotos.at))

-- The whole. State 0 on class 2 must have a shift.
unfoldable pub table_ok : List ℕ → Bool
table_ok s = both (frame_right s (view_of s)) (both (content_right s (view_of s)) (shifts (action_of (table_of s) 0 start_class).shift))
