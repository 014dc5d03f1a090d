-- What a lookup gives of a state and a class, as meaning's record has it.
use Rattle.std.specs.Prelude.{ℕ, ◌+◌, Bool, List, Option, Some, None, is_some, ltb, take, drop}
use Rattle.meaning.specs.Basics.{both}
use Rattle.meaning.specs.Limits.{max_height}
use Rattle.meaning.specs.declared.StateNo.{StateNo}
use Rattle.table.specs.declared.Action.{Action}

-- the state's number, if there is a state
abbrev pub number_of : Option StateNo → Option ℕ
number_of None = None
number_of (Some state) = Some state.0

-- its shift
abbrev pub shift_of : Action → Option ℕ
shift_of a = number_of a.shift

-- its rules, from the one numbered i on
unfoldable pub rules_from : Action → (i : ℕ) → List ℕ
rules_from a i = drop i (take a.count a.rules)

-- whether it is reached too high up to shift
abbrev pub too_high : Action → (height : ℕ) → Bool
too_high a h = both (is_some a.shift) (ltb max_height (h + 1))
