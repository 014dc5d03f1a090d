-- What a rule's action gives, by its kind.
use Rattle.std.specs.Prelude.{ℕ, ◌+◌, ◌*◌, leb, eqb, Option, None, Some}
use Rattle.meaning.specs.Basics.{both}
use Rattle.std.specs.Prelude.{if◌then◌else◌}
use Rattle.meaning.specs.Limits.{max_value}
use Rattle.meaning.specs.declared.Rule.{Rule}

-- The value, from item 1 and item pick of the rule; nothing if the action refuses.
-- Kind 0 gives 0; 1 (Pick) gives item pick; 2 (Join) gives item 1 times low plus item pick; 3 (Check) gives item pick if it lies from low to high.
unfoldable pub act : Rule → (first picked : ℕ) → Option ℕ
act r first picked =
    if eqb r.kind 0 then Some 0
    else if eqb r.kind 1 then Some picked
    else if eqb r.kind 2 then (let j = first * r.low + picked in if leb j max_value then Some j else None)
    else if both (leb r.low picked) (leb picked r.high) then Some picked
    else None
