-- The walk: one planning, which is the whole walk of one stack at one class, with its limits and refusals.
use Rattle.std.specs.Prelude.{ℕ, zero, suc, ◌+◌, Bool, List, [], ◌∷◌, leb, ltb, eqb, length, get_or, drop, Option, None, Some}
use Rattle.meaning.specs.Basics.{both, either}
use Rattle.std.specs.Prelude.{if◌then◌else◌}
use Rattle.meaning.specs.Limits.{max_height, max_chain, max_walked}
use Rattle.meaning.specs.TableFile.{Table, ActionRecord, goto_of, rule_of}
use Rattle.meaning.specs.TableRight.{shifts}
use Rattle.meaning.specs.Chains.{record_at}
use Rattle.meaning.specs.declared.Rule.{Rule}
use Rattle.meaning.specs.declared.Refusal.{Refusal}
use Rattle.meaning.specs.declared.Refusal.TheVariants.{ReachesStart, NoGoto, TooHigh, ChainTooLong, WalkTooLong, TooManyReadings}

-- What was walked at a stack: its reductions in order, each with the state that it leads to, what was walked from there (below) and what comes after it (beside); at last the shift, if any.
pub data Walk : Type 0 where
  shift : Option ℕ → Walk
  reduce : (rule target : ℕ) (below beside : Walk) → Walk

-- A planning: refused, or walked, with the reductions tried so far in this planning and the chains ended so far in this stage of the call.
pub data Walked : Type 0 where
  refused : Refusal → Walked
  walked : Walk → (reductions chains : ℕ) → Walked

abbrev pub and_then : Walked → (Walk → ℕ → ℕ → Walked) → Walked
and_then (refused k) f = refused k
and_then (walked w n c) f = f w n c

-- whether there is room for one more chain after c chains
abbrev pub has_room : (room c : ℕ) → Bool
has_room room c = ltb c room

-- The shift ends a chain. If there is no room for one more chain, that is 11.
unfoldable pub end_chain : (room : ℕ) → Option ℕ → (n c : ℕ) → Walked
end_chain room None n c = walked (shift None) n c
end_chain room (Some to) n c = if has_room room c then walked (shift (Some to)) n (c + 1) else refused TooManyReadings

-- no goto is 7
abbrev pub or_no_goto : Option ℕ → (ℕ → Walked) → Walked
or_no_goto None f = refused NoGoto
or_no_goto (Some to) f = f to

-- whether a planning may walk no more after n reductions
abbrev pub walk_full : (n : ℕ) → Bool
walk_full n = leb max_walked n

-- One reduction, the (n + 1)th of this planning, with `left` steps left in its chain. The tests stand in their order; `go` goes on from the goto and what is left of the stack.
unfoldable pub reduction : Table → Rule → List ℕ → (left n : ℕ) → (go : ℕ → List ℕ → Walked) → Walked
reduction t q st left n go =
    if walk_full n then refused WalkTooLong
    else if eqb left 0 then refused ChainTooLong
    else if leb (length st) q.len then refused ReachesStart
    else or_no_goto (goto_of t (get_or (drop q.len st) 0 0) q.left) (λ to.
    if ltb max_height (length (drop q.len st) + 1) then refused TooHigh else go to (drop q.len st))

-- The rule list of a state, then its shift. Each rule gives one reduction; `deeper` walks the state that it leads to.
unfoldable pub walk_rules : Table → (room left : ℕ) → (deeper : List ℕ → ℕ → ℕ → Walked) → Option ℕ → List ℕ → List ℕ → (n c : ℕ) → Walked
walk_rules t room left deeper sh st [] n c = end_chain room sh n c
walk_rules t room left deeper sh st (k ∷ ks) n c =
    reduction t (rule_of t k) st left n λ to rest.
    and_then (deeper (to ∷ rest) (n + 1) c) λ below n' c'.
    and_then (walk_rules t room left deeper sh st ks n' c') λ beside n'' c''.
    walked (reduce k to below beside) n'' c''

-- On reaching a state with a shift, before its rules, height plus 1 above 64 is 8.
unfoldable pub walk_state : Table → (room left : ℕ) → (deeper : List ℕ → ℕ → ℕ → Walked) → ActionRecord → List ℕ → (n c : ℕ) → Walked
walk_state t room left deeper a st n c =
    if both (shifts a.shift) (ltb max_height (length st + 1)) then refused TooHigh
    else walk_rules t room left deeper a.shift st a.rules n c

-- The walk with `left` steps left in the chain, after n reductions and c chains.
unfoldable pub walk_from : (left : ℕ) → Table → (room class : ℕ) → List ℕ → (n c : ℕ) → Walked
walk_from zero t room class st n c = walk_state t room 0 (λ st' n' c'. refused ChainTooLong) (record_at t class st) st n c
walk_from (suc left) t room class st n c = walk_state t room (suc left) (λ st' n' c'. walk_from left t room class st' n' c') (record_at t class st) st n c

-- One planning of a stack of states at a class, after c chains, with room for so many in all.
unfoldable pub plan : Table → (room class : ℕ) → List ℕ → (c : ℕ) → Walked
plan t room class st c = walk_from max_chain t room class st 0 c

-- A reading is planned if a chain ends.
unfoldable pub ends : Walk → Bool
ends (shift sh) = shifts sh
ends (reduce k to below beside) = either (ends below) (ends beside)

-- The reductions of a walk, dead ends too, and the chains that end in it.
unfoldable pub size : Walk → ℕ
size (shift sh) = 0
size (reduce k to below beside) = 1 + size below + size beside

abbrev pub one : Option ℕ → ℕ
one None = 0
one (Some to) = 1

unfoldable pub chains : Walk → ℕ
chains (shift sh) = one sh
chains (reduce k to below beside) = chains below + chains beside
