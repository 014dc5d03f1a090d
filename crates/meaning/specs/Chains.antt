-- Chains, told on their own: which there are at a stack and a class, and their order. No limit is looked at here; the walk is.
use Rattle.std.specs.Prelude.{ℕ, zero, suc, ◌≡◌, List, [], ◌∷◌, ◌++◌, map, leb, length, get_or, drop, Option, None, Some}
use Rattle.meaning.specs.Basics.{listed, nth}
use Rattle.std.specs.Prelude.{if◌then◌else◌}
use Rattle.meaning.specs.Limits.{max_chain}
use Rattle.meaning.specs.TableFile.{Table, ActionRecord, action_of, goto_of, rule_of}
use Rattle.meaning.specs.declared.Rule.{Rule}

-- the top state's record; a stack is a list of states here, top first
unfoldable pub record_at : Table → (class : ℕ) → List ℕ → ActionRecord
record_at t class st = action_of t (get_or st 0 0) class

-- where a reduction leads: pop the rule's length, look up the goto from the new top; nowhere if that would pop the start entry or no goto is there
unfoldable pub landing : Table → Rule → List ℕ → Option ℕ
landing t q st = if leb (length st) q.len then None else goto_of t (get_or (drop q.len st) 0 0) q.left

-- A chain says for each of its reductions at which place of the record's rules the rule stands; a shift ends it.
abbrev pub Chain : Type 0
Chain = List ℕ

-- What a chain is: at each step a rule at that place of the record which can be reduced, then the same from its goto; at the end a shift.
unfoldable pub IsChain : Table → (class : ℕ) → Chain → List ℕ → Type 0
IsChain t class [] st = (to : ℕ) × ((record_at t class st).shift ≡ Some to)
IsChain t class (i ∷ chain) st =
    (k to : ℕ) × (nth (record_at t class st).rules i ≡ Some k) × (landing t (rule_of t k) st ≡ Some to) × IsChain t class chain (to ∷ drop (rule_of t k).len st)

-- The chains at a stack in their order, depth first: by each rule in its order, then the shift. `deeper` lists those from the next stack.
unfoldable pub chains_by : Table → (deeper : List ℕ → List Chain) → List ℕ → (place : ℕ) → List ℕ → List Chain
chains_by t deeper st i [] = []
chains_by t deeper st i (k ∷ ks) =
    map (λ (chain : Chain). i ∷ chain) (listed (landing t (rule_of t k) st) (λ to. deeper (to ∷ drop (rule_of t k).len st))) ++ chains_by t deeper st (suc i) ks

unfoldable pub chains_from : (left : ℕ) → Table → (class : ℕ) → List ℕ → List Chain
chains_from zero t class st = chains_by t (λ s. []) st 0 (record_at t class st).rules ++ listed (record_at t class st).shift (λ to. [] ∷ [])
chains_from (suc left) t class st = chains_by t (λ s. chains_from left t class s) st 0 (record_at t class st).rules ++ listed (record_at t class st).shift (λ to. [] ∷ [])

unfoldable pub chains_at : Table → (class : ℕ) → List ℕ → List Chain
chains_at t class st = chains_from max_chain t class st
