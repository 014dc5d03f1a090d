-- The simulated stack: the list of states, top first, that an array and a height stand for.
use Rattle.std.specs.Prelude.{ℕ, zero, suc, ◌≤◌, ◌≡◌, List, [], ◌∷◌, get_or}
use Rattle.meaning.specs.Limits.{max_height}
use Rattle.meaning.specs.declared.StateNo.{StateNo}
use Rattle.chains.specs.declared.reducing.Stack.{Stack}

-- the lowest state stands first in the array
unfoldable pub stack_of : (states : List ℕ) → (height : ℕ) → List ℕ
stack_of a zero = []
stack_of a (suc h) = get_or a h 0 ∷ stack_of a h

-- a stack has its start entry, and is not too high
pub record Standing (stack : Stack) : Type 0 where
  pub low : 1 ≤ stack.height
  pub high : stack.height ≤ max_height

-- what a push leaves
pub record Pushed (stack : Stack) (base : ℕ) (state : StateNo) (r : Stack) : Type 0 where
  pub same : stack_of r.states r.height ≡ state.0 ∷ stack_of stack.states base
  pub stands : Standing r
