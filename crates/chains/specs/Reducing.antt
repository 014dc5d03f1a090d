-- One reduction as the code answers it, by meaning's `reduction`.
use Rattle.std.specs.Prelude.{ℕ, ◌+◌, ◌-◌, ◌<◌, ◌≤◌, ◌≡◌, List, Result, Ok, Err}
use Rattle.meaning.specs.Limits.{max_height, max_walked}
use Rattle.meaning.specs.TableFile.{Table, rule_of}
use Rattle.meaning.specs.Walk.{Walked, refused, reduction}
use Rattle.meaning.specs.declared.Refusal.{Refusal}
use Rattle.chains.specs.Simulated.{stack_of}
use Rattle.chains.specs.declared.reducing.Stack.{Stack}
use Rattle.chains.specs.declared.reducing.Progress.{Progress}
use Rattle.chains.specs.declared.reducing.Reduced.{Reduced}

-- one reduction further on: a chain step less, a reduction more
pub record Stepped (at r : Progress) : Type 0 where
  pub left : r.left ≡ at.left - 1
  pub walked : r.walked ≡ at.walked + 1
  pub chains : r.chains ≡ at.chains

-- how the walk goes on after the answer
abbrev pub reduced_to : (states : List ℕ) → Result Reduced Refusal → (go : ℕ → List ℕ → Walked) → Walked
reduced_to a (Err k) go = refused k
reduced_to a (Ok to) go = go to.state.0 (stack_of a to.base)

-- what was tested where it is not refused
abbrev pub Allowed : Progress → Result Reduced Refusal → Type 0
Allowed at (Err k) = Unit {0}
Allowed at (Ok to) = (1 ≤ at.left) × (at.walked < max_walked) × (1 ≤ to.base) × (to.base < max_height)

-- the answer is meaning's, whatever comes after it
pub record IsReduction (t : Table) (number : ℕ) (stack : Stack) (at : Progress) (r : Result Reduced Refusal) : Type 0 where
  pub same : (go : ℕ → List ℕ → Walked) → reduction t (rule_of t number) (stack_of stack.states stack.height) at.left at.walked go ≡ reduced_to stack.states r go
  pub allowed : Allowed at r
