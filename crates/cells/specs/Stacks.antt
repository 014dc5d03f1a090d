-- Stacks in a pool. A pool is a function from cell numbers to cells, so nothing here but `StackIn` speaks of bytes.
use Rattle.std.specs.Prelude.{◌≡◌, Bool, true, List, [], ◌∷◌, ℕ, zero, suc, ◌*◌, ◌<◌, ◌≤◌, ltb, eqb, length}
use Rattle.meaning.specs.Basics.{both, AllOf}
use Rattle.meaning.specs.Readings.{Entry}
use Rattle.cells.specs.Pool.{cell_size, cell_at}
use Rattle.cells.specs.declared.Cell.{Cell}

abbrev pub Pool : Type 0
Pool = ℕ → Cell

-- The entry in a cell x of number c: the number is its identity.
abbrev pub entry_of : (c : ℕ) → Cell → Entry
entry_of c x = record { born = c; state = x.state.0; value = x.value; start = x.start; end = x.end }

abbrev pub entry_at : Pool → (c : ℕ) → Entry
entry_at p c = entry_of c (p c)

-- The entries of a stack, top first.
unfoldable pub entries_of : Pool → (height top : ℕ) → List Entry
entries_of p zero c = []
entries_of p (suc h) c = entry_at p c ∷ entries_of p h (p c).parent.0

-- The cell k below c.
unfoldable pub down_from : Pool → (k c : ℕ) → ℕ
down_from p zero c = c
down_from p (suc k) c = down_from p k (p c).parent.0

-- The layout's rule for a stack, as a test: along the parents the heights are h, h - 1, .., 1, each cell's number is below `cells`, each state's below `states`.
unfoldable pub linked : (cells states : ℕ) → Pool → (height top : ℕ) → Bool
linked n m p zero c = true
linked n m p (suc h) c = both (ltb c n) (both (eqb (p c).height (suc h)) (both (ltb (p c).state.0 m) (linked n m p h (p c).parent.0)))

-- What the test says of the cells, as a claim.
unfoldable pub Linked : (cells : ℕ) → Pool → (height top : ℕ) → Type 0
Linked n p zero c = Unit {0}
Linked n p (suc h) c = (c < n) × ((p c).height ≡ suc h) × Linked n p h (p c).parent.0

-- What it says of the states: each is one of a table of m states.
abbrev pub StatesBelow : (m : ℕ) → List Entry → Type 0
StatesBelow m = AllOf (λ (e : Entry). e.state < m)

-- A stack in a buffer: its cells lie in the bytes.
pub record StackIn (s : List ℕ) (height top : ℕ) : Type 0 where
  pub cells : ℕ
  pub room : cell_size * cells ≤ length s
  pub stack : Linked cells (cell_at s) height top

-- A birth: the cell x stands at the number n, and all cells of lower numbers are as before.
pub record Birth (n : ℕ) (before after : Pool) (x : Cell) : Type 0 where
  pub older : (d : ℕ) → d < n → after d ≡ before d
  pub new : after n ≡ x
