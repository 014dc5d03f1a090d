-- Turns of a feed, and how far they fill the pool: every birth finds a cell (`cell_found` in proofs/Births). Which turns a feed has: FeedTurns.
use Rattle.std.specs.Prelude.{ℕ, ◌+◌, ◌≤◌, ◌≡◌, List, [], ◌∷◌, ◌++◌, ltb}
use Rattle.meaning.specs.Applying.{apply}
use Rattle.std.specs.Prelude.{if◌then◌else◌}
use Rattle.meaning.specs.Limits.{max_readings}
use Rattle.meaning.specs.Readings.{Reading, states}
use Rattle.meaning.specs.TableFile.{Table}
use Rattle.meaning.specs.Walk.{Walk, Walked, refused, walked, plan}
use Rattle.meaning.specs.declared.Term.{Term}
use Rattle.state.specs.Layout.{state_cells, work_cells}

-- One turn: a reading is planned for a term and applied at once; or a recovered reading stays, with a longer error entry.
pub data Turn : Type 0 where
  takes : Table → Term → Reading → Turn
  stays : Turn

abbrev pub after_plan : Walked → (next : ℕ) → (Walk → ℕ → ℕ) → ℕ
after_plan (refused k) n f = n
after_plan (walked tree k c) n f = f tree c

-- The number that the next birth would have, after these turns of a stage, from the number n and the chains c on. A refusal ends them where they are: what was born before it counts.
unfoldable pub born_up_to : List Turn → (n c : ℕ) → ℕ
born_up_to [] n c = n
born_up_to (takes t x r ∷ more) n c = after_plan (plan t max_readings x.class (states r.stack) c) n (λ tree c'. born_up_to more (apply t x tree r n).next c')
born_up_to (stays ∷ more) n c = if ltb c max_readings then born_up_to more (n + 1) (c + 1) else n

-- A feed has at most two stages, each of which counts its chains from 0: the first planning and, where none of its chains ended, recovery's first stage; then recovery's second.
abbrev pub born_by_feed : (first second : List Turn) → (used : ℕ) → ℕ
born_by_feed first second used = born_up_to second (born_up_to first used 0) 0

-- What a feed bears has numbers from the cells in use on, so no cell in use is written over, and each is that of a cell of the pool.
pub record Found (used : ℕ) (first second : List Turn) : Type 0 where
  pub above : used ≤ born_by_feed first second used
  pub below : born_by_feed first second used ≤ work_cells

-- THE CLAIM, of every feed of a state with so many cells in use: whatever the table, the readings and the terms, and wherever a refusal ends its turns.
abbrev pub CellFound : Type 0
CellFound = (used : ℕ) → used ≤ state_cells → (first second : List Turn) → Found used first second

-- Whatever turns the stage still takes, from the number n and the chains c on, each birth has a cell.
abbrev pub FindsCells : (n c : ℕ) → Type 0
FindsCells n c = (more : List Turn) → born_up_to more n c ≤ work_cells

-- Some turns lead a stage from the number n and the chains c to the number n' and the chains c'.
pub record Leads (n c n' c' : ℕ) : Type 0 where
  pub turns : List Turn
  pub lead : (more : List Turn) → born_up_to (turns ++ more) n c ≡ born_up_to more n' c'
