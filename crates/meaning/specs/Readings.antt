-- Readings: what a state holds.
use Rattle.std.specs.Prelude.{ℕ, ◌≡◌, Bool, false, List, [], ◌∷◌, map, eqb, get_or}
use Rattle.meaning.specs.Basics.{either}
use Rattle.meaning.specs.TableFile.{Table, state_no, start_state}
use Rattle.meaning.specs.declared.Entry.{Entry as SeenEntry}

-- An entry has a state, a value, a span and an identity: the number of its birth, which is no other entry's.
pub record Entry : Type 0 where
  pub born : ℕ
  pub state : ℕ
  pub value : ℕ
  pub start : ℕ
  pub end : ℕ

-- A reading is a stack of entries, top first, and a mark.
pub record Reading : Type 0 where
  pub mark : ℕ
  pub stack : List Entry

abbrev pub no_entry : Entry
no_entry = record { born = 0; state = 0; value = 0; start = 0; end = 0 }

abbrev pub top : List Entry → Entry
top s = get_or s 0 no_entry

abbrev pub states : List Entry → List ℕ
states = map (λ e. e.state)

-- Two readings are the same when marks, heights and, at each height, state, value and span agree: when they are equal but for identities.
abbrev pub plain_entry : Entry → Entry
plain_entry e = record { born = 0; state = e.state; value = e.value; start = e.start; end = e.end }

abbrev pub plain : Reading → Reading
plain r = record { mark = r.mark; stack = map plain_entry r.stack }

abbrev pub SameReading : Reading → Reading → Type 0
SameReading r r' = plain r ≡ plain r'

-- Readings that grew from one share the entries that neither has popped: an entry is held by each reading that has its identity.
unfoldable pub holds : List Entry → (born : ℕ) → Bool
holds [] b = false
holds (e ∷ s) b = either (eqb e.born b) (holds s b)

unfoldable pub held_by : List Reading → (born : ℕ) → Bool
held_by [] b = false
held_by (r ∷ rs) b = either (holds r.stack b) (held_by rs b)

-- Start: one reading, one entry with the start shift's state, value 0, span (0,0); mark 0.
unfoldable pub start_reading : Table → (born : ℕ) → Reading
start_reading t born = record { mark = 0; stack = record { born = born; state = start_state t; value = 0; start = 0; end = 0 } ∷ [] }

-- An entry as it is shown.
abbrev pub seen : Entry → SeenEntry
seen e = record { state = state_no e.state; value = e.value; start = e.start; end = e.end }
