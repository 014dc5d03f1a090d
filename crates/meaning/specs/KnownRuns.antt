-- The runs with known outcome, P1 to P10, as one list: each starts a table file, feeds it terms, and says what the last call answers and leaves.
use Rattle.std.specs.Prelude.{ℕ, ◌+◌, true, List, [], ◌∷◌, map, reverse, Option, None, Some}
use Rattle.meaning.specs.Readings.{Reading, seen}
use Rattle.meaning.specs.TableFile.{state_no}
use Rattle.meaning.specs.Bounds.{max_births}
use Rattle.meaning.specs.Calls.{State, StartCall, start_call, FeedCall, feed_call}
use Rattle.meaning.specs.KnownTables.{t1, t2, t4}
use Rattle.meaning.specs.declared.Entry.{Entry as SeenEntry}
use Rattle.meaning.specs.declared.Term.{Term}
use Rattle.meaning.specs.declared.ErrorRecord.{ErrorRecord}
use Rattle.meaning.specs.declared.FeedNumbers.{FeedNumbers}

-- what is seen of a reading: its mark, and its entries from the bottom up
pub record SeenReading : Type 0 where
  pub mark : ℕ
  pub entries : List SeenEntry

-- what is seen of a call: its numbers, the readings left (`just []`: consumed; `None`: the buffer is no state), and the error list, which was empty
pub record Outcome : Type 0 where
  pub says : FeedNumbers
  pub readings : Option (List SeenReading)
  pub errors : List ErrorRecord

pub record Run : Type 0 where
  pub table : List ℕ
  pub terms : List Term
  pub leaves : Outcome

abbrev pub seen_reading : Reading → SeenReading
seen_reading r = record { mark = r.mark; entries = reverse (map seen r.stack) }

abbrev pub seen_state : State → Option (List SeenReading)
seen_state None = None
seen_state (Some rs) = Some (map seen_reading rs)

abbrev pub started : StartCall → Outcome
started c = record { says = record { answer = c.answer; errors = 0; walked = 0 }; readings = seen_state c.state; errors = [] }

abbrev pub fed : FeedCall → Outcome
fed c = record { says = c.says; readings = seen_state c.state; errors = c.errors }

-- the terms one after the other; the start entry has the identity 0, and every feed gets as many of its own as it may need
unfoldable pub feed_all : (table : List ℕ) → State → List Term → (next : ℕ) → Outcome → Outcome
feed_all table state [] next last = last
feed_all table state (x ∷ more) next last =
    let c = feed_call true table state x [] next in
    feed_all table c.state more (next + max_births) (fed c)

unfoldable pub outcome : Run → Outcome
outcome r =
    let c = start_call true r.table None 0 in
    feed_all r.table c.state r.terms 1 (started c)

-- How they are written down.

abbrev term : (class value start end : ℕ) → Term
term c v a b = record { class = c; value = v; start = a; end = b }

abbrev entry : (state value start end : ℕ) → SeenEntry
entry s v a b = record { state = state_no s; value = v; start = a; end = b }

abbrev reading : ℕ → List SeenEntry → SeenReading
reading m es = record { mark = m; entries = es }

abbrev error : (rule state mark : ℕ) → ErrorRecord
error k s m = record { rule = k; state = state_no s; mark = m }

abbrev says : (answer errors walked : ℕ) → FeedNumbers
says a e w = record { answer = a; errors = e; walked = w }

abbrev run : List ℕ → List Term → FeedNumbers → List SeenReading → List ErrorRecord → Run
run t xs a rs es = record { table = t; terms = xs; leaves = record { says = a; readings = Some rs; errors = es } }

-- the start entry of all three tables
abbrev one : SeenEntry
one = entry 1 0 0 0

abbrev pub p1 : Run
p1 = run t1 [] (says 0 0 0) (reading 0 (one ∷ []) ∷ []) []

abbrev pub p2 : Run
p2 = run t1 (term 3 9 0 1 ∷ []) (says 0 0 0) (reading 0 (one ∷ entry 2 9 0 1 ∷ []) ∷ []) []

abbrev pub p3 : Run
p3 = run t1 (term 3 9 0 1 ∷ term 4 0 1 2 ∷ []) (says 0 0 4)
    (reading 5 (one ∷ entry 5 9 0 1 ∷ entry 6 0 1 2 ∷ []) ∷ reading 10 (one ∷ entry 5 9 0 1 ∷ entry 6 0 1 2 ∷ []) ∷ []) []

abbrev pub p4 : Run
p4 = run t1 (term 3 20 0 1 ∷ term 4 0 1 2 ∷ []) (says 0 1 4)
    (reading 10 (one ∷ entry 5 20 0 1 ∷ entry 6 0 1 2 ∷ []) ∷ []) (error 0 1 0 ∷ [])

abbrev pub p5 : Run
p5 = run t1 (term 3 40 0 1 ∷ term 4 0 1 2 ∷ []) (says 12 2 4) [] (error 0 1 0 ∷ error 1 1 0 ∷ [])

-- after P3 the readings stand in reversed order, and their errors too
abbrev pub p6 : Run
p6 = run t1 (term 3 9 0 1 ∷ term 4 0 1 2 ∷ term 3 5 2 3 ∷ []) (says 12 2 0)
    (reading 10 (one ∷ entry 5 9 0 1 ∷ entry 6 0 1 2 ∷ []) ∷ reading 5 (one ∷ entry 5 9 0 1 ∷ entry 6 0 1 2 ∷ []) ∷ [])
    (error 65535 6 10 ∷ error 65535 6 5 ∷ [])

abbrev pub p7 : Run
p7 = run t1 (term 3 9 0 1 ∷ term 3 9 1 2 ∷ []) (says 12 1 0) (reading 0 (one ∷ entry 2 9 0 1 ∷ []) ∷ []) (error 65535 2 0 ∷ [])

-- the error entry's span runs from where the popped word begins to where the second one ends
abbrev pub p8 : Run
p8 = run t2 (term 3 9 0 1 ∷ term 3 7 2 3 ∷ []) (says 0 0 0) (reading 0 (one ∷ entry 8 0 0 3 ∷ []) ∷ []) []

abbrev pub p9 : Run
p9 = run t2 (term 4 0 1 2 ∷ []) (says 0 0 0) (reading 0 (one ∷ entry 8 0 0 0 ∷ entry 6 0 1 2 ∷ []) ∷ []) []

-- the empty reduction's chain is refused; the shift beside it is kept
abbrev pub p10 : Run
p10 = run t4 (term 3 9 0 1 ∷ []) (says 0 1 2) (reading 0 (one ∷ entry 2 9 0 1 ∷ []) ∷ []) (error 5 1 0 ∷ [])

unfoldable pub known_runs : List Run
known_runs = p1 ∷ p2 ∷ p3 ∷ p4 ∷ p5 ∷ p6 ∷ p7 ∷ p8 ∷ p9 ∷ p10 ∷ []
