-- Recovery: its two stages. It starts where no reading could be planned and the error class is used (Feeding).
use Rattle.std.specs.Prelude.{ℕ, ◌+◌, Bool, List, [], ◌∷◌, ◌++◌, map, reverse, ltb}
use Rattle.meaning.specs.Basics.{is_nil}
use Rattle.std.specs.Prelude.{if◌then◌else◌}
use Rattle.meaning.specs.Limits.{max_readings}
use Rattle.meaning.specs.Answers.{done, not_taken}
use Rattle.meaning.specs.TableFile.{Table, error_class}
use Rattle.meaning.specs.Readings.{Entry, Reading, top, states, held_by}
use Rattle.meaning.specs.Walk.{Walk, Walked, refused, walked, plan, ends}
use Rattle.meaning.specs.Applying.{Applied, apply, joined, nothing_applied, one_result, span_start, unplanned}
use Rattle.meaning.specs.Outcome.{Fed, refusal}
use Rattle.meaning.specs.declared.Term.{Term}
use Rattle.meaning.specs.declared.Refusal.{Refusal}
use Rattle.meaning.specs.declared.Refusal.TheVariants.{TooManyReadings}

-- What a stage has come to: refused, or what was applied, with the reductions walked so far and the count of this stage, which starts at 0 and goes up to 16.
pub data Stage : Type 0 where
  stopped : Refusal → Stage
  came : Applied → (walked count : ℕ) → Stage

abbrev pub then_stage : Stage → (Applied → ℕ → ℕ → Stage) → Stage
then_stage (stopped k) f = stopped k
then_stage (came a w c) f = f a w c

abbrev pub if_planned : Walked → (Walk → ℕ → ℕ → Stage) → (ℕ → ℕ → Stage) → Stage
if_planned (refused k) f g = stopped k
if_planned (walked tree n c) f g = if ends tree then f tree n c else g n c

-- First stage: the readings, first to last, look for a height at which the error class can be shifted.

-- the error entry: value 0, its span over the popped entries as a reduction's, or empty at the top entry's end if none were popped
unfoldable pub error_term : List Entry → (popped : ℕ) → Term
error_term whole popped = record { class = error_class; value = 0; start = span_start whole popped; end = (top whole).end }

-- whether another reading has this very entry
unfoldable pub is_held : (others : List Reading) → Entry → Bool
is_held others e = held_by others e.born

-- One reading walks from its top. If the top entry is held by another reading (still waiting, or a result of recovery), it stops and yields nothing.
-- If the stack can be planned for the error class, that is applied, and the reading is done; else it pops. Height 1 is tried, height 0 never.
unfoldable pub recover_one : Table → (held : List Reading) → (mark : ℕ) → (rest whole : List Entry) → (popped next w c : ℕ) → Stage
recover_one t held m [] whole p n w c = came (nothing_applied n) w c
recover_one t held m (e ∷ rest) whole p n w c =
    if is_held held e then came (nothing_applied n) w c
    else if_planned (plan t max_readings error_class (states (e ∷ rest)) c)
    (λ tree k c'. came (apply t (error_term whole p) tree (record { mark = m; stack = e ∷ rest }) n) (w + k) c')
    (λ k c'. recover_one t held m rest whole (p + 1) n (w + k) c')

-- All of them; d is what recovery has produced so far, and the readings behind r are those still waiting.
unfoldable pub recover_all : Table → List Reading → (d : Applied) → (w c : ℕ) → Stage
recover_all t [] d w c = came d w c
recover_all t (r ∷ rs) d w c =
    then_stage (recover_one t (rs ++ d.results) r.mark r.stack r.stack 0 d.next w c)
    (λ a w' c'. recover_all t rs (joined d a) w' c')

-- Second stage: the recovered readings take the term.

-- One that cannot be planned stays, and its error entry's span then ends where the term ends, its start kept.
-- Cells never change, so the longer entry takes the place of the old one under an identity of its own; no other reading has the old one.
unfoldable pub longer_top : List Entry → (end born : ℕ) → List Entry
longer_top [] end n = []
longer_top (e ∷ rest) end n = record { born = n; state = e.state; value = e.value; start = e.start; end = end } ∷ rest

unfoldable pub stays : Reading → (end born : ℕ) → Reading
stays r end n = record { mark = r.mark; stack = longer_top r.stack end n }

-- The count has planned chains and the readings that stay, in the order in which they come.
unfoldable pub take_term : Table → Term → List Reading → (d : Applied) → (w c : ℕ) → Stage
take_term t x [] d w c = came d w c
take_term t x (r ∷ rs) d w c =
    if_planned (plan t max_readings x.class (states r.stack) c)
    (λ tree k c'. take_term t x rs (joined d (apply t x tree r d.next)) (w + k) c')
    (λ k c'.
    if ltb c' max_readings then take_term t x rs (joined d (one_result (stays r x.end d.next) (d.next + 1))) (w + k) (c' + 1)
    else stopped TooManyReadings)

-- None left: 12, consumed, with refused actions only. Else 0, with refused actions only.
abbrev pub term_taken : List Reading → (next : ℕ) → Stage → Fed
term_taken rs next (stopped k) = refusal k rs next
term_taken rs next (came a w c) = record { answer = if is_nil a.results then not_taken else done; readings = a.results; errors = a.errors; walked = w; next = a.next }

-- No reading results: 12, consumed; the errors, then all readings as unplanned ones, last to first.
abbrev pub none_recovered : List Reading → Applied → (w : ℕ) → Fed
none_recovered rs d w = record { answer = not_taken; readings = []; errors = d.errors ++ map unplanned (reverse rs); walked = w; next = d.next }

-- Else the recovered readings, last to first, take the term.
abbrev pub after_recovery : Table → Term → List Reading → (next : ℕ) → Stage → Fed
after_recovery t x rs next (stopped k) = refusal k rs next
after_recovery t x rs next (came d w c) =
    if is_nil d.results then none_recovered rs d w
    else term_taken rs next (take_term t x (reverse d.results) (record { results = []; errors = d.errors; next = d.next }) w 0)

unfoldable pub recover : Table → Term → List Reading → (next w : ℕ) → Fed
recover t x rs next w = after_recovery t x rs next (recover_all t rs (nothing_applied next) w 0)
