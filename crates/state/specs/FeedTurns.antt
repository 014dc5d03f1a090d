-- The turns of a feed, in the shape of the rules: which readings are planned for which terms, in which order, and which stay. A refusal ends them where it is met (Births).
use Rattle.std.specs.Prelude.{ℕ, ◌+◌, ◌≤◌, ◌≡◌, ◌⊎◌, List, [], ◌∷◌, ◌++◌, map, reverse}
use Rattle.meaning.specs.Applying.{Applied, joined, nothing_applied}
use Rattle.meaning.specs.Basics.{is_nil}
use Rattle.std.specs.Prelude.{if◌then◌else◌}
use Rattle.meaning.specs.Feeding.{First, refuses, settles, must_recover, first, feed}
use Rattle.meaning.specs.Limits.{max_readings}
use Rattle.meaning.specs.Outcome.{refusal}
use Rattle.meaning.specs.Readings.{Entry, Reading, states}
use Rattle.meaning.specs.Recovery.{Stage, stopped, came, error_term, is_held, recover_one, recover_all}
use Rattle.meaning.specs.TableFile.{Table, error_class}
use Rattle.meaning.specs.Walk.{Walked, refused, walked, plan, ends}
use Rattle.meaning.specs.declared.Refusal.{Refusal}
use Rattle.meaning.specs.declared.Term.{Term}
use Rattle.state.specs.Births.{Turn, takes, stays, born_by_feed}
use Rattle.state.specs.Layout.{work_cells}

-- The first planning: the readings in the order in which they are given.
abbrev pub pass_turns : Table → Term → List Reading → List Turn
pass_turns t x rs = map (λ r. takes t x r) rs

-- what follows a planning, with the chains after it: where a chain ended, where none did
abbrev pub after_turn : Walked → (ℕ → List Turn) → (ℕ → List Turn) → List Turn
after_turn (refused k) f g = []
after_turn (walked tree n c) f g = if ends tree then f c else g c

-- Recovery's first stage: one reading, from its top down to the height at which it can be planned.
unfoldable pub one_turns : Table → (held : List Reading) → (mark : ℕ) → (rest whole : List Entry) → (popped c : ℕ) → List Turn
one_turns t held m [] whole p c = []
one_turns t held m (e ∷ rest) whole p c =
    if is_held held e then []
    else takes t (error_term whole p) (record { mark = m; stack = e ∷ rest }) ∷ after_turn (plan t max_readings error_class (states (e ∷ rest)) c) (λ c'. []) (λ c'. one_turns t held m rest whole (p + 1) c')

abbrev pub then_turns : Stage → (Applied → ℕ → ℕ → List Turn) → List Turn
then_turns (stopped k) f = []
then_turns (came a w c) f = f a w c

unfoldable pub all_turns : Table → List Reading → (d : Applied) → (w c : ℕ) → List Turn
all_turns t [] d w c = []
all_turns t (r ∷ rs) d w c =
    one_turns t (rs ++ d.results) r.mark r.stack r.stack 0 c
    ++ then_turns (recover_one t (rs ++ d.results) r.mark r.stack r.stack 0 d.next w c) (λ a w' c'. all_turns t rs (joined d a) w' c')

-- Its second stage: a reading that cannot be planned stays.
unfoldable pub take_turns : Table → Term → List Reading → (c : ℕ) → List Turn
take_turns t x [] c = []
take_turns t x (r ∷ rs) c =
    takes t x r ∷ after_turn (plan t max_readings x.class (states r.stack) c) (λ c'. take_turns t x rs c') (λ c'. stays ∷ take_turns t x rs (c' + 1))

-- A feed's turns in its two stages, by what its first planning comes to.
abbrev pub first_turns : Table → Term → List Reading → (used : ℕ) → First → List Turn
first_turns t x rs used (refuses k) = pass_turns t x (reverse rs)
first_turns t x rs used (settles f) = pass_turns t x (reverse rs)
first_turns t x rs used (must_recover w) = pass_turns t x (reverse rs) ++ all_turns t rs (nothing_applied used) w 0

abbrev pub again_turns : Table → Term → Stage → List Turn
again_turns t x (stopped k) = []
again_turns t x (came d w c) = if is_nil d.results then [] else take_turns t x (reverse d.results) 0

abbrev pub second_turns : Table → Term → List Reading → (used : ℕ) → First → List Turn
second_turns t x rs used (refuses k) = []
second_turns t x rs used (settles f) = []
second_turns t x rs used (must_recover w) = again_turns t x (recover_all t rs (nothing_applied used) w 0)

-- The number that the next birth would have, where the feed of the term x to the readings rs ends: with 0, with 12, or with a refusal, after what was born before it.
abbrev pub born_in : Table → Term → List Reading → (used : ℕ) → First → ℕ
born_in t x rs used f = born_by_feed (first_turns t x rs used f) (second_turns t x rs used f) used

unfoldable pub born : Table → Term → List Reading → (used : ℕ) → ℕ
born t x rs used = born_in t x rs used (first t x rs used)

-- THE CLAIM, of a feed by the rules: refused or not, what it bears has numbers from the cells in use on, each that of a cell of the pool; and where it is not refused, `born` is the identity that it leaves free.
pub record FeedFinds (t : Table) (x : Term) (rs : List Reading) (used : ℕ) : Type 0 where
  pub above : used ≤ born t x rs used
  pub below : born t x rs used ≤ work_cells
  pub is : ((k : Refusal) × (feed t x rs used ≡ refusal k rs used)) ⊎ ((feed t x rs used).next ≡ born t x rs used)
