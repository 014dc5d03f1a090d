-- Feeding a term.
use Rattle.std.specs.Prelude.{ℕ, ◌+◌, Bool, true, false, not, List, [], ◌∷◌, ◌++◌, map, reverse}
use Rattle.meaning.specs.Basics.{either, is_nil}
use Rattle.std.specs.Prelude.{if◌then◌else◌}
use Rattle.meaning.specs.Limits.{max_readings}
use Rattle.meaning.specs.Answers.{done, not_taken}
use Rattle.meaning.specs.TableFile.{Table}
use Rattle.meaning.specs.Readings.{Reading, states}
use Rattle.meaning.specs.Walk.{Walk, Walked, refused, walked, plan, ends}
use Rattle.meaning.specs.Applying.{Applied, apply, then_applied, nothing_applied, unplanned}
use Rattle.meaning.specs.Outcome.{Fed, refusal}
use Rattle.meaning.specs.Recovery.{recover}
use Rattle.meaning.specs.declared.Term.{Term}
use Rattle.meaning.specs.declared.Refusal.{Refusal}

-- The first planning: refused, or the readings that were planned, each with its walk, those that were not, the reductions walked and the chains.
pub data Planned : Type 0 where
  no_plan : Refusal → Planned
  plans : (planned : List (Reading × Walk)) (left : List Reading) (walked chains : ℕ) → Planned

abbrev pub add_reading : Reading → Walk → (n : ℕ) → Planned → Planned
add_reading r tree n (no_plan k) = no_plan k
add_reading r tree n (plans ps left w c) = if ends tree then plans ((r, tree) ∷ ps) left (n + w) c else plans ps (r ∷ left) (n + w) c

abbrev pub add_plan : Reading → Walked → (ℕ → Planned) → Planned
add_plan r (refused k) go = no_plan k
add_plan r (walked tree n c) go = add_reading r tree n (go c)

-- the readings in the order in which they are given; 11 as soon as their chains exceed 16
unfoldable pub plan_all : Table → (class : ℕ) → List Reading → (c : ℕ) → Planned
plan_all t class [] c = plans [] [] 0 c
plan_all t class (r ∷ rs) c = add_plan r (plan t max_readings class (states r.stack) c) (λ c'. plan_all t class rs c')

-- the results stand in that order
unfoldable pub apply_all : Table → Term → List (Reading × Walk) → (next : ℕ) → Applied
apply_all t x [] n = nothing_applied n
apply_all t x (p ∷ ps) n = then_applied (apply t x p.1 p.0 n) (λ n'. apply_all t x ps n')

-- `left` has the unplanned readings as they were met, last to first.

-- Some chain succeeded: 0. Unplanned readings go. Errors: refused actions in order, then unplanned readings first to last.
abbrev pub some_took : (left : List Reading) → (w : ℕ) → Applied → Fed
some_took left w a = record { answer = done; readings = a.results; errors = a.errors ++ map unplanned (reverse left); walked = w; next = a.next }

-- None did: 12. The unplanned readings stay, in reversed order. Errors: refused actions, then unplanned readings last to first.
abbrev pub none_took : (left : List Reading) → (w : ℕ) → Applied → Fed
none_took left w a = record { answer = not_taken; readings = left; errors = a.errors ++ map unplanned left; walked = w; next = a.next }

-- What the first planning comes to: a refusal, an end with 0 or 12, or recovery, with the reductions walked so far.
pub data First : Type 0 where
  refuses : Refusal → First
  settles : Fed → First
  must_recover : (walked : ℕ) → First

-- 12 if none succeeded and either the error class is unused or some reading was planned; otherwise recovery
unfoldable pub settle : Table → (planned : List (Reading × Walk)) → (left : List Reading) → (w : ℕ) → Applied → First
settle t ps left w a =
    if not (is_nil a.results) then settles (some_took left w a)
    else if either (not t.recovers) (not (is_nil ps)) then settles (none_took left w a)
    else must_recover w

abbrev pub first_of : Table → Term → (next : ℕ) → Planned → First
first_of t x next (no_plan k) = refuses k
first_of t x next (plans ps left w c) = settle t ps left w (apply_all t x ps next)

-- Planning takes readings from last to first.
unfoldable pub first : Table → Term → List Reading → (next : ℕ) → First
first t x rs next = first_of t x next (plan_all t x.class (reverse rs) 0)

abbrev pub finish : Table → Term → List Reading → (next : ℕ) → First → Fed
finish t x rs next (refuses k) = refusal k rs next
finish t x rs next (settles f) = f
finish t x rs next (must_recover w) = recover t x rs next w

-- A feed of the term x to the readings rs, whose identities lie below next.
unfoldable pub feed : Table → Term → List Reading → (next : ℕ) → Fed
feed t x rs next = finish t x rs next (first t x rs next)

-- Whether a feed starts recovery.
abbrev pub is_recovery : First → Bool
is_recovery (refuses k) = false
is_recovery (settles f) = false
is_recovery (must_recover w) = true

unfoldable pub starts_recovery : Table → Term → List Reading → (next : ℕ) → Bool
starts_recovery t x rs next = is_recovery (first t x rs next)
