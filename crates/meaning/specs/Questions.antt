-- The three questions: takes this class? can end? can recover? They change nothing.
use Rattle.std.specs.Prelude.{ℕ, true, false, List, [], ◌∷◌, Ok, Err, if◌then◌else◌}
use Rattle.meaning.specs.Answers.{QuestionAnswer}
use Rattle.meaning.specs.TableFile.{Table, end_class, error_class}
use Rattle.meaning.specs.Readings.{Reading, states}
use Rattle.meaning.specs.Walk.{Walked, refused, walked, plan, ends}

-- Questions know no 11. A walk of 1,024 reductions reaches 1,025 states, so it never needs more room than this (proofs/Questions).
abbrev pub enough_room : ℕ
enough_room = 1025

-- A stack's whole walk is planned, so a refusal behind the first chain wins over its yes.
abbrev pub planned : Walked → QuestionAnswer
planned (refused k) = Err k
planned (walked tree n c) = Ok (ends tree)

unfoldable pub can_plan : Table → (class : ℕ) → List ℕ → QuestionAnswer
can_plan t class st = planned (plan t enough_room class st 0)

-- The first yes or the first refusal decides.
abbrev pub or_else : QuestionAnswer → QuestionAnswer → QuestionAnswer
or_else (Ok true) q = Ok true
or_else (Ok false) q = q
or_else (Err k) q = Err k

-- Readings first to last.
unfoldable pub takes : Table → (class : ℕ) → List Reading → QuestionAnswer
takes t class [] = Ok false
takes t class (r ∷ rs) = or_else (can_plan t class (states r.stack)) (takes t class rs)

unfoldable pub can_end : Table → List Reading → QuestionAnswer
can_end t rs = takes t end_class rs

-- Recovery asked for walks every stack down to height 1, shared or not.
unfoldable pub recovers_from : Table → List ℕ → QuestionAnswer
recovers_from t [] = Ok false
recovers_from t (s ∷ st) = or_else (can_plan t error_class (s ∷ st)) (recovers_from t st)

unfoldable pub some_recovers : Table → List Reading → QuestionAnswer
some_recovers t [] = Ok false
some_recovers t (r ∷ rs) = or_else (recovers_from t (states r.stack)) (some_recovers t rs)

-- No if the error class is unused.
unfoldable pub can_recover : Table → List Reading → QuestionAnswer
can_recover t rs = if t.recovers then some_recovers t rs else Ok false
