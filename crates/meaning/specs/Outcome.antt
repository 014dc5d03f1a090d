-- What a feed comes to.
use Rattle.std.specs.Prelude.{ℕ, List, []}
use Rattle.meaning.specs.Answers.{number}
use Rattle.meaning.specs.Readings.{Reading}
use Rattle.meaning.specs.declared.ErrorRecord.{ErrorRecord}
use Rattle.meaning.specs.declared.Refusal.{Refusal}

-- The answer's number, the readings left, the errors, the reductions walked in all plannings of the feed, and the next identity that is free. No readings left: the state is consumed.
pub record Fed : Type 0 where
  pub answer : ℕ
  pub readings : List Reading
  pub errors : List ErrorRecord
  pub walked : ℕ
  pub next : ℕ

-- Answers 1 to 11 change nothing and report zero for both counts.
abbrev pub refusal : Refusal → List Reading → (next : ℕ) → Fed
refusal k rs n = record { answer = number k; readings = rs; errors = []; walked = 0; next = n }
