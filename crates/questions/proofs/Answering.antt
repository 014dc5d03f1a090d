-- The ways out of the questions, and what each call asks. Assumes nothing.
use Rattle.std.proofs.Common.{ℕ, suc, ◌+◌, ◌-◌, ◌<◌, ◌≤◌, ◌≡◌, refl, ap, ◌∙◌, List, length, Ok, arith}
use Rattle.std.specs.Prelude.{false}
use Rattle.meaning.specs.TableFile.{Table}
use Rattle.meaning.specs.Questions.{or_else, takes, some_recovers}
use Rattle.state.specs.Layout.{readings_at}
use Rattle.state.specs.Readings.{readings_from, count_of, readings_of}
use Rattle.chains.specs.Planning.{marks_length}
use Rattle.questions.specs.Asking.{asked_reading, asked_of}
use Rattle.questions.specs.declared.Question.{Question}
use Rattle.questions.specs.declared.Question.TheVariants.{Takes, Recovers}

-- The readings from the reading i on decide.
pub record Asked (t : Table) (q : Question) (state : List ℕ) (i : ℕ) (m : List ℕ) : Type 0 where
  pub rest : asked_of t q (readings_from state readings_at i (count_of state - i)) ≡ asked_of t q (readings_of state)
  pub long : length m ≡ marks_length

module _ (t : Table) (q : Question) (state : List ℕ) (i : ℕ) where
  pub asked_none : count_of state ≤ i → asked_of t q (readings_from state readings_at i (count_of state - i)) ≡ Ok false
  unfolding asked_of takes some_recovers readings_from
  asked_none le = let e : count_of state - i ≡ 0 = omega arith in ap (λ k. asked_of t q (readings_from state readings_at i k)) e ∙ none q
    where
      none : (p : Question) → asked_of t p (readings_from state readings_at i 0) ≡ Ok false
      none (Takes class) = refl
      none Recovers = refl

  pub asked_step : i < count_of state
      → asked_of t q (readings_from state readings_at i (count_of state - i)) ≡ or_else (asked_reading t q state i) (asked_of t q (readings_from state readings_at (i + 1) (count_of state - (i + 1))))
  unfolding asked_of takes some_recovers readings_from
  asked_step more =
      let n : ℕ = count_of state - (i + 1) in
      let e : count_of state - i ≡ suc n = omega arith in
      ap (λ k. asked_of t q (readings_from state readings_at i k)) e ∙ first q n
    where
      first : (p : Question) (n : ℕ) → asked_of t p (readings_from state readings_at i (suc n)) ≡ or_else (asked_reading t p state i) (asked_of t p (readings_from state readings_at (i + 1) n))
      first (Takes class) n = refl
      first Recovers n = refl
