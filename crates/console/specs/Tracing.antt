-- What the trace says of a fed term.
use Rattle.std.specs.Prelude.{◌≡◌, true, List, ℕ, length}
use Rattle.meaning.specs.Answers.{feed_numbers}
use Rattle.meaning.specs.Calls.{checked}
use Rattle.meaning.specs.Limits.{max_errors}
use Rattle.meaning.specs.declared.Term.{Term}
use Rattle.promises.specs.Buffers.{state_for}
use Rattle.by_value.specs.Feeding.{RunPromise}
use Rattle.by_value.specs.declared.running.FeedRun.{FeedRun}
use Rattle.console.specs.declared.terms.Traced.{Traced}

-- How many readings can be read out of a state: none where the table or the state is wrong.
unfoldable pub readings_left : (table state : List ℕ) → ℕ
readings_left table state = checked true table (state_for table state) (λ k. 0) (λ t rs. length rs)

-- A run of the feed by value, its numbers, and the readings that it left.
pub record TracedIs (table state work : List ℕ) (x : Term) (r : Traced) (state' work' : List ℕ) : Type 0 where
  pub run : FeedRun
  pub promise : RunPromise table state work x max_errors run state' work'
  pub says : r.numbers ≡ feed_numbers run.answer
  pub readings : r.readings ≡ readings_left table state'
