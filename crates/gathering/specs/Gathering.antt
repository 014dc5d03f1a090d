-- The error records by value: none, and what a gathered list promises.
use Rattle.std.specs.Prelude.{List, ℕ, replicate}
use Rattle.meaning.specs.Limits.{max_errors}
use Rattle.actions.specs.Errors.{errors_of}
use Rattle.lists.specs.Filling.{Errors, no_record, ByValue}

abbrev pub no_errors : Errors
no_errors = record { list = replicate max_errors no_record; count = 0 }

-- The first `count` records of the work area.
abbrev pub Gathered : (work : List ℕ) → (count : ℕ) → Errors → Type 0
Gathered work count r = ByValue max_errors no_record (errors_of work count) r.list r.count
