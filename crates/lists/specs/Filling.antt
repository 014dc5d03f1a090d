-- What a list by value holds, and what filling a lent list from it means, over the record and the list's size.
use Rattle.std.specs.Prelude.{ℕ, ◌≤◌, ◌≡◌, List, ◌++◌, eqb, leb, length, take, drop, replicate, if◌then◌else◌}
use Rattle.meaning.specs.Calls.{written}
use Rattle.meaning.specs.TableFile.{state_no}
use Rattle.meaning.specs.declared.ErrorRecord.{ErrorRecord}
use Rattle.meaning.specs.declared.Entry.{Entry}
use Rattle.meaning.specs.Limits.{max_errors, max_height}
use Rattle.lists.specs.declared.Records.{Records}

-- the error records of a feed, the entries of a stack that is read out
abbrev pub Errors : Type 0
Errors = Records ErrorRecord max_errors

abbrev pub Entries : Type 0
Entries = Records Entry max_height

-- what a place of a list by value holds where it holds nothing, and what is read past the end of a list
abbrev pub no_record : ErrorRecord
no_record = record { rule = 0; state = state_no 0; mark = 0 }

abbrev pub no_entry : Entry
no_entry = record { state = state_no 0; value = 0; start = 0; end = 0 }

-- these, and then `none` in every place past them
abbrev pub padded : {A : Type 0} → (places : ℕ) → (none : A) → List A → List A
padded places none es = written es (replicate places none)

-- A list by value holds exactly these, and `none` in every other place.
pub record ByValue {A : Type 0} (places : ℕ) (none : A) (es : List A) (list : List A) (count : ℕ) : Type 0 where
  pub count_is : count ≡ length es
  pub few : count ≤ places
  pub list_is : list ≡ padded places none es

-- how many are stored: all where the lent list has as many places as it must have, none where it has not
abbrev pub stored : (places len count : ℕ) → ℕ
stored places len count = if eqb len places then (if leb count places then count else 0) else 0

-- the first n of es, and then ys from place n on
abbrev pub filled : {A : Type 0} → List A → List A → ℕ → List A
filled es ys n = take n es ++ drop n ys
