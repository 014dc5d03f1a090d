-- Reading a stack out: the entries by value, top first, and what the call by value answers.
use Rattle.std.specs.Prelude.{◌≡◌, true, List, ℕ, ◌≤◌, replicate, Result, Ok, Err}
use Rattle.meaning.specs.Answers.{stack_numbers}
use Rattle.meaning.specs.Calls.{StackCall}
use Rattle.meaning.specs.Limits.{max_height}
use Rattle.meaning.specs.declared.Entry.{Entry as SeenEntry}
use Rattle.meaning.specs.declared.Refusal.{Refusal}
use Rattle.cells.specs.Stacks.{StackIn}
use Rattle.lists.specs.Filling.{Entries, no_entry, ByValue}
use Rattle.state.specs.Check.{valid_state}
use Rattle.by_value.specs.declared.reading.StackRead.{StackRead}

abbrev pub no_entries : Entries
no_entries = record { list = replicate max_height no_entry; count = 0 }

-- what reading a stack out asks: it stands in the buffer, and a list has places for it
pub record ReadReady (state : List ℕ) (height top : ℕ) : Type 0 where
  pub few : height ≤ max_height
  pub stack : StackIn state height top

-- These entries by value.
abbrev pub EntriesRead : List SeenEntry → Entries → Type 0
EntriesRead es r = ByValue max_height no_entry es r.list r.count

abbrev pub refused_read : Refusal → StackRead
refused_read k = record { answer = Err k; entries = no_entries }

-- what is handed back
abbrev pub handed_read : Result StackRead Refusal → StackRead
handed_read (Ok r) = r
handed_read (Err k) = refused_read k

pub record RightState (state : List ℕ) : Type 0 where
  pub states : ℕ
  pub valid : valid_state states state ≡ true

-- A call's answer, and its entries: the array by value is what becomes of a list without entries, with the height beside it.
pub record ReadPromise (call : List SeenEntry → StackCall) (r : StackRead) : Type 0 where
  pub answers : stack_numbers r.answer ≡ (call no_entries.list).says
  pub entries_are : r.entries.list ≡ (call no_entries.list).entries
  pub count_is : r.entries.count ≡ (call no_entries.list).says.height
  pub few : r.entries.count ≤ max_height
