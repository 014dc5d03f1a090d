-- The checks 2 and 3 on the bytes of a call.
use Rattle.std.specs.Prelude.{◌≡◌, true, List, ℕ, Result, Ok, Err}
use Rattle.meaning.specs.Calls.{checked}
use Rattle.meaning.specs.TableFile.{Table, table_of, view_of}
use Rattle.meaning.specs.TableRight.{table_ok}
use Rattle.meaning.specs.declared.Refusal.{Refusal}
use Rattle.meaning.specs.declared.View.{View}
use Rattle.promises.specs.Buffers.{state_for}

-- What they find: where things stand in right bytes, or the refusal.
unfoldable pub view_found : (table state : List ℕ) → Result View Refusal
view_found table state = checked true table (state_for table state) Err (λ t rs. Ok (view_of table))

-- The same with the table that the bytes say.
unfoldable pub found_of : (table state : List ℕ) → Result Table Refusal
found_of table state = checked true table (state_for table state) Err (λ t rs. Ok t)

-- the bytes are a right file of this table
pub record FileOf (table : List ℕ) (t : Table) : Type 0 where
  pub is : t ≡ table_of table
  pub ok : table_ok table ≡ true
