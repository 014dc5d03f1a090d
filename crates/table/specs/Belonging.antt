-- When a view goes with the bytes of a table file: what a `Table` keeps.
use Rattle.std.specs.Prelude.{◌≡◌, true, List, ℕ}
use Rattle.meaning.specs.TableFile.{view_of}
use Rattle.meaning.specs.TableRight.{table_ok}
use Rattle.meaning.specs.declared.View.{View}

-- the bytes were found right, and v is their view
pub record Belongs (s : List ℕ) (v : View) : Type 0 where
  pub is : v ≡ view_of s
  pub ok : table_ok s ≡ true
