-- What a diagnosis says: that nothing is broken, or which rule is, and where. Tests are put one after the other by `first`.
use Rattle.std.specs.Prelude.{Bool, ℕ, Some, None, Result, Ok, Err, if◌then◌else◌}
use Rattle.meaning.specs.declared.View.{View}
use Rattle.faults.specs.declared.Broken.{Broken}
use Rattle.faults.specs.declared.Fault.{Fault}
use Rattle.faults.specs.declared.Place.{Place}
use Rattle.faults.specs.declared.Fault.TheVariants.{NoStart}

abbrev pub Verdict : Type 0
Verdict = Result (Unit {0}) Broken

-- the first of two that names a rule
abbrev pub first : Verdict → Verdict → Verdict
first (Ok _) b = b
first (Err e) b = Err e

-- a rule, and where it is broken
abbrev pub broken_at : Fault → Place → (byte : ℕ) → Broken
broken_at fault place byte = record { fault = fault; field = place.field; «record» = place.«record»; byte = byte }

abbrev pub tested : (right : Bool) → Fault → Place → (byte : ℕ) → Verdict
tested right fault place byte = if right then Ok tt else Err (broken_at fault place byte)

-- a whole field, and a record of one
abbrev pub whole : (field : ℕ) → Place
whole field = record { field = field; «record» = None }

abbrev pub one_of : (field number : ℕ) → Place
one_of field number = record { field = field; «record» = Some number }

-- a test of a field's head, of a count or of the file
abbrev pub framed : (right : Bool) → Fault → (field byte : ℕ) → Verdict
framed right fault field byte = tested right fault (whole field) byte

-- that state 0 does not shift at class 2
abbrev pub no_start : View → Verdict
no_start v = Err (broken_at NoStart (whole 3) v.actions.at)
