-- Laws of the end of a rule list, and of the test before it. Assumes nothing.
use Prim.Native.Nat.{ℕ, ◌+◌}
use mathlib.Core.Bool.{Bool, true, false}
use mathlib.Core.List.{List}
use lib.Dec.{ltb}
use Rattle.std.specs.Prelude.{if◌then◌else◌, Option, None, Some}
use Rattle.meaning.specs.Walk.{refused, walked, shift, end_chain}
use Rattle.meaning.specs.declared.Refusal.TheVariants.{TooManyReadings}
use Rattle.chains.specs.Marks.{Marked, MarksHold}

-- the end of a rule list has no mark
pub end_holds : (m : List ℕ) (k room : ℕ) (sh : Option ℕ) (n c : ℕ) → MarksHold m k (end_chain room sh n c)
unfolding end_chain Marked
end_holds m k room None n c = tt
end_holds m k room (Some to) n c = at (ltb c room)
  where
    at : (b : Bool) → MarksHold m k (if b then walked (shift (Some to)) n (c + 1) else refused TooManyReadings)
    at true = tt
    at false = tt
