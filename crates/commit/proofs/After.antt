-- What callers have of a commit: the state that the calls' definitions speak of. Assumes nothing.
use mathlib.Core.Path.{◌≡◌, ap, ◌∙◌}
use mathlib.Core.List.{List, map}
use Prim.Native.Nat.{ℕ}
use Rattle.std.specs.Prelude.{Some}
use Rattle.meaning.specs.Identities.{ren_reading}
use Rattle.meaning.specs.Readings.{Reading}
use Rattle.state.specs.Check.{state_of, StatesKnown}
use Rattle.state.proofs.Valid.{state_is}
use Rattle.commit.specs.Committing.{Committed}

pub state_after : (m : ℕ) (results : List Reading) (s s' : List ℕ) (c : Committed results s s') → StatesKnown m results → state_of m s' ≡ Some (map (ren_reading c.rename) results)
state_after m results s s' c k = state_is m s' (c.valid m k) ∙ ap Some c.same
