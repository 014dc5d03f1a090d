-- When two state buffers are the same but for cells: the same readings but for identities under one table make them so under every table. Assumes nothing.
use Prim.Native.Nat.{ℕ}
use mathlib.Core.Path.{◌≡◌, refl, sym, ◌∙◌, subst}
use mathlib.Core.Bool.{Bool, true, false}
use mathlib.Core.List.{List, [], ◌∷◌, map}
use lib.ListN.{length}
use Rattle.std.specs.Prelude.{if◌then◌else◌, None, Some}
use Rattle.meaning.specs.Identities.{ren_entry, ren_reading}
use Rattle.meaning.specs.Readings.{Entry, Reading}
use Rattle.meaning.specs.TableFile.{table_of}
use Rattle.meaning.proofs.Booleans.{no_false}
use Rattle.cells.specs.Stacks.{StatesBelow}
use Rattle.state.specs.Check.{valid_state, state_of, StatesKnown}
use Rattle.state.specs.Readings.{used_of, readings_of}
use Rattle.state.proofs.Valid.{count_few, used_few, all_stand, known, valid_from}
use Rattle.promises.specs.Calls.{Renamed, SameState}
use Rattle.promises.specs.Claims.{Fits}
use Rattle.promises.specs.Sequences.{SameButCells}
use Rattle.promises.proofs.Identities.{renamed_back}
use Rattle.promises.proofs.SameCells.{count_same}

-- The states of readings do not depend on identities.
below_ren : (m : ℕ) (ρ : ℕ → ℕ) (s : List Entry) → StatesBelow m s → StatesBelow m (map (ren_entry ρ) s)
below_ren m ρ [] h = tt
below_ren m ρ (e ∷ s) h = (h.0, below_ren m ρ s h.1)

known_ren : (m : ℕ) (ρ : ℕ → ℕ) (rs : List Reading) → StatesKnown m rs → StatesKnown m (map (ren_reading ρ) rs)
known_ren m ρ [] h = tt
known_ren m ρ (r ∷ rs) h = (below_ren m ρ r.stack h.0, known_ren m ρ rs h.1)

-- Two states under a table of m states: under one of n states both are states, or neither is.
module _ (m : ℕ) (s t : List ℕ) (v : valid_state m t ≡ true) (h : Renamed (readings_of s) (readings_of t)) where
  valid_too : (n : ℕ) → valid_state n s ≡ true → valid_state n t ≡ true
  valid_too n e =
      valid_from n t (count_few m t v) (used_few m t v) (all_stand m t v)
      (subst (StatesKnown n) (sym h.same) (known_ren n h.rename (readings_of s) (known n s e).states))

module _ (m : ℕ) (s t : List ℕ) (u : valid_state m s ≡ true) (v : valid_state m t ≡ true) (h : Renamed (readings_of s) (readings_of t)) where
  valid_same : (n : ℕ) → SameState (state_of n s) (state_of n t)
  valid_same n = at (valid_state n s) refl (valid_state n t) refl
    where
      at : (b : Bool) → valid_state n s ≡ b → (c : Bool) → valid_state n t ≡ c → SameState (if b then Some (readings_of s) else None) (if c then Some (readings_of t) else None)
      at true d true e = h
      at true d false e = no_false (sym e ∙ valid_too m s t v h n d)
      at false d true e = no_false (sym d ∙ valid_too m t s u (renamed_back (readings_of s) (readings_of t) h) n e)
      at false d false e = tt

-- So two buffers of one length, both of them states under a table, with as many cells in use, are the same but for cells.
pub same_anew : (table s t : List ℕ) → Fits table s → Fits table t → Renamed (readings_of s) (readings_of t) → length s ≡ length t → used_of s ≡ used_of t → SameButCells s t
same_anew table s t u v h l e =
    let m : ℕ = (table_of table).counts.states in
    record { long = l; used = e; count = sym (count_same s t h); states = λ other. valid_same m s t u v h (table_of other).counts.states }
