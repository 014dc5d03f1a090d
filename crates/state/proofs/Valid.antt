-- What a valid state is, in meaning's words, and what makes one valid. Assumes nothing.
use mathlib.Core.Path.{◌≡◌, refl}
use mathlib.Core.Bool.{true}
use mathlib.Core.List.{List}
use Prim.Native.Nat.{ℕ, zero, suc, ◌+◌, ◌≤◌}
use native.Mathlib.Omega.{arith}
use lib.Dec.{ltb, leb}
use lib.ListN.{length}
use borrow.Author.Tests.{lt-ltb, le-leb, ltb-true, leb-true}
use Rattle.std.specs.Prelude.{Some}
use Rattle.meaning.specs.Limits.{max_readings}
use Rattle.cells.specs.Pool.{cell_at}
use Rattle.cells.specs.Stacks.{StatesBelow}
use Rattle.meaning.proofs.Booleans.{both_left, both_right, both_true}
use Rattle.cells.proofs.Stacks.{linked_claim, claim_linked, linked_top}
use Rattle.state.specs.Layout.{readings_at, state_cells, state_len}
use Rattle.state.specs.Readings.{top_at, height_at, reading_at, readings_from, count_of, used_of, readings_of, StandsAt, AllStand, ListIn}
use Rattle.state.specs.Check.{slot_right, slots_right, valid_state, state_of, StatesKnown, Known}
use Rattle.state.proofs.Lists.{length_readings, stand_more, stand_rest, readings_standing, readings_owned}

module _ (cells m : ℕ) (s : List ℕ) (at : ℕ) where
  -- One reading: the test and the claim.
  slot_claim : (i : ℕ) → slot_right cells m s at i ≡ true → StandsAt cells s at i × StatesBelow m (reading_at s at i).stack
  unfolding slot_right
  slot_claim i e =
      let c : ℕ = top_at s at i in
      let h : ℕ = height_at s at i in
      let r1 = both_right (ltb c cells) _ e in
      let r2 = both_right (ltb 0 h) _ r1 in
      let l = linked_claim cells m (cell_at s) h c (both_right (leb h 64) _ r2) in
      (record { low = ltb-true 0 h (both_left _ _ r1); high = leb-true h 64 (both_left _ _ r2); stack = l.0 }, l.1)

  claim_slot : (i : ℕ) → StandsAt cells s at i → StatesBelow m (reading_at s at i).stack → slot_right cells m s at i ≡ true
  unfolding slot_right
  claim_slot i a b =
      let c : ℕ = top_at s at i in
      let h : ℕ = height_at s at i in
      both_true _ _ (lt-ltb c cells (linked_top cells (cell_at s) h c a.low a.stack))
      (both_true _ _ (lt-ltb 0 h a.low) (both_true _ _ (le-leb h 64 a.high) (claim_linked cells m (cell_at s) h c a.stack b)))

  -- Several.
  pub slots_claim : (i k : ℕ) → slots_right cells m s at i k ≡ true → AllStand cells s at i k × StatesKnown m (readings_from s at i k)
  unfolding slots_right readings_from
  slots_claim i zero e = (λ j h l. absurd (omega arith), tt)
  slots_claim i (suc k) e =
      let first = slot_claim i (both_left (slot_right cells m s at i) _ e) in
      let rest = slots_claim (i + 1) k (both_right (slot_right cells m s at i) _ e) in
      (stand_more cells s at i k first.0 rest.0, (first.1, rest.1))

  pub claim_slots : (i k : ℕ) → AllStand cells s at i k → StatesKnown m (readings_from s at i k) → slots_right cells m s at i k ≡ true
  unfolding slots_right readings_from
  claim_slots i zero a b = refl
  claim_slots i (suc k) a b =
      both_true _ _ (claim_slot i (a i (omega arith) (omega arith)) b.0) (claim_slots (i + 1) k (stand_rest cells s at i k a) b.1)

module _ (m : ℕ) (s : List ℕ) (e : valid_state m s ≡ true) where
  pub count_few : count_of s ≤ max_readings
  unfolding valid_state
  count_few = leb-true _ 16 (both_left (leb (count_of s) 16) _ e)

  pub used_few : used_of s ≤ state_cells
  unfolding valid_state
  used_few = leb-true _ 1024 (both_left (leb (used_of s) 1024) _ (both_right (leb (count_of s) 16) _ e))

  claims : AllStand (used_of s) s readings_at 0 (count_of s) × StatesKnown m (readings_of s)
  unfolding valid_state
  claims = slots_claim (used_of s) m s readings_at 0 (count_of s) (both_right (leb (used_of s) 1024) _ (both_right (leb (count_of s) 16) _ e))

  pub all_stand : AllStand (used_of s) s readings_at 0 (count_of s)
  all_stand = claims.0

  -- At most 16 readings, each with its start entry and not too high, all states known, all identities below the cells in use.
  pub known : Known m (used_of s) (readings_of s)
  known =
      let l = length_readings s readings_at 0 (count_of s) in
      let c = count_few in
      record {
        few = omega arith;
        standing = readings_standing (used_of s) s readings_at 0 (count_of s) all_stand;
        states = claims.1;
        owned = readings_owned (used_of s) s readings_at 0 (count_of s) all_stand;
      }

  pub state_is : state_of m s ≡ Some (readings_of s)
  state_is = rw e

  -- Its readings from the reading i on, as a list in a buffer.
  pub waiting_list : length s ≡ state_len → (i k : ℕ) → i + k ≤ count_of s → ListIn s readings_at i k
  waiting_list l i k h =
      let c = count_few in
      let u = used_few in
      record {
        cells = used_of s;
        room = omega arith;
        slots = omega arith;
        few = omega arith;
        stands = λ j a b. all_stand j (omega arith) (omega arith);
      }

-- And back: what makes a state valid.
pub valid_from : (m : ℕ) (s : List ℕ) → count_of s ≤ max_readings → used_of s ≤ state_cells → AllStand (used_of s) s readings_at 0 (count_of s) → StatesKnown m (readings_of s) →
    valid_state m s ≡ true
unfolding valid_state
valid_from m s c u a b = both_true _ _ (le-leb (count_of s) 16 c) (both_true _ _ (le-leb (used_of s) 1024 u) (claim_slots (used_of s) m s readings_at 0 (count_of s) a b))
