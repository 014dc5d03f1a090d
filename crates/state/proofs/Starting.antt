-- Start: one reading, one entry. Assumes nothing.
use mathlib.Core.Path.{◌≡◌, refl, ap, ◌∙◌}
use mathlib.Core.Bool.{true}
use mathlib.Core.Logic.{inl, inr}
use mathlib.Core.List.{List, [], ◌∷◌}
use Prim.Native.Nat.{ℕ, ◌+◌, ◌<◌, ◌≤◌}
use native.Mathlib.Omega.{arith}
use lib.ListN.{length}
use Rattle.meaning.specs.Readings.{Entry, start_reading}
use Rattle.meaning.specs.TableFile.{Table, start_state}
use Rattle.meaning.specs.declared.StateNo.{StateNo}
use Rattle.numbers.specs.Writing.{put_u16, Agree, Apart, u16_back, u16_put_u16, agree_put_u16, length_put_u16}
use Rattle.cells.specs.Pool.{cell_size, cell_at, put_cell}
use Rattle.cells.specs.Stacks.{entries_of, Linked}
use Rattle.cells.specs.declared.Cell.{Cell}
use Rattle.cells.proofs.Records.{length_put_cell, agree_put_cell, cell_agree, cell_back}
use Rattle.state.specs.Layout.{readings_at, slot_size, count_at, used_at, state_len}
use Rattle.state.specs.Readings.{slot_at, put_slot, top_at, height_at, count_of, used_of, reading_at, readings_from, readings_of, AllStand}
use Rattle.state.specs.Check.{valid_state}
use Rattle.state.specs.Areas.{start_cell, start_slot, start_of, Started}
use Rattle.state.specs.declared.Slot.{Slot}
use Rattle.state.proofs.Slots.{length_put_slot, agree_put_slot, slot_agree, slot_back}
use Rattle.state.proofs.Valid.{valid_from}

module _ (q : StateNo) (s : List ℕ) (l : length s ≡ state_len) where
  -- after the cell, the slot, the count
  s₁ : List ℕ
  s₁ = put_cell s 0 (start_cell q)

  s₂ : List ℕ
  s₂ = put_slot s₁ readings_at 0 start_slot

  s₃ : List ℕ
  s₃ = put_u16 s₂ count_at 1

  len₁ : length s₁ ≡ state_len
  unfolding s₁
  len₁ = length_put_cell s 0 (start_cell q) ∙ l

  len₂ : length s₂ ≡ state_len
  unfolding s₂
  len₂ = length_put_slot s₁ readings_at 0 start_slot ∙ len₁

  len₃ : length s₃ ≡ state_len
  unfolding s₃
  len₃ = length_put_u16 s₂ count_at 1 ∙ len₂

  -- A window that none of the four writes meets.
  start_kept : (j m : ℕ) → cell_size ≤ j → Apart readings_at slot_size j m → j + m ≤ count_at → Agree (start_of q s) s j m
  unfolding start_of s₁ s₂ s₃
  start_kept j m a b d k h i =
      agree_put_u16 s₃ used_at 1 j m (inr (omega arith)) k h i
      ∙ agree_put_u16 s₂ count_at 1 j m (inr (omega arith)) k h i
      ∙ agree_put_slot s₁ readings_at 0 start_slot j m b k h i
      ∙ agree_put_cell s 0 (start_cell q) j m (inl (omega arith)) k h i

  start_count : count_of (start_of q s) ≡ 1
  unfolding start_of s₁ s₂ s₃
  start_count = u16_put_u16 s₃ used_at 1 count_at (inr (omega arith)) ∙ u16_back s₂ count_at 1 (omega (arith, len₂))

  start_used : used_of (start_of q s) ≡ 1
  unfolding start_of s₁ s₂ s₃
  start_used = u16_back s₃ used_at 1 (omega (arith, len₃))

  start_slot_lem : slot_at (start_of q s) readings_at 0 ≡ start_slot
  unfolding start_of s₁ s₂ s₃
  start_slot_lem =
      slot_agree _ s₃ readings_at 0 (agree_put_u16 s₃ used_at 1 _ 6 (inr (omega arith)))
      ∙ slot_agree _ s₂ readings_at 0 (agree_put_u16 s₂ count_at 1 _ 6 (inr (omega arith)))
      ∙ slot_back s₁ readings_at 0 start_slot (omega (arith, len₁))

  cell_of_start : cell_at (start_of q s) 0 ≡ start_cell q
  unfolding start_of s₁ s₂ s₃
  cell_of_start =
      cell_agree _ s₃ 0 (agree_put_u16 s₃ used_at 1 0 18 (inr (omega arith)))
      ∙ cell_agree _ s₂ 0 (agree_put_u16 s₂ count_at 1 0 18 (inr (omega arith)))
      ∙ cell_agree _ s₁ 0 (agree_put_slot s₁ readings_at 0 start_slot 0 18 (inr (omega arith)))
      ∙ cell_back s 0 (start_cell q) (omega (arith, l))

  start_top : top_at (start_of q s) readings_at 0 ≡ 0
  start_top = ap (λ (r : Slot). r.top.0) start_slot_lem

  start_height : height_at (start_of q s) readings_at 0 ≡ 1
  start_height = ap (λ (c : ℕ). (cell_at (start_of q s) c).height) start_top ∙ ap (λ (x : Cell). x.height) cell_of_start

  start_entry : Entry
  start_entry = record { born = 0; state = q.0; value = 0; start = 0; end = 0 }

  start_stack : (reading_at (start_of q s) readings_at 0).stack ≡ start_entry ∷ []
  unfolding entries_of start_entry
  start_stack = rw (start_height, start_top, cell_of_start)

  start_list : readings_of (start_of q s) ≡ (record { mark = 0; stack = start_entry ∷ [] }) ∷ []
  unfolding readings_from
  start_list =
      let mark : (slot_at (start_of q s) readings_at 0).mark ≡ 0 = ap (λ (r : Slot). r.mark) start_slot_lem in
      ap (readings_from (start_of q s) readings_at 0) start_count ∙ (λ i. (record { mark = mark i; stack = start_stack i }) ∷ [])

  start_readings : (t : Table) → start_state t ≡ q.0 → readings_of (start_of q s) ≡ start_reading t 0 ∷ []
  unfolding start_reading start_entry
  start_readings t e = rw e start_list

  start_stands : AllStand (used_of (start_of q s)) (start_of q s) readings_at 0 (count_of (start_of q s))
  unfolding Linked
  start_stands j a b =
      let z : j ≡ 0 = omega (arith, start_count) in
      rw (z, start_used)
      (record {
        low = rw start_height (omega arith);
        high = rw start_height (omega arith);
        stack = rw (start_height, start_top, cell_of_start) (omega arith, refl, tt);
      })

  start_valid : (m : ℕ) → q.0 < m → valid_state m (start_of q s) ≡ true
  unfolding start_entry
  start_valid m h =
      let c = start_count in
      let u = start_used in
      valid_from m (start_of q s) (omega arith) (omega arith) start_stands (rw start_list ((h, tt), tt))

pub started : (q : StateNo) (s t₁ t₂ t₃ t₄ : List ℕ) → length s ≡ state_len → t₁ ≡ put_cell s 0 (start_cell q) → t₂ ≡ put_slot t₁ readings_at 0 start_slot →
    t₃ ≡ put_u16 t₂ count_at 1 → t₄ ≡ put_u16 t₃ used_at 1 → Started q s t₄
unfolding start_of
started q s t₁ t₂ t₃ t₄ l a b c d =
    let e : t₄ ≡ start_of q s = d ∙ rw (c, b, a) in
    rw e
    (record {
      exact = refl;
      readings = start_readings q s l;
      valid = start_valid q s l;
      cells = start_kept q s l 18 18414 (omega arith) (inr (omega arith)) (omega arith);
      slots = start_kept q s l 18438 90 (omega arith) (inl (omega arith)) (omega arith);
    })
