-- Two state buffers that are equal but for which cell holds which entry, and in nothing else.
use Rattle.std.specs.Prelude.{◌≡◌, List, ℕ, ◌+◌, ◌-◌, ◌*◌, ◌<◌, eqb, length}
use Rattle.std.specs.Prelude.{if◌then◌else◌}
use Rattle.numbers.specs.Writing.{Agree}
use Rattle.cells.specs.Pool.{cell_size, cell_at}
use Rattle.cells.specs.declared.Cell.{Cell}
use Rattle.state.specs.Layout.{readings_at, slot_size, count_at}
use Rattle.state.specs.Readings.{slot_at, count_of, used_of}
use Rattle.state.specs.declared.Slot.{Slot}

-- A cell and a slot under other cell numbers. A lowest cell has no parent, and what stands in its place is no cell's number.
abbrev pub ren_cell : (ℕ → ℕ) → Cell → Cell
ren_cell ρ x = record { parent = record { 0 = if eqb x.height 1 then x.parent.0 else ρ x.parent.0 }; height = x.height; state = x.state; value = x.value; start = x.start; end = x.end }

abbrev pub ren_slot : (ℕ → ℕ) → Slot → Slot
ren_slot ρ x = record { top = record { 0 = ρ x.top.0 }; mark = x.mark }

-- As many cells in use and as many readings; each cell in use is one of the other buffer's, under another number; the slots name them. Every other byte is the same.
pub record EqualButCells (s t : List ℕ) : Type 0 where
  pub long : length t ≡ length s
  pub used : used_of t ≡ used_of s
  pub count : count_of t ≡ count_of s
  pub rename : ℕ → ℕ
  pub inside : (c : ℕ) → c < used_of s → rename c < used_of s
  pub apart : (a b : ℕ) → a < used_of s → b < used_of s → rename a ≡ rename b → a ≡ b
  pub cells : (c : ℕ) → c < used_of s → cell_at t (rename c) ≡ ren_cell rename (cell_at s c)
  pub slots : (i : ℕ) → i < count_of s → slot_at t readings_at i ≡ ren_slot rename (slot_at s readings_at i)
  pub other_cells : Agree t s (cell_size * used_of s) (readings_at - cell_size * used_of s)
  pub other_slots : Agree t s (readings_at + slot_size * count_of s) (count_at - (readings_at + slot_size * count_of s))
