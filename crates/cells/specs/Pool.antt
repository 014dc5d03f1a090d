-- Cells of 18 bytes, from a buffer's first byte on. Stacks (Stacks.antt) go by `cell_at` and see no byte.
use Rattle.std.specs.Prelude.{List, ℕ, ◌+◌, ◌*◌}
use Rattle.meaning.specs.Bytes.{u16_at, u32_at}
use Rattle.numbers.specs.Writing.{put_u16, put_u32}
use Rattle.cells.specs.declared.Cell.{Cell}

abbrev pub cell_size : ℕ
cell_size = 18

-- the cell c
unfoldable pub cell_at : List ℕ → (c : ℕ) → Cell
cell_at s c =
    record {
      parent = record { 0 = u16_at s (cell_size * c) };
      height = u16_at s (cell_size * c + 2);
      state = record { 0 = u16_at s (cell_size * c + 4) };
      value = u32_at s (cell_size * c + 6);
      start = u32_at s (cell_size * c + 10);
      end = u32_at s (cell_size * c + 14);
    }

-- the bytes after a write of x to the cell c
unfoldable pub put_cell : List ℕ → (c : ℕ) → Cell → List ℕ
put_cell s c x =
    put_u32
    (put_u32
    (put_u32
    (put_u16 (put_u16 (put_u16 s (cell_size * c) x.parent.0) (cell_size * c + 2) x.height) (cell_size * c + 4) x.state.0)
    (cell_size * c + 6)
    x.value)
    (cell_size * c + 10)
    x.start)
    (cell_size * c + 14)
    x.end
