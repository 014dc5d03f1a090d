-- Moving a stack from the work area's pool to the state's pool, bottom first. The map in the work area says for each cell where it has gone.
use Rattle.std.specs.Prelude.{◌≡◌, Option, Some, None, List, ◌++◌, ℕ, zero, suc, ◌+◌, ◌*◌, ◌<◌, ◌≤◌, length, take, drop}
use Rattle.meaning.specs.Bytes.{u16_at}
use Rattle.meaning.specs.declared.CellNo.{CellNo}
use Rattle.numbers.specs.Writing.{put_u16}
use Rattle.numbers.specs.Zeros.{zeros}
use Rattle.cells.specs.Pool.{cell_at, put_cell}
use Rattle.cells.specs.Stacks.{Linked}
use Rattle.cells.specs.declared.Cell.{Cell}
use Rattle.state.specs.Layout.{map_at, state_cells, state_len, work_cells, work_len}

-- where the cell c has gone: suc k for the cell k of the state, zero for nowhere yet
unfoldable pub moved_to : List ℕ → (c : ℕ) → ℕ
moved_to w c = u16_at w (map_at + 2 * c)

-- the same as an option
unfoldable pub where_gone : ℕ → Option CellNo
where_gone zero = None
where_gone (suc k) = Some (record { 0 = k })

unfoldable pub put_moved : List ℕ → (c to : ℕ) → List ℕ
put_moved w c to = put_u16 w (map_at + 2 * c) to

-- no cell below `cells` has gone anywhere
unfoldable pub forgotten : List ℕ → (cells : ℕ) → List ℕ
forgotten w n = take map_at w ++ (zeros (2 * n) ++ drop (map_at + 2 * n) w)

unfoldable pub with_parent : Cell → (parent : ℕ) → Cell
with_parent x j = record { parent = record { 0 = j }; height = x.height; state = x.state; value = x.value; start = x.start; end = x.end }

-- Both buffers, the next cell of the state that is free, and where the last stack's top has gone.
pub record Move : Type 0 where
  pub work : List ℕ
  pub state : List ℕ
  pub next : ℕ
  pub no : ℕ

abbrev pub move : (work state : List ℕ) → (next no : ℕ) → Move
move w s n k = record { work = w; state = s; next = n; no = k }

-- The stack below has moved (r); now the cell c, which holds x. What the map says of c decides: a cell moves once.
unfoldable pub move_cell : (to : ℕ) → Cell → (c : ℕ) → Move → Move
move_cell zero x c r = move (put_moved r.work c (r.next + 1)) (put_cell r.state r.next (with_parent x r.no)) (r.next + 1) r.next
move_cell (suc k) x c r = move r.work r.state r.next k

unfoldable pub move_step : Cell → (c : ℕ) → Move → Move
move_step x c r = move_cell (moved_to r.work c) x c r

-- the stack of height h at c, to cells from n on
unfoldable pub move_stack : (height : ℕ) → (work state : List ℕ) → (next top : ℕ) → Move
move_stack zero w s n c = move w s n 0
move_stack (suc h) w s n c = move_step (cell_at w c) c (move_stack h w s n (cell_at w c).parent.0)

-- What the functions ask.
pub record CellReady (w s : List ℕ) (c n : ℕ) : Type 0 where
  pub work : length w ≡ work_len
  pub state : length s ≡ state_len
  pub cell : c < work_cells
  pub room : n < state_cells

pub record MoveReady (w s : List ℕ) (height top n : ℕ) : Type 0 where
  pub work : length w ≡ work_len
  pub state : length s ≡ state_len
  pub room : n + height ≤ state_cells
  pub stack : Linked work_cells (cell_at w) height top
