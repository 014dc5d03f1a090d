-- A line of cells that was tested is a stack in its pool.
use Rattle.std.proofs.Common.{ℕ, ◌≡◌, sym, List, length, arith}
use Rattle.std.specs.Prelude.{true}
use Rattle.cells.specs.Pool.{cell_at}
use Rattle.cells.specs.Stacks.{linked, StackIn}
use Rattle.cells.proofs.Stacks.{linked_claim}

pub line_stack : (pool : List ℕ) (h c : ℕ) → length pool ≡ 1152 → true ≡ linked 64 512 (cell_at pool) h c → StackIn pool h c
line_stack pool h c l e = record { cells = 64; room = omega arith; stack = (linked_claim 64 512 (cell_at pool) h c (sym e)).0 }
