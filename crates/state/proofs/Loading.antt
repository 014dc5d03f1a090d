-- Load: the loop, and what callers have of it: the same cells below the count, so the same stacks; everything behind them is kept. Assumes nothing.
use mathlib.Core.Path.{◌≡◌, ap, sym, ◌∙◌}
use mathlib.Core.List.{List, ◌++◌}
use Prim.Native.Nat.{ℕ, suc, ◌+◌, ◌-◌, ◌*◌, ◌<◌}
use native.Mathlib.Omega.{arith}
use lib.ListN.{length, set, take, drop, length-append, length-drop, get_or-append}
use lib.Seq.{length-take-le, take-suc, drop-cons, append_snoc, set_at, get_or-append-add, get_or-take, get_or-drop}
use Rattle.meaning.specs.Bytes.{byte_at}
use Rattle.numbers.specs.Writing.{Agree}
use Rattle.cells.specs.Pool.{cell_size, cell_at}
use Rattle.cells.specs.Stacks.{entries_of, Linked}
use Rattle.cells.proofs.Records.{cell_agree}
use Rattle.cells.proofs.Stacks.{linked_top}
use Rattle.cells.proofs.Births.{entries_kept, linked_kept}
use Rattle.state.specs.Layout.{readings_at}
use Rattle.state.specs.Readings.{used_of, slot_at, top_at, height_at, reading_of, reading_at, StandsAt}
use Rattle.state.specs.Areas.{loaded, LoadReady}

-- One byte more.
pub load_more : (s w t : List ℕ) (i : ℕ) → i < length s → i < length w → t ≡ take i s ++ drop i w → set t i (byte_at s i) ≡ take (i + 1) s ++ drop (i + 1) w
load_more s w t i a b e =
    let u : i + 1 ≡ suc i = omega arith in
    rw (e, u, drop-cons w i 0 b, take-suc s i 0 a)
    (set_at (take i s) (byte_at w i) (drop (suc i) w) (byte_at s i) i (length-take-le i s (omega arith)) ∙ sym (append_snoc (take i s) (byte_at s i) (drop (suc i) w)))

-- What was copied, and what stands behind it.
pub load_done : (s w t : List ℕ) (n i : ℕ) → n ≡ used_of s → i ≡ cell_size * n → t ≡ take i s ++ drop i w → t ≡ loaded s w
unfolding loaded
load_done s w t n i e f g = rw (f, e) at g

module _ (s w : List ℕ) (y : LoadReady s w) where
  front : length (take (cell_size * used_of s) s) ≡ cell_size * used_of s
  front = length-take-le (cell_size * used_of s) s (omega arith)

  pub length_loaded : length (loaded s w) ≡ length w
  unfolding loaded
  length_loaded = length-append (take (cell_size * used_of s) s) (drop (cell_size * used_of s) w) ∙ rw (front, length-drop (cell_size * used_of s) w) (omega arith)

  pub loaded_front : Agree (loaded s w) s 0 (cell_size * used_of s)
  unfolding loaded
  loaded_front k a b =
      get_or-append (take (cell_size * used_of s) s) (drop (cell_size * used_of s) w) 0 k (rw front (omega arith))
      ∙ get_or-take (cell_size * used_of s) s k 0 (omega arith)

  pub loaded_rest : (m : ℕ) → Agree (loaded s w) w (cell_size * used_of s) m
  unfolding loaded
  loaded_rest m k a b =
      let at : k ≡ length (take (cell_size * used_of s) s) + (k - cell_size * used_of s) = rw front (omega arith) in
      let back : cell_size * used_of s + (k - cell_size * used_of s) ≡ k = omega arith in
      ap (byte_at (take (cell_size * used_of s) s ++ drop (cell_size * used_of s) w)) at
      ∙ get_or-append-add (take (cell_size * used_of s) s) (drop (cell_size * used_of s) w) (k - cell_size * used_of s) 0
      ∙ get_or-drop (cell_size * used_of s) w (k - cell_size * used_of s) 0
      ∙ ap (byte_at w) back

  pub loaded_cells : (c : ℕ) → c < used_of s → cell_at (loaded s w) c ≡ cell_at s c
  loaded_cells c h = cell_agree (loaded s w) s c (λ k a b. loaded_front k (omega arith) (omega arith))

  pub loaded_entries : (h c : ℕ) → Linked (used_of s) (cell_at s) h c → entries_of (cell_at (loaded s w)) h c ≡ entries_of (cell_at s) h c
  loaded_entries = entries_kept (used_of s) (cell_at s) (cell_at (loaded s w)) loaded_cells

  pub loaded_linked : (h c : ℕ) → Linked (used_of s) (cell_at s) h c → Linked (used_of s) (cell_at (loaded s w)) h c
  loaded_linked h c = linked_kept (used_of s) (cell_at s) (cell_at (loaded s w)) loaded_cells (used_of s) h c (omega arith)

  -- A reading of the state, read in the work area's pool.
  pub loaded_reading : (i : ℕ) → StandsAt (used_of s) s readings_at i → reading_of (cell_at (loaded s w)) (slot_at s readings_at i) ≡ reading_at s readings_at i
  loaded_reading i f =
      let c : ℕ = top_at s readings_at i in
      let same = loaded_cells c (linked_top (used_of s) (cell_at s) (height_at s readings_at i) c f.low f.stack) in
      let stack : entries_of (cell_at (loaded s w)) (cell_at (loaded s w) c).height c ≡ entries_of (cell_at s) (height_at s readings_at i) c =
      rw same (loaded_entries (height_at s readings_at i) c f.stack) in
      λ j. record { mark = (slot_at s readings_at i).mark; stack = stack j }
