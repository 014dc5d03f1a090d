-- Lists of readings: what a standing one means, what is kept where other cells and slots are written. Assumes nothing.
use mathlib.Core.Path.{◌≡◌, refl, ap, ◌∙◌}
use mathlib.Core.List.{List, [], ◌∷◌, ◌++◌}
use mathlib.Core.Logic.{◌⊎◌, inl, inr, ⊎_elim}
use Prim.Native.Nat.{ℕ, zero, suc, ◌+◌, ◌*◌, ◌<◌, ◌≤◌}
use native.Mathlib.Omega.{arith}
use lib.ListN.{length, get_or}
use Rattle.meaning.specs.Basics.{AllOf}
use Rattle.meaning.specs.Bounds.{Standing}
use Rattle.meaning.specs.Limits.{max_height}
use Rattle.meaning.specs.Readings.{Entry, Reading}
use Rattle.cells.specs.Pool.{cell_size, cell_at, put_cell}
use Rattle.cells.specs.Stacks.{entries_of, Linked}
use Rattle.cells.specs.declared.Cell.{Cell}
use Rattle.cells.proofs.Records.{Other, same?, cell_agree, cell_other, agree_put_cell}
use Rattle.cells.proofs.Stacks.{linked_top, length_entries, born_below}
use Rattle.cells.proofs.Births.{entries_kept, linked_kept}
use Rattle.state.specs.Readings.{slot_at, put_slot, top_at, height_at, reading_of, reading_at, readings_from, StandsAt, AllStand}
use Rattle.state.specs.declared.Slot.{Slot}
use Rattle.state.specs.Layout.{slot_size}
use Rattle.state.proofs.Slots.{slot_agree, slot_other, slot_back, agree_put_slot}

pub length_readings : (s : List ℕ) (at i k : ℕ) → length (readings_from s at i k) ≡ k
unfolding readings_from
length_readings s at i zero = refl
length_readings s at i (suc k) = ap suc (length_readings s at (i + 1) k)

-- The reading j places behind the reading i.
pub reading_numbered : (s : List ℕ) (at i k j : ℕ) (d : Reading) → j < k → get_or (readings_from s at i k) j d ≡ reading_at s at (i + j)
unfolding readings_from
reading_numbered s at i zero j d h = absurd (omega arith)
reading_numbered s at i (suc k) zero d h = let u : i + 0 ≡ i = omega arith in rw u
reading_numbered s at i (suc k) (suc j) d h = let u : i + suc j ≡ i + 1 + j = omega arith in rw u (reading_numbered s at (i + 1) k j d (omega arith))

-- One more reading at the end of a list.
pub readings_last : (s : List ℕ) (at i k : ℕ) → readings_from s at i (k + 1) ≡ readings_from s at i k ++ (reading_at s at (i + k) ∷ [])
unfolding readings_from
readings_last s at i zero = let u : i + 0 ≡ i = omega arith in rw u
readings_last s at i (suc k) =
    let u : i + suc k ≡ i + 1 + k = omega arith in
    let v : suc k + 1 ≡ suc (k + 1) = omega arith in
    rw (u, v) (ap (λ (r : List Reading). reading_at s at i ∷ r) (readings_last s at (i + 1) k))

-- Readings that stand: the first, and those behind it.
pub stand_more : (cells : ℕ) (s : List ℕ) (at i k : ℕ) → StandsAt cells s at i → AllStand cells s at (i + 1) k → AllStand cells s at i (suc k)
stand_more cells s at i k a f j h l = go (same? i j)
  where
    go : (i ≡ j) ⊎ Other i j → StandsAt cells s at j
    go (inl q) = rw (← q) a
    go (inr q) = f j (⊎_elim (λ z. omega arith) (λ z. omega arith) q) (omega arith)

pub stand_rest : (cells : ℕ) (s : List ℕ) (at i k : ℕ) → AllStand cells s at i (suc k) → AllStand cells s at (i + 1) k
stand_rest cells s at i k f j h l = f j (omega arith) (omega arith)

-- In meaning's words: heights from 1 to 64, identities below the number of cells.
pub readings_standing : (cells : ℕ) (s : List ℕ) (at i k : ℕ) → AllStand cells s at i k → AllOf Standing (readings_from s at i k)
unfolding readings_from
readings_standing cells s at i zero f = tt
readings_standing cells s at i (suc k) f =
    let a = f i (omega arith) (omega arith) in
    let low = a.low in
    let high = a.high in
    let l = length_entries (cell_at s) (height_at s at i) (top_at s at i) in
    ((omega arith, omega arith), readings_standing cells s at (i + 1) k (stand_rest cells s at i k f))

pub readings_owned : (cells : ℕ) (s : List ℕ) (at i k : ℕ) → AllStand cells s at i k →
    AllOf (λ (r : Reading). AllOf (λ (e : Entry). e.born < cells) r.stack) (readings_from s at i k)
unfolding readings_from
readings_owned cells s at i zero f = tt
readings_owned cells s at i (suc k) f =
    (born_below cells (cell_at s) (height_at s at i) (top_at s at i) (f i (omega arith) (omega arith)).stack, readings_owned cells s at (i + 1) k (stand_rest cells s at i k f))

-- Where the cells below `cells` and the slot are the same, the reading is the same and stands.
module _ (cells : ℕ) (s t : List ℕ) (a : (d : ℕ) → d < cells → cell_at t d ≡ cell_at s d) (at i : ℕ) (e : slot_at t at i ≡ slot_at s at i) (f : StandsAt cells s at i) where
  top_kept : top_at t at i ≡ top_at s at i
  top_kept = ap (λ (x : Slot). x.top.0) e

  height_kept : height_at t at i ≡ height_at s at i
  height_kept =
      ap (λ (c : ℕ). (cell_at t c).height) top_kept
      ∙ ap (λ (x : Cell). x.height) (a (top_at s at i) (linked_top cells (cell_at s) (height_at s at i) (top_at s at i) f.low f.stack))

  pub reading_kept : reading_at t at i ≡ reading_at s at i
  reading_kept =
      let mark : (slot_at t at i).mark ≡ (slot_at s at i).mark = ap (λ (x : Slot). x.mark) e in
      let stack : entries_of (cell_at t) (height_at t at i) (top_at t at i) ≡ entries_of (cell_at s) (height_at s at i) (top_at s at i) =
      rw (height_kept, top_kept) (entries_kept cells (cell_at s) (cell_at t) a (height_at s at i) (top_at s at i) f.stack) in
      λ j. record { mark = mark j; stack = stack j }

  pub stands_kept : (more : ℕ) → cells ≤ more → StandsAt more t at i
  stands_kept more b =
      record {
        low = rw height_kept f.low;
        high = rw height_kept f.high;
        stack = rw (height_kept, top_kept) (linked_kept cells (cell_at s) (cell_at t) a more (height_at s at i) (top_at s at i) b f.stack);
      }

-- The same of a list.
module _ (cells : ℕ) (s t : List ℕ) (a : (d : ℕ) → d < cells → cell_at t d ≡ cell_at s d) (at : ℕ) where
  pub readings_kept : (i k : ℕ) → ((j : ℕ) → i ≤ j → j < i + k → slot_at t at j ≡ slot_at s at j) → AllStand cells s at i k → readings_from t at i k ≡ readings_from s at i k
  unfolding readings_from
  readings_kept i zero e f = refl
  readings_kept i (suc k) e f =
      let first = reading_kept cells s t a at i (e i (omega arith) (omega arith)) (f i (omega arith) (omega arith)) in
      let rest = readings_kept (i + 1) k (λ j h l. e j (omega arith) (omega arith)) (stand_rest cells s at i k f) in
      λ j. first j ∷ rest j

  pub all_stand_kept : (i k : ℕ) → ((j : ℕ) → i ≤ j → j < i + k → slot_at t at j ≡ slot_at s at j) → AllStand cells s at i k → (more : ℕ) → cells ≤ more → AllStand more t at i k
  all_stand_kept i k e f more b j h l = stands_kept cells s t a at j (e j h l) (f j h l) more b

-- A birth at the number n, below the list: readings over cells below n are as before.
module _ (w : List ℕ) (n : ℕ) (x : Cell) (at i k : ℕ) (below : cell_size * n + cell_size ≤ at) (f : AllStand n w at i k) where
  older : (c : ℕ) → c < n → cell_at (put_cell w n x) c ≡ cell_at w c
  older c h = cell_other w n c x (inr h)

  slots_older : (j : ℕ) → i ≤ j → j < i + k → slot_at (put_cell w n x) at j ≡ slot_at w at j
  slots_older j g h = slot_agree (put_cell w n x) w at j (agree_put_cell w n x (at + 6 * j) 6 (inl (omega arith)))

  pub readings_older : readings_from (put_cell w n x) at i k ≡ readings_from w at i k
  readings_older = readings_kept n w (put_cell w n x) older at i k slots_older f

  pub stands_older : AllStand (n + 1) (put_cell w n x) at i k
  stands_older = all_stand_kept n w (put_cell w n x) older at i k slots_older f (n + 1) (omega arith)

-- One more result x at the end of a list of k, behind the cells.
module _ (cells : ℕ) (w : List ℕ) (at k : ℕ) (x : Slot) (behind : cell_size * cells ≤ at) (room : at + slot_size * k + slot_size ≤ length w) (f : AllStand cells w at 0 k)
    (low : 1 ≤ (cell_at w x.top.0).height) (high : (cell_at w x.top.0).height ≤ max_height) (l : Linked cells (cell_at w) (cell_at w x.top.0).height x.top.0) where
  cells_same : (c : ℕ) → c < cells → cell_at (put_slot w at k x) c ≡ cell_at w c
  cells_same c h = cell_agree (put_slot w at k x) w c (agree_put_slot w at k x (18 * c) 18 (inr (omega arith)))

  slots_same : (j : ℕ) → 0 ≤ j → j < 0 + k → slot_at (put_slot w at k x) at j ≡ slot_at w at j
  slots_same j g h = slot_other w at k j x (inr (omega arith))

  new_slot : slot_at (put_slot w at k x) at k ≡ x
  new_slot = slot_back w at k x room

  top_same : cell_at (put_slot w at k x) x.top.0 ≡ cell_at w x.top.0
  top_same = cells_same x.top.0 (linked_top cells (cell_at w) (cell_at w x.top.0).height x.top.0 low l)

  new_reading : reading_at (put_slot w at k x) at k ≡ reading_of (cell_at w) x
  new_reading =
      let c : ℕ = x.top.0 in
      let stack : entries_of (cell_at (put_slot w at k x)) (cell_at (put_slot w at k x) c).height c ≡ entries_of (cell_at w) (cell_at w c).height c =
      rw top_same (entries_kept cells (cell_at w) (cell_at (put_slot w at k x)) cells_same (cell_at w c).height c l) in
      ap (reading_of (cell_at (put_slot w at k x))) new_slot ∙ (λ j. record { mark = x.mark; stack = stack j })

  pub readings_added : readings_from (put_slot w at k x) at 0 (k + 1) ≡ readings_from w at 0 k ++ (reading_of (cell_at w) x ∷ [])
  readings_added =
      let u : 0 + k ≡ k = omega arith in
      let older = readings_kept cells w (put_slot w at k x) cells_same at 0 k slots_same f in
      let new = ap (reading_at (put_slot w at k x) at) u ∙ new_reading in
      readings_last (put_slot w at k x) at 0 k ∙ (λ j. older j ++ (new j ∷ []))

  new_stands : StandsAt cells (put_slot w at k x) at k
  new_stands =
      let top : top_at (put_slot w at k x) at k ≡ x.top.0 = ap (λ (y : Slot). y.top.0) new_slot in
      let height : height_at (put_slot w at k x) at k ≡ (cell_at w x.top.0).height =
      ap (λ (c : ℕ). (cell_at (put_slot w at k x) c).height) top ∙ ap (λ (y : Cell). y.height) top_same in
      record {
        low = rw height low;
        high = rw height high;
        stack =
            rw (height, top) (linked_kept cells (cell_at w) (cell_at (put_slot w at k x)) cells_same cells (cell_at w x.top.0).height x.top.0 (omega arith) l);
      }

  pub stands_added : AllStand cells (put_slot w at k x) at 0 (k + 1)
  stands_added j g h = go (same? k j)
    where
      go : (k ≡ j) ⊎ Other k j → StandsAt cells (put_slot w at k x) at j
      go (inl q) = rw (← q) new_stands
      go (inr q) =
          all_stand_kept cells w (put_slot w at k x) cells_same at 0 k slots_same f cells (omega arith) j g (⊎_elim (λ z. omega arith) (λ z. omega arith) q)
