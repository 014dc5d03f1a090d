-- Two valid states with the same readings but for identities, each with none but held cells: they are equal but for which cell holds which entry. Assumes nothing.
use mathlib.Core.Path.{◌≡◌, refl, sym, ap, ◌∙◌, subst}
use mathlib.Core.Bool.{Bool, true, false}
use mathlib.Core.List.{List, [], ◌∷◌, map}
use Prim.Native.Nat.{ℕ, zero, suc, ◌+◌, ◌-◌, ◌*◌, ◌<◌, ◌≤◌}
use native.Mathlib.Omega.{arith}
use lib.Dec.{eqb}
use lib.ListN.{length, length-map}
use mathlib.Core.Logic.{◌⊎◌, inl, inr, ⊎_elim}
use borrow.Author.Tests.{eqb-true, eq-eqb, ne_eqb}
use Rattle.meaning.specs.Basics.{either}
use Rattle.std.specs.Prelude.{if◌then◌else◌}
use Rattle.meaning.specs.Identities.{ren_entry, ren_reading}
use Rattle.meaning.specs.Readings.{Entry, Reading, top, holds, held_by}
use Rattle.meaning.proofs.Booleans.{no_false}
use Rattle.numbers.specs.Writing.{Agree}
use Rattle.cells.specs.Pool.{cell_size, cell_at}
use Rattle.cells.specs.Stacks.{Pool, entry_at, entries_of, Linked}
use Rattle.cells.proofs.Records.{Other, same?}
use Rattle.cells.proofs.Stacks.{length_entries}
use Rattle.state.specs.Check.{valid_state}
use Rattle.state.specs.Layout.{readings_at, slot_size, count_at}
use Rattle.state.specs.Readings.{slot_at, top_at, height_at, reading_at, readings_from, count_of, used_of, readings_of, Compact, StandsAt, AllStand}
use Rattle.state.proofs.Lists.{length_readings, stand_rest}
use Rattle.state.proofs.Valid.{all_stand, known}
use Rattle.promises.specs.Calls.{Renamed, Spared}
use Rattle.promises.specs.Cells.{ren_cell, ren_slot, EqualButCells}
use Rattle.promises.proofs.Identities.{readings_held, renamed_back}
use Rattle.promises.proofs.Pigeonhole.{pigeonhole}
use Rattle.promises.proofs.Steps.{of_held}

-- A stack in two pools, entry for entry the same but for identities: so are its cells.

tail : List Entry → List Entry
tail [] = []
tail (e ∷ s) = s

first : List Reading → Reading
first [] = record { mark = 0; stack = [] }
first (r ∷ rs) = r

others : List Reading → List Reading
others [] = []
others (r ∷ rs) = rs

-- The parent of a lowest cell is 0.
abbrev Lowest : (n : ℕ) → Pool → Type 0
Lowest n p = (c : ℕ) → c < n → (p c).height ≡ 1 → (p c).parent.0 ≡ 0

module _ (ρ : ℕ → ℕ) (n m : ℕ) (p q : Pool) (low : Lowest n p) (low' : Lowest m q) where
  -- the parent of the cell c of height suc h, whose stack below is the same
  parent_same : (h c d : ℕ) → Linked n p (suc h) c → Linked m q (suc h) d → entries_of q h (q d).parent.0 ≡ map (ren_entry ρ) (entries_of p h (p c).parent.0) →
      (q d).parent.0 ≡ (if eqb (p c).height 1 then (p c).parent.0 else ρ (p c).parent.0)
  unfolding Linked entries_of
  parent_same zero c d a b e =
      low' d b.0 b.1 ∙ sym (ap (λ (t : Bool). if t then (p c).parent.0 else ρ (p c).parent.0) (eq-eqb (p c).height 1 a.1) ∙ low c a.0 a.1)
  parent_same (suc h) c d a b e =
      ap (λ (s : List Entry). (top s).born) e
      ∙ sym (ap (λ (t : Bool). if t then (p c).parent.0 else ρ (p c).parent.0) (ne_eqb (p c).height 1 (λ z. let k = a.1 in omega arith)))

  -- the cell c, on top of a stack
  top_same : (h c d : ℕ) → Linked n p (suc h) c → Linked m q (suc h) d → entries_of q (suc h) d ≡ map (ren_entry ρ) (entries_of p (suc h) c) → q d ≡ ren_cell ρ (p c)
  unfolding Linked entries_of tail
  top_same h c d a b e =
      let top-entry : entry_at q d ≡ ren_entry ρ (entry_at p c) = ap top e in
      let parent = parent_same h c d a b (ap tail e) in
      let height : (q d).height ≡ (p c).height = b.1 ∙ sym a.1 in
      λ i. record {
        parent = record { 0 = parent i };
        height = height i;
        state = record { 0 = (top-entry i).state };
        value = (top-entry i).value;
        start = (top-entry i).start;
        end = (top-entry i).end;
      }

  -- a cell that a stack holds
  stack_same : (h c d a : ℕ) → Linked n p h c → Linked m q h d → entries_of q h d ≡ map (ren_entry ρ) (entries_of p h c) → holds (entries_of p h c) a ≡ true → q (ρ a) ≡ ren_cell ρ (p a)
  unfolding Linked entries_of holds tail
  stack_same zero c d a k l e g = no_false g
  stack_same (suc h) c d a k l e g = at (eqb c a) refl g (stack_same h (p c).parent.0 (q d).parent.0 a k.2 l.2 (ap tail e))
    where
      at : (b : Bool) → eqb c a ≡ b → either b (holds (entries_of p h (p c).parent.0) a) ≡ true → (holds (entries_of p h (p c).parent.0) a ≡ true → q (ρ a) ≡ ren_cell ρ (p a)) → q (ρ a) ≡ ren_cell ρ (p a)
      at true z y go = subst (λ (x : ℕ). q (ρ x) ≡ ren_cell ρ (p x)) (eqb-true c a z) (subst (λ (x : ℕ). q x ≡ ren_cell ρ (p c)) (ap (λ (s : List Entry). (top s).born) e) (top_same h c d k l e))
      at false z y go = go y

  -- its top
  top_number : (h c d : ℕ) → 1 ≤ h → entries_of q h d ≡ map (ren_entry ρ) (entries_of p h c) → d ≡ ρ c
  unfolding entries_of
  top_number zero c d l e = absurd (omega arith)
  top_number (suc h) c d l e = ap (λ (s : List Entry). (top s).born) e

-- Readings that stand in two buffers, the same but for identities.
module _ (ρ : ℕ → ℕ) (n m : ℕ) (s t : List ℕ) (low : Lowest n (cell_at s)) (low' : Lowest m (cell_at t)) (at : ℕ) where
  module _ (i : ℕ) (a : StandsAt n s at i) (b : StandsAt m t at i) (e : reading_at t at i ≡ ren_reading ρ (reading_at s at i)) where
    height_same : height_at t at i ≡ height_at s at i
    height_same =
        sym (length_entries (cell_at t) (height_at t at i) (top_at t at i)) ∙ ap (λ (r : Reading). length r.stack) e
        ∙ length-map (reading_at s at i).stack (ren_entry ρ) ∙ length_entries (cell_at s) (height_at s at i) (top_at s at i)

    entries_same : entries_of (cell_at t) (height_at s at i) (top_at t at i) ≡ map (ren_entry ρ) (entries_of (cell_at s) (height_at s at i) (top_at s at i))
    entries_same = ap (λ (h : ℕ). entries_of (cell_at t) h (top_at t at i)) (sym height_same) ∙ ap (λ (r : Reading). r.stack) e

    reading_cells : (c : ℕ) → holds (reading_at s at i).stack c ≡ true → cell_at t (ρ c) ≡ ren_cell ρ (cell_at s c)
    reading_cells c =
        stack_same ρ n m (cell_at s) (cell_at t) low low' (height_at s at i) (top_at s at i) (top_at t at i) c a.stack
        (subst (λ (h : ℕ). Linked m (cell_at t) h (top_at t at i)) height_same b.stack) entries_same

    slot_same : slot_at t at i ≡ ren_slot ρ (slot_at s at i)
    slot_same =
        let number = top_number ρ n m (cell_at s) (cell_at t) low low' (height_at s at i) (top_at s at i) (top_at t at i) a.low entries_same in
        λ j. record { top = record { 0 = number j }; mark = (e j).mark }

  list_cells : (i k : ℕ) → AllStand n s at i k → AllStand m t at i k → readings_from t at i k ≡ map (ren_reading ρ) (readings_from s at i k) →
      (c : ℕ) → held_by (readings_from s at i k) c ≡ true → cell_at t (ρ c) ≡ ren_cell ρ (cell_at s c)
  unfolding readings_from held_by first others
  list_cells i zero a b e c h = no_false h
  list_cells i (suc k) a b e c h =
      at_first (holds (reading_at s at i).stack c) refl h
      (list_cells (i + 1) k (stand_rest n s at i k a) (stand_rest m t at i k b) (ap others e) c)
    where
      at_first : (b' : Bool) → holds (reading_at s at i).stack c ≡ b' → either b' (held_by (readings_from s at (i + 1) k) c) ≡ true →
          (held_by (readings_from s at (i + 1) k) c ≡ true → cell_at t (ρ c) ≡ ren_cell ρ (cell_at s c)) → cell_at t (ρ c) ≡ ren_cell ρ (cell_at s c)
      at_first true z y go = reading_cells i (a i (omega arith) (omega arith)) (b i (omega arith) (omega arith)) (ap first e) c z
      at_first false z y go = go y

  list_slots : (i k : ℕ) → AllStand n s at i k → AllStand m t at i k → readings_from t at i k ≡ map (ren_reading ρ) (readings_from s at i k) →
      (j : ℕ) → i ≤ j → j < i + k → slot_at t at j ≡ ren_slot ρ (slot_at s at j)
  unfolding readings_from first others
  list_slots i zero a b e j l h = absurd (omega arith)
  list_slots i (suc k) a b e j l h = go (same? i j) (list_slots (i + 1) k (stand_rest n s at i k a) (stand_rest m t at i k b) (ap others e) j)
    where
      go : (i ≡ j) ⊎ Other i j → (i + 1 ≤ j → j < i + 1 + k → slot_at t at j ≡ ren_slot ρ (slot_at s at j)) → slot_at t at j ≡ ren_slot ρ (slot_at s at j)
      go (inl z) on = subst (λ (x : ℕ). slot_at t at x ≡ ren_slot ρ (slot_at s at x)) z (slot_same i (a i (omega arith) (omega arith)) (b i (omega arith) (omega arith)) (ap first e))
      go (inr z) on = on (⊎_elim (λ w. omega arith) (λ w. omega arith) z) (omega arith)

-- Two states: as many readings,
pub count_same : (s t : List ℕ) → Renamed (readings_of s) (readings_of t) → count_of t ≡ count_of s
count_same s t h = sym (length_readings t readings_at 0 (count_of t)) ∙ ap length h.same ∙ length-map (readings_of s) (ren_reading h.rename) ∙ length_readings s readings_at 0 (count_of s)

module _ (m : ℕ) (s t : List ℕ) (v : valid_state m s ≡ true) (u : valid_state m t ≡ true) (a : Compact s) (h : Renamed (readings_of s) (readings_of t)) where
  cell_inside : (c : ℕ) → c < used_of s → h.rename c < used_of t
  cell_inside c l =
      of_held (λ (d : ℕ). d < used_of t) (readings_of t) (h.rename c) (known m t u).owned
      (subst (λ (rs : List Reading). held_by rs (h.rename c) ≡ true) (sym h.same) (readings_held h.rename (readings_of s) c (a.held c l)))

  cells_apart : (c d : ℕ) → c < used_of s → d < used_of s → h.rename c ≡ h.rename d → c ≡ d
  cells_apart c d k l e = h.apart c d (a.held c k) (a.held d l) e

  used_most : used_of s ≤ used_of t
  used_most = pigeonhole (used_of s) (used_of t) h.rename cell_inside cells_apart

-- and as many cells in use: each goes to one of the other's, either way.
pub used_same : (m : ℕ) (s t : List ℕ) → valid_state m s ≡ true → valid_state m t ≡ true → Compact s → Compact t → Renamed (readings_of s) (readings_of t) → used_of t ≡ used_of s
used_same m s t v u a b h =
    let k = used_most m s t v u a h in
    let l = used_most m t s u v b (renamed_back (readings_of s) (readings_of t) h) in
    omega arith

-- What is spared of the same bytes is the same.
pub same_spared : (o s t : List ℕ) → used_of t ≡ used_of s → count_of t ≡ count_of s → Spared o s → Spared o t →
    Agree t s (cell_size * used_of s) (readings_at - cell_size * used_of s) × Agree t s (readings_at + slot_size * count_of s) (count_at - (readings_at + slot_size * count_of s))
same_spared o s t u c a b = (
  λ k l h. subst (λ (n : ℕ). Agree t o (cell_size * n) (readings_at - cell_size * n)) u b.cells k l h ∙ sym (a.cells k l h),
  λ k l h. subst (λ (n : ℕ). Agree t o (readings_at + slot_size * n) (count_at - (readings_at + slot_size * n))) c b.slots k l h ∙ sym (a.slots k l h),
)

pub equal_but_cells : (m : ℕ) (o s t : List ℕ) → valid_state m s ≡ true → valid_state m t ≡ true → Compact s → Compact t → Spared o s → Spared o t → Renamed (readings_of s) (readings_of t) → EqualButCells s t
equal_but_cells m o s t v u a b x y h =
    record {
      long = y.long ∙ sym x.long;
      used = used;
      count = count;
      rename = h.rename;
      inside = λ c l. subst (λ (n : ℕ). h.rename c < n) used (cell_inside m s t v u a h c l);
      apart = cells_apart m s t v u a h;
      cells = λ c l. list_cells ρ (used_of s) (used_of t) s t a.lowest b.lowest readings_at 0 (count_of s) stand stand' same c (a.held c l);
      slots = λ i l. list_slots ρ (used_of s) (used_of t) s t a.lowest b.lowest readings_at 0 (count_of s) stand stand' same i (omega arith) (omega arith);
      other_cells = (same_spared o s t used count x y).0;
      other_slots = (same_spared o s t used count x y).1;
    }
  where
    ρ : ℕ → ℕ
    ρ = h.rename

    used : used_of t ≡ used_of s
    used = used_same m s t v u a b h

    count : count_of t ≡ count_of s
    count = count_same s t h

    stand : AllStand (used_of s) s readings_at 0 (count_of s)
    stand = all_stand m s v

    stand' : AllStand (used_of t) t readings_at 0 (count_of s)
    stand' = subst (λ (k : ℕ). AllStand (used_of t) t readings_at 0 k) count (all_stand m t u)

    same : readings_from t readings_at 0 (count_of s) ≡ map (ren_reading ρ) (readings_of s)
    same = ap (λ (k : ℕ). readings_from t readings_at 0 k) (sym count) ∙ h.same
