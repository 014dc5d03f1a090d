-- The records of the readings left, one after the other. Assumes nothing.
use Prim.Native.Nat.{ℕ, zero, suc, ◌+◌, ◌-◌, ◌*◌, ◌<◌, ◌≤◌}
use native.Mathlib.Omega.{arith}
use mathlib.Core.Path.{◌≡◌, refl, sym, ap, ◌∙◌, subst}
use mathlib.Core.Logic.{inr}
use mathlib.Core.List.{List, [], ◌∷◌, ◌++◌, map, reverse, reverse-append, append_assoc, append-nil}
use lib.ListN.{length, length-append}
use Rattle.meaning.specs.Readings.{Reading}
use Rattle.meaning.specs.Applying.{unplanned}
use Rattle.meaning.specs.declared.ErrorRecord.{ErrorRecord}
use Rattle.numbers.specs.Writing.{Agree}
use Rattle.cells.specs.Pool.{cell_size, cell_at}
use Rattle.cells.specs.Stacks.{entries_of}
use Rattle.cells.specs.declared.Cell.{Cell}
use Rattle.cells.proofs.Records.{cell_agree}
use Rattle.cells.proofs.Stacks.{linked_top}
use Rattle.state.specs.Layout.{slot_size, left_at, errors_at}
use Rattle.state.specs.Readings.{slot_at, height_at, top_at, reading_at, readings_from, AllStand}
use Rattle.state.specs.declared.Slot.{Slot}
use Rattle.state.proofs.Slots.{slot_agree}
use Rattle.state.proofs.Lists.{readings_last, readings_kept, all_stand_kept}
use Rattle.actions.specs.Errors.{error_at, put_error, errors_of}
use Rattle.actions.proofs.ErrorRecords.{length_put_error, agree_put_error, error_agree, error_back, errors_last, errors_kept}
use Rattle.feeding.specs.Unplanned.{place, UnplannedReady, UnplannedDone}
use Rattle.feeding.specs.declared.unplanned.Order.{Order}
use Rattle.feeding.specs.declared.unplanned.Order.TheVariants.{FirstToLast, LastToFirst}

-- What a reading's record is: its slot has the mark, its top cell the state.
module _ (w : List ℕ) (i errors : ℕ) (y : UnplannedReady w i 1 errors) where
  module _ (q : Slot) (e : q ≡ slot_at w left_at i) where
    pub cell_room : cell_size * q.top.0 + cell_size ≤ length w
    cell_room =
        let s = y.stand i (omega arith) (omega arith) in
        let top : top_at w 41920 i < y.cells = linked_top y.cells (cell_at w) (height_at w 41920 i) (top_at w 41920 i) s.low s.stack in
        let same : q.top.0 ≡ top_at w 41920 i = ap (λ (z : Slot). z.top.0) e in
        let a = y.long in let b = y.pool in
        omega arith

    pub record_is : (x : Cell) → x ≡ cell_at w q.top.0 → record { rule = 65535; state = x.state; mark = q.mark } ≡ unplanned (reading_at w left_at i)
    unfolding unplanned entries_of
    record_is x f = rw (f, e) (at (height_at w 41920 i) (y.stand i (omega arith) (omega arith)).low)
      where
        at : (h : ℕ) → 1 ≤ h → record { rule = 65535; state = (cell_at w (top_at w 41920 i)).state; mark = (slot_at w 41920 i).mark } ≡ unplanned (record { mark = (slot_at w 41920 i).mark; stack = entries_of (cell_at w) h (top_at w 41920 i) })
        at zero l = absurd (omega arith)
        at (suc h) l = refl

    pub put_is : (x : Cell) → x ≡ cell_at w q.top.0 → (w' : List ℕ) → w' ≡ put_error w errors (record { rule = 65535; state = x.state; mark = q.mark }) → w' ≡ put_error w errors (unplanned (reading_at w left_at i))
    put_is x f w' g = g ∙ ap (λ (z : ErrorRecord). put_error w errors z) (record_is x f)

-- Where nothing below the error records was written, lists of readings are as they were.
module _ (w w' : List ℕ) (kept : Agree w' w 0 errors_at) (cells : ℕ) (pool : cells ≤ 2096) where
  pub cells_agree : (d : ℕ) → d < cells → cell_at w' d ≡ cell_at w d
  cells_agree d h = cell_agree w' w d (λ j p q. kept j (omega arith) (omega arith))

  slots_agree : (at i k : ℕ) → at + 6 * (i + k) ≤ 42016 → (j : ℕ) → i ≤ j → j < i + k → slot_at w' at j ≡ slot_at w at j
  slots_agree at i k high j low h = slot_agree w' w at j (λ m p q. kept m (omega arith) (omega arith))

  pub list_agree : (at i k : ℕ) → at + slot_size * (i + k) ≤ errors_at → AllStand cells w at i k → readings_from w' at i k ≡ readings_from w at i k
  list_agree at i k high f = readings_kept cells w w' cells_agree at i k (slots_agree at i k high) f

  pub stand_agree : (at i k : ℕ) → at + slot_size * (i + k) ≤ errors_at → AllStand cells w at i k → AllStand cells w' at i k
  stand_agree at i k high f = all_stand_kept cells w w' cells_agree at i k (slots_agree at i k high) f cells (omega arith)

-- One record.
module _ (w : List ℕ) (i errors : ℕ) (y : UnplannedReady w i 1 errors) where
  abbrev new_record : ErrorRecord
  new_record = unplanned (reading_at w 41920 i)

  abbrev with_record : List ℕ
  with_record = put_error w errors new_record

  older_records : errors_of with_record errors ≡ errors_of w errors
  older_records = errors_kept w with_record 0 errors (λ j p q. error_agree with_record w j (agree_put_error w errors new_record (42016 + 8 * j) 8 (inr (omega arith))))

  last_record : error_at with_record (0 + errors) ≡ new_record
  last_record =
      let u : 0 + errors ≡ errors = omega arith in
      let a = y.long in let b = y.room in
      ap (error_at with_record) u ∙ error_back w errors new_record (omega arith)

  pub one_record : (w' : List ℕ) → w' ≡ put_error w errors (unplanned (reading_at w left_at i)) → UnplannedDone (reading_at w left_at i ∷ []) w errors w' (errors + 1)
  one_record w' e =
      let there : UnplannedDone (reading_at w 41920 i ∷ []) w errors with_record (errors + 1) =
      record {
        errors_are = errors_last with_record 0 errors ∙ (λ j. older_records j ++ (last_record j ∷ []));
        count_is = refl;
        kept = agree_put_error w errors new_record 0 42016 (inr (omega arith));
        same = length_put_error w errors new_record;
      } in
      rw e there

-- One after the other.
pub records_then : (rs rs' : List Reading) (w w₁ w₂ : List ℕ) (e e₁ e₂ : ℕ) → UnplannedDone rs w e w₁ e₁ → UnplannedDone rs' w₁ e₁ w₂ e₂ → UnplannedDone (rs ++ rs') w e w₂ e₂
records_then rs rs' w w₁ w₂ e e₁ e₂ g h =
    let a = g.count_is in let b = h.count_is in let l = length-append rs rs' in
    record {
      errors_are = h.errors_are ∙ ap (λ (x : List ErrorRecord). x ++ map unplanned rs') g.errors_are ∙ append_assoc (errors_of w e) (map unplanned rs) (map unplanned rs') ∙ ap (λ (x : List ErrorRecord). errors_of w e ++ x) (sym (map_append rs rs'));
      count_is = omega arith;
      kept = λ j p q. h.kept j p q ∙ g.kept j p q;
      same = h.same ∙ g.same;
    }
  where
    map_append : (xs ys : List Reading) → map unplanned (xs ++ ys) ≡ map unplanned xs ++ map unplanned ys
    map_append [] ys = refl
    map_append (z ∷ xs) ys = ap (λ (l : List ErrorRecord). unplanned z ∷ l) (map_append xs ys)

-- A list, last one first, begins with its last reading.
pub reverse_last : (s : List ℕ) (at k : ℕ) → reverse (readings_from s at 0 (k + 1)) ≡ reading_at s at k ∷ reverse (readings_from s at 0 k)
reverse_last s at k =
    let u : 0 + k ≡ k = omega arith in
    ap (λ (l : List Reading). reverse l) (readings_last s at 0 k) ∙ reverse-append (readings_from s at 0 k) (reading_at s at (0 + k) ∷ []) ∙ ap (λ (j : ℕ). reading_at s at j ∷ reverse (readings_from s at 0 k)) u

-- The readings of the first k turns.
abbrev pub turns : Order → List ℕ → (first count k : ℕ) → List Reading
turns FirstToLast w first count k = readings_from w 41920 first k
turns LastToFirst w first count k = reverse (readings_from w 41920 (first + (count - k)) k)

pub turns_none : (o : Order) (w : List ℕ) (first count : ℕ) → turns o w first count 0 ≡ []
unfolding readings_from
turns_none FirstToLast w first count = refl
turns_none LastToFirst w first count = refl

turns_more : (o : Order) (w : List ℕ) (first count k : ℕ) → k < count → turns o w first count (k + 1) ≡ turns o w first count k ++ (reading_at w 41920 (place o first count k) ∷ [])
unfolding readings_from
turns_more FirstToLast w first count k h = readings_last w 41920 first k
turns_more LastToFirst w first count k h =
    let n : k + 1 ≡ suc k = omega arith in
    let u : first + (count - suc k) ≡ first + (count - 1 - k) = omega arith in
    let v : first + (count - suc k) + 1 ≡ first + (count - k) = omega arith in
    ap (λ (j : ℕ). reverse (readings_from w 41920 (first + (count - j)) j)) n
    ∙ reverse-append (reading_at w 41920 (first + (count - suc k)) ∷ []) (readings_from w 41920 (first + (count - suc k) + 1) k)
    ∙ (λ i. reverse (readings_from w 41920 (v i) k) ++ (reading_at w 41920 (u i) ∷ []))

-- A turn's reading is one of them.
place_in : (o : Order) (first count k : ℕ) → k < count → first ≤ place o first count k × place o first count k < first + count
place_in FirstToLast first count k h = (omega arith, omega arith)
place_in LastToFirst first count k h = (omega arith, omega arith)

module _ (o : Order) (w : List ℕ) (first count errors : ℕ) where
  pub no_turn : UnplannedDone (turns o w first count 0) w errors w (errors + 0)
  no_turn =
      let n : errors + 0 ≡ errors = omega arith in
      rw (turns_none o w first count, n) (record { errors_are = sym (append-nil (errors_of w errors)); count_is = omega arith; kept = λ j p q. refl; same = refl })

  module _ (y : UnplannedReady w first count errors) (k : ℕ) (h : k < count) (w₁ : List ℕ) (d : UnplannedDone (turns o w first count k) w errors w₁ (errors + k)) (i : ℕ) (e : i ≡ place o first count k) where
    within : first ≤ i × i < first + count
    within = rw e (place_in o first count k h)

    one_stands : AllStand y.cells w 41920 i 1
    one_stands j p q = let l = within in y.stand j (omega arith) (omega arith)

    pub turn_ready : UnplannedReady w₁ i 1 (errors + k)
    turn_ready =
        let a = y.few in let b = y.room in let l = within in
        record {
          long = d.same ∙ y.long;
          cells = y.cells;
          pool = y.pool;
          few = omega arith;
          stand = stand_agree w w₁ d.kept y.cells y.pool 41920 i 1 (omega arith) one_stands;
          room = omega arith;
        }

    one_same : reading_at w₁ 41920 i ∷ [] ≡ reading_at w 41920 i ∷ []
    unfolding readings_from
    one_same = let a = y.few in let l = within in list_agree w w₁ d.kept y.cells y.pool 41920 i 1 (omega arith) one_stands

    pub turn_done : (w₂ : List ℕ) → w₂ ≡ put_error w₁ (errors + k) (unplanned (reading_at w₁ left_at i)) → UnplannedDone (turns o w first count (k + 1)) w errors w₂ (errors + (k + 1))
    turn_done w₂ f =
        let one = one_record w₁ i (errors + k) turn_ready w₂ f in
        let both = records_then (turns o w first count k) (reading_at w₁ 41920 i ∷ []) w w₁ w₂ errors (errors + k) (errors + k + 1) d one in
        let all : turns o w first count k ++ (reading_at w₁ 41920 i ∷ []) ≡ turns o w first count (k + 1) =
        ap (λ (l : List Reading). turns o w first count k ++ l) (one_same ∙ ap (λ (j : ℕ). reading_at w 41920 j ∷ []) e) ∙ sym (turns_more o w first count k h) in
        let n : errors + k + 1 ≡ errors + (k + 1) = omega arith in
        subst (λ (r : ℕ). UnplannedDone (turns o w first count (k + 1)) w errors w₂ r) n (subst (λ (l : List Reading). UnplannedDone l w errors w₂ (errors + k + 1)) all both)
