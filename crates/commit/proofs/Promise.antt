-- The promise of the commit. Assumes nothing.
use mathlib.Core.Path.{◌≡◌, refl, ap, sym, ◌∙◌}
use mathlib.Core.Bool.{Bool, true, false}
use mathlib.Core.Logic.{inl, inr}
use mathlib.Core.List.{List, [], ◌∷◌, map}
use Prim.Native.Nat.{ℕ, zero, suc, ◌+◌, ◌-◌, ◌<◌, ◌≤◌}
use native.Mathlib.Omega.{arith}
use lib.ListN.{length}
use Rattle.meaning.specs.Identities.{ren_entry, ren_reading}
use Rattle.meaning.specs.Readings.{Entry, Reading, holds, held_by}
use Rattle.meaning.proofs.Held.{readings_held}
use Rattle.numbers.specs.Writing.{put_u16, Agree, length_put_u16, agree_put_u16, u16_put_u16, u16_back}
use Rattle.cells.specs.Pool.{cell_at}
use Rattle.cells.specs.Stacks.{entries_of, StatesBelow}
use Rattle.cells.proofs.Stacks.{linked_top}
use Rattle.state.specs.Layout.{readings_at, count_at, used_at, map_at, work_cells, state_len}
use Rattle.state.specs.Readings.{slot_at, top_at, height_at, reading_at, readings_from, count_of, used_of, readings_of, results_of, Compact, StandsAt, AllStand}
use Rattle.state.specs.Check.{valid_state, StatesKnown}
use Rattle.state.specs.declared.Slot.{Slot}
use Rattle.state.proofs.Slots.{slot_agree}
use Rattle.state.proofs.Lists.{length_readings, all_stand_kept}
use Rattle.state.proofs.Valid.{valid_from}
use Rattle.commit.specs.Moving.{moved_to, forgotten, Move, move}
use Rattle.commit.specs.Committing.{commit_from, commit_of, Results, Committed, Commits, ListReady}
use Rattle.commit.proofs.Map.{length_forgotten, agree_forgotten, moved_nowhere, cell_kept, slot_kept}
use Rattle.commit.proofs.Moving.{Good, Source, good_state}
use Rattle.commit.proofs.Sharing.{renamed, moved_height, moved_entries, moved_linked, Gone, held_gone, gone_apart}
use Rattle.commit.proofs.Listing.{Going, Done, all_done}

-- Other identities, the same states.
ren_states : (m : ℕ) (ρ : ℕ → ℕ) (es : List Entry) → StatesBelow m es → StatesBelow m (map (ren_entry ρ) es)
ren_states m ρ [] h = tt
ren_states m ρ (e ∷ es) h = (h.0, ren_states m ρ es h.1)

ren_known : (m : ℕ) (ρ : ℕ → ℕ) (rs : List Reading) → StatesKnown m rs → StatesKnown m (map (ren_reading ρ) rs)
ren_known m ρ [] h = tt
ren_known m ρ (r ∷ rs) h = (ren_states m ρ r.stack h.0, ren_known m ρ rs h.1)

module _ (w s : List ℕ) (at count cells : ℕ) (y : Results w s at count cells) where
  -- Nothing has moved at first.
  nowhere : (c k : ℕ) → c < cells → moved_to (forgotten w cells) c ≡ suc k → ⊥
  nowhere c k h e = let z = moved_nowhere w cells y.work y.pool c h in omega arith

  going : Going cells w (forgotten w cells) s at count 0 0
  going =
      let few = y.few in
      let list = y.list in
      let pool = y.pool in
      record {
        pool = y.pool;
        kept = agree_forgotten w cells y.work y.pool;
        good =
            record {
              same = λ c h. cell_kept (forgotten w cells) w (agree_forgotten w cells y.work y.pool) c (omega arith);
              work = length_forgotten w cells y.work y.pool ∙ y.work;
              state = y.state;
              below = λ c k h e. absurd (nowhere c k h e);
              copy = λ c k h e. absurd (nowhere c k h e);
              link = λ c k h e b. absurd (nowhere c k h e);
              lowest = λ c k h e b. absurd (nowhere c k h e);
              once = λ c d k h i e f. absurd (nowhere c k h e);
            };
        room = omega arith;
        few = omega arith;
        list = omega arith;
        stands = y.stands;
      }

  -- Before both counts are written (r), and after (s').
  r : Move
  r = commit_from at count (forgotten w cells) s 0 0

  s' : List ℕ
  s' = put_u16 (put_u16 r.state count_at count) used_at r.next

  d : Done cells w (forgotten w cells) s at count 0 0 r
  unfolding r
  d = all_done cells w (forgotten w cells) s at count 0 0 going

  -- The counts, and what they leave alone.
  long : length (put_u16 r.state count_at count) ≡ state_len
  long = length_put_u16 r.state count_at count ∙ d.state ∙ y.state

  counted : count_of s' ≡ count
  unfolding s'
  counted =
      let l = d.state ∙ y.state in
      u16_put_u16 (put_u16 r.state count_at count) used_at r.next count_at (inr (omega arith)) ∙ u16_back r.state count_at count (omega arith)

  used : used_of s' ≡ r.next
  unfolding s'
  used = let l = long in u16_back (put_u16 r.state count_at count) used_at r.next (omega arith)

  before_counts : Agree s' r.state 0 count_at
  unfolding s'
  before_counts k h i =
      agree_put_u16 (put_u16 r.state count_at count) used_at r.next 0 count_at (inr (omega arith)) k h i
      ∙ agree_put_u16 r.state count_at count 0 count_at (inr (omega arith)) k h i

  good : Good cells (cell_at w) r.work s' r.next
  unfolding s'
  good =
      let l = length_put_u16 (put_u16 r.state count_at count) used_at r.next ∙ length_put_u16 r.state count_at count in
      good_state cells (cell_at w) r.work r.state s' r.next d.bound l (λ k h i. before_counts k h (omega arith)) d.good

  same_slot : (j : ℕ) → j < count → slot_at s' readings_at j ≡ slot_at r.state readings_at j
  same_slot j h = let few = y.few in slot_agree s' r.state readings_at j (λ k a b. before_counts k (omega arith) (omega arith))

  -- Reading by reading.
  stands : (j : ℕ) → j < count → StandsAt cells w at j
  stands j h = y.stands j (omega arith) (omega arith)

  found : (j : ℕ) → j < count → moved_to r.work (top_at w at j) ≡ suc (top_at s' readings_at j)
  found j h = d.found j (omega arith) (omega arith) ∙ ap (λ (x : Slot). suc x.top.0) (sym (same_slot j h))

  height : (j : ℕ) → j < count → height_at s' readings_at j ≡ height_at w at j
  height j h =
      moved_height cells (cell_at w) r.work s' r.next good (top_at w at j) (top_at s' readings_at j)
      (linked_top cells (cell_at w) (height_at w at j) (top_at w at j) (stands j h).low (stands j h).stack) (found j h)

  reading_same : (j : ℕ) → j < count → reading_at s' readings_at j ≡ ren_reading (renamed r.work) (reading_at w at j)
  reading_same j h =
      let mark : (slot_at s' readings_at j).mark ≡ (slot_at w at j).mark = ap (λ (x : Slot). x.mark) (same_slot j h) ∙ d.mark j (omega arith) (omega arith) in
      let stack : entries_of (cell_at s') (height_at s' readings_at j) (top_at s' readings_at j) ≡ map (ren_entry (renamed r.work)) (entries_of (cell_at w) (height_at w at j) (top_at w at j)) =
      rw (height j h) (moved_entries cells (cell_at w) r.work s' r.next good (height_at w at j) (top_at w at j) (top_at s' readings_at j) (stands j h).stack (found j h)) in
      λ i. record { mark = mark i; stack = stack i }

  readings_same : (k i : ℕ) → i + k ≤ count → readings_from s' readings_at i k ≡ map (ren_reading (renamed r.work)) (readings_from w at i k)
  unfolding readings_from
  readings_same zero i h = refl
  readings_same (suc k) i h =
      let first = reading_same i (omega arith) in
      let rest = readings_same k (i + 1) (omega arith) in
      λ j. first j ∷ rest j

  same : readings_of s' ≡ map (ren_reading (renamed r.work)) (results_of w at count)
  same = ap (readings_from s' readings_at 0) counted ∙ readings_same count 0 (omega arith)

  all_stand : AllStand (used_of s') s' readings_at 0 (count_of s')
  all_stand j a b =
      let c = counted in
      let h : j < count = omega arith in
      rw used
      (record {
        low = rw (height j h) (stands j h).low;
        high = rw (height j h) (stands j h).high;
        stack = rw (height j h) (moved_linked cells (cell_at w) r.work s' r.next good (height_at w at j) (top_at w at j) (top_at s' readings_at j) (stands j h).stack (found j h));
      })

  valid : (m : ℕ) → StatesKnown m (results_of w at count) → valid_state m s' ≡ true
  valid m h =
      let c = counted in
      let u = used in
      let b = d.bound in
      let few = y.few in
      valid_from m s' (omega arith) (omega arith) all_stand (rw same (ren_known m (renamed r.work) (results_of w at count) h))

  -- Who is held has gone somewhere, so no two become one.
  gone : (k i a : ℕ) → i + k ≤ count → held_by (readings_from w at i k) a ≡ true → Gone cells (cell_at w) r.work s' r.next good a
  unfolding readings_from held_by
  gone zero i a h e = let z : ◌≡◌ {A = ℕ} 0 1 = cc in absurd (omega arith)
  gone (suc k) i a h e =
      here (holds (entries_of (cell_at w) (height_at w at i) (top_at w at i)) a) refl (λ q. gone k (i + 1) a (omega arith) q)
    where
      here : (b : Bool) → holds (entries_of (cell_at w) (height_at w at i) (top_at w at i)) a ≡ b →
          (held_by (readings_from w at (i + 1) k) a ≡ true → Gone cells (cell_at w) r.work s' r.next good a) → Gone cells (cell_at w) r.work s' r.next good a
      here true f rest =
          held_gone cells (cell_at w) r.work s' r.next good (height_at w at i) (top_at w at i) (top_at s' readings_at i) a (stands i (omega arith)).stack (found i (omega arith)) f
      here false f rest = rest (rw f at e)

  -- Every cell in use is a copy of one that the results hold.
  source : (c : ℕ) → c < used_of s' → Source (held_by (results_of w at count)) r.work c
  source c h = let u = used in d.fresh c (omega arith) (omega arith)

  compact : Compact s'
  compact =
      record {
        held = λ c h.
            let o = source c h in
            let i = o.is in
            let u : renamed r.work o.from ≡ c = omega arith in
            rw (same, ← u) (readings_held (renamed r.work) (results_of w at count) o.from o.held);
        lowest = λ c h e.
            let o = source c h in
            let inside = (gone count 0 o.from (omega arith) o.held).inside in
            good.lowest o.from c inside o.is (sym (moved_height cells (cell_at w) r.work s' r.next good o.from c inside o.is) ∙ e);
      }

  committed : Committed (results_of w at count) s s'
  committed =
      let n = length_readings w at 0 count in
      let few = y.few in
      record {
        rename = renamed r.work;
        same = same;
        apart = λ a b e f q.
            gone_apart cells (cell_at w) r.work s' r.next good a b (gone count 0 a (omega arith) e) (gone count 0 b (omega arith) f) q;
        valid = valid;
        count = counted ∙ sym n;
        compact = compact;
        cells = λ k h i. let u = used in let b = d.bound in before_counts k (omega arith) (omega arith) ∙ d.rest k (omega arith) (inr (omega arith));
        slots = λ k h i. let b = d.bound in before_counts k (omega arith) (omega arith) ∙ d.rest k (omega arith) (inl (omega arith));
      }

-- What the function asks of its callee, and its way out.
pub ready_first : (w s : List ℕ) (at count cells : ℕ) (w₁ : List ℕ) → w₁ ≡ forgotten w cells → Results w s at count cells → ListReady w₁ s at (count - 0) 0 0
ready_first w s at count cells w₁ e y =
    let few = y.few in
    let list = y.list in
    let pool = y.pool in
    let kept : Agree w₁ w 0 map_at = rw e (agree_forgotten w cells y.work y.pool) in
    record {
      work = ap length e ∙ length_forgotten w cells y.work y.pool ∙ y.work;
      state = y.state;
      room = omega arith;
      few = omega arith;
      list = omega arith;
      stands =
          all_stand_kept cells w w₁ (λ c h. cell_kept w₁ w kept c (omega arith)) at 0 (count - 0) (λ j g h. slot_kept w₁ w kept at j (omega arith))
          (λ j g h. y.stands j g (omega arith)) work_cells y.pool;
    }

pub commits : (w s : List ℕ) (at count cells : ℕ) (w₁ w₂ s₂ s₃ s₄ : List ℕ) (n : ℕ) → Results w s at count cells → w₁ ≡ forgotten w cells →
    move w₂ s₂ n 0 ≡ commit_from at count w₁ s 0 0 → s₃ ≡ put_u16 s₂ count_at count → s₄ ≡ put_u16 s₃ used_at n → Commits w s at count cells w₂ s₄
unfolding commit_of r s'
commits w s at count cells w₁ w₂ s₂ s₃ s₄ n y a e b c =
    let f : move w₂ s₂ n 0 ≡ commit_from at count (forgotten w cells) s 0 0 = rw a at e in
    let out : s₄ ≡ put_u16 (put_u16 (commit_from at count (forgotten w cells) s 0 0).state count_at count) used_at (commit_from at count (forgotten w cells) s 0 0).next =
    c ∙ rw b refl ∙ ap (λ (q : Move). put_u16 (put_u16 q.state count_at count) used_at q.next) f in
    record {
      work = ap (λ (q : Move). q.work) f;
      state = out;
      promise = rw out (committed w s at count cells y);
    }
