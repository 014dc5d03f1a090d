-- Reading slots in bytes: what was written is read back, what stands apart is kept. Assumes nothing.
use mathlib.Core.Path.{◌≡◌, ◌∙◌}
use mathlib.Core.List.{List}
use mathlib.Core.Logic.{inl, inr, ⊎_elim}
use Prim.Native.Nat.{ℕ, ◌+◌, ◌*◌, ◌≤◌}
use native.Mathlib.Omega.{arith}
use lib.ListN.{length}
use Rattle.meaning.specs.Bytes.{u16_at, u32_at}
use Rattle.numbers.specs.Writing.{put_u16, put_u32, Apart, Agree, length_put_u16, length_put_u32, u16_agree, u32_agree, agree_put_u16, agree_put_u32, u16_put_u32, u16_back, u32_back}
use Rattle.cells.proofs.Records.{Other}
use Rattle.state.specs.Layout.{slot_size}
use Rattle.state.specs.Readings.{slot_at, put_slot}
use Rattle.state.specs.declared.Slot.{Slot}

pub length_put_slot : (s : List ℕ) (at i : ℕ) (x : Slot) → length (put_slot s at i x) ≡ length s
unfolding put_slot
length_put_slot s at i x = simp (length_put_u32, length_put_u16)

pub agree_put_slot : (s : List ℕ) (at i : ℕ) (x : Slot) (j m : ℕ) → Apart (at + slot_size * i) slot_size j m → Agree (put_slot s at i x) s j m
unfolding put_slot
agree_put_slot s at i x j m a k h l =
    agree_put_u32 _ (at + 6 * i + 2) x.mark j m (⊎_elim (λ q. inl (omega arith)) (λ q. inr (omega arith)) a) k h l
    ∙ agree_put_u16 s (at + 6 * i) x.top.0 j m (⊎_elim (λ q. inl (omega arith)) (λ q. inr (omega arith)) a) k h l

pub slot_agree : (s t : List ℕ) (at i : ℕ) → Agree s t (at + slot_size * i) slot_size → slot_at s at i ≡ slot_at t at i
unfolding slot_at
slot_agree s t at i a =
    cc (
      u16_agree s t (at + 6 * i) (λ k h l. a k (omega arith) (omega arith)),
      u32_agree s t (at + 6 * i + 2) (λ k h l. a k (omega arith) (omega arith)),
    )

pub slot_other : (s : List ℕ) (at i j : ℕ) (x : Slot) → Other i j → slot_at (put_slot s at i x) at j ≡ slot_at s at j
slot_other s at i j x o = slot_agree _ s at j (agree_put_slot s at i x (at + 6 * j) 6 (⊎_elim (λ q. inl (omega arith)) (λ q. inr (omega arith)) o))

pub slot_back : (s : List ℕ) (at i : ℕ) (x : Slot) → at + slot_size * i + slot_size ≤ length s → slot_at (put_slot s at i x) at i ≡ x
unfolding slot_at put_slot
slot_back s at i x h =
    let t : List ℕ = put_u16 s (at + 6 * i) x.top.0 in
    let l : length t ≡ length s = length_put_u16 s (at + 6 * i) x.top.0 in
    let top : u16_at (put_u32 t (at + 6 * i + 2) x.mark) (at + 6 * i) ≡ x.top.0 =
    u16_put_u32 t _ x.mark _ (inr (omega arith)) ∙ u16_back s _ _ (omega arith) in
    let mark : u32_at (put_u32 t (at + 6 * i + 2) x.mark) (at + 6 * i + 2) ≡ x.mark = u32_back t _ _ (omega arith) in
    λ k. record { top = record { 0 = top k }; mark = mark k }
