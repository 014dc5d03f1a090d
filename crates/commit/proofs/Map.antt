-- The map of where cells have gone: read back, kept elsewhere, forgotten. Assumes nothing.
use mathlib.Core.Path.{◌≡◌, ap, ◌∙◌}
use mathlib.Core.Logic.{inl, inr, ⊎_elim}
use mathlib.Core.List.{List, ◌++◌}
use Prim.Native.Nat.{ℕ, ◌+◌, ◌-◌, ◌*◌, ◌<◌, ◌≤◌}
use native.Mathlib.Omega.{arith}
use lib.ListN.{length, take, drop, length-append, length-drop, get_or-append}
use lib.Seq.{length-take-le, get_or-append-add, get_or-take}
use borrow.Rule.Slice.PartMut.{mid_of, put_mid, post_of, mid_len, Post-is}
use Rattle.meaning.specs.Bytes.{byte_at, u16_at}
use Rattle.numbers.specs.Writing.{Agree, length_put_u16, agree_put_u16, u16_put_u16, u16_back}
use Rattle.numbers.specs.Zeros.{zeros, length_zeros, byte_zeros}
use Rattle.cells.specs.Pool.{cell_at}
use Rattle.cells.proofs.Records.{Other, cell_agree}
use Rattle.state.specs.Layout.{map_at, slot_size, work_cells, work_len}
use Rattle.state.specs.Readings.{slot_at}
use Rattle.state.proofs.Slots.{slot_agree}
use Rattle.commit.specs.Moving.{moved_to, put_moved, forgotten}

pub moved_other : (w : List ℕ) (c d v : ℕ) → Other c d → moved_to (put_moved w c v) d ≡ moved_to w d
unfolding moved_to put_moved
moved_other w c d v o = u16_put_u16 w _ v _ (⊎_elim (λ q. inl (omega arith)) (λ q. inr (omega arith)) o)

pub moved_same : (w : List ℕ) (c v : ℕ) → c < work_cells → length w ≡ work_len → moved_to (put_moved w c v) c ≡ v
unfolding moved_to put_moved
moved_same w c v h l = u16_back w _ v (omega arith)

pub length_put_moved : (w : List ℕ) (c v : ℕ) → length (put_moved w c v) ≡ length w
unfolding put_moved
length_put_moved w c v = length_put_u16 w _ v

-- everything below the map is kept
pub agree_put_moved : (w : List ℕ) (c v : ℕ) → Agree (put_moved w c v) w 0 map_at
unfolding put_moved
agree_put_moved w c v = agree_put_u16 w _ v 0 map_at (inr (omega arith))

-- What stands below the map: the pool's cells, and the lists.
pub cell_kept : (v w : List ℕ) → Agree v w 0 map_at → (c : ℕ) → c < work_cells → cell_at v c ≡ cell_at w c
cell_kept v w a c h = cell_agree v w c (λ k i l. a k (omega arith) (omega arith))

pub slot_kept : (v w : List ℕ) → Agree v w 0 map_at → (at i : ℕ) → at + slot_size * i + slot_size ≤ map_at → slot_at v at i ≡ slot_at w at i
slot_kept v w a at i h = slot_agree v w at i (λ k j l. a k (omega arith) (omega arith))

-- Forgetting: zeros in the place of a part, and what that leaves.
zeros_part : (a e : ℕ) (w part : List ℕ) → a ≤ e → e ≤ length w → part ≡ zeros (length (mid_of a (e - a) w)) → put_mid a (e - a) w part ≡ take a w ++ (zeros (e - a) ++ drop e w)
zeros_part a e w part h g q =
    ap (λ (m : List ℕ). take a w ++ (m ++ post_of a (e - a) w)) (q ∙ ap zeros (mid_len a e w g))
    ∙ ap (λ (m : List ℕ). take a w ++ (zeros (e - a) ++ m)) (Post-is a e w h)

pub forgets : (w part : List ℕ) (m n : ℕ) → m ≡ n → length w ≡ work_len → n ≤ work_cells → part ≡ zeros (length (mid_of map_at (map_at + 2 * m - map_at) w)) →
    put_mid map_at (map_at + 2 * m - map_at) w part ≡ forgotten w n
unfolding forgotten
forgets w part m n f l b e =
    let u : map_at + 2 * n - map_at ≡ 2 * n = omega arith in
    rw f
    (zeros_part map_at (map_at + 2 * n) w part (omega arith) (omega arith) (rw f at e) ∙ ap (λ (k : ℕ). take map_at w ++ (zeros k ++ drop (map_at + 2 * n) w)) u)

module _ (w : List ℕ) (n : ℕ) (l : length w ≡ work_len) (b : n ≤ work_cells) where
  front : length (take map_at w) ≡ map_at
  front = length-take-le map_at w (omega arith)

  pub length_forgotten : length (forgotten w n) ≡ length w
  unfolding forgotten
  length_forgotten =
      length-append (take map_at w) (zeros (2 * n) ++ drop (map_at + 2 * n) w)
      ∙ rw (front, length-append (zeros (2 * n)) (drop (map_at + 2 * n) w), length_zeros (2 * n), length-drop (map_at + 2 * n) w) (omega arith)

  pub agree_forgotten : Agree (forgotten w n) w 0 map_at
  unfolding forgotten
  agree_forgotten k h i =
      get_or-append (take map_at w) (zeros (2 * n) ++ drop (map_at + 2 * n) w) 0 k (rw front (omega arith))
      ∙ get_or-take map_at w k 0 (omega arith)

  zero_byte : (k : ℕ) → k < 2 * n → byte_at (forgotten w n) (map_at + k) ≡ 0
  unfolding forgotten
  zero_byte k h =
      let at : map_at + k ≡ length (take map_at w) + k = rw front (omega arith) in
      ap (byte_at (take map_at w ++ (zeros (2 * n) ++ drop (map_at + 2 * n) w))) at
      ∙ get_or-append-add (take map_at w) (zeros (2 * n) ++ drop (map_at + 2 * n) w) k 0
      ∙ get_or-append (zeros (2 * n)) (drop (map_at + 2 * n) w) 0 k (rw (length_zeros (2 * n)) h)
      ∙ byte_zeros (2 * n) k

  pub moved_nowhere : (c : ℕ) → c < n → moved_to (forgotten w n) c ≡ 0
  unfolding moved_to u16_at
  moved_nowhere c h =
      let high = zero_byte (2 * c) (omega arith) in
      let low = zero_byte (2 * c + 1) (omega arith) in
      let u : map_at + 2 * c + 1 ≡ map_at + (2 * c + 1) = omega arith in
      rw (u, high, low)
