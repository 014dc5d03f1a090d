-- Cells in bytes: what was written is read back, what stands apart is kept. Assumes nothing.
use mathlib.Core.Path.{◌≡◌, ◌∙◌}
use mathlib.Core.List.{List}
use mathlib.Core.Logic.{◌⊎◌, inl, inr, ⊎_elim}
use Prim.Native.Nat.{ℕ, ◌+◌, ◌*◌, ◌<◌, ◌≤◌}
use native.Mathlib.Omega.{arith}
use native.Mathlib.Decide.{dec_lt}
use lib.ListN.{length}
use Rattle.meaning.specs.Bytes.{u16_at, u32_at}
use Rattle.numbers.specs.Writing.{put_u16, put_u32, Apart, Agree, length_put_u16, length_put_u32, u16_agree, u32_agree, agree_put_u16, agree_put_u32, u16_put_u16, u16_put_u32, u32_put_u32, u16_back, u32_back}
use Rattle.cells.specs.Pool.{cell_size, cell_at, put_cell}
use Rattle.cells.specs.declared.Cell.{Cell}

-- two numbers that differ
abbrev pub Other : ℕ → ℕ → Type 0
Other c d = (c < d) ⊎ (d < c)

pub same? : (a b : ℕ) → (a ≡ b) ⊎ Other a b
same? a b = go (dec_lt a b) (dec_lt b a)
  where
    go : Dec (a < b) → Dec (b < a) → (a ≡ b) ⊎ Other a b
    go (yes h) _ = inr (inl h)
    go (no h) (yes k) = inr (inr k)
    go (no h) (no k) = inl (omega arith)

pub length_put_cell : (s : List ℕ) (c : ℕ) (x : Cell) → length (put_cell s c x) ≡ length s
unfolding put_cell
length_put_cell s c x = simp (length_put_u16, length_put_u32)

-- a window apart from the cell is kept
pub agree_put_cell : (s : List ℕ) (c : ℕ) (x : Cell) (j m : ℕ) → Apart (cell_size * c) cell_size j m → Agree (put_cell s c x) s j m
unfolding put_cell
agree_put_cell s c x j m a k h l =
    agree_put_u32 _ (18 * c + 14) x.end j m (part 14 4 (omega arith)) k h l
    ∙ agree_put_u32 _ (18 * c + 10) x.start j m (part 10 4 (omega arith)) k h l
    ∙ agree_put_u32 _ (18 * c + 6) x.value j m (part 6 4 (omega arith)) k h l
    ∙ agree_put_u16 _ (18 * c + 4) x.state.0 j m (part 4 2 (omega arith)) k h l
    ∙ agree_put_u16 _ (18 * c + 2) x.height j m (part 2 2 (omega arith)) k h l
    ∙ agree_put_u16 s (18 * c) x.parent.0 j m (⊎_elim (λ q. inl (omega arith)) (λ q. inr (omega arith)) a) k h l
  where
    part : (o n : ℕ) → o + n ≤ 18 → Apart (18 * c + o) n j m
    part o n b = ⊎_elim (λ q. inl (omega arith)) (λ q. inr (omega arith)) a

-- a cell is its window
pub cell_agree : (s t : List ℕ) (c : ℕ) → Agree s t (cell_size * c) cell_size → cell_at s c ≡ cell_at t c
unfolding cell_at
cell_agree s t c a =
    cc (
      u16_agree s t (18 * c) (λ k h l. a k (omega arith) (omega arith)),
      u16_agree s t (18 * c + 2) (λ k h l. a k (omega arith) (omega arith)),
      u16_agree s t (18 * c + 4) (λ k h l. a k (omega arith) (omega arith)),
      u32_agree s t (18 * c + 6) (λ k h l. a k (omega arith) (omega arith)),
      u32_agree s t (18 * c + 10) (λ k h l. a k (omega arith) (omega arith)),
      u32_agree s t (18 * c + 14) (λ k h l. a k (omega arith) (omega arith)),
    )

-- Another cell is kept.
pub cell_other : (s : List ℕ) (c d : ℕ) (x : Cell) → Other c d → cell_at (put_cell s c x) d ≡ cell_at s d
cell_other s c d x o = cell_agree _ s d (agree_put_cell s c x (18 * d) 18 (⊎_elim (λ q. inl (omega arith)) (λ q. inr (omega arith)) o))

-- The cell that was written is read back.
pub cell_back : (s : List ℕ) (c : ℕ) (x : Cell) → cell_size * c + cell_size ≤ length s → cell_at (put_cell s c x) c ≡ x
unfolding cell_at put_cell
cell_back s c x h =
    let s1 : List ℕ = put_u16 s (18 * c) x.parent.0 in
    let s2 : List ℕ = put_u16 s1 (18 * c + 2) x.height in
    let s3 : List ℕ = put_u16 s2 (18 * c + 4) x.state.0 in
    let s4 : List ℕ = put_u32 s3 (18 * c + 6) x.value in
    let s5 : List ℕ = put_u32 s4 (18 * c + 10) x.start in
    let l1 : length s1 ≡ length s = length_put_u16 s (18 * c) x.parent.0 in
    let l2 : length s2 ≡ length s1 = length_put_u16 s1 (18 * c + 2) x.height in
    let l3 : length s3 ≡ length s2 = length_put_u16 s2 (18 * c + 4) x.state.0 in
    let l4 : length s4 ≡ length s3 = length_put_u32 s3 (18 * c + 6) x.value in
    let l5 : length s5 ≡ length s4 = length_put_u32 s4 (18 * c + 10) x.start in
    let parent : u16_at (put_u32 s5 (18 * c + 14) x.end) (18 * c) ≡ x.parent.0 =
    u16_put_u32 s5 _ x.end _ (inr (omega arith))
    ∙ u16_put_u32 s4 _ x.start _ (inr (omega arith))
    ∙ u16_put_u32 s3 _ x.value _ (inr (omega arith))
    ∙ u16_put_u16 s2 _ x.state.0 _ (inr (omega arith))
    ∙ u16_put_u16 s1 _ x.height _ (inr (omega arith))
    ∙ u16_back s _ _ (omega arith) in
    let height : u16_at (put_u32 s5 (18 * c + 14) x.end) (18 * c + 2) ≡ x.height =
    u16_put_u32 s5 _ x.end _ (inr (omega arith))
    ∙ u16_put_u32 s4 _ x.start _ (inr (omega arith))
    ∙ u16_put_u32 s3 _ x.value _ (inr (omega arith))
    ∙ u16_put_u16 s2 _ x.state.0 _ (inr (omega arith))
    ∙ u16_back s1 _ _ (omega arith) in
    let state : u16_at (put_u32 s5 (18 * c + 14) x.end) (18 * c + 4) ≡ x.state.0 =
    u16_put_u32 s5 _ x.end _ (inr (omega arith))
    ∙ u16_put_u32 s4 _ x.start _ (inr (omega arith))
    ∙ u16_put_u32 s3 _ x.value _ (inr (omega arith))
    ∙ u16_back s2 _ _ (omega arith) in
    let value : u32_at (put_u32 s5 (18 * c + 14) x.end) (18 * c + 6) ≡ x.value =
    u32_put_u32 s5 _ x.end _ (inr (omega arith))
    ∙ u32_put_u32 s4 _ x.start _ (inr (omega arith))
    ∙ u32_back s3 _ _ (omega arith) in
    let start : u32_at (put_u32 s5 (18 * c + 14) x.end) (18 * c + 10) ≡ x.start =
    u32_put_u32 s5 _ x.end _ (inr (omega arith)) ∙ u32_back s4 _ _ (omega arith) in
    let end : u32_at (put_u32 s5 (18 * c + 14) x.end) (18 * c + 14) ≡ x.end = u32_back s5 _ _ (omega arith) in
    λ i. record {
      parent = record { 0 = parent i };
      height = height i;
      state = record { 0 = state i };
      value = value i;
      start = start i;
      end = end i;
    }
