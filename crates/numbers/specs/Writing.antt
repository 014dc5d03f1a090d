-- Numbers written in bytes, high byte first, and the laws that callers use: what was written is read back, what stands apart is kept.
use Rattle.std.specs.Prelude.{◌≡◌, List, ◌⊎◌, ℕ, ◌+◌, ◌/◌, ◌%◌, ◌<◌, ◌≤◌, length, get_or, set}
use Rattle.std.proofs.Common.{◌∙◌, inl, inr, ⊎_elim, arith, length-set, get_or-set_same, get_or-set_other}
use Rattle.meaning.specs.Bytes.{byte_at, u16_at, u32_at}

-- the bytes after a write of v at i
unfoldable pub put_u16 : List ℕ → ℕ → ℕ → List ℕ
put_u16 s i v = set (set s i (v / 256)) (i + 1) (v % 256)

unfoldable pub put_u32 : List ℕ → ℕ → ℕ → List ℕ
put_u32 s i v = put_u16 (put_u16 s i (v / 65536)) (i + 2) (v % 65536)

-- two windows do not meet: n bytes from i, m bytes from j
abbrev pub Apart : ℕ → ℕ → ℕ → ℕ → Type 0
Apart i n j m = (i + n ≤ j) ⊎ (j + m ≤ i)

pub length_put_u16 : (s : List ℕ) (i v : ℕ) → length (put_u16 s i v) ≡ length s
unfolding put_u16
length_put_u16 s i v = simp length-set

pub length_put_u32 : (s : List ℕ) (i v : ℕ) → length (put_u32 s i v) ≡ length s
unfolding put_u32
length_put_u32 s i v = simp length_put_u16

-- Frames. A byte outside the window of a write is kept, and so is every number outside it.
pub byte_put_u16 : (s : List ℕ) (i v j : ℕ) → Apart i 2 j 1 → byte_at (put_u16 s i v) j ≡ byte_at s j
unfolding put_u16
byte_put_u16 s i v j a =
    get_or-set_other (set s i (v / 256)) (i + 1) j (v % 256) 0 (⊎_elim (λ h. omega arith) (λ h. omega arith) a)
    ∙ get_or-set_other s i j (v / 256) 0 (⊎_elim (λ h. omega arith) (λ h. omega arith) a)

pub byte_put_u32 : (s : List ℕ) (i v j : ℕ) → Apart i 4 j 1 → byte_at (put_u32 s i v) j ≡ byte_at s j
unfolding put_u32
byte_put_u32 s i v j a =
    byte_put_u16 (put_u16 s i (v / 65536)) (i + 2) (v % 65536) j (⊎_elim (λ h. inl (omega arith)) (λ h. inr (omega arith)) a)
    ∙ byte_put_u16 s i (v / 65536) j (⊎_elim (λ h. inl (omega arith)) (λ h. inr (omega arith)) a)

-- s and t agree on the window of m bytes from j
abbrev pub Agree : List ℕ → List ℕ → ℕ → ℕ → Type 0
Agree s t j m = (k : ℕ) → j ≤ k → k < j + m → byte_at s k ≡ byte_at t k

pub u16_agree : (s t : List ℕ) (j : ℕ) → Agree s t j 2 → u16_at s j ≡ u16_at t j
unfolding u16_at
u16_agree s t j a = cc (a j (omega arith) (omega arith), a (j + 1) (omega arith) (omega arith))

pub u32_agree : (s t : List ℕ) (j : ℕ) → Agree s t j 4 → u32_at s j ≡ u32_at t j
unfolding u32_at
u32_agree s t j a =
    cc (
      u16_agree s t j (λ k h l. a k (omega arith) (omega arith)),
      u16_agree s t (j + 2) (λ k h l. a k (omega arith) (omega arith)),
    )

-- a window apart from a write is kept: what the frames below cite
pub agree_put_u16 : (s : List ℕ) (i v j m : ℕ) → Apart i 2 j m → Agree (put_u16 s i v) s j m
agree_put_u16 s i v j m a k h l = byte_put_u16 s i v k (⊎_elim (λ q. inl (omega arith)) (λ q. inr (omega arith)) a)

pub agree_put_u32 : (s : List ℕ) (i v j m : ℕ) → Apart i 4 j m → Agree (put_u32 s i v) s j m
agree_put_u32 s i v j m a k h l = byte_put_u32 s i v k (⊎_elim (λ q. inl (omega arith)) (λ q. inr (omega arith)) a)

pub u16_put_u16 : (s : List ℕ) (i v j : ℕ) → Apart i 2 j 2 → u16_at (put_u16 s i v) j ≡ u16_at s j
u16_put_u16 s i v j a = u16_agree _ _ j (agree_put_u16 s i v j 2 a)

pub u32_put_u16 : (s : List ℕ) (i v j : ℕ) → Apart i 2 j 4 → u32_at (put_u16 s i v) j ≡ u32_at s j
u32_put_u16 s i v j a = u32_agree _ _ j (agree_put_u16 s i v j 4 a)

pub u16_put_u32 : (s : List ℕ) (i v j : ℕ) → Apart i 4 j 2 → u16_at (put_u32 s i v) j ≡ u16_at s j
u16_put_u32 s i v j a = u16_agree _ _ j (agree_put_u32 s i v j 2 a)

pub u32_put_u32 : (s : List ℕ) (i v j : ℕ) → Apart i 4 j 4 → u32_at (put_u32 s i v) j ≡ u32_at s j
u32_put_u32 s i v j a = u32_agree _ _ j (agree_put_u32 s i v j 4 a)

-- Read back what was written.
pub u16_back : (s : List ℕ) (i v : ℕ) → i + 2 ≤ length s → u16_at (put_u16 s i v) i ≡ v
unfolding put_u16 u16_at
u16_back s i v h =
    let l : i + 1 < length (set s i (v / 256)) = simp length-set (omega arith) in
    let a : get_or (set (set s i (v / 256)) (i + 1) (v % 256)) i 0 ≡ v / 256 =
    get_or-set_other (set s i (v / 256)) (i + 1) i (v % 256) 0 (omega arith)
    ∙ get_or-set_same s i (v / 256) 0 (omega arith) in
    let b : get_or (set (set s i (v / 256)) (i + 1) (v % 256)) (i + 1) 0 ≡ v % 256 =
    get_or-set_same (set s i (v / 256)) (i + 1) (v % 256) 0 l in
    omega arith

pub u32_back : (s : List ℕ) (i v : ℕ) → i + 4 ≤ length s → u32_at (put_u32 s i v) i ≡ v
unfolding put_u32 u32_at
u32_back s i v h =
    let t : List ℕ = put_u16 s i (v / 65536) in
    let l : length t ≡ length s = length_put_u16 s i (v / 65536) in
    let a : u16_at (put_u16 t (i + 2) (v % 65536)) i ≡ v / 65536 =
    u16_put_u16 t (i + 2) (v % 65536) i (inr (omega arith)) ∙ u16_back s i (v / 65536) (omega arith) in
    let b : u16_at (put_u16 t (i + 2) (v % 65536)) (i + 2) ≡ v % 65536 = u16_back t (i + 2) (v % 65536) (omega arith) in
    omega arith
