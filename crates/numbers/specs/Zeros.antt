-- Bytes that are all zero, and what is read there.
use Rattle.std.specs.Prelude.{◌≡◌, refl, List, ◌++◌, ℕ, zero, suc, ◌+◌, ◌≤◌, length, drop, replicate}
use Rattle.std.proofs.Common.{append-nil, arith}
use Rattle.std.proofs.lemmas.List.{length-replicate}
use Rattle.std.proofs.Math.Seq.{drop-length}
use Rattle.meaning.specs.Bytes.{byte_at, u16_at, u32_at}

-- n bytes of zero
abbrev pub zeros : ℕ → List ℕ
zeros n = replicate n 0

pub length_zeros : (n : ℕ) → length (zeros n) ≡ n
length_zeros n = length-replicate {A = ℕ} n 0

pub byte_zeros : (n i : ℕ) → byte_at (zeros n) i ≡ 0
byte_zeros zero i = refl
byte_zeros (suc n) zero = refl
byte_zeros (suc n) (suc i) = byte_zeros n i

pub u16_zeros : (n i : ℕ) → u16_at (zeros n) i ≡ 0
unfolding u16_at
u16_zeros n i = omega (arith, byte_zeros n i, byte_zeros n (i + 1))

pub u32_zeros : (n i : ℕ) → u32_at (zeros n) i ≡ 0
unfolding u32_at
u32_zeros n i = omega (arith, u16_zeros n i, u16_zeros n (i + 2))

-- a loop that has passed every byte of s has cleared them all
pub cleared : (s t : List ℕ) (i : ℕ) → i ≤ length s → length s ≤ i → t ≡ zeros i ++ drop i s → t ≡ zeros (length s)
cleared s t i a b e =
    let u : i ≡ length s = omega arith in
    rw (e, u, drop-length s) (append-nil (zeros (length s)))
