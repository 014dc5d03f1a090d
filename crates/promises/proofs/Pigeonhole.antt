-- What is kept apart from below n goes below m only if m is no less than n. Assumes nothing.
use Prim.Native.Nat.{ℕ, zero, suc, ◌<◌, ◌≤◌}
use native.Mathlib.Omega.{arith}
use mathlib.Core.Path.{◌≡◌, refl, sym, ◌∙◌}
use mathlib.Core.Bool.{Bool, true, false}
use lib.Dec.{eqb}
use borrow.Author.Tests.{eqb-true, eqb-false}
use Rattle.std.specs.Prelude.{if◌then◌else◌}

-- One place less: what went to the last place goes where n went.
module _ (n m : ℕ) (f : ℕ → ℕ) (into : (c : ℕ) → c < suc n → f c < suc m) (apart : (a b : ℕ) → a < suc n → b < suc n → f a ≡ f b → a ≡ b) where
  abbrev moved : Bool → ℕ → ℕ
  moved last c = (if last then f n else f c)

  moved_into : (c : ℕ) → c < n → (last : Bool) → eqb (f c) m ≡ last → moved last c < m
  moved_into c l true e =
      let g = into n (omega arith) in
      let is = eqb-true (f c) m e in
      let other : f n ≡ m → ⊥ = λ q. (let z = apart c n (omega arith) (omega arith) (is ∙ sym q) in omega arith) in
      omega (arith, other)
  moved_into c l false e =
      let g = into c (omega arith) in
      let other = eqb-false (f c) m e in
      omega (arith, other)

  moved_apart : (a b : ℕ) → a < n → b < n → (u v : Bool) → eqb (f a) m ≡ u → eqb (f b) m ≡ v → moved u a ≡ moved v b → a ≡ b
  moved_apart a b k l true true d e q = apart a b (omega arith) (omega arith) (eqb-true (f a) m d ∙ sym (eqb-true (f b) m e))
  moved_apart a b k l true false d e q = let z = apart n b (omega arith) (omega arith) q in absurd (omega arith)
  moved_apart a b k l false true d e q = let z = apart a n (omega arith) (omega arith) q in absurd (omega arith)
  moved_apart a b k l false false d e q = apart a b (omega arith) (omega arith) q

pub pigeonhole : (n m : ℕ) (f : ℕ → ℕ) → ((c : ℕ) → c < n → f c < m) → ((a b : ℕ) → a < n → b < n → f a ≡ f b → a ≡ b) → n ≤ m
pigeonhole zero m f into apart = omega arith
pigeonhole (suc n) zero f into apart = let z = into 0 (omega arith) in absurd (omega arith)
pigeonhole (suc n) (suc m) f into apart =
    let g : ℕ → ℕ = λ c. moved n m f into apart (eqb (f c) m) c in
    let h = pigeonhole n m g (λ c l. moved_into n m f into apart c l (eqb (f c) m) refl) (λ a b k l q. moved_apart n m f into apart a b k l (eqb (f a) m) (eqb (f b) m) refl refl q) in
    omega arith
