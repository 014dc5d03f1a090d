-- Laws of the marks: what was written is read back, what stands apart is kept. Assumes nothing.
use Prim.Native.Nat.{ℕ, ◌+◌, ◌*◌, ◌≤◌}
use native.Mathlib.Omega.{arith}
use mathlib.Core.Path.{◌≡◌, sym, ◌∙◌, subst}
use mathlib.Core.List.{List}
use mathlib.Core.Logic.{inl, inr, ⊎_elim}
use lib.ListN.{length}
use Rattle.meaning.specs.Walk.{Walk, shift, reduce, size, chains}
use Rattle.numbers.specs.Writing.{put_u16, Apart, Agree, u16_agree, agree_put_u16, u16_put_u16, u16_back, length_put_u16}
use Rattle.chains.specs.Marks.{chains_mark, size_mark, put_mark, OneMark, Marked}

-- a part of a window
pub narrow : (s t : List ℕ) (j l : ℕ) → Agree s t j l → (j' l' : ℕ) → j ≤ j' → j' + l' ≤ j + l → Agree s t j' l'
narrow s t j l a j' l' h g i p q = a i (omega arith) (omega arith)

agree_trans : (s t u : List ℕ) (j l : ℕ) → Agree s t j l → Agree t u j l → Agree s u j l
agree_trans s t u j l a b i p q = a i p q ∙ b i p q

pub length_put_mark : (m : List ℕ) (k c n : ℕ) → length (put_mark m k c n) ≡ length m
unfolding put_mark
length_put_mark m k c n = simp length_put_u16

mark_back : (m : List ℕ) (k c n : ℕ) → (k + 1) * 4 ≤ length m → OneMark (put_mark m k c n) k c n
unfolding put_mark chains_mark size_mark
mark_back m k c n h =
    let l : length (put_u16 m (k * 4) c) ≡ length m = length_put_u16 m (k * 4) c in
    record {
      chains_read = u16_put_u16 (put_u16 m (k * 4) c) (k * 4 + 2) n (k * 4) (inr (omega arith)) ∙ u16_back m (k * 4) c (omega arith);
      size_read = u16_back (put_u16 m (k * 4) c) (k * 4 + 2) n (omega arith);
    }

-- a window apart from a mark that is written
put_agree : (m : List ℕ) (k c n j l : ℕ) → Apart (k * 4) 4 j l → Agree (put_mark m k c n) m j l
unfolding put_mark
put_agree m k c n j l a =
    agree_trans (put_mark m k c n) (put_u16 m (k * 4) c) m j l
    (agree_put_u16 (put_u16 m (k * 4) c) (k * 4 + 2) n j l (⊎_elim (λ h. inl (omega arith)) (λ h. inr (omega arith)) a))
    (agree_put_u16 m (k * 4) c j l (⊎_elim (λ h. inl (omega arith)) (λ h. inr (omega arith)) a))

mark_agree : (m m' : List ℕ) (k c n : ℕ) → Agree m' m (k * 4) 4 → OneMark m k c n → OneMark m' k c n
unfolding chains_mark size_mark
mark_agree m m' k c n a o =
    record {
      chains_read = u16_agree m' m (k * 4) (narrow m' m (k * 4) 4 a (k * 4) 2 (omega arith) (omega arith)) ∙ o.chains_read;
      size_read = u16_agree m' m (k * 4 + 2) (narrow m' m (k * 4) 4 a (k * 4 + 2) 2 (omega arith) (omega arith)) ∙ o.size_read;
    }

-- A walk's marks stand in its own window.
pub marked_agree : (m m' : List ℕ) (k : ℕ) (w : Walk) → Agree m' m (k * 4) (size w * 4) → Marked m k w → Marked m' k w
unfolding Marked size
marked_agree m m' k (shift sh) a h = tt
marked_agree m m' k (reduce r to below beside) a h = (
  mark_agree m m' k (chains below) (1 + size below) (narrow m' m (k * 4) (size (reduce r to below beside) * 4) a (k * 4) 4 (omega arith) (omega arith)) h.0,
  marked_agree m m' (k + 1) below (narrow m' m (k * 4) (size (reduce r to below beside) * 4) a ((k + 1) * 4) (size below * 4) (omega arith) (omega arith)) h.1,
  marked_agree m m' (k + (1 + size below)) beside (narrow m' m (k * 4) (size (reduce r to below beside) * 4) a ((k + (1 + size below)) * 4) (size beside * 4) (omega arith) (omega arith)) h.2,
)

-- The marks of what was walked below a reduction, then its own mark, then those of what was walked beside it.
module _ (m₁ m₂ m₃ : List ℕ) (k : ℕ) (below : Walk) (room : (k + 1) * 4 ≤ length m₁) (put : m₂ ≡ put_mark m₁ k (chains below) (1 + size below))
    (kept : Agree m₃ m₂ 0 ((k + (1 + size below)) * 4)) where
  own : OneMark m₂ k (chains below) (1 + size below)
  own = rw put (mark_back m₁ k (chains below) (1 + size below) room)

  pub marked_node : (rule to : ℕ) (beside : Walk) → Marked m₁ (k + 1) below → Marked m₃ (k + (1 + size below)) beside → Marked m₃ k (reduce rule to below beside)
  unfolding Marked
  marked_node rule to beside h g =
      let a : Agree m₂ m₁ ((k + 1) * 4) (size below * 4) = subst (λ (m : List ℕ). Agree m m₁ ((k + 1) * 4) (size below * 4)) (sym put) (put_agree m₁ k (chains below) (1 + size below) ((k + 1) * 4) (size below * 4) (inl (omega arith))) in (
        mark_agree m₂ m₃ k (chains below) (1 + size below) (narrow m₃ m₂ 0 ((k + (1 + size below)) * 4) kept (k * 4) 4 (omega arith) (omega arith)) own,
        marked_agree m₂ m₃ (k + 1) below (narrow m₃ m₂ 0 ((k + (1 + size below)) * 4) kept ((k + 1) * 4) (size below * 4) (omega arith) (omega arith)) (marked_agree m₁ m₂ (k + 1) below a h),
        g,
      )

  pub kept_node : (m : List ℕ) → Agree m₁ m 0 ((k + 1) * 4) → Agree m₃ m 0 (k * 4)
  kept_node m h =
      let a : Agree m₂ m₁ 0 (k * 4) = subst (λ (v : List ℕ). Agree v m₁ 0 (k * 4)) (sym put) (put_agree m₁ k (chains below) (1 + size below) 0 (k * 4) (inr (omega arith))) in
      agree_trans m₃ m₂ m 0 (k * 4) (narrow m₃ m₂ 0 ((k + (1 + size below)) * 4) kept 0 (k * 4) (omega arith) (omega arith)) (agree_trans m₂ m₁ m 0 (k * 4) a (narrow m₁ m 0 ((k + 1) * 4) h 0 (k * 4) (omega arith) (omega arith)))
