-- A buffer of the right length, or answer 1. Assumes nothing.
use Rattle.std.proofs.Common.{◌≡◌, subst, Option, Some, None, Ok, Err}
use Rattle.std.specs.Prelude.{Result, MatchOption, ok_or}
use Rattle.meaning.specs.declared.Refusal.{Refusal}

pub not_there : {A : Type 0} (o : Option A) (P : Type 0) (Q : A → Type 0) → MatchOption o P Q → (k : Refusal) (q : Result A Refusal) → q ≡ ok_or o k → (j : Refusal) → q ≡ Err j → P × (j ≡ k)
not_there None P Q c k q e j f = (c, cc)
not_there (Some y) P Q c k q e j f = cc

pub there : {A : Type 0} (o : Option A) (P : Type 0) (Q : A → Type 0) → MatchOption o P Q → (k : Refusal) (q : Result A Refusal) → q ≡ ok_or o k → (y : A) → q ≡ Ok y → Q y
there None P Q c k q e y f = cc
there (Some x) P Q c k q e y f = let same : x ≡ y = cc in subst Q same c
