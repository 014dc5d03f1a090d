-- Laws of tests: `both`, `either`, `not`. Assumes nothing.
use mathlib.Core.Path.{◌≡◌, refl, sym, ap, subst}
use mathlib.Core.Bool.{Bool, true, false, not}
use lib.Dec.{T}
use Rattle.meaning.specs.Basics.{both, either}

abbrev pub IsTrue : Bool → Type 0
IsTrue true = Unit {0}
IsTrue false = ⊥

pub is_true : (b : Bool) → T b → b ≡ true
is_true true h = refl
is_true false h = absurd h

pub is_false : {b : Bool} → b ≡ false → T (not b)
is_false e = subst (λ (b : Bool). T (not b)) (sym e) tt

pub no_false : {A : Type 0} → false ≡ true → A
no_false e = absurd (subst IsTrue (sym e) tt)

pub not_no : (b : Bool) → not b ≡ false → b ≡ true
not_no true e = refl
not_no false e = sym e

pub not_yes : (b : Bool) → not b ≡ true → b ≡ false
not_yes true e = sym e
not_yes false e = refl

pub both_left : (a b : Bool) → both a b ≡ true → a ≡ true
both_left true b e = refl
both_left false b e = e

pub both_right : (a b : Bool) → both a b ≡ true → b ≡ true
both_right true b e = e
both_right false b e = no_false e

pub both_parts : (a b : Bool) → both a b ≡ true → (a ≡ true) × (b ≡ true)
both_parts a b e = (both_left a b e, both_right a b e)

pub both_true : (a b : Bool) → a ≡ true → b ≡ true → both a b ≡ true
both_true a b e f = rw (e, f)

pub both_false : (b : Bool) → both b false ≡ false
both_false true = refl
both_false false = refl

pub not_both : (a b : Bool) → (a ≡ true → b ≡ true → ⊥) → both a b ≡ false
not_both true true h = absurd (h refl refl)
not_both true false h = refl
not_both false b h = refl

-- three pairs of tests, by the pair or by the place in it
pub regroup : (a b d x y z : Bool) → both (both a x) (both (both b y) (both d z)) ≡ both (both a (both b d)) (both x (both y z))
regroup false b d x y z = refl
regroup true false d true y z = refl
regroup true false d false y z = refl
regroup true true false true true z = refl
regroup true true false true false z = refl
regroup true true false false y z = refl
regroup true true true x y z = refl

pub either_left : (a b : Bool) → a ≡ true → either a b ≡ true
either_left a b e = ap (λ (c : Bool). either c b) e

pub either_right : (a b : Bool) → b ≡ true → either a b ≡ true
either_right true b e = refl
either_right false b e = e

pub either_false : (a b : Bool) → either a b ≡ false → (a ≡ false) × (b ≡ false)
either_false true b e = absurd (subst IsTrue e tt)
either_false false b e = (refl, e)
