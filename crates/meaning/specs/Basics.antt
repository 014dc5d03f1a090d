-- The small tools that the definitions are written with. Assumes nothing.
use Rattle.std.specs.Prelude.{ℕ, zero, suc, Bool, true, false, List, [], ◌∷◌, ◌++◌, if◌then◌else◌, Option, None, Some}

abbrev pub both : Bool → Bool → Bool
both true b = b
both false b = false

abbrev pub either : Bool → Bool → Bool
either true b = true
either false b = b

abbrev pub bind : {A B : Type 0} → Option A → (A → Option B) → Option B
bind None f = None
bind (Some a) f = f a

-- what f gives of it, or nothing at all
abbrev pub listed : {A B : Type 0} → Option A → (A → List B) → List B
listed None f = []
listed (Some a) f = f a

abbrev pub is_nil {ℓ} : {A : Type ℓ} → List A → Bool
is_nil [] = true
is_nil (a ∷ more) = false

abbrev pub every : {A : Type 0} → (A → Bool) → List A → Bool
every p [] = true
every p (a ∷ more) = both (p a) (every p more)

-- P of each, as a type
abbrev pub AllOf : {A : Type 0} → (A → Type 0) → List A → Type 0
AllOf P [] = Unit {0}
AllOf P (a ∷ more) = P a × AllOf P more

-- the first that fits, through out; none if none does
unfoldable pub find : {A B : Type 0} → (A → Bool) → (A → B) → B → List A → B
find fits out none [] = none
find fits out none (a ∷ more) = if fits a then out a else find fits out none more

-- the element at place i, counted from 0
abbrev pub nth : List ℕ → ℕ → Option ℕ
nth [] i = None
nth (a ∷ more) zero = Some a
nth (a ∷ more) (suc i) = nth more i

-- what f gives of each, one after the other
abbrev pub flat : {A B : Type 0} → (A → List B) → List A → List B
flat f [] = []
flat f (a ∷ more) = f a ++ flat f more

-- what there is of f's values, one after the other
abbrev pub cons_maybe : {A : Type 0} → Option A → List A → List A
cons_maybe None more = more
cons_maybe (Some a) more = a ∷ more

abbrev pub each : {A B : Type 0} → (A → Option B) → List A → List B
each f [] = []
each f (a ∷ more) = cons_maybe (f a) (each f more)
