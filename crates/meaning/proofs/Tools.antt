-- Laws about lists that several proofs cite.
use Prim.Native.Nat.{suc, ◌+◌}
use mathlib.Core.Path.{◌≡◌, refl, ap}
use mathlib.Core.List.{List, [], ◌∷◌, ◌++◌, map, reverse_aux}
use lib.ListN.{length}
use native.Mathlib.Omega.{arith}
use Rattle.meaning.specs.Basics.{is_nil, AllOf}

module _ {A B : Type 0} (f : A → B) where
  pub map_reverse : (l acc : List A) → map f (reverse_aux l acc) ≡ reverse_aux (map f l) (map f acc)
  map_reverse [] acc = refl
  map_reverse (a ∷ l) acc = map_reverse l (a ∷ acc)

  pub nil_map : (l : List A) → is_nil (map f l) ≡ is_nil l
  nil_map [] = refl
  nil_map (a ∷ l) = refl

  pub length-map : (l : List A) → length (map f l) ≡ length l
  length-map [] = refl
  length-map (a ∷ l) = ap suc (length-map l)

pub length-reverse : {A : Type 0} (l acc : List A) → length (reverse_aux l acc) ≡ length l + length acc
length-reverse [] acc = omega arith
length-reverse (a ∷ l) acc = let h = length-reverse l (a ∷ acc) in omega arith

module _ {A : Type 0} (P : A → Type 0) where
  pub all_append : (l m : List A) → AllOf P l → AllOf P m → AllOf P (l ++ m)
  all_append [] m h g = g
  all_append (a ∷ l) m h g = (h.0, all_append l m h.1 g)

  pub all_reverse : (l acc : List A) → AllOf P l → AllOf P acc → AllOf P (reverse_aux l acc)
  all_reverse [] acc h g = g
  all_reverse (a ∷ l) acc h g = all_reverse l (a ∷ acc) h.1 (h.0, g)
