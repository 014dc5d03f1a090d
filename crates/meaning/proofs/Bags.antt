-- What does not change, or only in order, when a list is put into another order.
use Prim.Native.Nat.{ℕ, ◌+◌}
use mathlib.Core.Path.{◌≡◌, refl, sym, ap, ap₂, ◌∙◌, subst}
use mathlib.Core.List.Permᴰ
use mathlib.Core.List.{List, [], ◌∷◌, ◌++◌, Permᴰ}
use native.Mathlib.Omega.{arith}
use Rattle.meaning.specs.Basics.{is_nil, flat, AllOf}
use Rattle.meaning.proofs.Settled.{total}

module _ {A : Type 0} where
  pub perm_path : {l m : List A} → l ≡ m → Permᴰ l m
  perm_path {l} e = subst (λ (k : List A). Permᴰ l k) e (Permᴰ.refl l)

  pub perm_between : {l m l' m' : List A} → l ≡ l' → m ≡ m' → Permᴰ l' m' → Permᴰ l m
  perm_between e f p = Permᴰ.trans (perm_path e) (Permᴰ.trans p (perm_path (sym f)))

  pub perm_append : {a b c d : List A} → Permᴰ a b → Permᴰ c d → Permᴰ (a ++ c) (b ++ d)
  perm_append {a} {b} {c} {d} p q = Permᴰ.trans (Permᴰ.append_right c p) (Permᴰ.append_left b q)

  swap_append : (a b c : List A) → Permᴰ (a ++ (b ++ c)) (b ++ (a ++ c))
  swap_append [] b c = Permᴰ.refl (b ++ c)
  swap_append (x ∷ a) b c = Permᴰ.trans (Permᴰ.cons refl (swap_append a b c)) (Permᴰ.symm (Permᴰ.middle x b (a ++ c)))

  pub nil_perm : {l m : List A} → Permᴰ l m → is_nil l ≡ is_nil m
  nil_perm Permᴰ.nil = refl
  nil_perm (Permᴰ.cons e p) = refl
  nil_perm (Permᴰ.swap e f) = refl
  nil_perm (Permᴰ.trans p q) = nil_perm p ∙ nil_perm q

module _ {A B : Type 0} where
  pub flat_perm : (f : A → List B) {l m : List A} → Permᴰ l m → Permᴰ (flat f l) (flat f m)
  flat_perm f Permᴰ.nil = Permᴰ.nil
  flat_perm f (Permᴰ.cons {a = a} {b = b} e p) = perm_append (perm_path (ap f e)) (flat_perm f p)
  flat_perm f (Permᴰ.swap {a = a} {b = b} {a' = a'} {b' = b'} {l = l} e g) =
      Permᴰ.trans (swap_append (f a) (f b) (flat f l)) (perm_append (perm_path (ap f g)) (perm_append (perm_path (ap f e)) (Permᴰ.refl (flat f l))))
  flat_perm f (Permᴰ.trans p q) = Permᴰ.trans (flat_perm f p) (flat_perm f q)

module _ {A : Type 0} where
  pub total_perm : (f : A → ℕ) {l m : List A} → Permᴰ l m → total f l ≡ total f m
  total_perm f Permᴰ.nil = refl
  total_perm f (Permᴰ.cons {a = a} {b = b} e p) = ap₂ {C = ℕ} (λ u v. u + v) (ap f e) (total_perm f p)
  total_perm f (Permᴰ.swap {a = a} {b = b} {a' = a'} {b' = b'} {l = l} e g) =
      let h : f a ≡ f b' = ap f e in
      let k : f b ≡ f a' = ap f g in
      omega arith
  total_perm f (Permᴰ.trans p q) = total_perm f p ∙ total_perm f q

  pub all_perm : (P : A → Type 0) {l m : List A} → Permᴰ l m → AllOf P l → AllOf P m
  all_perm P Permᴰ.nil h = tt
  all_perm P (Permᴰ.cons e p) h = (subst P e h.0, all_perm P p h.1)
  all_perm P (Permᴰ.swap e g) h = (subst P g h.1.0, (subst P e h.0, h.1.1))
  all_perm P (Permᴰ.trans p q) h = all_perm P q (all_perm P p h)
