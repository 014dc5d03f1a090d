-- `chains_at` lists every chain once, and nothing else.
use Prim.Native.Nat.{ℕ, zero, suc, ◌+◌}
use mathlib.Core.Path.{◌≡◌, refl, sym, ap, ◌∙◌, subst}
use mathlib.Core.Logic.{◌⊎◌, inl, inr}
use mathlib.Core.List.Memᴰ
use mathlib.Core.List.{List, [], ◌∷◌, ◌++◌, map, tail}
use lib.ListN.{drop}
use native.Mathlib.Omega.{arith}
use Rattle.std.specs.Prelude.{Option, None, Some}
use Rattle.meaning.specs.Basics.{listed, nth}
use Rattle.meaning.specs.TableFile.{Table, rule_of}
use Rattle.meaning.specs.Chains.{record_at, landing, Chain, IsChain, chains_by, chains_from, chains_at}
use Rattle.meaning.specs.Walk.{Walk, walked, plan}
use Rattle.meaning.specs.Demand3.{Among, Different, Enumerates}
use Rattle.meaning.proofs.Trees.{GrownBy, Grown, walk_grown}

abbrev IsJust : {A : Type 0} → Option A → Type 0
IsJust None = ⊥
IsJust (Some a) = Unit {0}

abbrev from_just : ℕ → Option ℕ → ℕ
from_just d None = d
from_just d (Some a) = a

abbrev head_or : ℕ → Chain → ℕ
head_or d [] = d
head_or d (i ∷ ch) = i

abbrev IsCons : Chain → Type 0
IsCons [] = ⊥
IsCons (i ∷ ch) = Unit {0}

among_map : (i : ℕ) {ch : Chain} {l : List Chain} → Among ch l → Among (i ∷ ch) (map (λ (c : Chain). i ∷ c) l)
among_map i (Memᴰ.head e) = Memᴰ.head (ap {B = Chain} (λ c. i ∷ c) e)
among_map i (Memᴰ.tail m) = Memᴰ.tail (among_map i m)

map_among : (i : ℕ) (ch : Chain) (l : List Chain) → Among ch (map (λ (c : Chain). i ∷ c) l) → (c : Chain) × (ch ≡ i ∷ c) × Among c l
map_among i ch [] m = absurd (Memᴰ.not-nil m)
map_among i ch (a ∷ l) m = at (Memᴰ.cases_cons m) (map_among i ch l)
  where
    at : (ch ≡ i ∷ a) ⊎ Among ch (map (λ (c : Chain). i ∷ c) l) → (Among ch (map (λ (c : Chain). i ∷ c) l) → (c : Chain) × (ch ≡ i ∷ c) × Among c l) → (c : Chain) × (ch ≡ i ∷ c) × Among c (a ∷ l)
    at (inl e) h = (a, e, Memᴰ.head refl)
    at (inr m) h = let q = h m in (q.0, q.1, Memᴰ.tail q.2)

module _ (t : Table) (cls : ℕ) where
  -- a chain by one of the rules ks, whose first stands at place j
  record Through (more : List ℕ → List Chain) (st : List ℕ) (j : ℕ) (ks : List ℕ) (ch : Chain) : Type 0 where
    i : ℕ
    k : ℕ
    to : ℕ
    on : Chain
    is : ch ≡ (j + i) ∷ on
    rule : nth ks i ≡ Some k
    land : landing t (rule_of t k) st ≡ Some to
    among : Among on (more (to ∷ drop (rule_of t k).len st))

  by_among : (more : List ℕ → List Chain) (st : List ℕ) (j : ℕ) (ks : List ℕ) (ch : Chain) → Among ch (chains_by t more st j ks) → Through more st j ks ch
  unfolding chains_by
  by_among more st j [] ch m = absurd (Memᴰ.not-nil m)
  by_among more st j (k ∷ ks) ch m = at (Memᴰ.append_cases (map (λ (c : Chain). j ∷ c) (listed (landing t (rule_of t k) st) deep)) m) (by_among more st (suc j) ks ch)
    where
      deep : ℕ → List Chain
      deep to = more (to ∷ drop (rule_of t k).len st)

      landed : (v : Option ℕ) → landing t (rule_of t k) st ≡ v → (c : Chain) → ch ≡ j ∷ c → Among c (listed v deep) → Through more st j (k ∷ ks) ch
      landed None e c is a = absurd (Memᴰ.not-nil a)
      landed (Some to) e c is a = record { i = 0; k = k; to = to; on = c; is = is ∙ ap {B = Chain} (λ n. n ∷ c) (omega arith); rule = refl; land = e; among = a }

      at : Among ch (map (λ (c : Chain). j ∷ c) (listed (landing t (rule_of t k) st) deep)) ⊎ Among ch (chains_by t more st (suc j) ks)
          → (Among ch (chains_by t more st (suc j) ks) → Through more st (suc j) ks ch) → Through more st j (k ∷ ks) ch
      at (inl a) h = let q = map_among j ch (listed (landing t (rule_of t k) st) deep) a in landed (landing t (rule_of t k) st) refl q.0 q.1 q.2
      at (inr a) h =
          let q = h a in
          record { i = suc q.i; k = q.k; to = q.to; on = q.on; is = q.is ∙ ap {B = Chain} (λ n. n ∷ q.on) (omega arith); rule = q.rule; land = q.land; among = q.among }

  shift_among : (st : List ℕ) (ch : Chain) (v : Option ℕ) → (record_at t cls st).shift ≡ v → Among ch (listed v (λ to. [] ∷ [])) → (ch ≡ []) × ((to : ℕ) × ((record_at t cls st).shift ≡ Some to))
  shift_among st ch None e m = absurd (Memᴰ.not-nil m)
  shift_among st ch (Some to) e m = at (Memᴰ.cases_cons m)
    where
      at : (ch ≡ []) ⊎ Among ch [] → (ch ≡ []) × ((to : ℕ) × ((record_at t cls st).shift ≡ Some to))
      at (inl f) = (f, (to, e))
      at (inr n) = absurd (Memᴰ.not-nil n)

  abbrev Sound : (List ℕ → List Chain) → Type 0
  Sound more = (st : List ℕ) (ch : Chain) → Among ch (more st) → IsChain t cls ch st

  step_sound : (more : List ℕ → List Chain) → Sound more → (st : List ℕ) (ch : Chain)
      → Among ch (chains_by t more st 0 (record_at t cls st).rules ++ listed (record_at t cls st).shift (λ to. [] ∷ [])) → IsChain t cls ch st
  unfolding IsChain
  step_sound more h st ch m = at (Memᴰ.append_cases (chains_by t more st 0 (record_at t cls st).rules) m)
    where
      at : Among ch (chains_by t more st 0 (record_at t cls st).rules) ⊎ Among ch (listed (record_at t cls st).shift (λ to. [] ∷ [])) → IsChain t cls ch st
      at (inl a) =
          let q = by_among more st 0 (record_at t cls st).rules ch a in
          let place : 0 + q.i ≡ q.i = omega arith in
          subst (λ (c : Chain). IsChain t cls c st) (sym (q.is ∙ ap {B = Chain} (λ n. n ∷ q.on) place))
          (q.k, q.to, q.rule, q.land, h (q.to ∷ drop (rule_of t q.k).len st) q.on q.among)
      at (inr a) = let q = shift_among st ch (record_at t cls st).shift refl a in subst (λ (c : Chain). IsChain t cls c st) (sym q.0) q.1

  sound : (left : ℕ) → Sound (chains_from left t cls)
  unfolding chains_from
  sound zero st ch m = step_sound (λ s. []) (λ s c n. absurd (Memᴰ.not-nil n)) st ch m
  sound (suc left) st ch m = step_sound (λ s. chains_from left t cls s) (λ s c n. sound left s c n) st ch m

  -- complete
  among_listed : (f : ℕ → List Chain) (v : Option ℕ) (to : ℕ) (ch : Chain) → v ≡ Some to → Among ch (f to) → Among ch (listed v f)
  among_listed f v to ch e m = subst (λ (u : Option ℕ). Among ch (listed u f)) (sym e) m

  among_by : (P : List ℕ → Type 0) (more : List ℕ → List Chain) (st ks : List ℕ) → GrownBy t P st ks → (i j k to : ℕ) (ch : Chain) → nth ks i ≡ Some k → landing t (rule_of t k) st ≡ Some to
      → (P (to ∷ drop (rule_of t k).len st) → Among ch (more (to ∷ drop (rule_of t k).len st))) → Among ((j + i) ∷ ch) (chains_by t more st j ks)
  unfolding chains_by landing
  among_by P more st [] g i j k to ch e l h = absurd (subst IsJust (sym e) tt)
  among_by P more st (k₀ ∷ ks) g zero j k to ch e l h =
      let same : k₀ ≡ k = ap (from_just 0) e in
      let arrives : g.0 ≡ to = ap (from_just 0) (sym g.1 ∙ ap (λ (c : ℕ). landing t (rule_of t c) st) same ∙ l) in
      let here : P (to ∷ drop (rule_of t k).len st) = subst (λ (c : ℕ). P (to ∷ drop (rule_of t c).len st)) same (subst (λ (c : ℕ). P (c ∷ drop (rule_of t k₀).len st)) arrives g.2) in
      Memᴰ.append_left (chains_by t more st (suc j) ks)
      (Memᴰ.cast (ap {B = Chain} (λ n. n ∷ ch) (omega arith))
      (among_map j (among_listed (λ to'. more (to' ∷ drop (rule_of t k₀).len st)) (landing t (rule_of t k₀) st) to ch (ap (λ (c : ℕ). landing t (rule_of t c) st) same ∙ l)
      (subst (λ (c : ℕ). Among ch (more (to ∷ drop (rule_of t c).len st))) (sym same) (h here)))))
  among_by P more st (k₀ ∷ ks) g (suc i) j k to ch e l h =
      Memᴰ.append_right (map (λ (c : Chain). j ∷ c) (listed (landing t (rule_of t k₀) st) (λ to'. more (to' ∷ drop (rule_of t k₀).len st))))
      (Memᴰ.cast (ap {B = Chain} (λ n. n ∷ ch) (omega arith)) (among_by P more st ks g.3 i (suc j) k to ch e l h))

  step_complete : (P : List ℕ → Type 0) (more : List ℕ → List Chain) → ((st : List ℕ) (ch : Chain) → P st → IsChain t cls ch st → Among ch (more st))
      → (st : List ℕ) (ch : Chain) → GrownBy t P st (record_at t cls st).rules → IsChain t cls ch st
      → Among ch (chains_by t more st 0 (record_at t cls st).rules ++ listed (record_at t cls st).shift (λ to. [] ∷ []))
  unfolding IsChain
  step_complete P more h st [] g c =
      Memᴰ.append_right (chains_by t more st 0 (record_at t cls st).rules) (among_listed (λ to. [] ∷ []) (record_at t cls st).shift c.0 [] c.1 (Memᴰ.head refl))
  step_complete P more h st (i ∷ ch) g c =
      let place : i ≡ 0 + i = omega arith in
      Memᴰ.append_left (listed (record_at t cls st).shift (λ to. [] ∷ []))
      (Memᴰ.cast (ap {B = Chain} (λ n. n ∷ ch) place)
      (among_by P more st (record_at t cls st).rules g i 0 c.0 c.1 ch c.2 c.3 (λ p. h (c.1 ∷ drop (rule_of t c.0).len st) ch p c.4)))

  complete : (left : ℕ) (st : List ℕ) (ch : Chain) → Grown left t cls st → IsChain t cls ch st → Among ch (chains_from left t cls st)
  unfolding chains_from
  complete zero st ch g c = step_complete (λ s. ⊥) (λ s. []) (λ s d p q. absurd p) st ch g c
  complete (suc left) st ch g c = step_complete (λ s. Grown left t cls s) (λ s. chains_from left t cls s) (λ s d p q. complete left s d p q) st ch g c

  -- once
  different_append : (a b : List Chain) → Different a → Different b → ((c : Chain) → Among c a → Among c b → ⊥) → Different (a ++ b)
  different_append [] b da db h = db
  different_append (x ∷ a) b da db h = (λ m. at (Memᴰ.append_cases a m), different_append a b da.1 db (λ c m n. h c (Memᴰ.tail m) n))
    where
      at : Among x a ⊎ Among x b → ⊥
      at (inl m) = da.0 m
      at (inr m) = h x (Memᴰ.head refl) m

  different_map : (i : ℕ) (l : List Chain) → Different l → Different (map (λ (c : Chain). i ∷ c) l)
  different_map i [] d = tt
  different_map i (a ∷ l) d = (λ m. let q = map_among i (i ∷ a) l m in d.0 (Memᴰ.cast (ap tail q.1) q.2), different_map i l d.1)

  different_listed : (v : Option ℕ) (f : ℕ → List Chain) → ((to : ℕ) → Different (f to)) → Different (listed v f)
  different_listed None f h = tt
  different_listed (Some to) f h = h to

  different_by : (more : List ℕ → List Chain) → ((st : List ℕ) → Different (more st)) → (st : List ℕ) (j : ℕ) (ks : List ℕ) → Different (chains_by t more st j ks)
  unfolding chains_by
  different_by more h st j [] = tt
  different_by more h st j (k ∷ ks) =
      different_append (map (λ (c : Chain). j ∷ c) l) (chains_by t more st (suc j) ks)
      (different_map j l (different_listed (landing t (rule_of t k) st) (λ to. more (to ∷ drop (rule_of t k).len st)) (λ to. h (to ∷ drop (rule_of t k).len st))))
      (different_by more h st (suc j) ks)
      (λ c m n.
      let a : c ≡ j ∷ _ = (map_among j c l m).1 in
      let q = by_among more st (suc j) ks c n in
      let e : j ≡ suc j + q.i = sym (ap (head_or 0) a) ∙ ap (head_or 0) q.is in
      omega arith)
    where
      l : List Chain
      l = listed (landing t (rule_of t k) st) (λ to. more (to ∷ drop (rule_of t k).len st))

  step_different : (more : List ℕ → List Chain) → ((st : List ℕ) → Different (more st)) → (st : List ℕ)
      → Different (chains_by t more st 0 (record_at t cls st).rules ++ listed (record_at t cls st).shift (λ to. [] ∷ []))
  step_different more h st =
      different_append (chains_by t more st 0 (record_at t cls st).rules) (listed (record_at t cls st).shift (λ to. [] ∷ []))
      (different_by more h st 0 (record_at t cls st).rules) (different_listed (record_at t cls st).shift (λ to. [] ∷ []) (λ to. (Memᴰ.not-nil, tt)))
      (λ c m n.
      let q = by_among more st 0 (record_at t cls st).rules c m in
      let e : c ≡ [] = (shift_among st c (record_at t cls st).shift refl n).0 in
      subst IsCons (sym q.is ∙ e) tt)

  different : (left : ℕ) (st : List ℕ) → Different (chains_from left t cls st)
  unfolding chains_from
  different zero st = step_different (λ s. []) (λ s. tt) st
  different (suc left) st = step_different (λ s. chains_from left t cls s) (λ s. different left s) st

-- At a stack whose planning is not refused.
pub enumerates : (t : Table) (room cls : ℕ) (st : List ℕ) (c : ℕ) (w : Walk) (n c' : ℕ) → plan t room cls st c ≡ walked w n c' → Enumerates t cls st
unfolding chains_at plan
enumerates t room cls st c w n c' e =
    record { chain = sound t cls 32 st; every = λ ch h. complete t cls 32 st ch (walk_grown 32 t room cls st 0 c w n c' e) h; once = different t cls 32 st }
