-- The third demand: its two sentences, as theorems about the definitions.
use Prim.Native.Nat.{ℕ, zero, suc, ◌≤◌}
use mathlib.Core.Path.{◌≡◌, refl, sym, ap, ap₂, ◌∙◌, subst}
use mathlib.Core.List.Permᴰ
use mathlib.Core.List.{List, [], ◌∷◌, ◌++◌, map, reverse}
use mathlib.Core.Bool.{Bool, true, false, not}
use native.Mathlib.Omega.{arith}
use Rattle.meaning.specs.Basics.{either, is_nil, flat, AllOf}
use Rattle.std.specs.Prelude.{if◌then◌else◌}
use Rattle.meaning.specs.TableFile.{Table}
use Rattle.meaning.specs.Readings.{Reading, states, plain}
use Rattle.meaning.specs.Chains.{chains_at}
use Rattle.meaning.specs.Applying.{unplanned}
use Rattle.meaning.specs.Feeding.{feed, starts_recovery}
use Rattle.meaning.specs.Demand3.{Same, Undisturbed, Alike, succeeded, Enumerates, ByChains}
use Rattle.meaning.specs.declared.Term.{Term}
use Rattle.meaning.proofs.Renamed.{states_ren}
use Rattle.meaning.proofs.Settled.{got_of, errs_of, left_of, size_of, chains_of, planned_of, Free, As, recovering, Quiet, feed_told, undisturbed}
use Rattle.meaning.proofs.Bags.{perm_between, perm_append, nil_perm, flat_perm, total_perm, all_perm}
use Rattle.meaning.proofs.ByChains.{tree_runs}
use Rattle.meaning.proofs.Enumerated.{enumerates}
use Rattle.meaning.proofs.Tools.{map_reverse}

if_perm : {A : Type 0} (b c : Bool) → b ≡ c → {l l' m m' : List A} → Same l l' → Same m m' → Same (if b then l else m) (if c then l' else m')
if_perm {A} b c e {l} {l'} {m} {m'} p q = subst (λ (d : Bool). Same (if b then l else m) (if d then l' else m')) e (same b)
  where
    same : (d : Bool) → Same (if d then l else m) (if d then l' else m')
    same true = p
    same false = q

-- First sentence. The order of the readings, and their identities, change nothing but the order of what is left.
pub order : (t : Table) (x : Term) (rs rs' : List Reading) (next next' : ℕ)
    → Same (map plain rs) (map plain rs')
    → Undisturbed t x rs next → Undisturbed t x rs' next'
    → Alike (feed t x rs next) (feed t x rs' next')
order t x rs rs' n n' same u u' =
    record {
      answer = a.answer_is ∙ ap (λ (b : Bool). if b then 12 else 0) nils ∙ sym a'.answer_is;
      walked = a.walked_is ∙ total_perm (size_of t x) ps ∙ sym a'.walked_is;
      readings = perm_between a.readings_are a'.readings_are (if_perm b b' nils left_same (flat_perm (got_of t x) ps));
      errors = perm_between a.errors_are a'.errors_are
          (perm_append (flat_perm (errs_of t x) ps) (Permᴰ.map unplanned (if_perm b b' nils left_same
          (Permᴰ.trans (Permᴰ.reverse left) (Permᴰ.trans left_same (Permᴰ.symm (Permᴰ.reverse left')))))));
    }
  where
    a : As t x (map plain (reverse rs)) (feed t x rs n)
    a = (feed_told t x rs n u).0

    a' : As t x (map plain (reverse rs')) (feed t x rs' n')
    a' = (feed_told t x rs' n' u').0

    ps : Same (map plain (reverse rs)) (map plain (reverse rs'))
    ps = Permᴰ.trans (Permᴰ.map plain (Permᴰ.reverse rs)) (Permᴰ.trans same (Permᴰ.symm (Permᴰ.map plain (Permᴰ.reverse rs'))))

    b : Bool
    b = is_nil (flat (got_of t x) (map plain (reverse rs)))

    b' : Bool
    b' = is_nil (flat (got_of t x) (map plain (reverse rs')))

    nils : b ≡ b'
    nils = nil_perm (flat_perm (got_of t x) ps)

    left : List Reading
    left = flat (left_of t x) (map plain (reverse rs))

    left' : List Reading
    left' = flat (left_of t x) (map plain (reverse rs'))

    left_same : Same left left'
    left_same = flat_perm (left_of t x) ps

-- Whether a feed is refused, or starts recovery, does not depend on the order either (by which number it is refused may).
pub order_undisturbed : (t : Table) (x : Term) (rs rs' : List Reading) (next next' : ℕ)
    → Same (map plain rs) (map plain rs') → Undisturbed t x rs next → Undisturbed t x rs' next'
order_undisturbed t x rs rs' n n' same u =
    undisturbed t x rs' n' (record { free = all_perm (Free t x) ps a.2.free; room = subst (λ (k : ℕ). k ≤ 16) (total_perm (chains_of t x) ps) a.2.room })
    (ap₂ {C = Bool} (λ (b c : Bool). if b then not (either (not t.recovers) (not c)) else false)
    (sym (nil_perm (flat_perm (got_of t x) ps))) (sym (nil_perm (flat_perm (planned_of t x) ps))) ∙ a.1)
  where
    a : As t x (map plain (reverse rs)) (feed t x rs n) × (recovering t x (map plain (reverse rs)) ≡ false) × Quiet t x (map plain (reverse rs))
    a = feed_told t x rs n u

    ps : Same (map plain (reverse rs)) (map plain (reverse rs'))
    ps = Permᴰ.trans (Permᴰ.map plain (Permᴰ.reverse rs)) (Permᴰ.trans same (Permᴰ.symm (Permᴰ.map plain (Permᴰ.reverse rs'))))

-- So one of the two is enough to ask for.
pub order_one : (t : Table) (x : Term) (rs rs' : List Reading) (next next' : ℕ)
    → Same (map plain rs) (map plain rs') → Undisturbed t x rs next
    → Undisturbed t x rs' next' × Alike (feed t x rs next) (feed t x rs' next')
order_one t x rs rs' n n' same u = let u' = order_undisturbed t x rs rs' n n' same u in (u', order t x rs rs' n n' same u u')

-- Second sentence. A walk's tree gives the runs that succeed, of every chain, in chain order.
got_succeeded : (t : Table) (x : Term) (ps : List Reading) → flat (got_of t x) ps ≡ flat (succeeded t x) ps
unfolding got_of succeeded chains_at
got_succeeded t x [] = refl
got_succeeded t x (p ∷ ps) = ap₂ {C = List Reading} (λ a b. a ++ b) (tree_runs t x 32 p) (got_succeeded t x ps)

abbrev Is0 : ℕ → Type 0
Is0 zero = Unit {0}
Is0 (suc n) = ⊥

left_by_chains : (t : Table) (x : Term) (rs : List Reading) (next : ℕ)
    → starts_recovery t x rs next ≡ false → (feed t x rs next).answer ≡ 0
    → map plain (feed t x rs next).readings ≡ flat (succeeded t x) (reverse (map plain rs))
left_by_chains t x rs n calm zero_is =
    a.readings_are ∙ taken (is_nil (flat (got_of t x) (map plain (reverse rs)))) (sym a.answer_is ∙ zero_is)
    ∙ ap (flat (got_of t x)) (map_reverse plain rs []) ∙ got_succeeded t x (reverse (map plain rs))
  where
    u : Undisturbed t x rs n
    u = record { no_recovery = calm; not_refused = λ h. let h0 = h.0 in omega arith }

    a : As t x (map plain (reverse rs)) (feed t x rs n)
    a = (feed_told t x rs n u).0

    taken : (b : Bool) → ◌≡◌ {A = ℕ} (if b then 12 else 0) 0 → (if b then flat (left_of t x) (map plain (reverse rs)) else flat (got_of t x) (map plain (reverse rs))) ≡ flat (got_of t x) (map plain (reverse rs))
    taken true e = absurd (subst Is0 (sym e) tt)
    taken false e = refl

-- And the chains of each reading are all there, each once.
chains_listed : (t : Table) (x : Term) (rs : List Reading) (next : ℕ)
    → Undisturbed t x rs next → AllOf (λ (r : Reading). Enumerates t x.class (states r.stack)) rs
chains_listed t x rs n u = listed rs (all_perm (Free t x) (Permᴰ.map plain (Permᴰ.reverse rs)) (feed_told t x rs n u).2.free)
  where
    listed : (ls : List Reading) → AllOf (Free t x) (map plain ls) → AllOf (λ (r : Reading). Enumerates t x.class (states r.stack)) ls
    listed [] h = tt
    listed (r ∷ ls) h = (
      subst (Enumerates t x.class) (states_ren (λ b. 0) r.stack) (enumerates t 16 x.class (states (plain r).stack) h.0.before h.0.tree h.0.count h.0.after h.0.is),
      listed ls h.1,
    )

pub by_chains : (t : Table) (x : Term) (rs : List Reading) (next : ℕ)
    → starts_recovery t x rs next ≡ false → (feed t x rs next).answer ≡ 0 → ByChains t x rs (feed t x rs next)
by_chains t x rs n calm zero_is =
    record { readings = left_by_chains t x rs n calm zero_is; chains = chains_listed t x rs n (record { no_recovery = calm; not_refused = λ h. let h0 = h.0 in omega arith }) }
