-- A feed from the same readings under other identities: the same answer and errors, and again the same readings but for identities. Assumes nothing.
use Prim.Native.Nat.{ℕ, ◌+◌, ◌-◌, ◌<◌, ◌≤◌}
use native.Mathlib.Omega.{arith}
use mathlib.Core.Path.{◌≡◌, refl, sym, ap, ap₂, ◌∙◌, subst}
use mathlib.Core.Bool.{Bool, true, false}
use mathlib.Core.List.{List, [], ◌∷◌, map}
use mathlib.Core.Logic.{inl, inr}
use lib.Dec.{eqb, ltb}
use borrow.Author.Tests.{eqb-true, lt-ltb, le-ltb}
use Rattle.meaning.specs.Basics.{either, AllOf}
use Rattle.std.specs.Prelude.{if◌then◌else◌}
use Rattle.meaning.specs.Feeding.{feed}
use Rattle.meaning.specs.Identities.{ren_reading, ren_fed, Occurs, Renaming}
use Rattle.meaning.specs.Outcome.{Fed}
use Rattle.meaning.specs.Readings.{Entry, Reading, holds, held_by}
use Rattle.meaning.specs.TableFile.{Table}
use Rattle.meaning.specs.declared.Term.{Term}
use Rattle.meaning.proofs.Held.{own_readings}
use Rattle.meaning.proofs.Identities.{renaming}
use Rattle.meaning.proofs.Kept.{feed_keeps}
use Rattle.promises.specs.Calls.{Renamed}
use Rattle.meaning.proofs.Booleans.{no_false}
use Rattle.promises.proofs.Identities.{readings_held, twice_readings, same_readings}

-- P of every identity that readings have.
abbrev pub OfAll : (ℕ → Type 0) → List Reading → Type 0
OfAll P = AllOf (λ (r : Reading). AllOf (λ (e : Entry). P e.born) r.stack)

of_stack : (P : ℕ → Type 0) (s : List Entry) (a : ℕ) → AllOf (λ (e : Entry). P e.born) s → holds s a ≡ true → P a
unfolding holds
of_stack P [] a o h = no_false h
of_stack P (e ∷ s) a o h = at (eqb e.born a) refl h (of_stack P s a o.1)
  where
    at : (b : Bool) → eqb e.born a ≡ b → either b (holds s a) ≡ true → (holds s a ≡ true → P a) → P a
    at true q g go = subst P (eqb-true e.born a q) o.0
    at false q g go = go g

pub of_held : (P : ℕ → Type 0) (rs : List Reading) (a : ℕ) → OfAll P rs → held_by rs a ≡ true → P a
unfolding held_by
of_held P [] a o h = no_false h
of_held P (r ∷ rs) a o h = at (holds r.stack a) refl h (of_held P rs a o.1)
  where
    at : (b : Bool) → holds r.stack a ≡ b → either b (held_by rs a) ≡ true → (held_by rs a ≡ true → P a) → P a
    at true q g go = of_stack P r.stack a o.0 q
    at false q g go = go g

-- The old identities, all below n, as h has them; the births from n on, as births from m on.
module _ (rs rs' : List Reading) (n m : ℕ) (old : OfAll (λ a. a < n) rs) (new : OfAll (λ a. a < m) rs') (h : Renamed rs rs') where
  pub onward : ℕ → ℕ
  onward a = (if ltb a n then h.rename a else m + (a - n))

  onward_old : (a : ℕ) → held_by rs a ≡ true → onward a ≡ h.rename a
  unfolding onward
  onward_old a k = ap (λ (b : Bool). if b then h.rename a else m + (a - n)) (lt-ltb a n (of_held (λ b. b < n) rs a old k))

  onward_low : (a : ℕ) → held_by rs a ≡ true → onward a < m
  onward_low a k =
      let e = onward_old a k in
      let l : h.rename a < m = of_held (λ b. b < m) rs' (h.rename a) new (subst (λ (l : List Reading). held_by l (h.rename a) ≡ true) (sym h.same) (readings_held h.rename rs a k)) in
      omega arith

  onward_new : (a : ℕ) → n ≤ a → onward a ≡ m + (a - n)
  unfolding onward
  onward_new a l = ap (λ (b : Bool). if b then h.rename a else m + (a - n)) (le-ltb a n l)

  onward_apart : (a b : ℕ) → Occurs rs n a → Occurs rs n b → onward a ≡ onward b → a ≡ b
  onward_apart a b (inl k) (inl l) e = h.apart a b k l (sym (onward_old a k) ∙ e ∙ onward_old b l)
  onward_apart a b (inl k) (inr l) e = let c = onward_low a k in let d = onward_new b l in absurd (omega arith)
  onward_apart a b (inr k) (inl l) e = let c = onward_new a k in let d = onward_low b l in absurd (omega arith)
  onward_apart a b (inr k) (inr l) e = let c = onward_new a k in let d = onward_new b l in omega arith

  onward_renames : Renaming onward rs n
  onward_renames = record { apart = onward_apart; births = λ k l. let c = onward_new k l in let d = onward_new (k + 1) (omega arith) in omega arith }

  same_onward : rs' ≡ map (ren_reading onward) rs
  same_onward =
      h.same
      ∙ sym (ap (map (ren_reading onward)) (sym (same_readings rs)) ∙ twice_readings (λ b. b) onward h.rename rs (own_readings (λ b. onward b ≡ h.rename b) rs onward_old))

  -- the same feed, onward
  pub fed_onward : (t : Table) (x : Term) → feed t x rs' m ≡ ren_fed onward (feed t x rs n)
  fed_onward t x =
      let e : m ≡ onward n = (let c = onward_new n (omega arith) in omega arith) in
      ap₂ {C = Fed} (feed t x) same_onward e ∙ renaming onward t x rs n onward_renames

  -- and what it leaves
  pub left_onward : (t : Table) (x : Term) → Renamed (feed t x rs n).readings (feed t x rs' m).readings
  left_onward t x =
      record {
        rename = onward;
        same = ap (λ (f : Fed). f.readings) (fed_onward t x);
        apart = λ a b k l. onward_apart a b (of_held (Occurs rs n) (feed t x rs n).readings a kept k) (of_held (Occurs rs n) (feed t x rs n).readings b kept l);
      }
    where
      kept : OfAll (Occurs rs n) (feed t x rs n).readings
      kept =
          feed_keeps (λ (e : Entry). Occurs rs n e.born) (λ to. Unit {0}) n (record { born = λ e l k. inr l; longer = λ e end i l k. inr l }) t
          (record { gotos = λ state left to e. tt; shifted = λ state class to e. tt }) x rs (own_readings (Occurs rs n) rs (λ b k. inl k))
