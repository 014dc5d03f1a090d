-- The same readings under other identities: found back, carried on, and seen without identities. Assumes nothing.
use mathlib.Core.Path.{◌≡◌, refl, sym, ap, ◌∙◌, subst}
use mathlib.Core.Bool.{Bool, true, false}
use mathlib.Core.List.{List, [], ◌∷◌, ◌++◌, map}
use Prim.Native.Nat.{ℕ}
use lib.Dec.{eqb}
use borrow.Author.Tests.{eqb-true, eq-eqb}
use Rattle.meaning.specs.Basics.{either, flat, find, AllOf}
use Rattle.std.specs.Prelude.{if◌then◌else◌, None, Some}
use Rattle.meaning.specs.Calls.{State}
use Rattle.meaning.specs.Identities.{ren_entry, ren_reading}
use Rattle.meaning.specs.Readings.{Entry, Reading, plain, holds, held_by}
use Rattle.meaning.proofs.Booleans.{no_false, either_left, either_right}
use Rattle.meaning.proofs.Held.{own_readings}
pub use Rattle.meaning.proofs.Held.{readings_held}
use Rattle.promises.specs.Calls.{Renamed, SameState}

-- Entries held by readings, as one stack.

abbrev entries : List Reading → List Entry
entries = flat (λ (r : Reading). r.stack)

holds_append : (s t : List Entry) (b : ℕ) → holds (s ++ t) b ≡ either (holds s b) (holds t b)
unfolding holds
holds_append [] t b = refl
holds_append (e ∷ s) t b = ap (either (eqb e.born b)) (holds_append s t b) ∙ assoc (eqb e.born b) (holds s b) (holds t b)
  where
    assoc : (u v w : Bool) → either u (either v w) ≡ either (either u v) w
    assoc true v w = refl
    assoc false v w = refl

held_entries : (rs : List Reading) (b : ℕ) → held_by rs b ≡ holds (entries rs) b
unfolding held_by holds
held_entries [] b = refl
held_entries (r ∷ rs) b = ap (either (holds r.stack b)) (held_entries rs b) ∙ sym (holds_append r.stack (entries rs) b)

-- What was held before a renaming.

module _ (ρ : ℕ → ℕ) where
  -- an identity that was renamed to b
  record Origin (P : ℕ → Bool) (b : ℕ) : Type 0 where
    was : ℕ
    held : P was ≡ true
    is : ρ was ≡ b

  stack_origin : (s : List Entry) (b : ℕ) → holds (map (ren_entry ρ) s) b ≡ true → Origin (holds s) b
  unfolding holds
  stack_origin [] b h = no_false h
  stack_origin (e ∷ s) b h = at (eqb (ρ e.born) b) refl h (stack_origin s b)
    where
      at : (c : Bool) → eqb (ρ e.born) b ≡ c → either c (holds (map (ren_entry ρ) s) b) ≡ true → (holds (map (ren_entry ρ) s) b ≡ true → Origin (holds s) b) → Origin (holds (e ∷ s)) b
      at true q g go = record { was = e.born; held = either_left (eqb e.born e.born) (holds s e.born) (eq-eqb e.born e.born refl); is = eqb-true (ρ e.born) b q }
      at false q g go = let o = go g in record { was = o.was; held = either_right (eqb e.born o.was) (holds s o.was) o.held; is = o.is }

  readings_origin : (rs : List Reading) (b : ℕ) → held_by (map (ren_reading ρ) rs) b ≡ true → Origin (held_by rs) b
  unfolding held_by
  readings_origin [] b h = no_false h
  readings_origin (r ∷ rs) b h = at (holds (map (ren_entry ρ) r.stack) b) refl h (readings_origin rs b)
    where
      at : (c : Bool) → holds (map (ren_entry ρ) r.stack) b ≡ c → either c (held_by (map (ren_reading ρ) rs) b) ≡ true → (held_by (map (ren_reading ρ) rs) b ≡ true → Origin (held_by rs) b) → Origin (held_by (r ∷ rs)) b
      at true q g go = let o = stack_origin r.stack b q in record { was = o.was; held = either_left (holds r.stack o.was) (held_by rs o.was) o.held; is = o.is }
      at false q g go = let o = go g in record { was = o.was; held = either_right (holds r.stack o.was) (held_by rs o.was) o.held; is = o.is }

  -- The way back: the first entry that has been given this identity.
  back : List Entry → ℕ → ℕ
  back s b = find (λ (e : Entry). eqb (ρ e.born) b) (λ (e : Entry). e.born) 0 s

  back_is : (s : List Entry) (a : ℕ) → holds s a ≡ true → ((c : ℕ) → holds s c ≡ true → ρ c ≡ ρ a → c ≡ a) → back s (ρ a) ≡ a
  unfolding back find holds
  back_is [] a h apart = no_false h
  back_is (e ∷ s) a h apart =
      at (eqb (ρ e.born) (ρ a)) refl (eqb e.born a) refl h (λ g. back_is s a g (λ c k. apart c (either_right (eqb e.born c) (holds s c) k)))
    where
      at : (b : Bool) → eqb (ρ e.born) (ρ a) ≡ b → (d : Bool) → eqb e.born a ≡ d → either d (holds s a) ≡ true → (holds s a ≡ true → back s (ρ a) ≡ a) → (if b then e.born else back s (ρ a)) ≡ a
      at true q d p g go = apart e.born (either_left (eqb e.born e.born) (holds s e.born) (eq-eqb e.born e.born refl)) (eqb-true (ρ e.born) (ρ a) q)
      at false q true p g go = no_false (sym q ∙ eq-eqb (ρ e.born) (ρ a) (ap ρ (eqb-true e.born a p)))
      at false q false p g go = go g

-- One renaming after the other is one renaming; where it leaves every identity as it was, it changes nothing.
twice_stack : (ρ σ τ : ℕ → ℕ) (s : List Entry) → AllOf (λ (e : Entry). σ (ρ e.born) ≡ τ e.born) s → map (ren_entry σ) (map (ren_entry ρ) s) ≡ map (ren_entry τ) s
twice_stack ρ σ τ [] h = refl
twice_stack ρ σ τ (e ∷ s) h =
    let rest = twice_stack ρ σ τ s h.1 in
    λ i. record { born = h.0 i; state = e.state; value = e.value; start = e.start; end = e.end } ∷ rest i

pub twice_readings : (ρ σ τ : ℕ → ℕ) (rs : List Reading) → AllOf (λ (r : Reading). AllOf (λ (e : Entry). σ (ρ e.born) ≡ τ e.born) r.stack) rs →
    map (ren_reading σ) (map (ren_reading ρ) rs) ≡ map (ren_reading τ) rs
twice_readings ρ σ τ [] h = refl
twice_readings ρ σ τ (r ∷ rs) h =
    let stack = twice_stack ρ σ τ r.stack h.0 in
    let rest = twice_readings ρ σ τ rs h.1 in
    λ i. record { mark = r.mark; stack = stack i } ∷ rest i

same_stack : (s : List Entry) → map (ren_entry (λ b. b)) s ≡ s
same_stack [] = refl
same_stack (e ∷ s) = ap (λ (l : List Entry). e ∷ l) (same_stack s)

pub same_readings : (rs : List Reading) → map (ren_reading (λ b. b)) rs ≡ rs
same_readings [] = refl
same_readings (r ∷ rs) = let stack = same_stack r.stack in let rest = same_readings rs in λ i. record { mark = r.mark; stack = stack i } ∷ rest i

-- The same but for identities: of itself, the other way round, and on to a third.

pub renamed_self : (rs : List Reading) → Renamed rs rs
renamed_self rs = record { rename = λ b. b; same = sym (same_readings rs); apart = λ a b h k e. e }

pub state_self : (s : State) → SameState s s
state_self None = tt
state_self (Some rs) = renamed_self rs

pub renamed_back : (rs rs' : List Reading) → Renamed rs rs' → Renamed rs' rs
renamed_back rs rs' a = subst (λ (l : List Reading). Renamed l rs) (sym a.same) there
  where
    ρ : ℕ → ℕ
    ρ = a.rename

    σ : ℕ → ℕ
    σ = back ρ (entries rs)

    undone : (b : ℕ) → held_by rs b ≡ true → σ (ρ b) ≡ b
    undone b h = back_is ρ (entries rs) b (sym (held_entries rs b) ∙ h) (λ c k. a.apart c b (held_entries rs c ∙ k) h)

    apart_back : (b d : ℕ) → held_by (map (ren_reading ρ) rs) b ≡ true → held_by (map (ren_reading ρ) rs) d ≡ true → σ b ≡ σ d → b ≡ d
    apart_back b d h k e =
        let o = readings_origin ρ rs b h in
        let p = readings_origin ρ rs d k in
        sym o.is ∙ ap ρ (sym (undone o.was o.held) ∙ ap σ o.is ∙ e ∙ sym (ap σ p.is) ∙ undone p.was p.held) ∙ p.is

    there : Renamed (map (ren_reading ρ) rs) rs
    there = record {
      rename = σ;
      same = sym (twice_readings ρ σ (λ b. b) rs (own_readings (λ b. σ (ρ b) ≡ b) rs undone) ∙ same_readings rs);
      apart = apart_back;
    }

pub renamed_on : (rs rs' rs'' : List Reading) → Renamed rs rs' → Renamed rs' rs'' → Renamed rs rs''
renamed_on rs rs' rs'' a b =
    record {
      rename = λ c. b.rename (a.rename c);
      same = b.same ∙ ap (map (ren_reading b.rename)) a.same ∙ twice_readings a.rename b.rename (λ c. b.rename (a.rename c)) rs (own_readings _ rs (λ c h. refl));
      apart = λ c d h k e. a.apart c d h k (b.apart (a.rename c) (a.rename d) (held c h) (held d k) e);
    }
  where
    held : (c : ℕ) → held_by rs c ≡ true → held_by rs' (a.rename c) ≡ true
    held c h = subst (λ (l : List Reading). held_by l (a.rename c) ≡ true) (sym a.same) (readings_held a.rename rs c h)

-- Without identities they are equal.
pub renamed_plain : (rs rs' : List Reading) → Renamed rs rs' → map plain rs' ≡ map plain rs
renamed_plain rs rs' a = ap (map plain) a.same ∙ twice_readings a.rename (λ b. 0) (λ b. 0) rs (own_readings (λ b. 0 ≡ 0) rs (λ b h. refl))

-- The same of states.

pub state_back : (s s' : State) → SameState s s' → SameState s' s
state_back None None h = tt
state_back None (Some rs) h = absurd h
state_back (Some rs) None h = absurd h
state_back (Some rs) (Some rs') h = renamed_back rs rs' h

pub state_on : (s s' s'' : State) → SameState s s' → SameState s' s'' → SameState s s''
state_on None None s'' h k = k
state_on None (Some rs) s'' h k = absurd h
state_on (Some rs) None s'' h k = absurd h
state_on (Some rs) (Some rs') None h k = absurd k
state_on (Some rs) (Some rs') (Some rs'') h k = renamed_on rs rs' rs'' h k
