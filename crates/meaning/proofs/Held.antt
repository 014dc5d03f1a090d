-- What a list of readings holds is what its readings have: P holds of every entry's identity if it holds of every identity that is held; and what is held stays held under another identity.
use Prim.Native.Nat.{ℕ}
use mathlib.Core.Path.{◌≡◌, refl, ap}
use mathlib.Core.Bool.{Bool, true, false}
use mathlib.Core.List.{List, [], ◌∷◌, map}
use lib.Dec.{eqb, eqb_refl}
use borrow.Author.Tests.{eqb-true, eq-eqb}
use Rattle.meaning.specs.Basics.{either, AllOf}
use Rattle.meaning.specs.Identities.{ren_entry, ren_reading}
use Rattle.meaning.specs.Readings.{Entry, Reading, holds, held_by}
use Rattle.meaning.proofs.Booleans.{is_true, either_left, either_right}

module _ (P : ℕ → Type 0) where
  own_stack : (s : List Entry) → ((b : ℕ) → holds s b ≡ true → P b) → AllOf (λ (e : Entry). P e.born) s
  unfolding holds
  own_stack [] f = tt
  own_stack (e ∷ s) f = (
    f e.born (either_left (eqb e.born e.born) (holds s e.born) (is_true (eqb e.born e.born) (eqb_refl e.born))),
    own_stack s (λ b h. f b (either_right (eqb e.born b) (holds s b) h)),
  )

  pub own_readings : (rs : List Reading) → ((b : ℕ) → held_by rs b ≡ true → P b) → AllOf (λ (r : Reading). AllOf (λ (e : Entry). P e.born) r.stack) rs
  unfolding held_by
  own_readings [] f = tt
  own_readings (r ∷ rs) f = (own_stack r.stack (λ b h. f b (either_left (holds r.stack b) (held_by rs b) h)), own_readings rs (λ b h. f b (either_right (holds r.stack b) (held_by rs b) h)))

module _ (ρ : ℕ → ℕ) where
  stack_held : (s : List Entry) (a : ℕ) → holds s a ≡ true → holds (map (ren_entry ρ) s) (ρ a) ≡ true
  unfolding holds
  stack_held [] a h = h
  stack_held (e ∷ s) a h = at (eqb e.born a) refl h (stack_held s a)
    where
      at : (b : Bool) → eqb e.born a ≡ b → either b (holds s a) ≡ true → (holds s a ≡ true → holds (map (ren_entry ρ) s) (ρ a) ≡ true) → either (eqb (ρ e.born) (ρ a)) (holds (map (ren_entry ρ) s) (ρ a)) ≡ true
      at true q g go = either_left (eqb (ρ e.born) (ρ a)) (holds (map (ren_entry ρ) s) (ρ a)) (eq-eqb (ρ e.born) (ρ a) (ap ρ (eqb-true e.born a q)))
      at false q g go = either_right (eqb (ρ e.born) (ρ a)) (holds (map (ren_entry ρ) s) (ρ a)) (go g)

  pub readings_held : (rs : List Reading) (a : ℕ) → held_by rs a ≡ true → held_by (map (ren_reading ρ) rs) (ρ a) ≡ true
  unfolding held_by
  readings_held [] a h = h
  readings_held (r ∷ rs) a h = at (holds r.stack a) refl h (readings_held rs a)
    where
      at : (b : Bool) → holds r.stack a ≡ b → either b (held_by rs a) ≡ true → (held_by rs a ≡ true → held_by (map (ren_reading ρ) rs) (ρ a) ≡ true) → either (holds (map (ren_entry ρ) r.stack) (ρ a)) (held_by (map (ren_reading ρ) rs) (ρ a)) ≡ true
      at true q g go = either_left (holds (map (ren_entry ρ) r.stack) (ρ a)) (held_by (map (ren_reading ρ) rs) (ρ a)) (stack_held r.stack a q)
      at false q g go = either_right (holds (map (ren_entry ρ) r.stack) (ρ a)) (held_by (map (ren_reading ρ) rs) (ρ a)) (go g)
