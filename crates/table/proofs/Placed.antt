-- A kind of record told by the place alone is as right, and finds as much, as the kind itself. Assumes nothing.
use mathlib.Core.Path.{◌≡◌, refl, sym, ap, ◌∙◌}
use mathlib.Core.Bool.{Bool, true, false}
use mathlib.Core.List.{List, [], ◌∷◌, map}
use Prim.Native.Nat.{ℕ, ◌-◌}
use Rattle.std.proofs.Common.{Option, Some, None}
use Rattle.std.specs.Prelude.{if◌then◌else◌}
use Rattle.meaning.specs.Basics.{both, every, find}
use Rattle.meaning.specs.TableFile.{places, is_pair}
use Rattle.meaning.specs.TableRight.{Format, key_of, fits, ascends, records_right, field_right}
use Rattle.meaning.specs.declared.Counts.{Counts}
use Rattle.table.specs.Records.{placed, seek, Sound, Ordered}

module _ {X : Type 0} (F : Format X) where
  rights : (ps : List ℕ) → every (placed F).right (map (placed F).decode ps) ≡ every F.right (map F.decode ps)
  rights [] = refl
  rights (p ∷ ps) = ap (both (F.right (F.decode p))) (rights ps)

  keys : (ps : List ℕ) → map (key_of (placed F)) (map (placed F).decode ps) ≡ map (key_of F) (map F.decode ps)
  unfolding key_of
  keys [] = refl
  keys (p ∷ ps) = ap (λ ks. key_of F (F.decode p) ∷ ks) (keys ps)

  pub placed_field : (e low at : ℕ) → field_right (placed F) e low at ≡ field_right F e low at
  unfolding field_right records_right
  placed_field e low at =
      let ps : List ℕ = places F.size (e - at) at e in
      ap (λ b. both (every (fits F e) ps) (both b (ascends low (map (key_of (placed F)) (map (placed F).decode ps))))) (rights ps)
      ∙ ap (λ ks. both (every (fits F e) ps) (both (every F.right (map F.decode ps)) (ascends low ks))) (keys ps)

  module _ {Y : Type 0} (out : X → Y) (none : Y) where
    -- what the record at the place gives
    abbrev given : Option ℕ → Y
    given None = none
    given (Some p) = out (F.decode p)

    by_case : (b : Bool) (p : ℕ) (x : Option ℕ) (y : Y) → given x ≡ y → given (if b then Some p else x) ≡ (if b then out (F.decode p) else y)
    by_case true p x y e = refl
    by_case false p x y e = e

    found : (fit : X → Bool) (ps : List ℕ) → given (find (λ p. fit (F.decode p)) Some None (map (λ p. p) ps)) ≡ find fit out none (map F.decode ps)
    unfolding find
    found fit [] = refl
    found fit (p ∷ ps) = by_case (fit (F.decode p)) p _ _ (found fit ps)

    placed_seek : (a b e at : ℕ) → given (seek (placed F) Some None a b e at) ≡ seek F out none a b e at
    unfolding seek
    placed_seek a b e at = found (λ x. is_pair a b (F.high x) (F.low x)) (places F.size (e - at) at e)

    module _ (a b e at : ℕ) (r : Option ℕ) (q : r ≡ seek (placed F) Some None a b e at) where
      pub placed_some : (p : ℕ) → r ≡ Some p → out (F.decode p) ≡ seek F out none a b e at
      placed_some p i = ap given (sym i ∙ q) ∙ placed_seek a b e at

      pub placed_none : r ≡ None → none ≡ seek F out none a b e at
      placed_none i = ap given (sym i ∙ q) ∙ placed_seek a b e at

-- a field that was found right is in order for a search by the place
pub placed_ordered : {X : Type 0} (format : Counts → Format X) (s : List ℕ) (c : Counts) (at e : ℕ) → Sound (format c) s at e → Ordered (λ d. placed (format d)) s at e
placed_ordered format s c at e h =
    record { counts = c; sound = record { ends = h.ends; small = h.small; right = placed_field (format c) e 0 at ∙ h.right } }
