-- Laws of the records that fill a field, of any format: where they begin, and that one test for each decides the field. Assumes nothing.
use mathlib.Core.Path.{◌≡◌, refl, ap, sym, ◌∙◌}
use mathlib.Core.Bool.{Bool, true, false}
use mathlib.Core.List.{List, [], ◌∷◌, map}
use Prim.Native.Nat.{ℕ, zero, suc, ◌+◌, ◌-◌, ◌<◌, ◌≤◌}
use native.Mathlib.Omega.{arith}
use lib.Dec.{ltb, leb}
use borrow.Author.Tests.{lt-ltb, le-ltb, leb-true}
use Rattle.meaning.specs.Basics.{both, every}
use Rattle.std.specs.Prelude.{if◌then◌else◌}
use Rattle.meaning.specs.TableFile.{places}
use Rattle.meaning.specs.TableRight.{Format, key_of, fits, ascends, records_right, field_right}
use Rattle.table.specs.Records.{record_test}
use Rattle.meaning.proofs.Booleans.{both_left, regroup}

-- Places: the fuel does not matter where there is enough.
module _ (size : ℕ → ℕ) (some : (p : ℕ) → 0 < size p) (e : ℕ) where
  pub places_end : (f at : ℕ) → e ≤ at → places size f at e ≡ []
  unfolding places
  places_end zero at h = refl
  places_end (suc f) at h = rw (le-ltb at e h)

  places_fuel : (f g at : ℕ) → e - at ≤ f → e - at ≤ g → places size f at e ≡ places size g at e
  unfolding places
  places_fuel zero g at h i = sym (places_end g at (omega arith))
  places_fuel (suc f) zero at h i = places_end (suc f) at (omega arith)
  places_fuel (suc f) (suc g) at h i =
      let z : 0 < size at = some at in
      ap (λ l. if ltb at e then at ∷ l else []) (places_fuel f g (at + size at) (omega arith) (omega arith))

  pub places_more : (at : ℕ) → at < e → places size (e - at) at e ≡ at ∷ places size (e - (at + size at)) (at + size at) e
  unfolding places
  places_more at h =
      let z : 0 < size at = some at in
      let u : e - at ≡ suc (e - at - 1) = omega arith in
      ap (λ f. places size f at e) u ∙ rw (lt-ltb at e h) (ap (λ l. at ∷ l) (places_fuel (e - at - 1) (e - (at + size at)) (at + size at) (omega arith) (omega arith)))

-- One record after the other.
module _ {X : Type 0} (F : Format X) (e : ℕ) where
  records_first : (low p : ℕ) (ps : List ℕ) →
      records_right F e low (p ∷ ps) ≡ both (record_test F e low p) (records_right F e (key_of F (F.decode p) + 1) ps)
  unfolding records_right record_test ascends
  records_first low p ps =
      regroup (fits F e p) (F.right (F.decode p)) (leb low (key_of F (F.decode p))) (every (fits F e) ps) (every F.right (map F.decode ps))
      (ascends (key_of F (F.decode p) + 1) (map (key_of F) (map F.decode ps)))

  pub field_first : (low at : ℕ) → at < e →
      field_right F e low at ≡ both (record_test F e low at) (field_right F e (key_of F (F.decode at) + 1) (at + F.size at))
  unfolding field_right
  field_first low at h = ap (records_right F e low) (places_more F.size F.some e at h) ∙ records_first low at _

  pub test_fits : (low at : ℕ) (b : Bool) → b ≡ record_test F e low at → b ≡ true → at + F.size at ≤ e
  unfolding record_test
  test_fits low at b f g = leb-true (at + F.size at) e (both_left (fits F e at) _ (sym f ∙ g))

  -- the loop of a check: what is left decides
  module _ (low at : ℕ) (w : Bool) (so : field_right F e low at ≡ w) where
    pub check_end : e ≤ at → true ≡ w
    unfolding field_right records_right ascends
    check_end h = sym (ap (records_right F e low) (places_end F.size F.some e (e - at) at h)) ∙ so

    module _ (b : Bool) (h : at < e) (f : b ≡ record_test F e low at) where
      pub check_bad : b ≡ false → false ≡ w
      check_bad g = rw (sym f ∙ g) at (sym (field_first low at h) ∙ so)

      pub check_more : (k x : ℕ) → b ≡ true → k ≡ key_of F (F.decode at) → x ≡ F.size at → field_right F e (k + 1) (at + x) ≡ w
      check_more k x g i j = rw (i, j) (rw (sym f ∙ g) at (sym (field_first low at h) ∙ so))
