-- Laws of a search in a field whose records ascend, of any format: what is passed is not wanted, and a greater key ends it. Assumes nothing.
use mathlib.Core.Path.{◌≡◌, refl, ap, sym, ◌∙◌}
use mathlib.Core.Bool.{true, false}
use mathlib.Core.List.{List, [], ◌∷◌, map}
use Prim.Native.Nat.{ℕ, ◌+◌, ◌-◌, ◌<◌, ◌≤◌}
use native.Mathlib.Omega.{arith}
use lib.Dec.{leb, eqb}
use borrow.Author.Tests.{eq-eqb, leb-true, eqb-true}
use Rattle.meaning.specs.Basics.{both, every, find}
use Rattle.std.specs.Prelude.{if◌then◌else◌}
use Rattle.meaning.specs.TableFile.{places, is_pair}
use Rattle.meaning.specs.TableRight.{Format, pair, key_of, fits, ascends, records_right, field_right}
use Rattle.table.specs.Records.{record_test, seek, Scan}
use Rattle.meaning.proofs.Booleans.{both_left, both_right, not_both}
use Rattle.table.proofs.Fields.{places_end, places_more, field_first, test_fits}

-- Pairs.
not_pair : (a b x y : ℕ) → (pair x y ≡ pair a b → ⊥) → is_pair a b x y ≡ false
not_pair a b x y h = not_both (eqb x a) (eqb y b) (λ p q. h (cc (eqb-true x a p, eqb-true y b q)))

is_pair_lem : (a b x y : ℕ) → b < 65536 → y < 65536 → pair a b ≡ pair x y → is_pair a b x y ≡ true
is_pair_lem a b x y h i e = let p : x ≡ a = omega arith in let q : y ≡ b = omega arith in rw (eq-eqb x a p, eq-eqb y b q)

-- A search.
module _ {X Y : Type 0} (F : Format X) (out : X → Y) (none : Y) (a b e : ℕ) where
  find_past : (low : ℕ) (xs : List X) → ascends low (map (key_of F) xs) ≡ true → pair a b < low →
      find (λ x. is_pair a b (F.high x) (F.low x)) out none xs ≡ none
  unfolding find ascends key_of
  find_past low [] h i = refl
  find_past low (x ∷ xs) h i =
      let l : low ≤ pair (F.high x) (F.low x) = leb-true low (pair (F.high x) (F.low x)) (both_left _ _ h) in
      rw (not_pair a b (F.high x) (F.low x) (λ q. omega arith))
      (find_past (pair (F.high x) (F.low x) + 1) xs (both_right (leb low (pair (F.high x) (F.low x))) _ h) (omega arith))

  seek_first : (at : ℕ) → at < e →
      seek F out none a b e at ≡ (if is_pair a b (F.high (F.decode at)) (F.low (F.decode at)) then out (F.decode at) else seek F out none a b e (at + F.size at))
  unfolding seek find
  seek_first at h = ap (λ ps. find (λ x. is_pair a b (F.high x) (F.low x)) out none (map F.decode ps)) (places_more F.size F.some e at h)

  seek_end : (at : ℕ) → e ≤ at → seek F out none a b e at ≡ none
  unfolding seek find
  seek_end at h = ap (λ ps. find (λ x. is_pair a b (F.high x) (F.low x)) out none (map F.decode ps)) (places_end F.size F.some e (e - at) at h)

  seek_past : (low at : ℕ) → field_right F e low at ≡ true → pair a b < low → seek F out none a b e at ≡ none
  unfolding seek field_right records_right
  seek_past low at h i =
      let ps : List ℕ = places F.size (e - at) at e in
      find_past low (map F.decode ps) (both_right (every F.right (map F.decode ps)) _ (both_right (every (fits F e) ps) _ h)) i

  module _ (from at : ℕ) (S : Scan F out none a b e from at) where
    pub scan_end : e ≤ at → none ≡ seek F out none a b e from
    scan_end h = sym (seek_end at h) ∙ S.same

    module _ (h : at < e) where
      tested : both (record_test F e S.least at) (field_right F e (key_of F (F.decode at) + 1) (at + F.size at)) ≡ true
      tested = sym (field_first F e S.least at h) ∙ S.right

      rest : field_right F e (key_of F (F.decode at) + 1) (at + F.size at) ≡ true
      rest = both_right (record_test F e S.least at) _ tested

      pub scan_fits : at + F.size at ≤ e
      scan_fits = test_fits F e S.least at _ refl (both_left _ _ tested)

      pub scan_found : (y : Y) (k w : ℕ) → y ≡ out (F.decode at) → b < 65536 → F.low (F.decode at) < 65536 → w ≡ pair a b → k ≡ key_of F (F.decode at) → w ≡ k →
          y ≡ seek F out none a b e from
      unfolding key_of
      scan_found y k w d i j f g q =
          d ∙ sym (seek_first at h ∙ rw (is_pair_lem a b (F.high (F.decode at)) (F.low (F.decode at)) i j (sym f ∙ q ∙ g))) ∙ S.same

      skip : (pair a b ≡ key_of F (F.decode at) → ⊥) → seek F out none a b e (at + F.size at) ≡ seek F out none a b e from
      unfolding key_of
      skip n = sym (seek_first at h ∙ rw (not_pair a b (F.high (F.decode at)) (F.low (F.decode at)) (λ q. n (sym q)))) ∙ S.same

      pub scan_past : (k w : ℕ) → w ≡ pair a b → k ≡ key_of F (F.decode at) → w ≤ k → (w ≡ k → ⊥) → none ≡ seek F out none a b e from
      scan_past k w f g i n =
          sym (seek_past (key_of F (F.decode at) + 1) (at + F.size at) rest (omega arith)) ∙ skip (λ q. n (f ∙ q ∙ sym g))

      pub scan_next : (k w x : ℕ) → w ≡ pair a b → k ≡ key_of F (F.decode at) → k < w → x ≡ F.size at → Scan F out none a b e from (at + x)
      scan_next k w x f g i j = rw j (record { least = key_of F (F.decode at) + 1; right = rest; same = skip (λ q. omega arith) })
