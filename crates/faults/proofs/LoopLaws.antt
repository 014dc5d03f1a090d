-- Laws of the loops: what is left decides. Assumes nothing.
use mathlib.Core.Path.{◌≡◌, refl, ap, sym, ◌∙◌}
use mathlib.Core.List.{List, [], ◌∷◌}
use Prim.Native.Nat.{ℕ, suc, ◌+◌, ◌-◌, ◌*◌, ◌<◌, ◌≤◌}
use native.Mathlib.Omega.{arith}
use lib.Dec.{ltb, leb}
use Rattle.std.proofs.Common.{Ok, Err}
use Rattle.meaning.specs.Bytes.{u16_at}
use Rattle.meaning.specs.TableFile.{rule_at, places}
use Rattle.meaning.specs.TableRight.{Format, key_of, fits, pair}
use Rattle.meaning.specs.declared.Counts.{Counts}
use Rattle.meaning.specs.declared.Rule.{Rule}
use Rattle.table.specs.Records.{placed, RecordLaws}
use Rattle.table.proofs.Sought.{kind_key, kind_size}
use Rattle.table.proofs.Fields.{places_end, places_more}
use Rattle.faults.specs.Verdicts.{Verdict, first, tested, one_of}
use Rattle.faults.specs.Rules.{rule_fault, rules_fault}
use Rattle.faults.specs.Records.{reductions_fault, in_field, records_fault, field_fault}
use Rattle.faults.specs.declared.Broken.{Broken}
use Rattle.faults.specs.declared.Place.{Place}
use Rattle.faults.specs.declared.Fault.TheVariants.{UnknownRule, PastField, NotAscending}

-- The first of two, where it is known what the one before says.
module _ (v rest w : Verdict) (so : first v rest ≡ w) where
  pub goes_on : (u : Unit {0}) → v ≡ Ok u → rest ≡ w
  goes_on u e = rw e at so

  pub stops : (b : Broken) → v ≡ Err b → w ≡ Err b
  stops b e = sym (rw e at so)

-- Rules.
module _ (c : Counts) (n : ℕ) (s : List ℕ) (i p : ℕ) (w : Verdict) (so : rules_fault c (n - i) s i (p + 17 * i) ≡ w) where
  pub rules_end : n ≤ i → Ok tt ≡ w
  unfolding rules_fault
  rules_end h = let e : n - i ≡ 0 = omega arith in ap (λ m. rules_fault c m s i (p + 17 * i)) (sym e) ∙ so

  pub rules_first : (r : Rule) (v : Verdict) → i < n → r ≡ rule_at s (p + 17 * i) → v ≡ rule_fault c r (one_of 2 i) (p + 17 * i) →
      first v (rules_fault c (n - (i + 1)) s (i + 1) (p + 17 * (i + 1))) ≡ w
  unfolding rules_fault
  rules_first r v h e f =
      let u : n - i ≡ suc (n - (i + 1)) = omega arith in
      let q : p + 17 * (i + 1) ≡ p + 17 * i + 17 = omega arith in
      rw (q, f, e) (sym (ap (λ m. rules_fault c m s i (p + 17 * i)) u) ∙ so)

-- The rules of an action record.
module _ (m n : ℕ) (s : List ℕ) (place : Place) (p k : ℕ) (w : Verdict) (so : reductions_fault m (n - k) s place (p + 2 * k) ≡ w) where
  pub reductions_end : n ≤ k → Ok tt ≡ w
  unfolding reductions_fault
  reductions_end h = let e : n - k ≡ 0 = omega arith in ap (λ l. reductions_fault m l s place (p + 2 * k)) (sym e) ∙ so

  pub reductions_first : (x : ℕ) (v : Verdict) → k < n → x ≡ u16_at s (p + 2 * k) → v ≡ tested (ltb x m) UnknownRule place (p + 2 * k) →
      first v (reductions_fault m (n - (k + 1)) s place (p + 2 * (k + 1))) ≡ w
  unfolding reductions_fault
  reductions_first x v h e f =
      let u : n - k ≡ suc (n - (k + 1)) = omega arith in
      let q : p + 2 * (k + 1) ≡ p + 2 * k + 2 = omega arith in
      rw (q, f, e) (sym (ap (λ l. reductions_fault m l s place (p + 2 * k)) u) ∙ so)

-- The records of a field.
first_first : (a b c : Verdict) → first (first a b) c ≡ first a (first b c)
first_first (Ok u) b c = refl
first_first (Err e) b c = refl

module _ (F : Format ℕ) (field : ℕ) (one : Place → ℕ → Verdict) (e low i at : ℕ) (w : Verdict) (so : field_fault F field one e low i at ≡ w) where
  pub field_end : e ≤ at → Ok tt ≡ w
  unfolding field_fault records_fault
  field_end h = sym (ap (records_fault F field one e low i) (places_end F.size F.some e (e - at) at h)) ∙ so

  -- past, right and order: what the three tests of a record say
  pub field_first : (past : Verdict) (next : ℕ) → at < e → next ≡ at + F.size at → past ≡ tested (leb next e) PastField (one_of field i) at →
      first past (first (one (one_of field i) at) (first (tested (leb low (key_of F (F.decode at))) NotAscending (one_of field i) at) (field_fault F field one e (key_of F (F.decode at) + 1) (i + 1) next))) ≡ w
  unfolding field_fault records_fault in_field
  field_first past next h j a =
      rw (a, j)
      (sym (first_first (tested (fits F e at) PastField (one_of field i) at) _ _ ∙ ap (first (tested (fits F e at) PastField (one_of field i) at)) (first_first (one (one_of field i) at) _ _))
      ∙ sym (ap (records_fault F field one e low i) (places_more F.size F.some e at h)) ∙ so)

-- The loop over them, for a kind of record told by the place: the ways out by its three tests, and the next record.
module _ (size : List ℕ → ℕ → ℕ) (format : List ℕ → Counts → Format ℕ) (laws : RecordLaws size format) (s : List ℕ) (c : Counts)
    (field : ℕ) (one : Place → ℕ → Verdict) (e low i at : ℕ) (w : Verdict) (so : field_fault (format s c) field one e low i at ≡ w)
    (x : ℕ) (past : Verdict) (h : at < e) (j : x ≡ size s at) (a : past ≡ tested (leb (at + x) e) PastField (one_of field i) at) where
  abbrev key : ℕ
  key = key_of (format s c) ((format s c).decode at)

  abbrev order_of : Verdict
  order_of = tested (leb low key) NotAscending (one_of field i) at

  abbrev rest : Verdict
  rest = field_fault (format s c) field one e (key + 1) (i + 1) (at + x)

  one_first : first past (first (one (one_of field i) at) (first order_of rest)) ≡ w
  one_first = field_first (format s c) field one e low i at w so past (at + x) h (ap (λ y. at + y) (kind_size size format laws s c at x j)) a

  pub past_stops : (b : Broken) → past ≡ Err b → w ≡ Err b
  past_stops = stops past (first (one (one_of field i) at) (first order_of rest)) w one_first

  module _ (u : Unit {0}) (b : past ≡ Ok u) (right : Verdict) (f : right ≡ one (one_of field i) at) where
    right_first : first (one (one_of field i) at) (first order_of rest) ≡ w
    right_first = goes_on past (first (one (one_of field i) at) (first order_of rest)) w one_first u b

    pub right_stops : (x : Broken) → right ≡ Err x → w ≡ Err x
    right_stops x q = stops (one (one_of field i) at) (first order_of rest) w right_first x (sym f ∙ q)

    module _ (v : Unit {0}) (d : right ≡ Ok v) (k : ℕ) (l : k ≡ pair (u16_at s at) (u16_at s (at + 2))) (order : Verdict) (o : order ≡ tested (leb low k) NotAscending (one_of field i) at) where
      order_first : first order rest ≡ w
      order_first = rw (o, kind_key size format laws s c at k l) (goes_on (one (one_of field i) at) (first order_of rest) w right_first v (sym f ∙ d))

      pub order_stops : (x : Broken) → order ≡ Err x → w ≡ Err x
      order_stops = stops order rest w order_first

      pub order_goes_on : (z : Unit {0}) → order ≡ Ok z → field_fault (format s c) field one e (k + 1) (i + 1) (at + x) ≡ w
      order_goes_on z q = rw (kind_key size format laws s c at k l) (goes_on order rest w order_first z q)

-- A kind of record told by the place breaks the same rules as the kind itself.
module _ {X : Type 0} (F : Format X) (field : ℕ) (one : Place → ℕ → Verdict) (e : ℕ) where
  placed_records : (low i : ℕ) (ps : List ℕ) → records_fault (placed F) field one e low i ps ≡ records_fault F field one e low i ps
  unfolding records_fault key_of
  placed_records low i [] = refl
  placed_records low i (p ∷ ps) =
      ap (first (in_field (one (one_of field i) p) (fits F e p) (leb low (key_of F (F.decode p))) (one_of field i) p)) (placed_records (key_of F (F.decode p) + 1) (i + 1) ps)

  pub placed_fault : (low i at : ℕ) → field_fault (placed F) field one e low i at ≡ field_fault F field one e low i at
  unfolding field_fault
  placed_fault low i at = placed_records low i (places F.size (e - at) at e)
