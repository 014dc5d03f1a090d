-- Laws of a kind of record that is told by the place: one for each way out of its loops. Assumes nothing.
use mathlib.Core.Path.{◌≡◌, refl, sym, ap, ◌∙◌}
use mathlib.Core.Bool.{Bool, true, false}
use mathlib.Core.List.{List}
use Prim.Native.Nat.{ℕ, ◌+◌, ◌<◌, ◌≤◌}
use native.Mathlib.Omega.{arith}
use lib.ListN.{length}
use lib.Dec.{leb}
use borrow.Author.Tests.{le-leb, lt-leb}
use Rattle.meaning.specs.Basics.{both}
use Rattle.std.proofs.Common.{Some, None}
use Rattle.meaning.specs.Bytes.{u16_at}
use Rattle.meaning.specs.TableRight.{Format, pair, key_of}
use Rattle.meaning.specs.declared.Counts.{Counts}
use Rattle.table.specs.Records.{RecordLaws, record_test, seek, Sought}
use Rattle.table.proofs.Fields.{test_fits}
use Rattle.table.proofs.Search.{scan_end, scan_fits, scan_found, scan_past, scan_next}

module _ (size : List ℕ → ℕ → ℕ) (format : List ℕ → Counts → Format ℕ) (laws : RecordLaws size format) (s : List ℕ) where
  module _ (c : Counts) (p : ℕ) where
    pub kind_key : (k : ℕ) → k ≡ pair (u16_at s p) (u16_at s (p + 2)) → k ≡ key_of (format s c) ((format s c).decode p)
    unfolding key_of
    kind_key k e = rw (laws.place s c p, laws.high s c p, laws.low s c p) e

    pub kind_size : (x : ℕ) → x ≡ size s p → x ≡ (format s c).size p
    kind_size x e = e ∙ sym (laws.sized s c p)

    module _ (e low x : ℕ) (i : x ≡ size s p) where
      pub kind_short : e < p + x → false ≡ record_test (format s c) e low p
      unfolding record_test
      kind_short h = rw (lt-leb (p + (format s c).size p) e (omega (arith, kind_size x i)))

      module _ (r : Bool) (h : p + x ≤ e) (f : r ≡ (format s c).right p) where
        kind_test : (k : ℕ) → k ≡ pair (u16_at s p) (u16_at s (p + 2)) → both r (leb low k) ≡ record_test (format s c) e low p
        unfolding record_test
        kind_test k g = rw (le-leb (p + (format s c).size p) e (omega (arith, kind_size x i)), laws.place s c p, ← f, kind_key k g, laws.place s c p)

        pub kind_right : (k : ℕ) → k ≡ pair (u16_at s p) (u16_at s (p + 2)) → r ≡ true → leb low k ≡ record_test (format s c) e low p
        kind_right k g j = rw j at (kind_test k g)

        pub kind_wrong : r ≡ false → r ≡ record_test (format s c) e low p
        kind_wrong j = j ∙ rw j at (kind_test _ refl)

    pub kind_inside : (e low : ℕ) (b : Bool) → e ≤ length s → b ≡ record_test (format s c) e low p → b ≡ true → p + 6 ≤ length s
    kind_inside e low b i f g =
        let h : p + (format s c).size p ≤ e = test_fits (format s c) e low p b f g in
        omega (arith, laws.sized s c p, laws.long s p)

  -- a search
  module _ (a b e from : ℕ) where
    module _ (at : ℕ) (S : Sought (format s) a b e from at) where
      pub sought_end : e ≤ at → (c : Counts) → None ≡ seek (format s c) Some None a b e from
      sought_end h c = scan_end _ Some None a b e from at S.scan h ∙ laws.any s S.counts c a b e from

      module _ (h : at < e) where
        pub sought_fits : at + size s at ≤ e
        sought_fits = rw (← laws.sized s S.counts at) (scan_fits _ Some None a b e from at S.scan h)

        pub sought_found : (k w : ℕ) → b < 65536 → u16_at s (at + 2) < 65536 → w ≡ pair a b → k ≡ pair (u16_at s at) (u16_at s (at + 2)) → w ≡ k →
            (c : Counts) → Some at ≡ seek (format s c) Some None a b e from
        sought_found k w i j f g q c =
            scan_found _ Some None a b e from at S.scan h (Some at) k w (ap Some (sym (laws.place s S.counts at))) i
            (rw (laws.place s S.counts at, laws.low s S.counts at) j) f (kind_key S.counts at k g) q
            ∙ laws.any s S.counts c a b e from

        pub sought_past : (k w : ℕ) → w ≡ pair a b → k ≡ pair (u16_at s at) (u16_at s (at + 2)) → w ≤ k → (w ≡ k → ⊥) →
            (c : Counts) → None ≡ seek (format s c) Some None a b e from
        sought_past k w f g i n c =
            scan_past _ Some None a b e from at S.scan h k w f (kind_key S.counts at k g) i n ∙ laws.any s S.counts c a b e from

        pub sought_next : (k w x : ℕ) → w ≡ pair a b → k ≡ pair (u16_at s at) (u16_at s (at + 2)) → k < w → x ≡ size s at → Sought (format s) a b e from (at + x)
        sought_next k w x f g i j =
            record { counts = S.counts; scan = scan_next _ Some None a b e from at S.scan h k w x f (kind_key S.counts at k g) i (kind_size S.counts at x j) }
