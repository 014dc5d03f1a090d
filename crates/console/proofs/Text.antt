-- Digits and numbers in a line, by the ways out of the code. Assumes nothing.
use Rattle.std.proofs.Common.{◌≡◌, refl, sym, ap, subst, ◌∙◌, List, [], ◌∷◌, ℕ, suc, ◌+◌, ◌-◌, ◌*◌, ◌<◌, ◌≤◌, length, get_or, drop, Option, Some, None, arith}
use Rattle.std.proofs.lemmas.Grind.{common_steps}
use Rattle.std.proofs.Math.ListN.{drop_of_length-le, length-drop}
use Rattle.std.proofs.Math.Seq.{drop-cons}
use Rattle.console.specs.Text.{digit_of, decimal_of, digit_then, digits, number_from, fitting, grown_by, ScanIs, number_at, term_at}

-- A number that grows is the number that it is meant to be as long as that is not too great.
grown_fitting : (v n d : ℕ) → fitting v ≡ fitting n → fitting (grown_by v d) ≡ fitting (n * 10 + d)
grown_fitting v n d e = grind (arith, common_steps)

-- A byte is a decimal digit, or none stands at the front.
decimal_none : (b : ℕ) (ds : List ℕ) → decimal_of b ≡ None → digit_then (digit_of b) ds ≡ []
decimal_none b ds e = grind (arith, common_steps)

decimal_some : (b d : ℕ) (ds : List ℕ) → decimal_of b ≡ Some d → digit_then (digit_of b) ds ≡ d ∷ ds
decimal_some b d ds e = grind (arith, common_steps)

-- There are no more digits than bytes.
digits_fit : (text : List ℕ) → length (digits text) ≤ length text
unfolding digits
digits_fit [] = omega arith
digits_fit (b ∷ text) = by (digit_of b) (digits_fit text)
  where
    by : (d : Option ℕ) → length (digits text) ≤ length text → length (digit_then d (digits text)) ≤ suc (length text)
    by None h = omega arith
    by (Some d) h = grind (arith, common_steps)

-- Nor than bytes from a place on.
pub digits_there : (line : List ℕ) (at : ℕ) → length (digits (drop at line)) ≤ length line - at
digits_there line at = let n = length-drop at line in let f = digits_fit (drop at line) in omega arith

-- The loop over digits: the number so far.
pub record Scanned (text : List ℕ) (value i : ℕ) : Type 0 where
  pub so_far : ℕ
  pub number : number_from 0 (digits text) ≡ number_from so_far (digits (drop i text))
  pub long : length (digits text) ≡ i + length (digits (drop i text))
  pub is : fitting value ≡ fitting so_far

pub scan_begins : (text : List ℕ) → Scanned text 0 0
scan_begins text = record { so_far = 0; number = refl; long = omega arith; is = refl }

module _ (text : List ℕ) (value i : ℕ) (g : Scanned text value i) where
  -- no digit is left
  scan_over : digits (drop i text) ≡ [] → ScanIs text (record { value = fitting value; count = i })
  unfolding number_from
  scan_over e =
      let n : number_from 0 (digits text) ≡ g.so_far = g.number ∙ ap (number_from g.so_far) e ∙ none g.so_far in
      let l = ap length e in
      let long = g.long in
      record { count = omega arith; value = g.is ∙ ap fitting (sym n) }
    where
      none : (v : ℕ) → number_from v [] ≡ v
      none v = refl

  pub scan_ends : length text ≤ i → i ≤ length text → ScanIs text (record { value = fitting value; count = length text })
  unfolding digits
  scan_ends h k =
      let e : i ≡ length text = omega arith in
      subst (λ (n : ℕ). ScanIs text (record { value = fitting value; count = n })) e (scan_over (ap digits (drop_of_length-le text h)))

  module _ (l : i < length text) where
    first : digits (drop i text) ≡ digit_then (digit_of (get_or text i 0)) (digits (drop (i + 1) text))
    unfolding digits
    first = let u : suc i ≡ i + 1 = omega arith in ap digits (drop-cons text i 0 l) ∙ ap (λ (k : ℕ). digit_then (digit_of (get_or text i 0)) (digits (drop k text))) u

    module _ (o : Option ℕ) (e : o ≡ decimal_of (get_or text i 0)) where
      pub scan_stops : o ≡ None → ScanIs text (record { value = fitting value; count = i })
      scan_stops h = scan_over (first ∙ decimal_none (get_or text i 0) (digits (drop (i + 1) text)) (sym e ∙ h))

      pub scan_on : (d : ℕ) → o ≡ Some d → (v : ℕ) → v ≡ grown_by value d → Scanned text v (i + 1)
      unfolding number_from
      scan_on d h v f =
          let more : digits (drop i text) ≡ d ∷ digits (drop (i + 1) text) = first ∙ decimal_some (get_or text i 0) d (digits (drop (i + 1) text)) (sym e ∙ h) in
          let count = ap length more in
          let long = g.long in
          record {
            so_far = g.so_far * 10 + d;
            number = g.number ∙ ap (number_from g.so_far) more;
            long = omega arith;
            is = ap fitting f ∙ grown_fitting value g.so_far d g.is;
          }

-- The trace's first line, `3 9 0 1`; and a number that is one too great for 32 bits.
pub first_line : term_at (51 ∷ 32 ∷ 57 ∷ 32 ∷ 48 ∷ 32 ∷ 49 ∷ []) 0 ≡ Some (record { class = 3; value = 9; start = 0; end = 1 })
unfolding digits number_from
first_line = refl

-- The same with blanks and a tab more, two blanks at the front, a blank and a tab behind the 3.
pub spaced_line : term_at (32 ∷ 32 ∷ 51 ∷ 32 ∷ 9 ∷ 57 ∷ 32 ∷ 48 ∷ 32 ∷ 32 ∷ 49 ∷ 32 ∷ []) 0 ≡ Some (record { class = 3; value = 9; start = 0; end = 1 })
unfolding digits number_from
spaced_line = refl

pub one_too_great : number_at (52 ∷ 50 ∷ 57 ∷ 52 ∷ 57 ∷ 54 ∷ 55 ∷ 50 ∷ 57 ∷ 54 ∷ []) 0 ≡ None
unfolding digits number_from
one_too_great = refl
