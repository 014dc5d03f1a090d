-- Applying with no identities: what a walk gives of a plain reading, and that `apply` gives the same.
use Prim.Native.Nat.{ℕ, ◌+◌}
use mathlib.Core.Path.{◌≡◌, refl, sym, ap, ap₂, ◌∙◌, subst}
use mathlib.Core.List.{List, [], ◌∷◌, ◌++◌, map}
use mathlib.Core.Bool.{Bool, true, false}
use Rattle.std.proofs.lemmas.List.{map-append}
use Rattle.meaning.specs.Basics.{listed}
use Rattle.std.specs.Prelude.{if◌then◌else◌, Option, None, Some}
use Rattle.meaning.specs.TableFile.{Table, rule_of}
use Rattle.meaning.specs.Readings.{Reading, plain}
use Rattle.meaning.specs.Walk.{Walk, shift, reduce, ends}
use Rattle.meaning.specs.Applying.{act_on, reduced, shifted, refused_action, Applied, nothing_applied, one_error, if_acts, apply}
use Rattle.meaning.specs.declared.Rule.{Rule}
use Rattle.meaning.specs.declared.Term.{Term}
use Rattle.meaning.specs.declared.ErrorRecord.{ErrorRecord}
use Rattle.meaning.proofs.Renamed.{act_ren, reduced_ren, refused_ren}
use Rattle.meaning.proofs.Booleans.{IsTrue, either_false}

-- the readings that a walk gives; a dead end gives none by itself
abbrev pub got : Table → Term → Walk → Reading → List Reading
got t x (shift s) r = listed s (λ to. shifted x to r 0 ∷ [])
got t x (reduce k to below beside) r =
    listed (act_on (rule_of t k) r.stack) (λ v. got t x below (reduced (rule_of t k) to v r 0)) ++ got t x beside r

abbrev pub or_else : {A B : Type 0} → Option A → (A → List B) → List B → List B
or_else None f l = l
or_else (Some a) f l = f a

-- the errors
abbrev pub errs : Table → Term → Walk → Reading → List ErrorRecord
errs t x (shift s) r = []
errs t x (reduce k to below beside) r =
    (if ends below then or_else (act_on (rule_of t k) r.stack) (λ v. errs t x below (reduced (rule_of t k) to v r 0)) (refused_action t k r ∷ []) else []) ++ errs t x beside r

-- a walk in which no chain ends gives nothing
pub got_none : (t : Table) (x : Term) (w : Walk) (r : Reading) → ends w ≡ false → got t x w r ≡ []
unfolding ends
got_none t x (shift None) r e = refl
got_none t x (shift (Some to)) r e = absurd (subst IsTrue e tt)
got_none t x (reduce k to below beside) r e =
    ap₂ {C = List Reading} (λ a b. a ++ b)
    (none (act_on (rule_of t k) r.stack) (λ v. got_none t x below (reduced (rule_of t k) to v r 0) (either_false (ends below) (ends beside) e).0))
    (got_none t x beside r (either_false (ends below) (ends beside) e).1)
  where
    none : (m : Option ℕ) → ((v : ℕ) → got t x below (reduced (rule_of t k) to v r 0) ≡ []) → listed m (λ v. got t x below (reduced (rule_of t k) to v r 0)) ≡ []
    none None h = refl
    none (Some v) h = h v

pub errs_none : (t : Table) (x : Term) (w : Walk) (r : Reading) → ends w ≡ false → errs t x w r ≡ []
unfolding ends
errs_none t x (shift s) r e = refl
errs_none t x (reduce k to below beside) r e =
    ap₂ {C = List ErrorRecord} (λ a b. a ++ b)
    (ap (λ (b : Bool). if b then or_else (act_on (rule_of t k) r.stack) (λ v. errs t x below (reduced (rule_of t k) to v r 0)) (refused_action t k r ∷ []) else []) (either_false (ends below) (ends beside) e).0)
    (errs_none t x beside r (either_false (ends below) (ends beside) e).1)

pub apply_plain : (t : Table) (x : Term) (w : Walk) (r : Reading) (n : ℕ)
    → (map plain (apply t x w r n).results ≡ got t x w (plain r)) × ((apply t x w r n).errors ≡ errs t x w (plain r))
unfolding apply shifted
apply_plain t x (shift None) r n = (refl, refl)
apply_plain t x (shift (Some to)) r n = (refl, refl)
apply_plain t x (reduce k to below beside) r n = (
  map-append plain (part (ends below) (act_on q r.stack)).results (apply t x beside r (part (ends below) (act_on q r.stack)).next).results
      ∙ ap₂ {C = List Reading} (λ a b. a ++ b)
      (results (ends below) refl (act_on q r.stack) (λ v. (apply_plain t x below (red v) (n + 1)).0) ∙ ap (λ (m : Option ℕ). listed m (λ v. got t x below (reduced q to v (plain r) 0))) (sym (act_ren (λ b. 0) q r.stack)))
      (apply_plain t x beside r (part (ends below) (act_on q r.stack)).next).0,
  ap₂ {C = List ErrorRecord} (λ a b. a ++ b)
      (errors (ends below) (act_on q r.stack) (λ v. (apply_plain t x below (red v) (n + 1)).1)
      ∙ ap (λ (m : Option ℕ). if ends below then or_else m (λ v. errs t x below (reduced q to v (plain r) 0)) (refused_action t k (plain r) ∷ []) else []) (sym (act_ren (λ b. 0) q r.stack)))
      (apply_plain t x beside r (part (ends below) (act_on q r.stack)).next).1,
)
  where
    q : Rule
    q = rule_of t k

    red : ℕ → Reading
    red v = reduced q to v r n

    part : Bool → Option ℕ → Applied
    part b m = (if b then if_acts m (λ v. apply t x below (red v) (n + 1)) (one_error (refused_action t k r) n) else nothing_applied n)

    results : (b : Bool) → ends below ≡ b → (m : Option ℕ) → ((v : ℕ) → map plain (apply t x below (red v) (n + 1)).results ≡ got t x below (plain (red v)))
        → map plain (part b m).results ≡ listed m (λ v. got t x below (reduced q to v (plain r) 0))
    results true e None h = refl
    results true e (Some v) h = h v ∙ ap (got t x below) (sym (reduced_ren (λ b. 0) q to v r n))
    results false e None h = refl
    results false e (Some v) h = sym (got_none t x below (reduced q to v (plain r) 0) e)

    errors : (b : Bool) (m : Option ℕ) → ((v : ℕ) → (apply t x below (red v) (n + 1)).errors ≡ errs t x below (plain (red v)))
        → (part b m).errors ≡ (if b then or_else m (λ v. errs t x below (reduced q to v (plain r) 0)) (refused_action t k (plain r) ∷ []) else [])
    errors true None h = ap {B = List ErrorRecord} (λ e. e ∷ []) (sym (refused_ren (λ b. 0) t k r))
    errors true (Some v) h = h v ∙ ap (errs t x below) (sym (reduced_ren (λ b. 0) q to v r n))
    errors false None h = refl
    errors false (Some v) h = refl
