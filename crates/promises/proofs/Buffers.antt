-- What is known of the lent buffers: a state that was found, lengths that are right, lists of which the front is written. Assumes nothing.
use Prim.Native.Nat.{ℕ, ◌≤◌}
use native.Mathlib.Omega.{arith}
use mathlib.Core.Path.{◌≡◌, refl, sym, ap, ◌∙◌, subst}
use mathlib.Core.Bool.{Bool, true, false}
use mathlib.Core.List.{List, [], ◌∷◌}
use lib.Dec.{eqb}
use lib.ListN.{length, drop, length-append, length-drop}
use lib.Seq.{drop-append_seam}
use borrow.Author.Tests.{eqb-true, eq-eqb}
use Rattle.std.specs.Prelude.{if◌then◌else◌, None, Some}
use Rattle.meaning.specs.Calls.{State, written}
use Rattle.meaning.specs.Limits.{max_height, max_errors}
use Rattle.meaning.specs.Readings.{Reading}
use Rattle.meaning.specs.TableFile.{table_of}
use Rattle.meaning.proofs.Booleans.{both_left, both_right, both_true}
use Rattle.state.specs.Check.{valid_state, Known}
use Rattle.state.specs.Layout.{state_len, work_len}
use Rattle.state.specs.Readings.{used_of, readings_of}
use Rattle.state.proofs.Valid.{known}
use Rattle.promises.specs.Buffers.{lengths_right, feed_lengths, lists_right, state_for}
use Rattle.promises.specs.Claims.{Fits}
use Rattle.promises.proofs.Checks.{no_nothing}

-- A state is found exactly where the buffer fits the table, and it is the buffer's readings.

abbrev readings_or : List Reading → State → List Reading
readings_or rs None = rs
readings_or rs (Some rs') = rs'

pub record Holds (table state : List ℕ) (rs : List Reading) : Type 0 where
  pub fits : Fits table state
  pub are : rs ≡ readings_of state
  pub facts : Known (table_of table).counts.states (used_of state) rs

pub found_holds : (table state : List ℕ) (rs : List Reading) → state_for table state ≡ Some rs → Holds table state rs
found_holds table state rs e = at (valid_state (table_of table).counts.states state) refl e
  where
    at : (b : Bool) → valid_state (table_of table).counts.states state ≡ b → (if b then Some (readings_of state) else None) ≡ Some rs → Holds table state rs
    at true q f =
        let r : readings_of state ≡ rs = ap (readings_or rs) f in
        record { fits = q; are = sym r; facts = subst (Known (table_of table).counts.states (used_of state)) r (known (table_of table).counts.states state q) }
    at false q f = no_nothing rs (sym f)

pub fits_found : (table state : List ℕ) → Fits table state → state_for table state ≡ Some (readings_of state)
fits_found table state f = rw f

pub fits_some : (table state : List ℕ) → Fits table state → state_for table state ≡ None → ⊥
fits_some table state f e = no_nothing (readings_of state) (sym (fits_found table state f) ∙ e)

pub some_fits : (table state : List ℕ) → (state_for table state ≡ None → ⊥) → Fits table state
some_fits table state h = at (valid_state (table_of table).counts.states state) refl h
  where
    at : (b : Bool) → valid_state (table_of table).counts.states state ≡ b → ((if b then Some (readings_of state) else None) ≡ None → ⊥) → Fits table state
    at true q g = q
    at false q g = absurd (g refl)

-- Lengths.

pub feed_long : (state work : List ℕ) (places : ℕ) → feed_lengths state work places ≡ true → (length state ≡ state_len) × (length work ≡ work_len) × (places ≡ max_errors)
unfolding feed_lengths lengths_right
feed_long state work places e =
    let l = both_left (lengths_right state work) (eqb places 32) e in (
      eqb-true (length state) 18532 (both_left (eqb (length state) 18532) (eqb (length work) 46464) l),
      eqb-true (length work) 46464 (both_right (eqb (length state) 18532) (eqb (length work) 46464) l),
      eqb-true places 32 (both_right (lengths_right state work) (eqb places 32) e),
    )

pub long_lengths : (state work : List ℕ) → length state ≡ state_len → length work ≡ work_len → lengths_right state work ≡ true
unfolding lengths_right
long_lengths state work a b = both_true (eqb (length state) 18532) (eqb (length work) 46464) (eq-eqb (length state) 18532 a) (eq-eqb (length work) 46464 b)

pub long_feed : (state work : List ℕ) (places : ℕ) → length state ≡ state_len → length work ≡ work_len → places ≡ max_errors → feed_lengths state work places ≡ true
unfolding feed_lengths
long_feed state work places a b c = both_true (lengths_right state work) (eqb places 32) (long_lengths state work a b) (eq-eqb places 32 c)

pub list_long : (state : List ℕ) (places : ℕ) → lists_right state places ≡ true → places ≡ max_height
unfolding lists_right
list_long state places e = eqb-true places 64 (both_right (eqb (length state) 18532) (eqb places 64) e)

-- A list of which the front is written keeps its length and what stands past the front.
module _ {A : Type 0} (new old : List A) where
  pub written_long : length new ≤ length old → length (written new old) ≡ length old
  written_long l =
      let a = length-append new (drop (length new) old) in
      let b = length-drop (length new) old in
      omega arith

  pub written_past : drop (length new) (written new old) ≡ drop (length new) old
  written_past = drop-append_seam new (drop (length new) old)

pub written_none : {A : Type 0} (new old : List A) → length new ≡ 0 → written new old ≡ old
written_none [] old e = refl
written_none (a ∷ new) old e = absurd (omega arith)
