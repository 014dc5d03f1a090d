-- The third demand, of every feed that meets its promise. Assumes nothing.
use Prim.Native.Nat.{ℕ}
use native.Mathlib.Omega.{arith}
use mathlib.Core.Path.{◌≡◌, refl, sym, ap, ◌∙◌, subst}
use mathlib.Core.Bool.{Bool, true, false}
use mathlib.Core.List.{List, map}
use mathlib.Core.Logic.{◌⊎◌, inl, inr}
use lib.ListN.{length, take, drop}
use lib.Seq.{take-append_seam}
use Rattle.std.specs.Prelude.{None, Some}
use Rattle.meaning.specs.Answers.{FeedAnswer, number, feed_numbers}
use Rattle.meaning.specs.Basics.{is_nil}
use Rattle.meaning.specs.Calls.{State, wrong_term, FeedCall}
use Rattle.meaning.specs.Demand3.{Same, Undisturbed, Alike, ByChains}
use Rattle.meaning.specs.Feeding.{feed}
use Rattle.meaning.specs.Outcome.{Fed}
use Rattle.meaning.specs.Readings.{Reading, plain}
use Rattle.meaning.specs.TableFile.{table_of}
use Rattle.meaning.specs.TableRight.{table_ok}
use Rattle.meaning.specs.declared.ErrorRecord.{ErrorRecord}
use Rattle.meaning.specs.declared.FeedNumbers.{FeedNumbers}
use Rattle.meaning.specs.declared.Term.{Term}
use Rattle.meaning.proofs.Bags.{perm_between, nil_perm}
use Rattle.meaning.proofs.Demand3.{order_one, by_chains}
use Rattle.meaning.proofs.Settled.{number_range}
use Rattle.meaning.proofs.Tools.{nil_map}
use Rattle.state.specs.Readings.{used_of, readings_of}
use Rattle.promises.specs.Buffers.{feed_lengths, state_for}
use Rattle.promises.specs.Calls.{Renamed, SameState, feed_on, FeedPromise}
use Rattle.promises.specs.Claims.{Refusing, PassedCheck, fed_by, Recovers, Demand3}
use Rattle.promises.proofs.Buffers.{found_holds, fits_found, some_fits}
use Rattle.promises.proofs.Checks.{Tells, FeedStopped, FeedWent, feed_case, feed_tells, feed_goes}
use Rattle.promises.proofs.Identities.{renamed_plain}

-- What a feed left is what the definition says, but for identities.
pub record Came (f g : Fed) : Type 0 where
  pub answer : g.answer ≡ f.answer
  pub walked : g.walked ≡ f.walked
  pub errors : g.errors ≡ f.errors
  pub readings : Renamed f.readings g.readings

-- the readings of a buffer that holds the same
same_readings : (table state' : List ℕ) (rs : List Reading) (s : State) → s ≡ Some rs → SameState s (state_for table state') → Renamed rs (readings_of state')
same_readings table state' rs s e h = at (state_for table state') refl (subst (λ (u : State). SameState u (state_for table state')) e h)
  where
    at : (u : State) → state_for table state' ≡ u → SameState (Some rs) u → Renamed rs (readings_of state')
    at None q k = absurd k
    at (Some rs') q k = subst (Renamed rs) (found_holds table state' rs' q).are k

module _ (table state work : List ℕ) (x : Term) (errors : List ErrorRecord) (r : FeedAnswer) (state' work' : List ℕ) (errors' : List ErrorRecord)
    (a : FeedPromise table state work x errors r state' work' errors') where
  abbrev Went : Type 0
  Went = FeedWent (feed_lengths state work (length errors)) table (state_for table state) x errors (used_of state)

  pub came : Went → Came (feed (table_of table) x (readings_of state) (used_of state)) (fed_by r state' errors')
  came w = subst (λ (rs : List Reading). Came (feed (table_of table) x rs (used_of state)) (fed_by r state' errors')) (found_holds table state w.found w.state_is).are told
    where
      f : Fed
      f = feed (table_of table) x w.found (used_of state)

      says : feed_numbers r ≡ record { answer = f.answer; errors = length f.errors; walked = f.walked }
      says = a.leaves.answers ∙ ap (λ (c : FeedCall). c.says) w.is

      told : Came f (fed_by r state' errors')
      told = record {
        answer = ap (λ (m : FeedNumbers). m.answer) says;
        walked = ap (λ (m : FeedNumbers). m.walked) says;
        errors = ap (λ (m : FeedNumbers). take m.errors errors') says ∙ ap (take (length f.errors)) (a.leaves.errors_are ∙ ap (λ (c : FeedCall). c.errors) w.is) ∙ take-append_seam f.errors (drop (length f.errors) errors);
        readings = same_readings table state' f.readings (feed_on table state work x errors).state (ap (λ (c : FeedCall). c.state) w.is) a.leaves.readings;
      }

  -- not refused, so it went
  pub went : (Refusing (feed_numbers r).answer → ⊥) → Went
  went h = at (feed_case (feed_lengths state work (length errors)) table (state_for table state) x errors (used_of state))
    where
      at : FeedStopped (feed_lengths state work (length errors)) table (state_for table state) x errors (used_of state) ⊎ Went → Went
      at (inl s) =
          let e : (feed_numbers r).answer ≡ number s.by = ap (λ (m : FeedNumbers). m.answer) (a.leaves.answers ∙ ap (λ (c : FeedCall). c.says) s.is) in
          absurd (h (subst Refusing (sym e) (number_range s.by)))
      at (inr w) = w

  -- past the checks, with a right table and term and some reading: it went
  pub went_too : PassedCheck (feed_numbers r).answer → table_ok table ≡ true → wrong_term (table_of table).counts.classes x ≡ false → is_nil (readings_of state) ≡ false → Went
  went_too p b e d =
      feed_goes (feed_lengths state work (length errors)) table (state_for table state) x errors (used_of state) (lengths (feed_lengths state work (length errors)) refl) b (readings_of state)
      (fits_found table state (some_fits table state (told.passed p))) d e
    where
      told : Tells (feed_lengths state work (length errors)) (state_for table state) (feed_numbers r).answer
      told =
          subst (λ (m : FeedNumbers). Tells (feed_lengths state work (length errors)) (state_for table state) m.answer) (sym a.leaves.answers)
          (feed_tells (feed_lengths state work (length errors)) table (state_for table state) x errors (used_of state))

      lengths : (c : Bool) → feed_lengths state work (length errors) ≡ c → feed_lengths state work (length errors) ≡ true
      lengths true q = q
      lengths false q = let z = told.wrong_lengths q in absurd (p (omega arith, omega arith))

-- Alike, if they come to what is alike.
alike : (f g f' g' : Fed) → Came f f' → Came g g' → Alike f g → Alike f' g'
alike f g f' g' c d h =
    record {
      answer = c.answer ∙ h.answer ∙ sym d.answer;
      walked = c.walked ∙ h.walked ∙ sym d.walked;
      readings = perm_between (renamed_plain f.readings f'.readings c.readings) (renamed_plain g.readings g'.readings d.readings) h.readings;
      errors = perm_between c.errors d.errors h.errors;
    }

order : (table : List ℕ) (x : Term) (state work : List ℕ) (errors : List ErrorRecord) (r : FeedAnswer) (state' work' : List ℕ) (errors' : List ErrorRecord)
    (twin spare : List ℕ) (others : List ErrorRecord) (q : FeedAnswer) (twin' spare' : List ℕ) (others' : List ErrorRecord) →
    FeedPromise table state work x errors r state' work' errors' → FeedPromise table twin spare x others q twin' spare' others' →
    Same (map plain (readings_of state)) (map plain (readings_of twin)) →
    (Refusing (feed_numbers r).answer → ⊥) → Recovers table state x ≡ false → PassedCheck (feed_numbers q).answer →
    (Recovers table twin x ≡ false) × Alike (fed_by r state' errors') (fed_by q twin' others')
order table x state work errors r state' work' errors' twin spare others q twin' spare' others' a b same free calm passed = (both.0.no_recovery, alike f g (fed_by r state' errors') (fed_by q twin' others') c d both.1)
  where
    f : Fed
    f = feed (table_of table) x (readings_of state) (used_of state)

    g : Fed
    g = feed (table_of table) x (readings_of twin) (used_of twin)

    w : FeedWent (feed_lengths state work (length errors)) table (state_for table state) x errors (used_of state)
    w = went table state work x errors r state' work' errors' a free

    c : Came f (fed_by r state' errors')
    c = came table state work x errors r state' work' errors' a w

    some : is_nil (readings_of twin) ≡ false
    some =
        sym (nil_map plain (readings_of twin)) ∙ sym (nil_perm same) ∙ nil_map plain (readings_of state)
        ∙ subst (λ (rs : List Reading). is_nil rs ≡ false) (found_holds table state w.found w.state_is).are w.some

    d : Came g (fed_by q twin' others')
    d = came table twin spare x others q twin' spare' others' b (went_too table twin spare x others q twin' spare' others' b passed w.right_table w.right_term some)

    both : Undisturbed (table_of table) x (readings_of twin) (used_of twin) × Alike f g
    both =
        order_one (table_of table) x (readings_of state) (readings_of twin) (used_of state) (used_of twin) same
        (record { no_recovery = calm; not_refused = λ h. free (subst Refusing (sym c.answer) h) })

chains : (table : List ℕ) (x : Term) (state work : List ℕ) (errors : List ErrorRecord) (r : FeedAnswer) (state' work' : List ℕ) (errors' : List ErrorRecord) →
    FeedPromise table state work x errors r state' work' errors' → (feed_numbers r).answer ≡ 0 → Recovers table state x ≡ false →
    ByChains (table_of table) x (readings_of state) (fed_by r state' errors')
chains table x state work errors r state' work' errors' a zero_is calm =
    let f = feed (table_of table) x (readings_of state) (used_of state) in
    let c = came table state work x errors r state' work' errors' a (went table state work x errors r state' work' errors' a (λ h. let l = h.0 in omega arith)) in
    let h = by_chains (table_of table) x (readings_of state) (used_of state) calm (sym c.answer ∙ zero_is) in
    record { readings = renamed_plain f.readings (readings_of state') c.readings ∙ h.readings; chains = h.chains }

pub demand3 : Demand3
demand3 = record { order = order; chains = chains }
