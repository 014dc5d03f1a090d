-- Which check a call is stopped by, and what is known of a call that passes the checks. Assumes nothing.
use Prim.Native.Nat.{ℕ, ◌≤◌}
use native.Mathlib.Omega.{arith}
use mathlib.Core.Path.{◌≡◌, refl, sym, ap, ap₂, ◌∙◌, subst}
use mathlib.Core.Bool.{Bool, true, false, not}
use mathlib.Core.List.{List, [], ◌∷◌}
use mathlib.Core.Logic.{◌⊎◌, inl, inr}
use Rattle.meaning.specs.Answers.{done, number}
use Rattle.meaning.specs.Basics.{is_nil}
use Rattle.std.specs.Prelude.{if◌then◌else◌, None, Some}
use Rattle.meaning.specs.Calls.{State, check_state, checked, StartCall, start_call, wrong_term, FeedCall, feed_refused, feed_ended, feed_right, feed_call}
use Rattle.meaning.specs.Feeding.{feed}
use Rattle.meaning.specs.Readings.{Reading, start_reading}
use Rattle.meaning.specs.TableFile.{Table, table_of}
use Rattle.meaning.specs.TableRight.{table_ok}
use Rattle.meaning.specs.declared.ErrorRecord.{ErrorRecord}
use Rattle.meaning.specs.declared.Refusal.{Refusal}
use Rattle.meaning.specs.declared.Refusal.TheVariants.{WrongLength, WrongTable, WrongState, Consumed, WrongArgument}
use Rattle.meaning.specs.declared.Term.{Term}
use Rattle.meaning.proofs.Settled.{number_range}
use Rattle.meaning.proofs.Booleans.{no_false}
use Rattle.promises.specs.Claims.{PassedCheck}
use Rattle.promises.proofs.Refusals.{feed_ranged}

abbrev Found : State → Type 0
Found None = ⊥
Found (Some rs) = Unit {0}

pub no_nothing : {A : Type 0} (rs : List Reading) → Some rs ≡ None → A
no_nothing rs e = absurd (subst Found e tt)

-- Checks 1, 2 and 3: a call is stopped by one of them, or passes them all.
module _ {A : Type 0} (lengths : Bool) (table : List ℕ) (state : State) (refuse : Refusal → A) (go : Table → List Reading → A) where
  pub record Stopped : Type 0 where
    pub by : Refusal
    pub is : checked lengths table state refuse go ≡ refuse by
    pub few : number by ≤ 3
    pub wrong_lengths : lengths ≡ false → number by ≡ 1
    pub right_lengths : lengths ≡ true → 2 ≤ number by
    pub right_state : (state ≡ None → ⊥) → number by ≤ 2

  pub record Passed : Type 0 where
    pub found : List Reading
    pub right_lengths : lengths ≡ true
    pub right_table : table_ok table ≡ true
    pub state_is : state ≡ Some found
    pub is : checked lengths table state refuse go ≡ go (table_of table) found

pub checks : {A : Type 0} (lengths : Bool) (table : List ℕ) (state : State) (refuse : Refusal → A) (go : Table → List Reading → A) →
    Stopped lengths table state refuse go ⊎ Passed lengths table state refuse go
checks false table state refuse go =
    inl (record { by = WrongLength; is = refl; few = omega arith; wrong_lengths = λ e. refl; right_lengths = λ e. no_false e; right_state = λ h. omega arith })
checks {A} true table state refuse go = at (table_ok table) refl state
  where
    -- what is left of the checks, by whether the table is right
    left : State → Bool → A
    left s b = (if not b then refuse WrongTable else check_state s refuse (go (table_of table)))

    at : (b : Bool) → table_ok table ≡ b → (s : State) → Stopped true table s refuse go ⊎ Passed true table s refuse go
    at false e s =
        inl (record { by = WrongTable; is = ap (left s) e; few = omega arith; wrong_lengths = λ q. no_false (sym q); right_lengths = λ q. omega arith; right_state = λ h. omega arith })
    at true e None =
        inl (record { by = WrongState; is = ap (left None) e; few = omega arith; wrong_lengths = λ q. no_false (sym q); right_lengths = λ q. omega arith; right_state = λ h. absurd (h refl) })
    at true e (Some rs) = inr (record { found = rs; right_lengths = refl; right_table = e; state_is = refl; is = ap (left (Some rs)) e })

-- What a call's number tells of the checks, where a call that passes them answers 0, 4 or above.

abbrev pub Later : ℕ → Type 0
Later n = (n ≡ 0) ⊎ (4 ≤ n)

pub record Tells (lengths : Bool) (state : State) (n : ℕ) : Type 0 where
  pub wrong_lengths : lengths ≡ false → n ≡ 1
  pub right_lengths : lengths ≡ true → n ≡ 1 → ⊥
  pub right_state : (state ≡ None → ⊥) → n ≡ 3 → ⊥
  pub passed : PassedCheck n → state ≡ None → ⊥

pub tells : {A : Type 0} (lengths : Bool) (table : List ℕ) (state : State) (refuse : Refusal → A) (go : Table → List Reading → A) (num : A → ℕ) → ((k : Refusal) → num (refuse k) ≡ number k) →
    ((t : Table) (rs : List Reading) → Later (num (go t rs))) → Tells lengths state (num (checked lengths table state refuse go))
tells {A} lengths table state refuse go num refusing going = at (checks lengths table state refuse go)
  where
    later : (n : ℕ) → Later n → (n ≡ 1 → ⊥) × (n ≡ 3 → ⊥)
    later n (inl e) = (λ q. omega arith, λ q. omega arith)
    later n (inr l) = (λ q. omega arith, λ q. omega arith)

    at : Stopped lengths table state refuse go ⊎ Passed lengths table state refuse go → Tells lengths state (num (checked lengths table state refuse go))
    at (inl s) =
        let e : num (checked lengths table state refuse go) ≡ number s.by = ap num s.is ∙ refusing s.by in
        let few = s.few in
        let low = (number_range s.by).0 in
        record {
          wrong_lengths = λ q. e ∙ s.wrong_lengths q;
          right_lengths = λ q z. let l = s.right_lengths q in omega arith;
          right_state = λ h z. let l = s.right_state h in omega arith;
          passed = λ h q. h (omega arith, omega arith);
        }
    at (inr p) =
        let e : num (checked lengths table state refuse go) ≡ num (go (table_of table) p.found) = ap num p.is in
        let l = later (num (go (table_of table) p.found)) (going (table_of table) p.found) in
        record {
          wrong_lengths = λ q. no_false (sym q ∙ p.right_lengths);
          right_lengths = λ q z. l.0 (sym e ∙ z);
          right_state = λ h z. l.1 (sym e ∙ z);
          passed = λ h q. no_nothing p.found (sym p.state_is ∙ q);
        }

-- A start: refused by 1 or 2, or done.
module _ (lengths : Bool) (table : List ℕ) (state : State) (next : ℕ) where
  pub record StartStopped : Type 0 where
    pub by : Refusal
    pub is : start_call lengths table state next ≡ record { answer = number by; state = state }
    pub few : number by ≤ 2
    pub wrong_lengths : lengths ≡ false → number by ≡ 1
    pub right_lengths : lengths ≡ true → number by ≡ 2

  pub record StartWent : Type 0 where
    pub lengths_hold : lengths ≡ true
    pub right_table : table_ok table ≡ true
    pub is : start_call lengths table state next ≡ record { answer = done; state = Some (start_reading (table_of table) next ∷ []) }

pub start_case : (lengths : Bool) (table : List ℕ) (state : State) (next : ℕ) → StartStopped lengths table state next ⊎ StartWent lengths table state next
unfolding start_call
start_case false table state next = inl (record { by = WrongLength; is = refl; few = omega arith; wrong_lengths = λ e. refl; right_lengths = λ e. no_false e })
start_case true table state next = at (table_ok table) refl
  where
    left : Bool → StartCall
    left b = (if not b then record { answer = number WrongTable; state = state } else record { answer = done; state = Some (start_reading (table_of table) next ∷ []) })

    at : (b : Bool) → table_ok table ≡ b → StartStopped true table state next ⊎ StartWent true table state next
    at false e = inl (record { by = WrongTable; is = ap left e; few = omega arith; wrong_lengths = λ q. no_false (sym q); right_lengths = λ q. refl })
    at true e = inr (record { lengths_hold = refl; right_table = e; is = ap left e })

-- A feed: refused by 1 to 5, or fed.
module _ (lengths : Bool) (table : List ℕ) (state : State) (x : Term) (errors : List ErrorRecord) (next : ℕ) where
  pub record FeedStopped : Type 0 where
    pub by : Refusal
    pub is : feed_call lengths table state x errors next ≡ feed_refused state errors by
    pub few : number by ≤ 5

  pub record FeedWent : Type 0 where
    pub found : List Reading
    pub right_lengths : lengths ≡ true
    pub right_table : table_ok table ≡ true
    pub state_is : state ≡ Some found
    pub some : is_nil found ≡ false
    pub right_term : wrong_term (table_of table).counts.classes x ≡ false
    pub is : feed_call lengths table state x errors next ≡ feed_ended errors (feed (table_of table) x found next)

  -- what a feed does once the checks are passed, by two tests
  abbrev pub goes_by : Bool → Bool → Table → List Reading → FeedCall
  goes_by b d t rs = (if b then feed_refused (Some rs) errors Consumed else if d then feed_refused (Some rs) errors WrongArgument else feed_ended errors (feed t x rs next))

  abbrev pub goes : Table → List Reading → FeedCall
  goes t rs = goes_by (is_nil rs) (wrong_term t.counts.classes x) t rs

  goes_later : (t : Table) (rs : List Reading) → Later (goes t rs).says.answer
  goes_later t rs = at (is_nil rs) (wrong_term t.counts.classes x) (feed_ranged t x rs next).0
    where
      later : (n : ℕ) → (n ≡ 0) ⊎ (6 ≤ n) → Later n
      later n (inl e) = inl e
      later n (inr l) = inr (omega arith)

      at : (b d : Bool) → ((feed t x rs next).answer ≡ 0) ⊎ (6 ≤ (feed t x rs next).answer) → Later (goes_by b d t rs).says.answer
      at true d h = inr (omega arith)
      at false true h = inr (omega arith)
      at false false h = later (feed t x rs next).answer h

  pub feed_tells : Tells lengths state (feed_call lengths table state x errors next).says.answer
  unfolding feed_call feed_right
  feed_tells = tells lengths table state (feed_refused state errors) goes (λ (c : FeedCall). c.says.answer) (λ k. refl) goes_later

  pub feed_case : FeedStopped ⊎ FeedWent
  unfolding feed_call feed_right
  feed_case = at (checks lengths table state (feed_refused state errors) goes)
    where
      kept : (p : Passed lengths table state (feed_refused state errors) goes) (k : Refusal) → feed_refused (Some p.found) errors k ≡ feed_refused state errors k
      kept p k = ap (λ (s : State). feed_refused s errors k) (sym p.state_is)

      past : (p : Passed lengths table state (feed_refused state errors) goes) (b : Bool) → is_nil p.found ≡ b → (d : Bool) → wrong_term (table_of table).counts.classes x ≡ d → FeedStopped ⊎ FeedWent
      past p true e d f =
          inl (record { by = Consumed; is = p.is ∙ ap (λ (c : Bool). goes_by c (wrong_term (table_of table).counts.classes x) (table_of table) p.found) e ∙ kept p Consumed; few = omega arith })
      past p false e true f = inl (record { by = WrongArgument; is = p.is ∙ ap₂ {C = FeedCall} (λ c h. goes_by c h (table_of table) p.found) e f ∙ kept p WrongArgument; few = omega arith })
      past p false e false f =
          inr (record {
            found = p.found;
            right_lengths = p.right_lengths;
            right_table = p.right_table;
            state_is = p.state_is;
            some = e;
            right_term = f;
            is = p.is ∙ ap₂ {C = FeedCall} (λ c h. goes_by c h (table_of table) p.found) e f;
          })

      at : Stopped lengths table state (feed_refused state errors) goes ⊎ Passed lengths table state (feed_refused state errors) goes → FeedStopped ⊎ FeedWent
      at (inl s) = let f = s.few in inl (record { by = s.by; is = s.is; few = omega arith })
      at (inr p) = past p (is_nil p.found) refl (wrong_term (table_of table).counts.classes x) refl

  -- where all is right, it is fed
  pub feed_goes : lengths ≡ true → table_ok table ≡ true → (rs : List Reading) → state ≡ Some rs → is_nil rs ≡ false → wrong_term (table_of table).counts.classes x ≡ false → FeedWent
  unfolding feed_call feed_right
  feed_goes a b rs c d e = record { found = rs; right_lengths = a; right_table = b; state_is = c; some = d; right_term = e; is = fed }
    where
      fed : feed_call lengths table state x errors next ≡ feed_ended errors (feed (table_of table) x rs next)
      fed =
          ap₂ {C = FeedCall} (λ (u v : Bool). if not u then feed_refused state errors WrongLength else if not v then feed_refused state errors WrongTable else check_state state (feed_refused state errors) (goes (table_of table))) a b
          ∙ ap (λ (s : State). check_state s (feed_refused state errors) (goes (table_of table))) c
          ∙ ap₂ {C = FeedCall} (λ u v. goes_by u v (table_of table) rs) d e
