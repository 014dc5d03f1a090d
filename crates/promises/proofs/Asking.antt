-- The questions and reading out, past the checks: which numbers they answer by. Assumes nothing.
use Prim.Native.Nat.{ℕ, zero, suc, ◌<◌, ◌≤◌}
use native.Mathlib.Omega.{arith}
use mathlib.Core.Path.{◌≡◌, refl, sym, ap, ap₂, ◌∙◌}
use mathlib.Core.Bool.{Bool, true, false}
use mathlib.Core.List.{List, [], ◌∷◌}
use mathlib.Core.Logic.{◌⊎◌, inl, inr}
use lib.Dec.{leb}
use lib.ListN.{length, get_or}
use Rattle.meaning.specs.Answers.{QuestionAnswer, number, question_numbers}
use Rattle.meaning.specs.Basics.{is_nil, AllOf}
use Rattle.std.specs.Prelude.{Ok, Err, if◌then◌else◌, Some}
use Rattle.meaning.specs.Calls.{State, checked, wrong_class, takes_right, takes_call, can_end_call, can_recover_call, StackCall, no_reading, stack_refused, stack_read, stack_right, stack_call}
use Rattle.meaning.specs.Questions.{takes, can_end, can_recover}
use Rattle.meaning.specs.Readings.{Reading}
use Rattle.meaning.specs.TableFile.{Table, table_of}
use Rattle.meaning.specs.declared.Entry.{Entry as SeenEntry}
use Rattle.meaning.specs.declared.Refusal.{Refusal}
use Rattle.meaning.specs.declared.Refusal.TheVariants.{Consumed, WrongArgument}
use Rattle.meaning.proofs.Questions.{OnlyFrom6To10, takes_only, can_end_only, can_recover_only}
use Rattle.promises.proofs.Checks.{Stopped, Passed, checks, Later, Tells, tells}

-- A question's number: 0 to 10 and never 4; past the checks 0, or 5 to 10.
abbrev Number : ℕ → Type 0
Number n = ((n ≡ 0) ⊎ (5 ≤ n)) × (n ≤ 10)

pub record Asked (lengths : Bool) (state : State) (n : ℕ) : Type 0 where
  pub few : n ≤ 10
  pub not_4 : n ≡ 4 → ⊥
  pub tells_of : Tells lengths state n

number_later : (n : ℕ) → Number n → Later n
number_later n h = at h.0
  where
    at : (n ≡ 0) ⊎ (5 ≤ n) → Later n
    at (inl e) = inl e
    at (inr l) = inr (omega arith)

number_not_4 : (n : ℕ) → Number n → n ≡ 4 → ⊥
number_not_4 n h e = at h.0
  where
    at : (n ≡ 0) ⊎ (5 ≤ n) → ⊥
    at (inl z) = omega arith
    at (inr l) = omega arith

asked : (lengths : Bool) (table : List ℕ) (state : State) (go : Table → List Reading → QuestionAnswer) → ((t : Table) (rs : List Reading) → Number (question_numbers (go t rs)).answer) →
    Asked lengths state (question_numbers (checked lengths table state Err go)).answer
asked lengths table state go h = at (checks lengths table state Err go)
  where
    n : ℕ
    n = (question_numbers (checked lengths table state Err go)).answer

    told : Tells lengths state n
    told = tells lengths table state Err go (λ (q : QuestionAnswer). (question_numbers q).answer) (λ k. refl) (λ t rs. number_later (question_numbers (go t rs)).answer (h t rs))

    at : Stopped lengths table state Err go ⊎ Passed lengths table state Err go → Asked lengths state n
    at (inl s) =
        let e : n ≡ number s.by = ap (λ (q : QuestionAnswer). (question_numbers q).answer) s.is in
        let f = s.few in
        record { few = omega arith; not_4 = λ z. omega arith; tells_of = told }
    at (inr p) =
        let e : n ≡ (question_numbers (go (table_of table) p.found)).answer = ap (λ (q : QuestionAnswer). (question_numbers q).answer) p.is in
        let g = h (table_of table) p.found in
        let f = g.1 in
        record { few = omega arith; not_4 = λ z. number_not_4 (question_numbers (go (table_of table) p.found)).answer g (sym e ∙ z); tells_of = told }

only_number : (q : QuestionAnswer) → OnlyFrom6To10 q → Number (question_numbers q).answer
only_number (Ok b) h = (inl refl, omega arith)
only_number (Err k) h = let a = h.0 in (inr (omega arith), h.1)

module _ (lengths : Bool) (table : List ℕ) (state : State) where
  pub takes_asked : (class : ℕ) → Asked lengths state (question_numbers (takes_call lengths table state class)).answer
  unfolding takes_call takes_right
  takes_asked class =
      asked lengths table state (λ t rs. go (is_nil rs) (wrong_class t.counts.classes class) t rs)
      (λ t rs. at (is_nil rs) (wrong_class t.counts.classes class) t rs)
    where
      go : Bool → Bool → Table → List Reading → QuestionAnswer
      go b d t rs = (if b then Ok false else if d then Err WrongArgument else takes t class rs)

      at : (b d : Bool) (t : Table) (rs : List Reading) → Number (question_numbers (go b d t rs)).answer
      at true d t rs = (inl refl, omega arith)
      at false true t rs = (inr (omega arith), omega arith)
      at false false t rs = only_number (takes t class rs) (takes_only t class rs)

  pub can_end_asked : Asked lengths state (question_numbers (can_end_call lengths table state)).answer
  unfolding can_end_call
  can_end_asked = asked lengths table state can_end (λ t rs. only_number (can_end t rs) (can_end_only t rs))

  pub can_recover_asked : Asked lengths state (question_numbers (can_recover_call lengths table state)).answer
  unfolding can_recover_call
  can_recover_asked = asked lengths table state can_recover (λ t rs. only_number (can_recover t rs) (can_recover_only t rs))

-- Reading a stack out: refused by 1 to 5, or read.
module _ (lengths : Bool) (table : List ℕ) (state : State) (i : ℕ) (entries : List SeenEntry) where
  pub record StackStopped : Type 0 where
    pub by : Refusal
    pub is : stack_call lengths table state i entries ≡ stack_refused entries by
    pub few : number by ≤ 5

  pub record StackWent : Type 0 where
    pub found : List Reading
    pub right_lengths : lengths ≡ true
    pub state_is : state ≡ Some found
    pub there : leb (length found) i ≡ false
    pub is : stack_call lengths table state i entries ≡ stack_read entries (get_or found i no_reading)

  abbrev reads_by : Bool → Bool → Table → List Reading → StackCall
  reads_by b d t rs = (if b then stack_refused entries Consumed else if d then stack_refused entries WrongArgument else stack_read entries (get_or rs i no_reading))

  abbrev reads : Table → List Reading → StackCall
  reads t rs = reads_by (is_nil rs) (leb (length rs) i) t rs

  reads_later : (t : Table) (rs : List Reading) → Later (reads t rs).says.answer
  reads_later t rs = at (is_nil rs) (leb (length rs) i)
    where
      at : (b d : Bool) → Later (reads_by b d t rs).says.answer
      at true d = inr (omega arith)
      at false true = inr (omega arith)
      at false false = inl refl

  pub stack_tells : Tells lengths state (stack_call lengths table state i entries).says.answer
  unfolding stack_call stack_right
  stack_tells = tells lengths table state (stack_refused entries) reads (λ (c : StackCall). c.says.answer) (λ k. refl) reads_later

  pub stack_case : StackStopped ⊎ StackWent
  unfolding stack_call stack_right
  stack_case = at (checks lengths table state (stack_refused entries) reads)
    where
      past : (p : Passed lengths table state (stack_refused entries) reads) (b : Bool) → is_nil p.found ≡ b → (d : Bool) → leb (length p.found) i ≡ d → StackStopped ⊎ StackWent
      past p true e d f = inl (record { by = Consumed; is = p.is ∙ ap (λ (c : Bool). reads_by c (leb (length p.found) i) (table_of table) p.found) e; few = omega arith })
      past p false e true f = inl (record { by = WrongArgument; is = p.is ∙ ap₂ {C = StackCall} (λ c h. reads_by c h (table_of table) p.found) e f; few = omega arith })
      past p false e false f =
          inr (record {
            found = p.found;
            right_lengths = p.right_lengths;
            state_is = p.state_is;
            there = f;
            is = p.is ∙ ap₂ {C = StackCall} (λ c h. reads_by c h (table_of table) p.found) e f;
          })

      at : Stopped lengths table state (stack_refused entries) reads ⊎ Passed lengths table state (stack_refused entries) reads → StackStopped ⊎ StackWent
      at (inl s) = let f = s.few in inl (record { by = s.by; is = s.is; few = omega arith })
      at (inr p) = past p (is_nil p.found) refl (leb (length p.found) i) refl

-- what holds of each of a list holds of the one at a place
pub all_at : {A : Type 0} (P : A → Type 0) (l : List A) (i : ℕ) (d : A) → AllOf P l → i < length l → P (get_or l i d)
all_at P [] i d h l = absurd (omega arith)
all_at P (a ∷ l) zero d h g = h.0
all_at P (a ∷ l) (suc i) d h g = all_at P l i d h.1 (omega arith)
