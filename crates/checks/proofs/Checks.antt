-- The ways out of the checks, and what each call learns from them. Assumes nothing.
use mathlib.Core.Path.{◌≡◌, refl, sym, ap, ◌∙◌}
use mathlib.Core.Bool.{Bool, true, false, not}
use mathlib.Core.List.{List}
use Prim.Native.Nat.{ℕ, zero, suc}
use native.Mathlib.Omega.{arith}
use Rattle.std.specs.Option.{ok_or}
use Rattle.meaning.specs.Basics.{is_nil}
use Rattle.std.specs.Prelude.{if◌then◌else◌, Result, Ok, Err, Option, Some, None}
use Rattle.meaning.specs.Calls.{check_state, checked}
use Rattle.meaning.specs.Readings.{Reading}
use Rattle.meaning.specs.TableFile.{Table, table_of, view_of}
use Rattle.meaning.specs.TableRight.{table_ok}
use Rattle.meaning.specs.declared.Refusal.{Refusal}
use Rattle.meaning.specs.declared.Refusal.TheVariants.{WrongTable, WrongState}
use Rattle.state.specs.Check.{valid_state}
use Rattle.state.specs.Layout.{readings_at}
use Rattle.state.specs.Readings.{readings_from, readings_of}
use Rattle.meaning.specs.declared.View.{View}
use Rattle.table.specs.Answers.{check_of}
use Rattle.table.specs.Belonging.{Belongs}
use Rattle.table.proofs.Checking.{belongs_of, wrong_of}
use Rattle.promises.specs.Buffers.{state_for}
use Rattle.checks.specs.Checks.{view_found, found_of, FileOf}

-- The view, or the refusal.
some_of : (r : Option View) (v : View) → ok_or r WrongTable ≡ Ok v → r ≡ Some v
some_of None v e = let z : ◌≡◌ {A = ℕ} 0 1 = cc in absurd (omega arith)
some_of (Some u) v e = let z : u ≡ v = cc in ap (λ (w : View). Some w) z

none_of : (r : Option View) (k : Refusal) → ok_or r WrongTable ≡ Err k → (r ≡ None) × (WrongTable ≡ k)
none_of None k e = (refl, cc)
none_of (Some u) k e = let z : ◌≡◌ {A = ℕ} 0 1 = cc in absurd (omega arith)

-- The ways out.
module _ (table state : List ℕ) (r : Option View) (says : r ≡ check_of table) (q : Result View Refusal) (or : q ≡ ok_or r WrongTable) where
  pub found_wrong_table : (k : Refusal) → q ≡ Err k → Err k ≡ view_found table state
  unfolding view_found
  found_wrong_table k e =
      let n = none_of r k (sym or ∙ e) in
      rw (wrong_of table r says n.0, ← n.1)

  module _ (v : View) (f : q ≡ Ok v) (b : Bool) (y : b ≡ valid_state v.counts.states state) where
    is_some : r ≡ Some v
    is_some = some_of r v (sym or ∙ f)

    found_is : Belongs table v
    found_is = belongs_of table v r says is_some

    valid_is : valid_state (table_of table).counts.states state ≡ b
    unfolding table_of view_of
    valid_is = sym (y ∙ ap (λ (w : View). valid_state w.counts.states state) found_is.is)

    pub found_wrong_state : b ≡ false → Err WrongState ≡ view_found table state
    unfolding view_found
    found_wrong_state g = rw (found_is.ok, valid_is, g)

    pub found_right : b ≡ true → Ok v ≡ view_found table state
    unfolding view_found
    found_right g = rw (found_is.ok, valid_is, g, ← found_is.is)

-- Checks 2 and 3, by what each finds.
abbrev checked_if : {A : Type 0} → (ok valid : Bool) → List Reading → (Refusal → A) → (List Reading → A) → A
checked_if ok valid rs refuse go = if not ok then refuse WrongTable else check_state (if valid then Some rs else None) refuse go

-- What a call learns: the refusal that its definition gives, or what was found in a right file, and that the state is one of its table.
found_if : {A : Type 0} (ok valid : Bool) (rs : List Reading) (x u : A) → Ok x ≡ checked_if ok valid rs Err (λ _. Ok u) → (x ≡ u) × (ok ≡ true) × (valid ≡ true)
found_if true true rs x u e = (cc, refl, refl)
found_if true false rs x u e = let z : ◌≡◌ {A = ℕ} 0 1 = cc in absurd (omega arith)
found_if false valid rs x u e = let z : ◌≡◌ {A = ℕ} 0 1 = cc in absurd (omega arith)

refused_if : {B : Type 0} (ok valid : Bool) (rs : List Reading) (k : Refusal) (u : B) {A : Type 0} (refuse : Refusal → A) (go : List Reading → A) →
    Err k ≡ checked_if ok valid rs Err (λ _. Ok u) → refuse k ≡ checked_if ok valid rs refuse go
refused_if true true rs k u refuse go e = let z : ◌≡◌ {A = ℕ} 0 1 = cc in absurd (omega arith)
refused_if true false rs k u refuse go e = let z : k ≡ WrongState = cc in ap refuse z
refused_if false valid rs k u refuse go e = let z : k ≡ WrongTable = cc in ap refuse z

-- From the view that was found to its table.
module _ (table state : List ℕ) (q : Result View Refusal) (says : q ≡ view_found table state) where
  pub table_refused : (k : Refusal) → q ≡ Err k → Err k ≡ found_of table state
  unfolding view_found found_of
  table_refused k e = refused_if (table_ok table) (valid_state (table_of table).counts.states state) (readings_of state) k (view_of table) Err (λ _. Ok (table_of table)) (sym e ∙ says)

  module _ (v : View) (e : q ≡ Ok v) where
    view_parts : (v ≡ view_of table) × (table_ok table ≡ true) × (valid_state (table_of table).counts.states state ≡ true)
    unfolding view_found
    view_parts = found_if (table_ok table) (valid_state (table_of table).counts.states state) (readings_of state) v (view_of table) (sym e ∙ says)

    pub view_belongs : Belongs table v
    view_belongs = record { is = view_parts.0; ok = view_parts.1 }

    pub table_found : Ok (table_of table) ≡ found_of table state
    unfolding found_of
    table_found = rw (view_parts.1, view_parts.2)

module _ (table state : List ℕ) (q : Result Table Refusal) (says : q ≡ found_of table state) where
  pub checked_refused : {A : Type 0} (refuse : Refusal → A) (go : Table → List Reading → A) (k : Refusal) → q ≡ Err k → refuse k ≡ checked true table (state_for table state) refuse go
  unfolding found_of
  checked_refused refuse go k e =
      refused_if (table_ok table) (valid_state (table_of table).counts.states state) (readings_of state) k (table_of table) refuse (go (table_of table)) (sym e ∙ says)

  module _ (t : Table) (e : q ≡ Ok t) where
    parts : (t ≡ table_of table) × (table_ok table ≡ true) × (valid_state (table_of table).counts.states state ≡ true)
    unfolding found_of
    parts = found_if (table_ok table) (valid_state (table_of table).counts.states state) (readings_of state) t (table_of table) (sym e ∙ says)

    pub file_found : FileOf table t
    file_found = record { is = parts.0; ok = parts.1 }

    pub valid_found : valid_state t.counts.states state ≡ true
    valid_found = rw parts.0 parts.2

-- What a call's definition comes to, on a right file and a state of its table.
pub checked_right : (table state : List ℕ) (t : Table) → FileOf table t → valid_state t.counts.states state ≡ true → {A : Type 0} (refuse : Refusal → A) (go : Table → List Reading → A) →
    go t (readings_of state) ≡ checked true table (state_for table state) refuse go
checked_right table state t f v refuse go =
    let y : valid_state (table_of table).counts.states state ≡ true = rw f.is at v in
    rw (f.ok, y, f.is)

-- A count that is not 0 has readings.
pub some_readings : (state : List ℕ) (n : ℕ) → (n ≡ 0 → ⊥) → is_nil (readings_from state readings_at 0 n) ≡ false
unfolding readings_from
some_readings state zero z = absurd (z refl)
some_readings state (suc n) z = refl
