-- What is read of a stack does not depend on identities: it is the same after any renaming ρ of them. With every identity put to 0, this is what Plain cites.
use Prim.Native.Nat.{ℕ, zero, suc, ◌-◌}
use mathlib.Core.Path.{◌≡◌, refl, ap, ap₂, ◌∙◌}
use mathlib.Core.List.{List, [], ◌∷◌, map}
use lib.ListN.{get_or, drop}
use Rattle.std.specs.Prelude.{Option}
use Rattle.meaning.specs.TableFile.{Table, state_no, rule_of}
use Rattle.meaning.specs.Kinds.{act}
use Rattle.meaning.specs.Readings.{Entry, Reading, no_entry, top, states}
use Rattle.meaning.specs.Applying.{item, act_on, span_start, reduced, refused_action, unplanned}
use Rattle.meaning.specs.Identities.{ren_entry, ren_reading}
use Rattle.meaning.specs.declared.Rule.{Rule}
use Rattle.meaning.specs.declared.ErrorRecord.{ErrorRecord}

module _ (ρ : ℕ → ℕ) where
  read_ren : (f : Entry → ℕ) → ((e : Entry) → f (ren_entry ρ e) ≡ f e) → (s : List Entry) (i : ℕ) → f (get_or (map (ren_entry ρ) s) i no_entry) ≡ f (get_or s i no_entry)
  read_ren f h [] i = refl
  read_ren f h (e ∷ s) zero = h e
  read_ren f h (e ∷ s) (suc i) = read_ren f h s i

  state_ren : (s : List Entry) (i : ℕ) → (get_or (map (ren_entry ρ) s) i no_entry).state ≡ (get_or s i no_entry).state
  state_ren = read_ren (λ e. e.state) (λ e. refl)

  drop_ren : (n : ℕ) (s : List Entry) → drop n (map (ren_entry ρ) s) ≡ map (ren_entry ρ) (drop n s)
  drop_ren zero s = refl
  drop_ren (suc n) [] = refl
  drop_ren (suc n) (e ∷ s) = drop_ren n s

  pub states_ren : (s : List Entry) → states (map (ren_entry ρ) s) ≡ states s
  states_ren [] = refl
  states_ren (e ∷ s) = ap {B = List ℕ} (λ l. e.state ∷ l) (states_ren s)

  pub span_ren : (s : List Entry) (n : ℕ) → span_start (map (ren_entry ρ) s) n ≡ span_start s n
  unfolding span_start
  span_ren s zero = read_ren (λ e. e.end) (λ e. refl) s 0
  span_ren s (suc n) = read_ren (λ e. e.start) (λ e. refl) s n

  pub end_ren : (s : List Entry) → (top (map (ren_entry ρ) s)).end ≡ (top s).end
  end_ren s = read_ren (λ e. e.end) (λ e. refl) s 0

  item_ren : (s : List Entry) (n k : ℕ) → item (map (ren_entry ρ) s) n k ≡ item s n k
  item_ren s n k = read_ren (λ e. e.value) (λ e. refl) s (n - k)

  pub act_ren : (q : Rule) (s : List Entry) → act_on q (map (ren_entry ρ) s) ≡ act_on q s
  unfolding act_on
  act_ren q s = ap₂ {C = Option ℕ} (act q) (item_ren s q.len 1) (item_ren s q.len q.pick)

  pub reduced_ren : (q : Rule) (to v : ℕ) (r : Reading) (n : ℕ) → reduced q to v (ren_reading ρ r) (ρ n) ≡ ren_reading ρ (reduced q to v r n)
  unfolding reduced
  reduced_ren q to v r n i = record {
    mark = (reduced q to v r n).mark;
    stack = record { born = ρ n; state = to; value = v; start = span_ren r.stack q.len i; end = end_ren r.stack i } ∷ drop_ren q.len r.stack i;
  }

  pub refused_ren : (t : Table) (k : ℕ) (r : Reading) → refused_action t k (ren_reading ρ r) ≡ refused_action t k r
  unfolding refused_action
  refused_ren t k r i = record {
    rule = k;
    state = state_no ((ap (λ (s : List Entry). (top s).state) (drop_ren (rule_of t k).len r.stack) ∙ state_ren (drop (rule_of t k).len r.stack) 0) i);
    mark = r.mark;
  }

  unplanned_ren : (r : Reading) → unplanned (ren_reading ρ r) ≡ unplanned r
  unfolding unplanned
  unplanned_ren r i = record { rule = 65535; state = state_no (state_ren r.stack 0 i); mark = r.mark }

  pub unplanned_all : (rs : List Reading) → map unplanned (map (ren_reading ρ) rs) ≡ map unplanned rs
  unplanned_all [] = refl
  unplanned_all (r ∷ rs) = ap₂ {C = List ErrorRecord} (λ a b. a ∷ b) (unplanned_ren r) (unplanned_all rs)
