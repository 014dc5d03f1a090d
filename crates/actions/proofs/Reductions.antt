-- What a reduction and a refused action mean, for each list: births, the reading that a reduction leads to, the error record. Assumes nothing.
use Rattle.std.specs.Prelude.{Some}
use Rattle.std.proofs.Common.{◌≡◌, ℕ, zero, suc, ◌+◌, ◌-◌, ◌%◌, ◌<◌, ◌≤◌, List, [], ◌∷◌, length, get_or, drop, sym, refl, ap, ◌∙◌, subst, arith, length-drop}
use lib.ListN.{length-map}
use Rattle.meaning.specs.Readings.{Entry, Reading, top, states}
use Rattle.meaning.specs.TableFile.{Table, rule_of, goto_of, target}
use Rattle.meaning.specs.Applying.{span_start, reduced, refused_action, nothing_applied, one_error}
use Rattle.meaning.specs.declared.Rule.{Rule}
use Rattle.cells.specs.Pool.{cell_at, put_cell}
use Rattle.cells.specs.Stacks.{entries_of, Linked, Birth}
use Rattle.cells.specs.declared.Cell.{Cell}
use Rattle.cells.proofs.Stacks.{length_entries, linked_down_from}
use Rattle.cells.proofs.Births.{birth_of, entries_reduced, linked_born}
use Rattle.actions.specs.Acting.{stack_in, reading_in, reduced_cell}
use Rattle.actions.specs.Steps.{lands_in, born_cell, top_by, more_cells, Reduces, Refuses}
use Rattle.actions.specs.Telling.{Area, Stands, Told}
use Rattle.actions.specs.declared.Counts.{Counts}
use Rattle.actions.specs.declared.Top.{Top}
use Rattle.actions.proofs.Outcomes.{told_born, told_refused}

-- The states of a stack.
pub length_states : (w : List ℕ) (r : Top) → length (states (stack_in w r)) ≡ r.height
length_states w r = length-map (stack_in w r) (λ e. e.state) ∙ length_entries (cell_at w) r.height r.cell.0

drop_states : (k : ℕ) (s : List Entry) → states (drop k s) ≡ drop k (states s)
drop_states zero s = refl
drop_states (suc k) [] = refl
drop_states (suc k) (e ∷ s) = drop_states k s

state_below : (k : ℕ) (s : List Entry) → k < length s → get_or (drop k (states s)) 0 0 ≡ (top (drop k s)).state
state_below zero [] h = absurd (omega arith)
state_below zero (e ∷ s) h = refl
state_below (suc k) [] h = absurd (omega arith)
state_below (suc k) (e ∷ s) h = state_below k s (omega arith)

-- A birth by the rule q, which pops less than the stack has and leads to the state `to`, not too high.
module _ (t : Table) (q : Rule) (v : ℕ) (w : List ℕ) (r : Top) (n : Counts) (long : 37728 ≤ length w) (s : Stands w r n) (cells : n.cells < 2096) (pops : q.len < r.height) where
  abbrev born : Cell
  born = born_cell t q v w r

  abbrev w₁ : List ℕ
  w₁ = put_cell w n.cells born

  abbrev r₁ : Top
  r₁ = top_by q r n.cells

  birth : Birth n.cells (cell_at w) (cell_at w₁) born
  birth = birth_of w n.cells born (omega arith)

  split : q.len + (r.height - q.len) ≡ r.height
  split = omega arith

  whole : Linked n.cells (cell_at w) (q.len + (r.height - q.len)) r.cell.0
  whole = rw split s.stack

  module _ (to : ℕ) (leads : goto_of t (get_or (drop q.len (states (stack_in w r))) 0 0) q.left ≡ Some to) where
    lands : lands_in t q w r ≡ to
    unfolding lands_in
    lands =
        let l = length_entries (cell_at w) r.height r.cell.0 in
        let b = state_below q.len (stack_in w r) (omega arith) in
        ap target (ap (λ (j : ℕ). goto_of t j q.left) (sym b) ∙ leads)

    pub born_reading : reading_in w₁ r₁ ≡ reduced q to v (reading_in w r) n.cells
    unfolding top_by born_cell reduced_cell reduced
    born_reading =
        let up : suc (r.height - q.len) ≡ r.height - q.len + 1 = omega arith in
        let e = entries_reduced n.cells (cell_at w) (cell_at w₁) born birth q.len (r.height - q.len) r.cell.0 whole refl in
        let stack = ap (λ (h : ℕ). entries_of (cell_at w₁) h n.cells) (sym up) ∙ e ∙ (λ i. record { born = n.cells; state = lands i; value = v; start = span_start (stack_in w r) q.len; end = (top (stack_in w r)).end } ∷ drop q.len (entries_of (cell_at w) (split i) r.cell.0)) in
        λ i. record { mark = (r.mark + q.mark) % 4294967296; stack = stack i }

    pub born_states : states (stack_in w₁ r₁) ≡ to ∷ drop q.len (states (stack_in w r))
    unfolding reduced
    born_states = ap (λ (y : Reading). states y.stack) born_reading ∙ ap (λ (l : List ℕ). to ∷ l) (drop_states q.len (stack_in w r))

  pub born_stands : r.height - q.len < 64 → Stands w₁ r₁ (more_cells n)
  unfolding top_by born_cell reduced_cell
  born_stands low =
      let up : suc (r.height - q.len) ≡ r.height - q.len + 1 = omega arith in
      let l = linked_born n.cells (cell_at w) (cell_at w₁) born birth (r.height - q.len) (sym up) (linked_down_from n.cells (cell_at w) q.len (r.height - q.len) r.cell.0 whole) in
      record { low = omega arith; high = omega arith; stack = subst (λ (h : ℕ). Linked (n.cells + 1) (cell_at w₁) h n.cells) up l }

-- The same of the code's answer.
module _ (t : Table) (w : List ℕ) (r : Top) (n : Counts) (k : ℕ) (w' : List ℕ) (r' : Top) (n' : Counts) (d : Reduces t w r n k w' r' n') (list : ℕ) (a : Area list w n) (s : Stands w r n) (cells : n.cells < 2096) where
  abbrev q : Rule
  q = rule_of t k

  pub reduces_told : Told list w n w' n' (nothing_applied (n.cells + 1))
  reduces_told = rw (d.born.bytes, d.counts) (told_born list w n (born_cell t q d.value w r) a cells)

  module _ (to : ℕ) (pops : (rule_of t k).len < length (states (stack_in w r))) (leads : goto_of t (get_or (drop (rule_of t k).len (states (stack_in w r))) 0 0) (rule_of t k).left ≡ Some to)
      (low : length (drop (rule_of t k).len (states (stack_in w r))) < 64) where
    long : 37728 ≤ length w
    long = let l = a.long in omega arith

    under : q.len < r.height
    under = let l = length_states w r in omega arith

    pub reduces_reading : reading_in w' r' ≡ reduced (rule_of t k) to d.value (reading_in w r) n.cells
    reduces_reading = rw (d.born.bytes, d.born.reading) (born_reading t q d.value w r n long s cells under to leads)

    pub reduces_states : states (stack_in w' r') ≡ to ∷ drop (rule_of t k).len (states (stack_in w r))
    reduces_states = rw (d.born.bytes, d.born.reading) (born_states t q d.value w r n long s cells under to leads)

    pub reduces_stands : Stands w' r' n'
    reduces_stands =
        let h : r.height - q.len < 64 = let l = length_states w r in let m = length_dropped in omega arith in
        rw (d.born.bytes, d.born.reading, d.counts) (born_stands t q d.value w r n long s cells under h)
      where
        length_dropped : length (drop (rule_of t k).len (states (stack_in w r))) ≡ length (states (stack_in w r)) - (rule_of t k).len
        length_dropped = simp length-drop

pub refuses_told : (t : Table) (w : List ℕ) (r : Top) (n : Counts) (k : ℕ) (w' : List ℕ) (n' : Counts) → Refuses t w r n k w' n' → (list : ℕ) → Area list w n → n.errors < 32 →
    Told list w n w' n' (one_error (refused_action t k (reading_in w r)) n.cells)
refuses_told t w r n k w' n' d list a room = rw (d.bytes, d.counts) (told_refused list w n (refused_action t k (reading_in w r)) a room)
