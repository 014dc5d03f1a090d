-- At a state: its walk is that of its rule list. Assumes nothing.
use Prim.Native.Nat.{ℕ, zero, suc, ◌+◌, ◌*◌, ◌≤◌}
use native.Mathlib.Omega.{arith}
use mathlib.Core.Path.{◌≡◌, refl, sym, ap, ◌∙◌, subst}
use mathlib.Core.Bool.{false}
use mathlib.Core.List.{List}
use lib.Dec.{ltb}
use lib.ListN.{length, get_or}
use borrow.Author.Tests.{ltb-false}
use Rattle.std.specs.Prelude.{Option, None, Some}
use Rattle.meaning.specs.Basics.{both}
use Rattle.meaning.specs.Readings.{states}
use Rattle.meaning.specs.TableFile.{Table, action_of}
use Rattle.meaning.specs.TableRight.{shifts}
use Rattle.meaning.specs.Chains.{record_at}
use Rattle.meaning.specs.Walk.{Walk, refused, walked, walk_rules, walk_state, walk_from}
use Rattle.meaning.specs.declared.Refusal.TheVariants.{TooHigh, ChainTooLong}
use Rattle.meaning.proofs.Trees.{if_not}
use Rattle.cells.specs.Pool.{cell_size, cell_at}
use Rattle.cells.specs.Stacks.{Pool, entries_of}
use Rattle.cells.specs.declared.Cell.{Cell}
use Rattle.cells.proofs.Stacks.{linked_top}
use Rattle.table.specs.Answers.{action_answer}
use Rattle.table.specs.declared.Action.{Action}
use Rattle.chains.specs.Actions.{shift_of, rules_from}
use Rattle.chains.specs.Following.{FollowsRules}
use Rattle.chains.proofs.Actions.{found_shift, found_rules}
use Rattle.chains.proofs.Following.{follow_state}
use Rattle.actions.specs.Acting.{stack_in}
use Rattle.actions.proofs.Reductions.{length_states}
use Rattle.applying.specs.Following.{marks_of, Place, Way, StateFits, Higher, RulesFit, StateDone, RulesDone}

-- A walk that was not refused is nowhere too high to shift.
higher_by : (sh : Option ℕ) (h : ℕ) → both (shifts sh) (ltb 64 (h + 1)) ≡ false → Higher sh h
higher_by None h e = tt
higher_by (Some to) h e = let l = ltb-false 64 (h + 1) e in omega arith

higher_at : (left : ℕ) (t : Table) (room class : ℕ) (st : List ℕ) (n c : ℕ) (w : Walk) (n' c' : ℕ) → walk_from left t room class st n c ≡ walked w n' c' → Higher (record_at t class st).shift (length st)
unfolding walk_from walk_state
higher_at zero t room class st n c w n' c' e =
    let a = record_at t class st in
    higher_by a.shift (length st) (if_not (both (shifts a.shift) (ltb 64 (length st + 1))) TooHigh (walk_rules t room 0 (λ s m d. refused ChainTooLong) a.shift st a.rules n c) e).0
higher_at (suc left) t room class st n c w n' c' e =
    let a = record_at t class st in
    higher_by a.shift (length st) (if_not (both (shifts a.shift) (ltb 64 (length st + 1))) TooHigh (walk_rules t room (suc left) (λ s m d. walk_from left t room class s m d) a.shift st a.rules n c) e).0

top_state : (p : Pool) (h c : ℕ) → 1 ≤ h → get_or (states (entries_of p h c)) 0 0 ≡ (p c).state.0
unfolding entries_of
top_state p zero c le = absurd (omega arith)
top_state p (suc h) c le = refl

-- the top cell lies in the bytes
pub cell_room : (p : Place) (y : Way) → StateFits p y → cell_size * p.reading.cell.0 + cell_size ≤ length p.work
cell_room p y f =
    let s = f.fits.stands in
    let a = f.fits.area in
    let l = linked_top p.counts.cells (cell_at p.work) p.reading.height p.reading.cell.0 s.low s.stack in
    let long = a.long in
    let few = a.cells in
    omega arith

module _ (p : Place) (x : Cell) (ex : x ≡ cell_at p.work p.reading.cell.0)
    (a : Action) (ea : a ≡ action_answer (action_of p.table x.state.0 p.ask.term.class)) (four : a.count ≤ 4) where
  abbrev t : Table
  t = p.table

  abbrev class : ℕ
  class = p.ask.term.class

  abbrev st : List ℕ
  st = states (stack_in p.work p.reading)

  pub fit_rules : (y : Way) → StateFits p y → RulesFit p a 0 y
  unfolding record_at
  fit_rules y f =
      let e : get_or st 0 0 ≡ x.state.0 = top_state (cell_at p.work) p.reading.height p.reading.cell.0 f.fits.stands.low ∙ sym (ap (λ (c : Cell). c.state.0) ex) in
      let sh : (record_at t class st).shift ≡ shift_of a = ap (λ (s : ℕ). (action_of t s class).shift) e ∙ sym (found_shift t x.state.0 class a ea) in
      let ks : (record_at t class st).rules ≡ rules_from a 0 = ap (λ (s : ℕ). (action_of t s class).rules) e ∙ sym (found_rules t x.state.0 class a ea four) in
      let g = f.follows in
      let h = higher_at y.left t y.room class st p.at g.before y.tree g.after g.ended g.is in
      let fr = follow_state y.left t y.room class (marks_of p.work) p.at y.tree st g in
      record {
        fits = f.fits;
        higher = subst (λ (m : Option ℕ). Higher m p.reading.height) sh (subst (Higher (record_at t class st).shift) (length_states p.work p.reading) h);
        follows = subst (λ (l : List ℕ). FollowsRules y.left t y.room class (shift_of a) st l (marks_of p.work) p.at y.tree) ks
            (subst (λ (m : Option ℕ). FollowsRules y.left t y.room class m st (record_at t class st).rules (marks_of p.work) p.at y.tree) sh fr);
      }

  pub told_state : (w' : List ℕ) (n' : _) → RulesDone p a 0 w' n' → StateDone p w' n'
  told_state w' n' done y f = done y (fit_rules y f)
