-- The ways out at the end of a rule list. Assumes nothing.
use Prim.Native.Nat.{ℕ, ◌<◌}
use native.Mathlib.Omega.{arith}
use mathlib.Core.Path.{◌≡◌, sym, ap, subst}
use mathlib.Core.List.{List}
use Rattle.std.specs.Prelude.{Some, Option}
use Rattle.meaning.specs.declared.StateNo.{StateNo}
use Rattle.table.specs.declared.Action.{Action}
use Rattle.chains.specs.Actions.{number_of, shift_of}
use Rattle.actions.specs.Acting.{reading_in}
use Rattle.actions.specs.Steps.{ShiftReady, ShiftIs}
use Rattle.actions.specs.Telling.{RoomFor, Told}
use Rattle.actions.specs.declared.Counts.{Counts}
use Rattle.actions.specs.declared.Top.{Top}
use Rattle.actions.proofs.Outcomes.{told_shifted}
use Rattle.applying.specs.Following.{Higher, end_applied, EndReady, EndDone}
use Rattle.applying.specs.declared.Ask.{Ask}

module _ (ask : Ask) (w : List ℕ) (r : Top) (n : Counts) (a : Action) (f : EndReady ask w r n a) where
  module _ (to : StateNo) (yes : a.shift ≡ Some to) where
    shifts_to : shift_of a ≡ Some to.0
    shifts_to = ap number_of yes

    high : r.height < 64
    high = subst (λ (m : Option ℕ). Higher m r.height) shifts_to f.higher

    room : RoomFor n (end_applied ask.term (Some to.0) (reading_in w r) n.cells)
    room = subst (λ (m : Option ℕ). RoomFor n (end_applied ask.term m (reading_in w r) n.cells)) shifts_to f.room

    pub shift_ready : ShiftReady ask.list w r n
    shift_ready =
        let c = room.cells in let e = room.results in
        let area = f.area in
        let l = area.high in
        let h = high in
        record { fits = omega arith; high = omega arith; cells = omega arith; results = omega arith }

    pub told_shift : (w' : List ℕ) (n' : Counts) → ShiftIs ask.term to.0 ask.list w r n w' n' → EndDone ask w r n a w' n'
    told_shift w' n' is =
        let s = shift_ready in
        let c = s.cells in let e = s.results in
        subst (λ (m : Option ℕ). Told ask.list w n w' n' (end_applied ask.term m (reading_in w r) n.cells)) (sym shifts_to)
        (told_shifted ask.term to.0 ask.list w r n f.area f.stands high c e w' n' is)
