-- A whole reading: from its planning to the walk that is followed, and back. Assumes nothing.
use Prim.Native.Nat.{ℕ}
use mathlib.Core.Path.{sym, ◌∙◌, subst}
use mathlib.Core.List.{List}
use Rattle.meaning.specs.Readings.{states}
use Rattle.meaning.specs.TableFile.{Table}
use Rattle.meaning.specs.Walk.{Walk, plan}
use Rattle.meaning.specs.Applying.{apply}
use Rattle.meaning.specs.declared.Term.{Term}
use Rattle.meaning.proofs.Trees.{walk_is}
use Rattle.actions.specs.Acting.{stack_in, reading_in}
use Rattle.actions.specs.Telling.{Told}
use Rattle.actions.specs.declared.Counts.{Counts}
use Rattle.actions.specs.declared.Top.{Top}
use Rattle.applying.specs.Following.{Place, place, Way, StateFits, StateReady, StateDone, ReadingReady, ReadingDone}

module _ (t : Table) (w : List ℕ) (list : ℕ) (x : Term) (r : Top) (n : Counts) (p : ReadingReady t w list x r n) where
  abbrev start : Place
  start = place t (record { list = list; term = x }) w r n 0

  abbrev way : Way
  way = record { left = 32; room = p.most; tree = p.plans.walk }

  fits : StateFits start way
  fits = record { fits = record { area = p.area; stands = p.stands; room = p.room }; follows = p.plans.follows }

  pub reading_ready : StateReady start
  reading_ready = record { way = way; fit = fits }

  pub reading_done : (w' : List ℕ) (n' : Counts) → StateDone start w' n' → ReadingDone t w list x r n w' n'
  unfolding plan
  reading_done w' n' done most before tree k ended e =
      let st = states (stack_in w r) in
      let there = walk_is 32 t p.most x.class st 0 p.before p.plans.walk p.walked p.ended p.plans.is in
      let here = walk_is 32 t most x.class st 0 before tree k ended e in
      subst (λ (v : Walk). Told list w n w' n' (apply t x v (reading_in w r) n.cells)) (there.tree_is ∙ sym here.tree_is) (done way fits)
