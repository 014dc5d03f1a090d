-- Laws of one reduction, one for each way out. Assumes nothing.
use Prim.Native.Nat.{ℕ, ◌+◌, ◌-◌, ◌<◌, ◌≤◌}
use native.Mathlib.Omega.{arith}
use mathlib.Core.Path.{◌≡◌, refl, sym, ap, ◌∙◌}
use mathlib.Core.List.{List}
use lib.Dec.{ltb}
use lib.ListN.{length, get_or, drop}
use borrow.Author.Tests.{le-leb, lt-leb, eq-eqb, ne_eqb, lt-ltb, le-ltb}
use Rattle.std.specs.Prelude.{if◌then◌else◌, Ok, Err, Option, Some, None, ok_or}
use Rattle.meaning.specs.TableFile.{Table, goto_of, rule_of}
use Rattle.meaning.specs.Walk.{Walked, refused, or_no_goto, reduction}
use Rattle.meaning.specs.declared.Rule.{Rule}
use Rattle.meaning.specs.declared.StateNo.{StateNo}
use Rattle.meaning.specs.declared.Refusal.{Refusal}
use Rattle.meaning.specs.declared.Refusal.TheVariants.{ReachesStart, NoGoto, TooHigh, ChainTooLong, WalkTooLong}
use Rattle.table.specs.Answers.{goto_answer}
use Rattle.chains.specs.Simulated.{stack_of}
use Rattle.chains.specs.Reducing.{IsReduction}
use Rattle.chains.specs.declared.reducing.Stack.{Stack}
use Rattle.chains.specs.declared.reducing.Progress.{Progress}
use Rattle.chains.specs.Actions.{number_of}
use Rattle.chains.proofs.Actions.{number_back}
use Rattle.chains.proofs.Arrays.{length_stack_of, drop_stack_of}

module _ (t : Table) (k : ℕ) (stack : Stack) (at : Progress) where
  pub reduce_10 : 1024 ≤ at.walked → IsReduction t k stack at (Err WalkTooLong)
  unfolding reduction
  reduce_10 le = record { same = λ go. rw (le-leb 1024 at.walked le); allowed = tt }

  module _ (few : at.walked < 1024) where
    pub reduce_9 : at.left ≡ 0 → IsReduction t k stack at (Err ChainTooLong)
    unfolding reduction
    reduce_9 z = record { same = λ go. rw (lt-leb 1024 at.walked few, eq-eqb at.left 0 z); allowed = tt }

    module _ (left : at.left ≡ 0 → ⊥) (q : Rule) (is : q ≡ rule_of t k) (n : ℕ) (len : n ≡ q.len) where
      pub reduce_6 : stack.height ≤ n → IsReduction t k stack at (Err ReachesStart)
      unfolding reduction
      reduce_6 le =
          record {
            same = λ go. rw (lt-leb 1024 at.walked few, ne_eqb at.left 0 left, ← is, length_stack_of stack.states stack.height, ← len, le-leb stack.height n le);
            allowed = tt;
          }

      module _ (pops : n < stack.height) where
        -- what is left of the stack, and the tests after the pop
        abbrev rest : List ℕ
        rest = stack_of stack.states (stack.height - n)

        abbrev onward : (ℕ → List ℕ → Walked) → List ℕ → Walked
        onward go l = or_no_goto (goto_of t (get_or l 0 0) q.left) (λ to. if ltb 64 (length l + 1) then refused TooHigh else go to l)

        popped : (go : ℕ → List ℕ → Walked) → reduction t (rule_of t k) (stack_of stack.states stack.height) at.left at.walked go ≡ onward go rest
        unfolding reduction
        popped go =
            let e : drop q.len (stack_of stack.states stack.height) ≡ rest = rw (← len) (drop_stack_of stack.states n stack.height (omega arith)) in
            rw (lt-leb 1024 at.walked few, ne_eqb at.left 0 left, ← is, length_stack_of stack.states stack.height, lt-leb stack.height q.len (omega arith)) (ap (onward go) e)

        module _ (top : StateNo) (on-top : top.0 ≡ get_or rest 0 0) (g : Option StateNo) (found : g ≡ goto_answer (goto_of t top.0 q.left)) where
          goto_is : goto_of t (get_or rest 0 0) q.left ≡ number_of g
          goto_is = ap (λ (s : ℕ). goto_of t s q.left) (sym on-top) ∙ sym (number_back (goto_of t top.0 q.left)) ∙ ap number_of (sym found)

          pub reduce_7 : (e : Refusal) → ok_or g NoGoto ≡ Err e → IsReduction t k stack at (Err e)
          reduce_7 e h =
              let f = gone g e h in
              record { same = λ go. popped go ∙ rw (goto_is, f.0, f.1) refl; allowed = tt }
            where
              gone : (o : Option StateNo) (e : Refusal) → ok_or o NoGoto ≡ Err e → (o ≡ None) × (e ≡ NoGoto)
              gone None e h = (refl, cc)
              gone (Some s) e h = cc

          module _ (s : StateNo) (h : ok_or g NoGoto ≡ Ok s) where
            leads : goto_of t (get_or rest 0 0) q.left ≡ Some s.0
            leads = goto_is ∙ by g h
              where
                by : (o : Option StateNo) → ok_or o NoGoto ≡ Ok s → number_of o ≡ Some s.0
                by None h = cc
                by (Some r) h = let e : r ≡ s = cc in ap (λ (x : StateNo). Some x.0) e

            pub reduce_8 : 64 ≤ stack.height - n → IsReduction t k stack at (Err TooHigh)
            reduce_8 le =
                record { same = λ go. popped go ∙ rw (leads, length_stack_of stack.states (stack.height - n), lt-ltb 64 (stack.height - n + 1) (omega arith)); allowed = tt }

            pub reduce_to : stack.height - n < 64 → IsReduction t k stack at (Ok (record { state = s; base = stack.height - n }))
            reduce_to lt =
                record {
                  same = λ go. popped go ∙ rw (leads, length_stack_of stack.states (stack.height - n), le-ltb 64 (stack.height - n + 1) (omega arith));
                  allowed = (omega arith, few, omega arith, lt);
                }
