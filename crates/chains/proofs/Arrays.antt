-- Laws of the stack that an array and a height stand for. Assumes nothing.
use Prim.Native.Nat.{ℕ, zero, suc, ◌+◌, ◌-◌, ◌<◌, ◌≤◌}
use native.Mathlib.Omega.{arith}
use native.Mathlib.Nat.{sub-zero, suc-sub-suc}
use native.Mathlib.Numerals.{add-one, sub-one}
use mathlib.Core.Path.{◌≡◌, refl, sym, ap, ◌∙◌}
use mathlib.Core.List.{List, ◌∷◌}
use lib.ListN.{length, get_or, drop, set}
use lib.Seq.{get_or-set_same, get_or-set_other}
use Rattle.meaning.specs.declared.StateNo.{StateNo}
use Rattle.chains.specs.Simulated.{stack_of, Pushed}
use Rattle.chains.specs.declared.reducing.Stack.{Stack}

pub length_stack_of : (a : List ℕ) (h : ℕ) → length (stack_of a h) ≡ h
unfolding stack_of
length_stack_of a zero = refl
length_stack_of a (suc h) = ap suc (length_stack_of a h)

pub drop_stack_of : (a : List ℕ) (n h : ℕ) → n ≤ h → drop n (stack_of a h) ≡ stack_of a (h - n)
unfolding stack_of
drop_stack_of a zero h le = ap (stack_of a) (sym (sub-zero h))
drop_stack_of a (suc n) zero le = absurd (omega arith)
drop_stack_of a (suc n) (suc h) le = drop_stack_of a n h (omega arith) ∙ ap (stack_of a) (sym (suc-sub-suc h n))

pub top_stack_of : (a : List ℕ) (h : ℕ) → 1 ≤ h → get_or a (h - 1) 0 ≡ get_or (stack_of a h) 0 0
unfolding stack_of
top_stack_of a zero lt = absurd (omega arith)
top_stack_of a (suc h) lt = ap (λ (i : ℕ). get_or a i 0) (sub-one (suc h))

stack_of_set : (a : List ℕ) (k v h : ℕ) → h ≤ k → stack_of (set a k v) h ≡ stack_of a h
unfolding stack_of
stack_of_set a k v zero le = refl
stack_of_set a k v (suc h) le =
    let e : get_or (set a k v) h 0 ≡ get_or a h 0 = get_or-set_other a k h v 0 (omega arith) in
    let r : stack_of (set a k v) h ≡ stack_of a h = stack_of_set a k v h (omega arith) in
    cc

stack_of_push : (a : List ℕ) (k v : ℕ) → k < length a → stack_of (set a k v) (k + 1) ≡ v ∷ stack_of a k
unfolding stack_of
stack_of_push a k v lt =
    let e : get_or (set a k v) k 0 ≡ v = get_or-set_same a k v 0 lt in
    let r : stack_of (set a k v) k ≡ stack_of a k = stack_of_set a k v k (omega arith) in
    ap (stack_of (set a k v)) (add-one k) ∙ cc

pub push_leaves : (stack : Stack) (base : ℕ) (state : StateNo) → length stack.states ≡ 64 → base < 64
    → Pushed stack base state (record { states = set stack.states base state.0; height = base + 1 })
push_leaves stack base state full lt =
    record { same = stack_of_push stack.states base state.0 (omega arith); stands = record { low = omega arith; high = omega arith } }
