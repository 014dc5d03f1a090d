-- A planning whose marks stand in the bytes that hold the stack too. Assumes nothing.
use Prim.Native.Nat.{ℕ, ◌+◌, ◌-◌, ◌<◌, ◌≤◌}
use native.Mathlib.Omega.{arith}
use mathlib.Core.Path.{◌≡◌, sym, ap, ◌∙◌, subst}
use mathlib.Core.List.{List, ◌++◌}
use lib.ListN.{length, get_or, take, drop, length-take, length-drop, get_or-append}
use lib.Seq.{ext_get_or, get_or-append-add, get_or-take, get_or-drop}
use borrow.Rule.Slice.PartMut.{put_mid, mid_of, post_of, same_len_mid}
use Rattle.std.specs.Prelude.{Result}
use Rattle.meaning.specs.Walk.{Walked}
use Rattle.meaning.specs.declared.Refusal.{Refusal}
use Rattle.chains.specs.Marks.{MarksHold}
use Rattle.chains.specs.Planning.{plan_of, marks_length}
use Rattle.chains.specs.Filling.{PlannedWithin}
use Rattle.chains.specs.declared.Planned.{Planned}

-- The part that the planner was lent, put back.
module _ (at : ℕ) (w m' : List ℕ) (inside : at + marks_length ≤ length w) (lm : length m' ≡ marks_length) where
  taken : length (take at w) ≡ at
  taken = length-take at w ∙ omega arith

  put_front : (j : ℕ) → j < at → get_or (put_mid at marks_length w m') j 0 ≡ get_or w j 0
  put_front j h = get_or-append (take at w) _ 0 j (omega (arith, taken)) ∙ get_or-take at w j 0 h

  put_on : (i : ℕ) → get_or (put_mid at marks_length w m') (at + i) 0 ≡ get_or (m' ++ post_of at marks_length w) i 0
  put_on i = ap (λ (j : ℕ). get_or (put_mid at marks_length w m') (j + i) 0) (sym taken) ∙ get_or-append-add (take at w) (m' ++ post_of at marks_length w) i 0

  put_marks : (i : ℕ) → i < marks_length → get_or (put_mid at marks_length w m') (at + i) 0 ≡ get_or m' i 0
  put_marks i h = put_on i ∙ get_or-append m' (post_of at marks_length w) 0 i (omega (arith, lm))

  put_back : (j : ℕ) → at + marks_length ≤ j → get_or (put_mid at marks_length w m') j 0 ≡ get_or w j 0
  put_back j h =
      let a : j ≡ at + (marks_length + (j - (at + marks_length))) = omega arith in
      let b = ap (λ (k : ℕ). get_or (m' ++ post_of at marks_length w) (k + (j - (at + marks_length))) 0) (sym lm) ∙ get_or-append-add m' (post_of at marks_length w) (j - (at + marks_length)) 0 in
      let c = get_or-drop marks_length (drop at w) (j - (at + marks_length)) 0 ∙ get_or-drop at w (marks_length + (j - (at + marks_length))) 0 in
      ap (λ (k : ℕ). get_or (put_mid at marks_length w m') k 0) a ∙ put_on (marks_length + (j - (at + marks_length))) ∙ b ∙ c ∙ ap (λ (k : ℕ). get_or w k 0) (sym a)

  same_length : length (put_mid at marks_length w m') ≡ length w
  same_length = same_len_mid at marks_length w m' (lm ∙ sym mid_length)
    where
      mid_length : length (mid_of at marks_length w) ≡ marks_length
      mid_length = let b = length-drop at w in length-take marks_length (drop at w) ∙ omega arith

  marks_put : take marks_length (drop at (put_mid at marks_length w m')) ≡ m'
  marks_put =
      let l = same_length in
      let d = length-drop at (put_mid at marks_length w m') in
      let e : length (take marks_length (drop at (put_mid at marks_length w m'))) ≡ length m' = length-take marks_length (drop at (put_mid at marks_length w m')) ∙ omega arith in
      ext_get_or 0 _ m' e (λ i h.
      let j : i < marks_length = omega arith in
      get_or-take marks_length (drop at (put_mid at marks_length w m')) i 0 j ∙ get_or-drop at (put_mid at marks_length w m') i 0 ∙ put_marks i j)

  pub within : (x : Walked) (answer : Result Planned Refusal) → (answer ≡ plan_of x) × MarksHold m' 0 x → PlannedWithin x w at (put_mid at marks_length w m') answer
  within x answer k =
      record {
        says = k.0;
        holds = subst (λ (m : List ℕ). MarksHold m 0 x) (sym marks_put) k.1;
        same = same_length;
        front = λ j p q. put_front j (omega arith);
        back = λ j p q. put_back j p;
      }

-- The way out of `plan_within`.
pub planned_within : (x : Walked) (at long : ℕ) (w m' : List ℕ) (answer : Result Planned Refusal) → at + marks_length ≤ length w → long ≡ marks_length → length m' ≡ length (mid_of at long w)
    → (answer ≡ plan_of x) × MarksHold m' 0 x → PlannedWithin x w at (put_mid at long w m') answer
planned_within x at long w m' answer inside el kept k =
    let d = length-drop at w in
    let lm : length m' ≡ marks_length = kept ∙ ap (λ (n : ℕ). length (mid_of at n w)) el ∙ length-take marks_length (drop at w) ∙ omega arith in
    subst (λ (n : ℕ). PlannedWithin x w at (put_mid at n w m') answer) (sym el) (within at w m' inside lm x answer k)
