-- The bounds of one planning: at most 1,024 reductions, and no more chains than there is room for. Assumes nothing.
use Prim.Native.Nat.{ℕ, zero, suc, ◌+◌, ◌<◌, ◌≤◌}
use mathlib.Core.Path.{◌≡◌, refl, subst}
use mathlib.Core.Bool.{Bool, true, false}
use mathlib.Core.List.{List, [], ◌∷◌}
use lib.Dec.{leb, ltb, eqb}
use lib.ListN.{length, get_or, drop}
use borrow.Author.Tests.{ltb-true, leb-false}
use native.Mathlib.Omega.{arith}
use Rattle.meaning.specs.Basics.{both}
use Rattle.std.specs.Prelude.{if◌then◌else◌, Option, None, Some}
use Rattle.meaning.specs.Limits.{max_walked}
use Rattle.meaning.specs.TableFile.{Table, ActionRecord, goto_of, rule_of}
use Rattle.meaning.specs.TableRight.{shifts}
use Rattle.meaning.specs.Chains.{record_at}
use Rattle.meaning.specs.Walk.{Walk, reduce, Walked, refused, walked, and_then, has_room, end_chain, or_no_goto, walk_full, reduction, walk_rules, walk_state, walk_from, plan}
use Rattle.meaning.specs.declared.Rule.{Rule}
use Rattle.meaning.specs.declared.Refusal.TheVariants.{ReachesStart, TooHigh, ChainTooLong, WalkTooLong}

-- A walk that goes on after n reductions and c chains.
abbrev pub WalkBounded : (room n c : ℕ) → Walked → Type 0
WalkBounded room n c (refused k) = Unit {0}
WalkBounded room n c (walked w n' c') = (n ≤ max_walked → n' ≤ max_walked) × (c ≤ room → c' ≤ room)

module _ (room : ℕ) where
  if_bounded : (n c : ℕ) (b : Bool) (v w : Walked) → (b ≡ true → WalkBounded room n c v) → (b ≡ false → WalkBounded room n c w) → WalkBounded room n c (if b then v else w)
  if_bounded n c true v w f g = f refl
  if_bounded n c false v w f g = g refl

  -- what comes later is bounded from here on too
  later_bounded : (n c n' c' : ℕ) → (n ≤ max_walked → n' ≤ max_walked) → (c ≤ room → c' ≤ room) → (v : Walked) → WalkBounded room n' c' v → WalkBounded room n c v
  later_bounded n c n' c' f g (refused k) h = tt
  later_bounded n c n' c' f g (walked w n'' c'') h = (λ l. h.0 (f l), λ l. h.1 (g l))

  then_bounded : (n c : ℕ) (v : Walked) (f : Walk → ℕ → ℕ → Walked) → WalkBounded room n c v → ((w : Walk) (n' c' : ℕ) → WalkBounded room n' c' (f w n' c')) → WalkBounded room n c (and_then v f)
  then_bounded n c (refused k) f h g = tt
  then_bounded n c (walked w n' c') f h g = later_bounded n c n' c' h.0 h.1 (f w n' c') (g w n' c')

  goto_bounded : (n c : ℕ) (m : Option ℕ) (f : ℕ → Walked) → ((to : ℕ) → WalkBounded room n c (f to)) → WalkBounded room n c (or_no_goto m f)
  goto_bounded n c None f h = tt
  goto_bounded n c (Some to) f h = h to

  -- a chain ends only where there is room for it
  end_bounded : (sh : Option ℕ) (n c : ℕ) → WalkBounded room n c (end_chain room sh n c)
  unfolding end_chain
  end_bounded None n c = (λ l. l, λ l. l)
  end_bounded (Some to) n c = if_bounded n c (has_room room c) _ _ (λ e. let less : c < room = search (ltb-true) in (λ l. l, λ l. omega arith)) (λ e. tt)

  -- a reduction is walked only where it is not one too many
  reduction_bounded : (t : Table) (q : Rule) (st : List ℕ) (left n c : ℕ) (go : ℕ → List ℕ → Walked) → (n < max_walked → (to : ℕ) (rest : List ℕ) → WalkBounded room n c (go to rest)) → WalkBounded room n c (reduction t q st left n go)
  unfolding reduction
  reduction_bounded t q st left n c go h =
      if_bounded n c (walk_full n) (refused WalkTooLong) _ (λ e. tt) (λ e.
      let less : n < max_walked = search (leb-false) in
      if_bounded n c (eqb left 0) (refused ChainTooLong) _ (λ f. tt) (λ f.
      if_bounded n c (leb (length st) q.len) (refused ReachesStart) _ (λ f. tt) (λ f.
      goto_bounded n c (goto_of t (get_or (drop q.len st) 0 0) q.left) _ (λ to.
      if_bounded n c (ltb 64 (length (drop q.len st) + 1)) (refused TooHigh) _ (λ f. tt) (λ f. h less to (drop q.len st))))))

  abbrev GoesBounded : (List ℕ → ℕ → ℕ → Walked) → Type 0
  GoesBounded deeper = (st : List ℕ) (n c : ℕ) → WalkBounded room n c (deeper st n c)

  rules_bounded : (t : Table) (left : ℕ) (deeper : List ℕ → ℕ → ℕ → Walked) → GoesBounded deeper → (sh : Option ℕ) (st ks : List ℕ) (n c : ℕ) → WalkBounded room n c (walk_rules t room left deeper sh st ks n c)
  unfolding walk_rules
  rules_bounded t left deeper h sh st [] n c = end_bounded sh n c
  rules_bounded t left deeper h sh st (k ∷ ks) n c =
      reduction_bounded t (rule_of t k) st left n c _ (λ few to rest.
      then_bounded n c (deeper (to ∷ rest) (n + 1) c) _ (later_bounded n c (n + 1) c (λ l. omega arith) (λ l. l) (deeper (to ∷ rest) (n + 1) c) (h (to ∷ rest) (n + 1) c)) (λ below n' c'.
      then_bounded n' c' (walk_rules t room left deeper sh st ks n' c') (λ beside n'' c''. walked (reduce k to below beside) n'' c'') (rules_bounded t left deeper h sh st ks n' c') (λ beside n'' c''. (λ l. l, λ l. l))))

  state_bounded : (t : Table) (left : ℕ) (deeper : List ℕ → ℕ → ℕ → Walked) → GoesBounded deeper → (a : ActionRecord) (st : List ℕ) (n c : ℕ) → WalkBounded room n c (walk_state t room left deeper a st n c)
  unfolding walk_state
  state_bounded t left deeper h a st n c = if_bounded n c (both (shifts a.shift) (ltb 64 (length st + 1))) (refused TooHigh) _ (λ e. tt) (λ e. rules_bounded t left deeper h a.shift st a.rules n c)

  pub walk_bounded : (left : ℕ) (t : Table) (class : ℕ) → GoesBounded (walk_from left t room class)
  unfolding walk_from
  walk_bounded zero t class st n c = state_bounded t 0 (λ st' n' c'. refused ChainTooLong) (λ st' n' c'. tt) (record_at t class st) st n c
  walk_bounded (suc left) t class st n c = state_bounded t (suc left) (λ st' n' c'. walk_from left t room class st' n' c') (λ st' n' c'. walk_bounded left t class st' n' c') (record_at t class st) st n c

pub planning_bounded : (t : Table) (room class : ℕ) (st : List ℕ) (c : ℕ) (tree : Walk) (k c' : ℕ) → plan t room class st c ≡ walked tree k c' → (k ≤ max_walked) × (c ≤ room → c' ≤ room)
unfolding plan
planning_bounded t room class st c tree k c' e = let h = subst (WalkBounded room 0 c) e (walk_bounded room 32 t class st 0 c) in (h.0 (omega arith), h.1)
