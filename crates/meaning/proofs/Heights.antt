-- A walk that was not refused nowhere goes above height 64.
use Prim.Native.Nat.{ℕ, zero, suc, ◌+◌, ◌-◌, ◌≤◌}
use mathlib.Core.Path.{◌≡◌, ap, subst}
use mathlib.Core.List.{List, [], ◌∷◌}
use mathlib.Core.Bool.{false}
use lib.ListN.{length, drop, length-drop}
use lib.Dec.{ltb, nltb→le}
use Rattle.std.specs.Prelude.{Option, None, Some}
use Rattle.meaning.specs.Basics.{both}
use Rattle.meaning.specs.TableFile.{Table, ActionRecord, rule_of}
use Rattle.meaning.specs.TableRight.{shifts}
use Rattle.meaning.specs.Chains.{record_at}
use Rattle.meaning.specs.Walk.{Walk, shift, reduce, Walked, refused, walked, end_chain, walk_rules, walk_state, walk_from}
use Rattle.meaning.specs.declared.Refusal.TheVariants.{TooHigh, ChainTooLong, TooManyReadings}
use Rattle.meaning.proofs.Trees.{refused_not, if_not, if_yes, reduces, walk_of}
use Rattle.meaning.proofs.Booleans.{is_false}

-- a walk from height h that nowhere goes above 64
abbrev pub Low : Table → Walk → ℕ → Type 0
Low t (shift None) h = Unit {0}
Low t (shift (Some to)) h = h + 1 ≤ 64
Low t (reduce k to below beside) h = Low t below (suc (h - (rule_of t k).len)) × Low t beside h

abbrev Room : Option ℕ → ℕ → Type 0
Room None h = Unit {0}
Room (Some to) h = h + 1 ≤ 64

end_low : (t : Table) (room : ℕ) (sh : Option ℕ) (h n c : ℕ) (w : Walk) (n' c' : ℕ) → Room sh h → end_chain room sh n c ≡ walked w n' c' → Low t w h
unfolding end_chain
end_low t room None h n c w n' c' g e = subst (λ (v : Walk). Low t v h) (ap walk_of e) tt
end_low t room (Some to) h n c w n' c' g e = subst (λ (v : Walk). Low t v h) (ap walk_of (if_yes (ltb c room) TooManyReadings (walked (shift (Some to)) n (c + 1)) e).1) g

abbrev pub LowGo : Table → (List ℕ → ℕ → ℕ → Walked) → Type 0
LowGo t go = (st : List ℕ) (n c : ℕ) (w : Walk) (n' c' : ℕ) → go st n c ≡ walked w n' c' → Low t w (length st)

rules_low : (t : Table) (room left : ℕ) (go : List ℕ → ℕ → ℕ → Walked) → LowGo t go → (sh : Option ℕ) (st ks : List ℕ) → Room sh (length st)
    → (n c : ℕ) (w : Walk) (n' c' : ℕ) → walk_rules t room left go sh st ks n c ≡ walked w n' c' → Low t w (length st)
unfolding walk_rules
rules_low t room left go low sh st [] g n c w n' c' e = end_low t room sh (length st) n c w n' c' g e
rules_low t room left go low sh st (k ∷ ks) g n c w n' c' e =
    let v = reduces t room left go sh st k ks n c w n' c' e in
    let z = v.below in
    let y = v.beside in
    subst (λ (u : Walk). Low t u (length st)) (ap walk_of v.all) (
      subst (λ (h : ℕ). Low t z.w (suc h)) (length-drop (rule_of t k).len st) (low (v.to ∷ drop (rule_of t k).len st) (n + 1) c z.w z.n z.c z.is),
      rules_low t room left go low sh st ks g z.n z.c y.w y.n y.c y.is,
    )

room_at : (sh : Option ℕ) (h : ℕ) → both (shifts sh) (ltb 64 (h + 1)) ≡ false → Room sh h
room_at None h e = tt
room_at (Some to) h e = nltb→le 64 (h + 1) (is_false e)

state_low : (t : Table) (room left : ℕ) (go : List ℕ → ℕ → ℕ → Walked) → LowGo t go → (a : ActionRecord) (st : List ℕ) (n c : ℕ) (w : Walk) (n' c' : ℕ)
    → walk_state t room left go a st n c ≡ walked w n' c' → Low t w (length st)
unfolding walk_state
state_low t room left go low a st n c w n' c' e =
    let f = if_not (both (shifts a.shift) (ltb 64 (length st + 1))) TooHigh (walk_rules t room left go a.shift st a.rules n c) e in
    rules_low t room left go low a.shift st a.rules (room_at a.shift (length st) f.0) n c w n' c' f.1

pub walk_low : (left : ℕ) (t : Table) (room cls : ℕ) → LowGo t (walk_from left t room cls)
unfolding walk_state walk_from
walk_low zero t room cls st n c w n' c' e = state_low t room 0 (λ st' m d. refused ChainTooLong) (λ s m d v m' d' f. refused_not f) (record_at t cls st) st n c w n' c' e
walk_low (suc left) t room cls st n c w n' c' e =
    state_low t room (suc left) (λ st' m d. walk_from left t room cls st' m d) (λ s m d v m' d' f. walk_low left t room cls s m d v m' d' f) (record_at t cls st) st n c w n' c' e
