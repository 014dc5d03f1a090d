-- What a feed bears is what its turns bear, so every birth of a feed finds a cell. Assumes nothing.
use Prim.Native.Nat.{ℕ, ◌+◌, ◌<◌, ◌≤◌}
use native.Mathlib.Omega.{arith}
use mathlib.Core.Path.{◌≡◌, refl, sym, ap, ◌∙◌, subst}
use mathlib.Core.Bool.{Bool, true, false, not}
use mathlib.Core.Logic.{◌⊎◌, inl, inr}
use mathlib.Core.List.{List, [], ◌∷◌, ◌++◌, reverse, append_assoc, append-nil}
use lib.Dec.{ltb, T, ltb→lt}
use Rattle.meaning.specs.Applying.{Applied, apply, joined, nothing_applied, one_result}
use Rattle.meaning.specs.Basics.{either, is_nil}
use Rattle.std.specs.Prelude.{if◌then◌else◌, None, Some}
use Rattle.meaning.specs.Feeding.{Planned, no_plan, plans, add_reading, add_plan, plan_all, apply_all, First, refuses, settles, must_recover, some_took, none_took, settle, first_of, first, finish, feed}
use Rattle.meaning.specs.Outcome.{Fed, refusal}
use Rattle.meaning.specs.Readings.{Entry, Reading, states}
use Rattle.meaning.specs.Recovery.{Stage, stopped, came, then_stage, if_planned, error_term, is_held, recover_one, recover_all, take_term, term_taken, none_recovered, after_recovery, recover}
use Rattle.meaning.specs.Recovery as meant
use Rattle.meaning.specs.TableFile.{Table}
use Rattle.meaning.specs.Walk.{Walk, shift, reduce, Walked, refused, walked, plan, ends, chains}
use Rattle.meaning.specs.declared.Refusal.{Refusal}
use Rattle.meaning.specs.declared.Refusal.TheVariants.{TooManyReadings}
use Rattle.meaning.specs.declared.Term.{Term}
use Rattle.meaning.proofs.Booleans.{no_false, not_no, either_false}
use Rattle.meaning.proofs.Trees.{walk_is, no_chain}
use Rattle.state.specs.Births.{Turn, takes, stays, born_up_to}
use Rattle.state.specs.FeedTurns.{pass_turns, after_turn, one_turns, then_turns, all_turns, take_turns, again_turns, second_turns, first_turns, born_in, born, FeedFinds}
use Rattle.state.specs.Layout.{state_cells}
use Rattle.state.proofs.Births.{cell_found, born_takes, born_stays}

-- Where no chain ends, nothing is born.
unborn : (t : Table) (x : Term) (w : Walk) (r : Reading) (n : ℕ) → ends w ≡ false → (apply t x w r n).next ≡ n
unfolding apply ends
unborn t x (shift None) r n e = refl
unborn t x (shift (Some to)) r n e = no_false (sym e)
unborn t x (reduce k to below beside) r n e = rw (either_false (ends below) (ends beside) e).0 (unborn t x beside r n (either_false (ends below) (ends beside) e).1)

-- so its planning adds no chain
no_more : (t : Table) (x : Term) (r : Reading) (c : ℕ) (tree : Walk) (k c' : ℕ) → plan t 16 x.class (states r.stack) c ≡ walked tree k c' → ends tree ≡ false → c' ≡ c
unfolding plan
no_more t x r c tree k c' e q =
    let i = walk_is 32 t 16 x.class (states r.stack) 0 c tree k c' e in
    let count : c' ≡ c + chains tree = i.chains_is ∙ ap (λ (w : Walk). c + chains w) (sym i.tree_is) in
    let none = no_chain tree q in
    omega arith

-- The first planning, then applying: all that is born is born in its turns; and where no reading was planned, no chain has ended.
module _ (t : Table) (x : Term) where
  record PassLeads (rs : List Reading) (c : ℕ) (ps : List (Reading × Walk)) (c' : ℕ) : Type 0 where
    lead : (n : ℕ) (more : List Turn) → born_up_to (pass_turns t x rs ++ more) n c ≡ born_up_to more (apply_all t x ps n).next c'
    none : is_nil ps ≡ true → c' ≡ c

  abbrev PassBorn : List Reading → (c : ℕ) → Planned → Type 0
  PassBorn rs c (no_plan k) = Unit {0}
  PassBorn rs c (plans ps left w c') = PassLeads rs c ps c'

  add_born : (r : Reading) (rs : List Reading) (c : ℕ) (tree : Walk) (k c' : ℕ) → plan t 16 x.class (states r.stack) c ≡ walked tree k c' → (p : Planned) → PassBorn rs c' p → PassBorn (r ∷ rs) c (add_reading r tree k p)
  unfolding apply_all
  add_born r rs c tree k c' e (no_plan s) h = tt
  add_born r rs c tree k c' e (plans ps left w c'') h = by (ends tree) refl
    where
      by : (b : Bool) → ends tree ≡ b → PassBorn (r ∷ rs) c (if b then plans ((r, tree) ∷ ps) left (k + w) c'' else plans ps (r ∷ left) (k + w) c'')
      by true q =
          record { lead = λ n more. born_takes t x r n c tree k c' e (pass_turns t x rs ++ more) ∙ h.lead (apply t x tree r n).next more; none = λ z. no_false z }
      by false q =
          record {
            lead = λ n more. born_takes t x r n c tree k c' e (pass_turns t x rs ++ more) ∙ ap (λ (m : ℕ). born_up_to (pass_turns t x rs ++ more) m c') (unborn t x tree r n q) ∙ h.lead n more;
            none = λ z. h.none z ∙ no_more t x r c tree k c' e q;
          }

  pass_born : (rs : List Reading) (c : ℕ) → PassBorn rs c (plan_all t x.class rs c)
  unfolding plan_all apply_all
  pass_born [] c = record { lead = λ n more. refl; none = λ z. refl }
  pass_born (r ∷ rs) c = at (plan t 16 x.class (states r.stack) c) refl (λ c'. pass_born rs c')
    where
      at : (v : Walked) → plan t 16 x.class (states r.stack) c ≡ v → ((c' : ℕ) → PassBorn rs c' (plan_all t x.class rs c')) → PassBorn (r ∷ rs) c (add_plan r v (λ c'. plan_all t x.class rs c'))
      at (refused k) e go = tt
      at (walked tree k c') e go = add_born r rs c tree k c' e (plan_all t x.class rs c') (go c')

  none_born : (ps : List (Reading × Walk)) (n : ℕ) → is_nil ps ≡ true → (apply_all t x ps n).next ≡ n
  unfolding apply_all
  none_born [] n e = refl
  none_born (p ∷ ps) n e = no_false e

-- A stage that comes to something was led there by these turns.
abbrev LeadsTo : (turns : List Turn) (n c : ℕ) → Stage → Type 0
LeadsTo turns n c (stopped k) = Unit {0}
LeadsTo turns n c (came a w c') = (more : List Turn) → born_up_to (turns ++ more) n c ≡ born_up_to more a.next c'

leads_and : (ones rest : List Turn) (n c m c₁ : ℕ) → ((more : List Turn) → born_up_to (ones ++ more) n c ≡ born_up_to more m c₁) → (s : Stage) → LeadsTo rest m c₁ s → LeadsTo (ones ++ rest) n c s
leads_and ones rest n c m c₁ h (stopped k) g = tt
leads_and ones rest n c m c₁ h (came a w c') g = λ more. ap (λ (l : List Turn). born_up_to l n c) (append_assoc ones rest more) ∙ h (rest ++ more) ∙ g more

leads_after : (t : Table) (x : Term) (r : Reading) (n c : ℕ) (tree : Walk) (k c' m : ℕ) → plan t 16 x.class (states r.stack) c ≡ walked tree k c' → (apply t x tree r n).next ≡ m →
    (turns : List Turn) (s : Stage) → LeadsTo turns m c' s → LeadsTo (takes t x r ∷ turns) n c s
leads_after t x r n c tree k c' m e f turns (stopped s) h = tt
leads_after t x r n c tree k c' m e f turns (came a w c'') h = λ more.
    born_takes t x r n c tree k c' e (turns ++ more) ∙ ap (λ (j : ℕ). born_up_to (turns ++ more) j c') f ∙ h more

one_born : (t : Table) (held : List Reading) (m : ℕ) (rest whole : List Entry) (p n w c : ℕ) → LeadsTo (one_turns t held m rest whole p c) n c (recover_one t held m rest whole p n w c)
unfolding recover_one one_turns error_term
one_born t held m [] whole p n w c = λ more. refl
one_born t held m (e ∷ rest) whole p n w c =
    choose (is_held held e) (at (plan t 16 1 (states (e ∷ rest)) c) refl (λ w' c'. one_born t held m rest whole (p + 1) n w' c'))
  where
    r : Reading
    r = record { mark = m; stack = e ∷ rest }

    found : Walk → ℕ → ℕ → Stage
    found tree k c' = came (apply t (error_term whole p) tree r n) (w + k) c'

    pops : ℕ → ℕ → Stage
    pops k c' = recover_one t held m rest whole (p + 1) n (w + k) c'

    lower : ℕ → List Turn
    lower c' = one_turns t held m rest whole (p + 1) c'

    turns : Walked → List Turn
    turns v = takes t (error_term whole p) r ∷ after_turn v (λ c'. []) lower

    choose : (b : Bool) → LeadsTo (turns (plan t 16 1 (states (e ∷ rest)) c)) n c (if_planned (plan t 16 1 (states (e ∷ rest)) c) found pops) →
        LeadsTo (if b then [] else turns (plan t 16 1 (states (e ∷ rest)) c)) n c (if b then came (nothing_applied n) w c else if_planned (plan t 16 1 (states (e ∷ rest)) c) found pops)
    choose true h = λ more. refl
    choose false h = h

    at : (v : Walked) → plan t 16 1 (states (e ∷ rest)) c ≡ v → ((w' c' : ℕ) → LeadsTo (lower c') n c' (recover_one t held m rest whole (p + 1) n w' c')) → LeadsTo (turns v) n c (if_planned v found pops)
    at (refused k) i go = tt
    at (walked tree k c') i go = by (ends tree) refl
      where
        by : (b : Bool) → ends tree ≡ b → LeadsTo (takes t (error_term whole p) r ∷ (if b then [] else lower c')) n c (if b then found tree k c' else pops k c')
        by true q = λ more. born_takes t (error_term whole p) r n c tree k c' i more
        by false q = leads_after t (error_term whole p) r n c tree k c' n i (unborn t (error_term whole p) tree r n q) (lower c') (pops k c') (go (w + k) c')

all_born : (t : Table) (rs : List Reading) (d : Applied) (w c : ℕ) → LeadsTo (all_turns t rs d w c) d.next c (recover_all t rs d w c)
unfolding recover_all all_turns
all_born t [] d w c = λ more. refl
all_born t (r ∷ rs) d w c =
    step (recover_one t (rs ++ d.results) r.mark r.stack r.stack 0 d.next w c) (one_born t (rs ++ d.results) r.mark r.stack r.stack 0 d.next w c) (λ a w' c'. all_born t rs (joined d a) w' c')
  where
    ones : List Turn
    ones = one_turns t (rs ++ d.results) r.mark r.stack r.stack 0 c

    step : (s : Stage) → LeadsTo ones d.next c s → ((a : Applied) (w' c' : ℕ) → LeadsTo (all_turns t rs (joined d a) w' c') a.next c' (recover_all t rs (joined d a) w' c')) →
        LeadsTo (ones ++ then_turns s (λ a w' c'. all_turns t rs (joined d a) w' c')) d.next c (then_stage s (λ a w' c'. recover_all t rs (joined d a) w' c'))
    step (stopped k) h go = tt
    step (came a w' c') h go = leads_and ones (all_turns t rs (joined d a) w' c') d.next c a.next c' h (recover_all t rs (joined d a) w' c') (go a w' c')

take_born : (t : Table) (x : Term) (rs : List Reading) (d : Applied) (w c : ℕ) → LeadsTo (take_turns t x rs c) d.next c (take_term t x rs d w c)
unfolding take_term take_turns
take_born t x [] d w c = λ more. refl
take_born t x (r ∷ rs) d w c = at (plan t 16 x.class (states r.stack) c) refl (λ d' w' c'. take_born t x rs d' w' c')
  where
    stayed : Applied
    stayed = joined d (one_result (meant.stays r x.end d.next) (d.next + 1))

    took : Walk → ℕ → ℕ → Stage
    took tree k c' = take_term t x rs (joined d (apply t x tree r d.next)) (w + k) c'

    stay : ℕ → ℕ → Stage
    stay k c' = if ltb c' 16 then take_term t x rs stayed (w + k) (c' + 1) else stopped TooManyReadings

    rest : ℕ → List Turn
    rest c' = take_turns t x rs c'

    at : (v : Walked) → plan t 16 x.class (states r.stack) c ≡ v → ((d' : Applied) (w' c' : ℕ) → LeadsTo (rest c') d'.next c' (take_term t x rs d' w' c')) →
        LeadsTo (takes t x r ∷ after_turn v rest (λ c'. stays ∷ rest (c' + 1))) d.next c (if_planned v took stay)
    at (refused k) e go = tt
    at (walked tree k c') e go = by (ends tree) refl
      where
        stays_on : (less : c' < 16) (s : Stage) → LeadsTo (rest (c' + 1)) (d.next + 1) (c' + 1) s → LeadsTo (stays ∷ rest (c' + 1)) d.next c' s
        stays_on less (stopped s) h = tt
        stays_on less (came a w'' c'') h = λ more. born_stays d.next c' less (rest (c' + 1) ++ more) ∙ h more

        kept : (b : Bool) → ltb c' 16 ≡ b → LeadsTo (stays ∷ rest (c' + 1)) d.next c' (if b then take_term t x rs stayed (w + k) (c' + 1) else stopped TooManyReadings)
        kept true q = stays_on (ltb→lt c' 16 (subst T (sym q) tt)) (take_term t x rs stayed (w + k) (c' + 1)) (go stayed (w + k) (c' + 1))
        kept false q = tt

        by : (b : Bool) → ends tree ≡ b → LeadsTo (takes t x r ∷ (if b then rest c' else stays ∷ rest (c' + 1))) d.next c (if b then took tree k c' else stay k c')
        by true q =
            leads_after t x r d.next c tree k c' (apply t x tree r d.next).next e refl (rest c') (took tree k c') (go (joined d (apply t x tree r d.next)) (w + k) c')
        by false q = leads_after t x r d.next c tree k c' d.next e (unborn t x tree r d.next q) (stays ∷ rest (c' + 1)) (stay k c') (kept (ltb c' 16) refl)

-- without more turns
leads_end : (turns : List Turn) (n c m c' : ℕ) → ((more : List Turn) → born_up_to (turns ++ more) n c ≡ born_up_to more m c') → born_up_to turns n c ≡ m
unfolding born_up_to
leads_end turns n c m c' h = ap (λ (l : List Turn). born_up_to l n c) (sym (append-nil turns)) ∙ h []

module _ (t : Table) (x : Term) (rs : List Reading) (used : ℕ) where
  -- a feed came to this: refused, or so much was born
  abbrev Bears : Fed → (m : ℕ) → Type 0
  Bears f m = ((k : Refusal) × (f ≡ refusal k rs used)) ⊎ (f.next ≡ m)

  taken_born : (m : ℕ) (turns : List Turn) (s : Stage) → LeadsTo turns m 0 s → Bears (term_taken rs used s) (born_up_to turns m 0)
  taken_born m turns (stopped k) h = inl (k, refl)
  taken_born m turns (came a w c) h = inr (sym (leads_end turns m 0 a.next c h))

  looked_born : (turns : List Turn) (s : Stage) → LeadsTo turns used 0 s → Bears (after_recovery t x rs used s) (born_up_to (again_turns t x s) (born_up_to turns used 0) 0)
  unfolding born_up_to
  looked_born turns (stopped k) h = inl (k, refl)
  looked_born turns (came d w c) h = subst (λ (m : ℕ). Bears (after_recovery t x rs used (came d w c)) (born_up_to (again_turns t x (came d w c)) m 0)) (sym (leads_end turns used 0 d.next c h)) (by (is_nil d.results))
    where
      second : Applied
      second = record { results = []; errors = d.errors; next = d.next }

      by : (b : Bool) → Bears (if b then none_recovered rs d w else term_taken rs used (take_term t x (reverse d.results) second w 0)) (born_up_to (if b then [] else take_turns t x (reverse d.results) 0) d.next 0)
      by true = inr refl
      by false = taken_born d.next (take_turns t x (reverse d.results) 0) (take_term t x (reverse d.results) second w 0) (take_born t x (reverse d.results) second w 0)

  -- by what the first planning comes to
  abbrev FirstBears : First → Type 0
  FirstBears (refuses k) = Unit {0}
  FirstBears (settles f) = f.next ≡ born_up_to (pass_turns t x (reverse rs)) used 0
  FirstBears (must_recover w) = (more : List Turn) → born_up_to (pass_turns t x (reverse rs) ++ more) used 0 ≡ born_up_to more used 0

  settled_born : (p : Planned) → PassBorn t x (reverse rs) 0 p → FirstBears (first_of t x used p)
  unfolding settle
  settled_born (no_plan k) h = tt
  settled_born (plans ps left w c) h = by (not (is_nil (apply_all t x ps used).results)) (either (not t.recovers) (not (is_nil ps))) refl
    where
      a : Applied
      a = apply_all t x ps used

      bears : a.next ≡ born_up_to (pass_turns t x (reverse rs)) used 0
      bears = sym (leads_end (pass_turns t x (reverse rs)) used 0 a.next c (h.lead used))

      by : (b d : Bool) → either (not t.recovers) (not (is_nil ps)) ≡ d → FirstBears (if b then settles (some_took left w a) else if d then settles (none_took left w a) else must_recover w)
      by true d q = bears
      by false true q = bears
      by false false q =
          let nil = not_no (is_nil ps) (either_false (not t.recovers) (not (is_nil ps)) q).1 in
          let same = none_born t x ps used nil in let none = h.none nil in
          λ more. h.lead used more ∙ (λ i. born_up_to more (same i) (none i))

  finish_born : (f : First) → FirstBears f → Bears (finish t x rs used f) (born_in t x rs used f)
  unfolding born_up_to recover
  finish_born (refuses k) h = inl (k, refl)
  finish_born (settles f) h = inr h
  finish_born (must_recover w) h =
      let looked = recover_all t rs (nothing_applied used) w 0 in
      let turns = all_turns t rs (nothing_applied used) w 0 in
      looked_born (pass_turns t x (reverse rs) ++ turns) looked (leads_and (pass_turns t x (reverse rs)) turns used 0 used 0 h looked (all_born t rs (nothing_applied used) w 0))

  -- THE THEOREM, of a feed by the rules.
  pub feed_finds : used ≤ state_cells → FeedFinds t x rs used
  unfolding feed first born
  feed_finds h =
      let f = first t x rs used in
      let g = cell_found used h (first_turns t x rs used f) (second_turns t x rs used f) in
      record { above = g.above; below = g.below; is = finish_born f (settled_born (plan_all t x.class (reverse rs) 0) (pass_born t x (reverse rs) 0)) }
