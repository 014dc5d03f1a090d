-- A feed does not depend on identities: to rename them before it or after it is the same, as long as no two that occur become one.
use Prim.Native.Nat.{ℕ, ◌+◌, ◌≤◌}
use mathlib.Core.Path.{◌≡◌, refl, sym, ap, ap₂, ◌∙◌, subst}
use mathlib.Core.Logic.{inl, inr}
use mathlib.Core.List.{List, [], ◌∷◌, ◌++◌, map, reverse}
use mathlib.Core.Bool.{Bool, true, false, not}
use lib.Dec.{ltb, eqb, T, eqb→eq, eqb_refl}
use native.Mathlib.Omega.{arith}
use Rattle.std.proofs.lemmas.List.{map-append}
use Rattle.meaning.specs.Basics.{either, is_nil, AllOf}
use Rattle.std.specs.Prelude.{if◌then◌else◌, Option, None, Some}
use Rattle.meaning.specs.TableFile.{Table, rule_of}
use Rattle.meaning.specs.Readings.{Entry, Reading, states, holds, held_by}
use Rattle.meaning.specs.Walk.{Walk, shift, reduce, Walked, refused, walked, plan, ends}
use Rattle.meaning.specs.Applying.{act_on, reduced, shifted, refused_action, unplanned, Applied, nothing_applied, one_result, one_error, joined, then_applied, if_acts, apply}
use Rattle.meaning.specs.Outcome.{Fed}
use Rattle.meaning.specs.Recovery.{Stage, stopped, came, then_stage, if_planned, error_term, is_held, recover_one, recover_all, longer_top, stays, take_term, term_taken, none_recovered, after_recovery, recover}
use Rattle.meaning.specs.Feeding.{Planned, no_plan, plans, add_reading, add_plan, plan_all, apply_all, some_took, none_took, First, refuses, settles, must_recover, settle, first_of, first, finish, feed}
use Rattle.meaning.specs.Identities.{ren_entry, ren_reading, ren_fed, Occurs, Renaming}
use Rattle.meaning.specs.declared.Rule.{Rule}
use Rattle.meaning.specs.declared.Term.{Term}
use Rattle.meaning.specs.declared.ErrorRecord.{ErrorRecord}
use Rattle.meaning.specs.declared.Refusal.TheVariants.{TooManyReadings}
use Rattle.meaning.proofs.Tools.{map_reverse, nil_map, all_append}
use Rattle.meaning.proofs.Renamed.{states_ren, span_ren, end_ren, act_ren, reduced_ren, refused_ren, unplanned_all}
use Rattle.meaning.proofs.Leads.{TargetsIn}
use Rattle.meaning.proofs.Kept.{OfEntries, Made, made_none, made_joined, MadeOf, Passes, recover_made, recover_all_made, apply_grows}
use Rattle.meaning.proofs.Held.{own_readings}

same_bool : (u v : Bool) → (T u → T v) → (T v → T u) → u ≡ v
same_bool true true f g = refl
same_bool true false f g = absurd (f tt)
same_bool false true f g = absurd (g tt)
same_bool false false f g = refl

module _ (ρ : ℕ → ℕ) where
  abbrev re : Entry → Entry
  re = ren_entry ρ

  abbrev rr : Reading → Reading
  rr = ren_reading ρ

  abbrev ro : Applied → Applied
  ro o = record { results = map rr o.results; errors = o.errors; next = ρ o.next }

  joined_ren : (d o : Applied) → joined (ro d) (ro o) ≡ ro (joined d o)
  joined_ren d o = ap {B = Applied} (λ l. record { results = l; errors = d.errors ++ o.errors; next = ρ o.next }) (sym (map-append rr d.results o.results))

-- ρ keeps the births from n₀ on in their order, and keeps apart the identities that occur
module _ (ρ : ℕ → ℕ) (n₀ : ℕ) (P : ℕ → Type 0) (apart : (a b : ℕ) → P a → P b → ρ a ≡ ρ b → a ≡ b) (births : (m : ℕ) → n₀ ≤ m → ρ (m + 1) ≡ ρ m + 1) (born : (m : ℕ) → n₀ ≤ m → P m) (t : Table) where
  -- P of an entry's identity; any state will do
  abbrev Own : Entry → Type 0
  Own e = P e.born

  abbrev Any : ℕ → Type 0
  Any to = Unit {0}

  own_passes : Passes Own Any n₀
  own_passes = record { born = λ e l k. born e.born l; longer = λ e end n l h. born n l }

  any_targets : TargetsIn Any t
  any_targets = record { gotos = λ state left to e. tt; shifted = λ state class to e. tt }

  apply_ren : (x : Term) (w : Walk) (r : Reading) (n : ℕ) → n₀ ≤ n → apply t x w (rr ρ r) (ρ n) ≡ ro ρ (apply t x w r n)
  unfolding apply shifted
  apply_ren x (shift None) r n l = refl
  apply_ren x (shift (Some to)) r n l = ap {B = Applied} (λ m. one_result (rr ρ (shifted x to r n)) m) (sym (births n l))
  apply_ren x (reduce k to below beside) r n l =
      ap (λ (a : Applied). then_applied a (λ m. apply t x beside (rr ρ r) m)) (part_ren (ends below) (act_on q r.stack) (act_ren ρ q r.stack) (λ v. apply_ren x below (red v) (n + 1) (omega arith)))
      ∙ ap (joined (ro ρ part)) (apply_ren x beside r part.next (let g = part_grows (ends below) (act_on q r.stack) in omega arith))
      ∙ joined_ren ρ part (apply t x beside r part.next)
    where
      q : Rule
      q = rule_of t k

      red : ℕ → Reading
      red v = reduced q to v r n

      part_of : Bool → Option ℕ → (ℕ → Applied) → Reading → ℕ → Applied
      part_of b m f r' n' = if b then if_acts m f (one_error (refused_action t k r') n') else nothing_applied n'

      part : Applied
      part = part_of (ends below) (act_on q r.stack) (λ v. apply t x below (red v) (n + 1)) r n

      part_grows : (b : Bool) (m : Option ℕ) → n ≤ (part_of b m (λ v. apply t x below (red v) (n + 1)) r n).next
      part_grows true None = omega arith
      part_grows true (Some v) = let g = apply_grows t x below (red v) (n + 1) in omega arith
      part_grows false None = omega arith
      part_grows false (Some v) = omega arith

      part_at : (b : Bool) (m : Option ℕ) → ((v : ℕ) → apply t x below (rr ρ (red v)) (ρ (n + 1)) ≡ ro ρ (apply t x below (red v) (n + 1)))
          → part_of b m (λ v. apply t x below (reduced q to v (rr ρ r) (ρ n)) (ρ n + 1)) (rr ρ r) (ρ n) ≡ ro ρ (part_of b m (λ v. apply t x below (red v) (n + 1)) r n)
      part_at true None h = ap {B = Applied} (λ (e : ErrorRecord). one_error e (ρ n)) (refused_ren ρ t k r)
      part_at true (Some v) h = ap₂ {C = Applied} (λ (r' : Reading) (m : ℕ). apply t x below r' m) (reduced_ren ρ q to v r n) (sym (births n l)) ∙ h v
      part_at false None h = refl
      part_at false (Some v) h = refl

      part_ren : (b : Bool) (m : Option ℕ) → act_on q (map (re ρ) r.stack) ≡ m → ((v : ℕ) → apply t x below (rr ρ (red v)) (ρ (n + 1)) ≡ ro ρ (apply t x below (red v) (n + 1)))
          → part_of b (act_on q (map (re ρ) r.stack)) (λ v. apply t x below (reduced q to v (rr ρ r) (ρ n)) (ρ n + 1)) (rr ρ r) (ρ n) ≡ ro ρ (part_of b m (λ v. apply t x below (red v) (n + 1)) r n)
      part_ren b m e h = ap (λ (m' : Option ℕ). part_of b m' (λ v. apply t x below (reduced q to v (rr ρ r) (ρ n)) (ρ n + 1)) (rr ρ r) (ρ n)) e ∙ part_at b m h

  -- The first planning.
  abbrev rps : List (Reading × Walk) → List (Reading × Walk)
  rps = map (λ (p : Reading × Walk). (rr ρ p.0, p.1))

  abbrev rp : Planned → Planned
  rp (no_plan k) = no_plan k
  rp (plans ps left w c) = plans (rps ps) (map (rr ρ) left) w c

  add_ren : (r : Reading) (tree : Walk) (n : ℕ) (p : Planned) → add_reading (rr ρ r) tree n (rp p) ≡ rp (add_reading r tree n p)
  add_ren r tree n (no_plan k) = refl
  add_ren r tree n (plans ps left w c) = at (ends tree)
    where
      at : (b : Bool) → (if b then plans ((rr ρ r, tree) ∷ rps ps) (map (rr ρ) left) (n + w) c else plans (rps ps) (rr ρ r ∷ map (rr ρ) left) (n + w) c)
          ≡ rp (if b then plans ((r, tree) ∷ ps) left (n + w) c else plans ps (r ∷ left) (n + w) c)
      at true = refl
      at false = refl

  add_plan_ren : (r : Reading) (v : Walked) (f g : ℕ → Planned) → ((c : ℕ) → f c ≡ rp (g c)) → add_plan (rr ρ r) v f ≡ rp (add_plan r v g)
  add_plan_ren r (refused k) f g h = refl
  add_plan_ren r (walked tree n c) f g h = ap (add_reading (rr ρ r) tree n) (h c) ∙ add_ren r tree n (g c)

  plan_ren : (class : ℕ) (rs : List Reading) (c : ℕ) → plan_all t class (map (rr ρ) rs) c ≡ rp (plan_all t class rs c)
  unfolding plan_all
  plan_ren class [] c = refl
  plan_ren class (r ∷ rs) c =
      ap (λ (st : List ℕ). add_plan (rr ρ r) (plan t 16 class st c) (λ c'. plan_all t class (map (rr ρ) rs) c')) (states_ren ρ r.stack)
      ∙ add_plan_ren r (plan t 16 class (states r.stack) c) (λ c'. plan_all t class (map (rr ρ) rs) c') (λ c'. plan_all t class rs c') (λ c'. plan_ren class rs c')

  apply_all_ren : (x : Term) (ps : List (Reading × Walk)) (n : ℕ) → n₀ ≤ n → apply_all t x (rps ps) (ρ n) ≡ ro ρ (apply_all t x ps n)
  unfolding apply_all
  apply_all_ren x [] n l = refl
  apply_all_ren x (p ∷ ps) n l =
      let o = apply t x p.1 p.0 n in
      ap (λ (a : Applied). then_applied a (λ m. apply_all t x (rps ps) m)) (apply_ren x p.1 p.0 n l)
      ∙ ap (joined (ro ρ o)) (apply_all_ren x ps o.next (let g = apply_grows t x p.1 p.0 n in omega arith))
      ∙ joined_ren ρ o (apply_all t x ps o.next)

  -- Who holds an entry: here, and only here, two identities are compared.
  eqb_ren : (a b : ℕ) → P a → P b → eqb (ρ a) (ρ b) ≡ eqb a b
  eqb_ren a b p q = same_bool (eqb (ρ a) (ρ b)) (eqb a b)
      (λ h. subst (λ (c : ℕ). T (eqb a c)) (apart a b p q (eqb→eq (ρ a) (ρ b) h)) (eqb_refl a))
      (λ h. subst (λ (c : ℕ). T (eqb (ρ a) (ρ c))) (eqb→eq a b h) (eqb_refl (ρ a)))

  holds_ren : (s : List Entry) (b : ℕ) → AllOf Own s → P b → holds (map (re ρ) s) (ρ b) ≡ holds s b
  unfolding holds
  holds_ren [] b h p = refl
  holds_ren (e ∷ s) b h p = ap₂ {C = Bool} (λ u v. either u v) (eqb_ren e.born b h.0 p) (holds_ren s b h.1 p)

  held_ren : (rs : List Reading) (b : ℕ) → AllOf (OfEntries Own) rs → P b → held_by (map (rr ρ) rs) (ρ b) ≡ held_by rs b
  unfolding held_by
  held_ren [] b h p = refl
  held_ren (r ∷ rs) b h p = ap₂ {C = Bool} (λ u v. either u v) (holds_ren r.stack b h.0 p) (held_ren rs b h.1 p)

  is_held_ren : (held : List Reading) (e : Entry) → AllOf (OfEntries Own) held → Own e → is_held (map (rr ρ) held) (re ρ e) ≡ is_held held e
  unfolding is_held
  is_held_ren held e h o = held_ren held e.born h o

  -- Recovery.
  abbrev rs : Stage → Stage
  rs (stopped k) = stopped k
  rs (came o w c) = came (ro ρ o) w c

  if_ren : (b : Bool) (p q p' q' : Stage) → p' ≡ rs p → q' ≡ rs q → (if b then p' else q') ≡ rs (if b then p else q)
  if_ren true p q p' q' e f = e
  if_ren false p q p' q' e f = f

  planned_ren : (v : Walked) (f f' : Walk → ℕ → ℕ → Stage) (g g' : ℕ → ℕ → Stage) → ((w : Walk) (k c : ℕ) → f' w k c ≡ rs (f w k c)) → ((k c : ℕ) → g' k c ≡ rs (g k c))
      → if_planned v f' g' ≡ rs (if_planned v f g)
  planned_ren (refused k) f f' g g' h i = refl
  planned_ren (walked w k c) f f' g g' h i = if_ren (ends w) (f w k c) (g k c) (f' w k c) (g' k c) (h w k c) (i k c)

  error_term_ren : (whole : List Entry) (p : ℕ) → error_term (map (re ρ) whole) p ≡ error_term whole p
  unfolding error_term
  error_term_ren whole p = ap₂ {C = Term} (λ (a b : ℕ). record { class = 1; value = 0; start = a; end = b }) (span_ren ρ whole p) (end_ren ρ whole)

  recover_one_ren : (held : List Reading) (m : ℕ) (rest whole : List Entry) (p n w c : ℕ) → n₀ ≤ n → AllOf (OfEntries Own) held → AllOf Own rest
      → recover_one t (map (rr ρ) held) m (map (re ρ) rest) (map (re ρ) whole) p (ρ n) w c ≡ rs (recover_one t held m rest whole p n w c)
  unfolding recover_one
  recover_one_ren held m [] whole p n w c l h o = refl
  recover_one_ren held m (e ∷ rest) whole p n w c l h o =
      ap₂ {C = Stage} (λ (b : Bool) (st : List ℕ). if b then came (nothing_applied (ρ n)) w c else if_planned (plan t 16 1 st c) found' on') (is_held_ren held e h o.0) (states_ren ρ (e ∷ rest))
      ∙ if_ren (is_held held e) (came (nothing_applied n) w c) (if_planned (plan t 16 1 (states (e ∷ rest)) c) found on) (came (nothing_applied (ρ n)) w c) (if_planned (plan t 16 1 (states (e ∷ rest)) c) found' on')
      refl
      (planned_ren (plan t 16 1 (states (e ∷ rest)) c) found found' on on' found_ren (λ k c'. recover_one_ren held m rest whole (p + 1) n (w + k) c' l h o.1))
    where
      r : Reading
      r = record { mark = m; stack = e ∷ rest }

      found : Walk → ℕ → ℕ → Stage
      found tree k c' = came (apply t (error_term whole p) tree r n) (w + k) c'

      on : ℕ → ℕ → Stage
      on k c' = recover_one t held m rest whole (p + 1) n (w + k) c'

      found' : Walk → ℕ → ℕ → Stage
      found' tree k c' = came (apply t (error_term (map (re ρ) whole) p) tree (rr ρ r) (ρ n)) (w + k) c'

      on' : ℕ → ℕ → Stage
      on' k c' = recover_one t (map (rr ρ) held) m (map (re ρ) rest) (map (re ρ) whole) (p + 1) (ρ n) (w + k) c'

      found_ren : (tree : Walk) (k c' : ℕ) → found' tree k c' ≡ rs (found tree k c')
      found_ren tree k c' = ap (λ (o' : Applied). came o' (w + k) c') (ap (λ (y : Term). apply t y tree (rr ρ r) (ρ n)) (error_term_ren whole p) ∙ apply_ren (error_term whole p) tree r n l)

  recover_all_ren : (ls : List Reading) (d : Applied) (w c : ℕ) → Made Own n₀ d → AllOf (OfEntries Own) ls → recover_all t (map (rr ρ) ls) (ro ρ d) w c ≡ rs (recover_all t ls d w c)
  unfolding recover_all
  recover_all_ren [] d w c h o = refl
  recover_all_ren (r ∷ ls) d w c h o =
      ap (λ (held : List Reading). then_stage (recover_one t held r.mark (map (re ρ) r.stack) (map (re ρ) r.stack) 0 (ρ d.next) w c) on') (sym (map-append (rr ρ) ls d.results))
      ∙ ap (λ (p : Stage). then_stage p on')
      (recover_one_ren (ls ++ d.results) r.mark r.stack r.stack 0 d.next w c h.grows (all_append (OfEntries Own) ls d.results o.1 h.of) o.0)
      ∙ then_ren (recover_one t (ls ++ d.results) r.mark r.stack r.stack 0 d.next w c)
      (recover_made Own Any n₀ own_passes t any_targets (ls ++ d.results) r.mark r.stack r.stack 0 d.next w c h.grows o.0)
      (λ a w' c' h'. recover_all_ren ls (joined d a) w' c' h' o.1)
    where
      on : Applied → ℕ → ℕ → Stage
      on a w' c' = recover_all t ls (joined d a) w' c'

      on' : Applied → ℕ → ℕ → Stage
      on' a w' c' = recover_all t (map (rr ρ) ls) (joined (ro ρ d) a) w' c'

      then_ren : (p : Stage) → MadeOf Own d.next p → ((a : Applied) (w' c' : ℕ) → Made Own n₀ (joined d a) → recover_all t (map (rr ρ) ls) (ro ρ (joined d a)) w' c' ≡ rs (on a w' c'))
          → then_stage (rs p) on' ≡ rs (then_stage p on)
      then_ren (stopped k) g go = refl
      then_ren (came a w' c') g go =
          ap (λ (b : Applied). recover_all t (map (rr ρ) ls) b w' c') (joined_ren ρ d a) ∙ go a w' c' (made_joined Own n₀ d a h g)

  longer_ren : (s : List Entry) (e n : ℕ) → longer_top (map (re ρ) s) e (ρ n) ≡ map (re ρ) (longer_top s e n)
  unfolding longer_top
  longer_ren [] e n = refl
  longer_ren (a ∷ s) e n = refl

  take_term_ren : (x : Term) (ls : List Reading) (d : Applied) (w c : ℕ) → n₀ ≤ d.next → take_term t x (map (rr ρ) ls) (ro ρ d) w c ≡ rs (take_term t x ls d w c)
  unfolding take_term stays
  take_term_ren x [] d w c l = refl
  take_term_ren x (r ∷ ls) d w c l =
      ap (λ (st : List ℕ). if_planned (plan t 16 x.class st c) takes' stay') (states_ren ρ r.stack)
      ∙ planned_ren (plan t 16 x.class (states r.stack) c) takes takes' stay stay'
      (λ tree k c'.
      ap (λ (o : Applied). take_term t x (map (rr ρ) ls) o (w + k) c') (ap (joined (ro ρ d)) (apply_ren x tree r d.next l) ∙ joined_ren ρ d (apply t x tree r d.next))
      ∙ take_term_ren x ls (joined d (apply t x tree r d.next)) (w + k) c' (let g = apply_grows t x tree r d.next in omega arith))
      (λ k c'. if_ren (ltb c' 16) (take_term t x ls (joined d stayed) (w + k) (c' + 1)) (stopped TooManyReadings)
      (take_term t x (map (rr ρ) ls) (joined (ro ρ d) stayed') (w + k) (c' + 1)) (stopped TooManyReadings)
      (ap (λ (o : Applied). take_term t x (map (rr ρ) ls) o (w + k) (c' + 1)) (ap (joined (ro ρ d)) stayed_ren ∙ joined_ren ρ d stayed)
      ∙ take_term_ren x ls (joined d stayed) (w + k) (c' + 1) (omega arith))
      refl)
    where
      stayed : Applied
      stayed = one_result (stays r x.end d.next) (d.next + 1)

      stayed' : Applied
      stayed' = one_result (stays (rr ρ r) x.end (ρ d.next)) (ρ d.next + 1)

      stayed_ren : stayed' ≡ ro ρ stayed
      stayed_ren = ap₂ {C = Applied} (λ (s : List Entry) (m : ℕ). one_result (record { mark = r.mark; stack = s }) m) (longer_ren r.stack x.end d.next) (sym (births d.next l))

      takes : Walk → ℕ → ℕ → Stage
      takes tree k c' = take_term t x ls (joined d (apply t x tree r d.next)) (w + k) c'

      stay : ℕ → ℕ → Stage
      stay k c' = if ltb c' 16 then take_term t x ls (joined d stayed) (w + k) (c' + 1) else stopped TooManyReadings

      takes' : Walk → ℕ → ℕ → Stage
      takes' tree k c' = take_term t x (map (rr ρ) ls) (joined (ro ρ d) (apply t x tree (rr ρ r) (ρ d.next))) (w + k) c'

      stay' : ℕ → ℕ → Stage
      stay' k c' = if ltb c' 16 then take_term t x (map (rr ρ) ls) (joined (ro ρ d) stayed') (w + k) (c' + 1) else stopped TooManyReadings

  -- The whole feed.
  term_taken_ren : (ls : List Reading) (n : ℕ) (s : Stage) → term_taken (map (rr ρ) ls) (ρ n) (rs s) ≡ ren_fed ρ (term_taken ls n s)
  term_taken_ren ls n (stopped k) = refl
  term_taken_ren ls n (came o w c) = ap {B = Fed} (λ (b : Bool). record { answer = if b then 12 else 0; readings = map (rr ρ) o.results; errors = o.errors; walked = w; next = ρ o.next }) (nil_map (rr ρ) o.results)

  if_fed : (b : Bool) (f g f' g' : Fed) → f' ≡ ren_fed ρ f → g' ≡ ren_fed ρ g → (if b then f' else g') ≡ ren_fed ρ (if b then f else g)
  if_fed true f g f' g' e h = e
  if_fed false f g f' g' e h = h

  unplanned_reversed : (ls : List Reading) → map unplanned (reverse (map (rr ρ) ls)) ≡ map unplanned (reverse ls)
  unplanned_reversed ls = ap (map unplanned) (sym (map_reverse (rr ρ) ls [])) ∙ unplanned_all ρ (reverse ls)

  after_recovery_ren : (x : Term) (ls : List Reading) (n : ℕ) (p : Stage) → MadeOf Own n₀ p → after_recovery t x (map (rr ρ) ls) (ρ n) (rs p) ≡ ren_fed ρ (after_recovery t x ls n p)
  after_recovery_ren x ls n (stopped k) h = refl
  after_recovery_ren x ls n (came d w c) h =
      ap (λ (b : Bool). if b then none_recovered (map (rr ρ) ls) (ro ρ d) w else go') (nil_map (rr ρ) d.results)
      ∙ if_fed (is_nil d.results) (none_recovered ls d w) go (none_recovered (map (rr ρ) ls) (ro ρ d) w) go'
      (ap {B = Fed} (λ l. record { answer = 12; readings = []; errors = d.errors ++ l; walked = w; next = ρ d.next }) (unplanned_reversed ls))
      (ap (λ (l : List Reading). term_taken (map (rr ρ) ls) (ρ n) (take_term t x l (ro ρ d₀) w 0)) (sym (map_reverse (rr ρ) d.results []))
      ∙ ap (term_taken (map (rr ρ) ls) (ρ n)) (take_term_ren x (reverse d.results) d₀ w 0 h.grows)
      ∙ term_taken_ren ls n (take_term t x (reverse d.results) d₀ w 0))
    where
      d₀ : Applied
      d₀ = record { results = []; errors = d.errors; next = d.next }

      go : Fed
      go = term_taken ls n (take_term t x (reverse d.results) d₀ w 0)

      go' : Fed
      go' = term_taken (map (rr ρ) ls) (ρ n) (take_term t x (reverse (map (rr ρ) d.results)) (ro ρ d₀) w 0)

  abbrev rfirst : First → First
  rfirst (refuses k) = refuses k
  rfirst (settles f) = settles (ren_fed ρ f)
  rfirst (must_recover w) = must_recover w

  settle_ren : (ps : List (Reading × Walk)) (left : List Reading) (w : ℕ) (o : Applied) → settle t (rps ps) (map (rr ρ) left) w (ro ρ o) ≡ rfirst (settle t ps left w o)
  unfolding settle
  settle_ren ps left w o =
      ap₂ {C = First} (λ (b d : Bool). if not b then settles some' else if either (not t.recovers) (not d) then settles none' else must_recover w)
      (nil_map (rr ρ) o.results) (nil_map (λ (p : Reading × Walk). (rr ρ p.0, p.1)) ps)
      ∙ at (is_nil o.results) (either (not t.recovers) (not (is_nil ps)))
    where
      some' : Fed
      some' = some_took (map (rr ρ) left) w (ro ρ o)

      none' : Fed
      none' = none_took (map (rr ρ) left) w (ro ρ o)

      at : (b d : Bool) → (if not b then settles some' else if d then settles none' else must_recover w) ≡ rfirst (if not b then settles (some_took left w o) else if d then settles (none_took left w o) else must_recover w)
      at true true = ap {B = First} (λ l. settles (record { answer = 12; readings = map (rr ρ) left; errors = o.errors ++ l; walked = w; next = ρ o.next })) (unplanned_all ρ left)
      at true false = refl
      at false d = ap {B = First} (λ l. settles (record { answer = 0; readings = map (rr ρ) o.results; errors = o.errors ++ l; walked = w; next = ρ o.next })) (unplanned_reversed left)

  first_of_ren : (x : Term) (n : ℕ) → n₀ ≤ n → (p : Planned) → first_of t x (ρ n) (rp p) ≡ rfirst (first_of t x n p)
  first_of_ren x n l (no_plan k) = refl
  first_of_ren x n l (plans ps left w c) = ap (settle t (rps ps) (map (rr ρ) left) w) (apply_all_ren x ps n l) ∙ settle_ren ps left w (apply_all t x ps n)

  finish_ren : (x : Term) (ls : List Reading) → AllOf (OfEntries Own) ls → (f : First) → finish t x (map (rr ρ) ls) (ρ n₀) (rfirst f) ≡ ren_fed ρ (finish t x ls n₀ f)
  unfolding recover
  finish_ren x ls o (refuses k) = refl
  finish_ren x ls o (settles f) = refl
  finish_ren x ls o (must_recover w) =
      ap (after_recovery t x (map (rr ρ) ls) (ρ n₀)) (recover_all_ren ls (nothing_applied n₀) w 0 (made_none Own n₀) o)
      ∙ after_recovery_ren x ls n₀ (recover_all t ls (nothing_applied n₀) w 0) (recover_all_made Own Any n₀ own_passes t any_targets ls (nothing_applied n₀) w 0 o (made_none Own n₀))

  feed_ren : (x : Term) (ls : List Reading) → AllOf (OfEntries Own) ls → feed t x (map (rr ρ) ls) (ρ n₀) ≡ ren_fed ρ (feed t x ls n₀)
  unfolding feed first
  feed_ren x ls o =
      ap (finish t x (map (rr ρ) ls) (ρ n₀))
      (ap (λ (l : List Reading). first_of t x (ρ n₀) (plan_all t x.class l 0)) (sym (map_reverse (rr ρ) ls []))
      ∙ ap (first_of t x (ρ n₀)) (plan_ren x.class (reverse ls) 0) ∙ first_of_ren x n₀ (omega arith) (plan_all t x.class (reverse ls) 0))
      ∙ finish_ren x ls o (first t x ls n₀)

-- Renaming first and feeding then, or feeding first and renaming then.
pub renaming : (ρ : ℕ → ℕ) (t : Table) (x : Term) (rs : List Reading) (next : ℕ) → Renaming ρ rs next
    → feed t x (map (ren_reading ρ) rs) (ρ next) ≡ ren_fed ρ (feed t x rs next)
renaming ρ t x rs next ren =
    feed_ren ρ next (Occurs rs next) ren.apart ren.births (λ m l. inr l) t x rs (own_readings (Occurs rs next) rs (λ b h. inl h))
