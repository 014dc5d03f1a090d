-- What holds of every entry that a feed begins with, and of every entry that is born, holds of every entry that it leaves. And births only go up.
use Prim.Native.Nat.{ℕ, zero, suc, ◌+◌, ◌≤◌}
use mathlib.Core.Path.{◌≡◌, refl}
use mathlib.Core.Bool.{Bool, true, false, not}
use mathlib.Core.List.{List, [], ◌∷◌, ◌++◌, reverse}
use lib.Dec.{ltb}
use lib.ListN.{drop}
use native.Mathlib.Omega.{arith}
use Rattle.meaning.specs.Basics.{either, is_nil, AllOf}
use Rattle.std.specs.Prelude.{if◌then◌else◌, Option, None, Some}
use Rattle.meaning.specs.TableFile.{Table, rule_of}
use Rattle.meaning.specs.Readings.{Entry, Reading, states}
use Rattle.meaning.specs.Walk.{Walk, shift, reduce, Walked, refused, walked, plan, ends}
use Rattle.meaning.specs.Applying.{act_on, reduced, shifted, refused_action, Applied, nothing_applied, one_result, one_error, joined, if_acts, apply}
use Rattle.meaning.specs.Outcome.{Fed}
use Rattle.meaning.specs.Recovery.{Stage, stopped, came, then_stage, if_planned, error_term, is_held, recover_one, recover_all, longer_top, stays, take_term, term_taken, none_recovered, after_recovery, recover}
use Rattle.meaning.specs.Feeding.{Planned, no_plan, plans, add_reading, add_plan, plan_all, apply_all, some_took, none_took, settles, must_recover, settle, first_of, first, finish, feed}
use Rattle.meaning.specs.declared.Term.{Term}
use Rattle.meaning.specs.declared.Refusal.TheVariants.{TooManyReadings}
use Rattle.meaning.proofs.Tools.{all_append, all_reverse}
use Rattle.meaning.proofs.Leads.{Leads, TargetsIn, plan_leads}

-- P holds of every entry of a reading
abbrev pub OfEntries : (Entry → Type 0) → Reading → Type 0
OfEntries P r = AllOf P r.stack

all_drop : {A : Type 0} (P : A → Type 0) (n : ℕ) (l : List A) → AllOf P l → AllOf P (drop n l)
all_drop P zero l h = h
all_drop P (suc n) [] h = tt
all_drop P (suc n) (a ∷ l) h = all_drop P n l h.1

-- made from birth n on: births go up, and P holds of all entries
pub record Made (P : Entry → Type 0) (n : ℕ) (o : Applied) : Type 0 where
  pub grows : n ≤ o.next
  pub of : AllOf (OfEntries P) o.results

-- P holds of an entry that is born from n₀ on, in a state of which R holds, and of an entry that takes another's place with another end
pub record Passes (P : Entry → Type 0) (R : ℕ → Type 0) (n₀ : ℕ) : Type 0 where
  pub born : (e : Entry) → n₀ ≤ e.born → R e.state → P e
  pub longer : (e : Entry) (end n : ℕ) → n₀ ≤ n → P e → P (record { born = n; state = e.state; value = e.value; start = e.start; end = end })

module _ (P : Entry → Type 0) where
  pub made_none : (n : ℕ) → Made P n (nothing_applied n)
  made_none n = record { grows = omega arith; of = tt }

  pub made_joined : (n : ℕ) (o p : Applied) → Made P n o → Made P o.next p → Made P n (joined o p)
  made_joined n o p h g =
      let h1 = h.grows in let g1 = g.grows in
      record { grows = omega arith; of = all_append (OfEntries P) o.results p.results h.of g.of }

  abbrev pub MadeOf : ℕ → Stage → Type 0
  MadeOf n (stopped k) = Unit {0}
  MadeOf n (came o w c) = Made P n o

  if_made : (n : ℕ) (b : Bool) (p q : Stage) → MadeOf n p → MadeOf n q → MadeOf n (if b then p else q)
  if_made n true p q h g = h
  if_made n false p q h g = g

module _ (P : Entry → Type 0) (R : ℕ → Type 0) (n₀ : ℕ) (new : Passes P R n₀) (t : Table) where
  apply_made : (x : Term) (w : Walk) → Leads R w → (r : Reading) (n : ℕ) → n₀ ≤ n → OfEntries P r → Made P n (apply t x w r n)
  unfolding apply shifted reduced
  apply_made x (shift None) k r n l h = made_none P n
  apply_made x (shift (Some to)) k r n l h =
      record { grows = omega arith; of = ((new.born (record { born = n; state = to; value = x.value; start = x.start; end = x.end }) l k, h), tt) }
  apply_made x (reduce k to below beside) leads r n l h =
      let part-made = at (ends below) (act_on (rule_of t k) r.stack) (λ v. apply_made x below leads.1 (red v) (n + 1) (omega arith) (red_of v)) in
      let g = part-made.grows in
      made_joined P n part (apply t x beside r part.next) part-made (apply_made x beside leads.2 r part.next (omega arith) h)
    where
      red : ℕ → Reading
      red v = reduced (rule_of t k) to v r n

      red_of : (v : ℕ) → OfEntries P (red v)
      red_of v = (new.born _ l leads.0, all_drop P (rule_of t k).len r.stack h)

      part_of : Bool → Option ℕ → Applied
      part_of b m = if b then if_acts m (λ v. apply t x below (red v) (n + 1)) (one_error (refused_action t k r) n) else nothing_applied n

      part : Applied
      part = part_of (ends below) (act_on (rule_of t k) r.stack)

      at : (b : Bool) (m : Option ℕ) → ((v : ℕ) → Made P (n + 1) (apply t x below (red v) (n + 1))) → Made P n (part_of b m)
      at true None f = record { grows = omega arith; of = tt }
      at true (Some v) f = let g = (f v).grows in record { grows = omega arith; of = (f v).of }
      at false None f = made_none P n
      at false (Some v) f = made_none P n

  module _ (targets : TargetsIn R t) where
    -- Recovery's first stage.
    pub recover_made : (held : List Reading) (m : ℕ) (rest whole : List Entry) (p n w c : ℕ) → n₀ ≤ n → AllOf P rest → MadeOf P n (recover_one t held m rest whole p n w c)
    unfolding recover_one
    recover_made held m [] whole p n w c l h = made_none P n
    recover_made held m (e ∷ rest) whole p n w c l h =
        if_made P n (is_held held e) (came (nothing_applied n) w c) (if_planned (plan t 16 1 (states (e ∷ rest)) c) found pops) (made_none P n)
        (at (plan t 16 1 (states (e ∷ rest)) c) refl (λ k c'. recover_made held m rest whole (p + 1) n (w + k) c' l h.1))
      where
        r : Reading
        r = record { mark = m; stack = e ∷ rest }

        found : Walk → ℕ → ℕ → Stage
        found tree k c' = came (apply t (error_term whole p) tree r n) (w + k) c'

        pops : ℕ → ℕ → Stage
        pops k c' = recover_one t held m rest whole (p + 1) n (w + k) c'

        at : (v : Walked) → plan t 16 1 (states (e ∷ rest)) c ≡ v → ((k c' : ℕ) → MadeOf P n (pops k c')) → MadeOf P n (if_planned v found pops)
        at (refused k) i f = tt
        at (walked tree k c') i f =
            if_made P n (ends tree) (found tree k c') (pops k c') (apply_made (error_term whole p) tree (plan_leads R t targets 16 1 (states (e ∷ rest)) c tree k c' i) r n l h) (f k c')

    pub recover_all_made : (rs : List Reading) (d : Applied) (w c : ℕ) → AllOf (OfEntries P) rs → Made P n₀ d → MadeOf P n₀ (recover_all t rs d w c)
    unfolding recover_all
    recover_all_made [] d w c o h = h
    recover_all_made (r ∷ rs) d w c o h =
        at (recover_one t (rs ++ d.results) r.mark r.stack r.stack 0 d.next w c)
        (recover_made (rs ++ d.results) r.mark r.stack r.stack 0 d.next w c h.grows o.0) (λ a w' c' h'. recover_all_made rs (joined d a) w' c' o.1 h')
      where
        at : (p : Stage) → MadeOf P d.next p → ((a : Applied) (w' c' : ℕ) → Made P n₀ (joined d a) → MadeOf P n₀ (recover_all t rs (joined d a) w' c'))
            → MadeOf P n₀ (then_stage p (λ a w' c'. recover_all t rs (joined d a) w' c'))
        at (stopped k) g go = tt
        at (came a w' c') g go = go a w' c' (made_joined P n₀ d a h g)

    -- Its second stage.
    longer_of : (s : List Entry) (end n : ℕ) → n₀ ≤ n → AllOf P s → AllOf P (longer_top s end n)
    unfolding longer_top
    longer_of [] end n l h = tt
    longer_of (e ∷ s) end n l h = (new.longer e _ n l h.0, h.1)

    take_made : (x : Term) (rs : List Reading) (d : Applied) (w c : ℕ) → AllOf (OfEntries P) rs → Made P n₀ d → MadeOf P n₀ (take_term t x rs d w c)
    unfolding take_term stays
    take_made x [] d w c o h = h
    take_made x (r ∷ rs) d w c o h = at (plan t 16 x.class (states r.stack) c) refl (λ a w' c' h'. take_made x rs (joined d a) w' c' o.1 h')
      where
        takes : Walk → ℕ → ℕ → Stage
        takes tree k c' = take_term t x rs (joined d (apply t x tree r d.next)) (w + k) c'

        stayed : Applied
        stayed = one_result (stays r x.end d.next) (d.next + 1)

        stay : ℕ → ℕ → Stage
        stay k c' = if ltb c' 16 then take_term t x rs (joined d stayed) (w + k) (c' + 1) else stopped TooManyReadings

        at : (v : Walked) → plan t 16 x.class (states r.stack) c ≡ v → ((a : Applied) (w' c' : ℕ) → Made P n₀ (joined d a) → MadeOf P n₀ (take_term t x rs (joined d a) w' c')) → MadeOf P n₀ (if_planned v takes stay)
        at (refused k) e go = tt
        at (walked tree k c') e go =
            let made = apply_made x tree (plan_leads R t targets 16 x.class (states r.stack) c tree k c' e) r d.next h.grows o.0 in
            if_made P n₀ (ends tree) (takes tree k c') (stay k c')
            (go (apply t x tree r d.next) (w + k) c' (made_joined P n₀ d (apply t x tree r d.next) h made))
            (if_made P n₀ (ltb c' 16) (take_term t x rs (joined d stayed) (w + k) (c' + 1)) (stopped TooManyReadings)
            (go stayed (w + k) (c' + 1) (made_joined P n₀ d stayed h (record { grows = omega arith; of = (longer_of r.stack x.end d.next h.grows o.0, tt) }))) tt)

    -- The first planning.
    abbrev PlannedOf : Term → Planned → Type 0
    PlannedOf x (no_plan k) = Unit {0}
    PlannedOf x (plans ps left w c) = ((n : ℕ) → n₀ ≤ n → Made P n (apply_all t x ps n)) × AllOf (OfEntries P) left

    add_made : (x : Term) (r : Reading) (tree : Walk) (k : ℕ) → OfEntries P r → Leads R tree → (p : Planned) → PlannedOf x p → PlannedOf x (add_reading r tree k p)
    unfolding apply_all
    add_made x r tree k o leads (no_plan e) h = tt
    add_made x r tree k o leads (plans ps left w c) h = at (ends tree)
      where
        at : (b : Bool) → PlannedOf x (if b then plans ((r, tree) ∷ ps) left (k + w) c else plans ps (r ∷ left) (k + w) c)
        at true = (
          λ n l.
              let a = apply t x tree r n in
              let made = apply_made x tree leads r n l o in
              let g = made.grows in
              made_joined P n a (apply_all t x ps a.next) made (h.0 a.next (omega arith)),
          h.1,
        )
        at false = (h.0, (o, h.1))

    plan_made : (x : Term) (rs : List Reading) (c : ℕ) → AllOf (OfEntries P) rs → PlannedOf x (plan_all t x.class rs c)
    unfolding plan_all apply_all
    plan_made x [] c o = (λ n l. made_none P n, tt)
    plan_made x (r ∷ rs) c o = at (plan t 16 x.class (states r.stack) c) refl (λ c'. plan_made x rs c' o.1)
      where
        at : (v : Walked) → plan t 16 x.class (states r.stack) c ≡ v → ((c' : ℕ) → PlannedOf x (plan_all t x.class rs c')) → PlannedOf x (add_plan r v (λ c'. plan_all t x.class rs c'))
        at (refused k) e go = tt
        at (walked tree k c') e go = add_made x r tree k o.0 (plan_leads R t targets 16 x.class (states r.stack) c tree k c' e) (plan_all t x.class rs c') (go c')

    -- The whole feed.
    module _ (x : Term) (rs : List Reading) (o : AllOf (OfEntries P) rs) where
      abbrev Left : Fed → Type 0
      Left f = AllOf (OfEntries P) f.readings

      if_left : (b : Bool) (f g : Fed) → Left f → Left g → Left (if b then f else g)
      if_left true f g h k = h
      if_left false f g h k = k

      taken_left : (s : Stage) → MadeOf P n₀ s → Left (term_taken rs n₀ s)
      taken_left (stopped k) h = o
      taken_left (came a w c) h = h.of

      recovered_left : (s : Stage) → MadeOf P n₀ s → Left (after_recovery t x rs n₀ s)
      recovered_left (stopped k) h = o
      recovered_left (came d w c) h =
          let d₀ : Applied = record { results = []; errors = d.errors; next = d.next } in
          if_left (is_nil d.results) (none_recovered rs d w) (term_taken rs n₀ (take_term t x (reverse d.results) d₀ w 0)) tt
          (taken_left (take_term t x (reverse d.results) d₀ w 0)
          (take_made x (reverse d.results) d₀ w 0 (all_reverse (OfEntries P) d.results [] h.of tt) (record { grows = h.grows; of = tt })))

      first_left : (p : Planned) → PlannedOf x p → Left (finish t x rs n₀ (first_of t x n₀ p))
      unfolding settle recover
      first_left (no_plan k) h = o
      first_left (plans ps left w c) h = at (is_nil a.results) (either (not t.recovers) (not (is_nil ps)))
        where
          a : Applied
          a = apply_all t x ps n₀

          at : (b d : Bool) → Left (finish t x rs n₀ (if not b then settles (some_took left w a) else if d then settles (none_took left w a) else must_recover w))
          at true true = h.1
          at true false = recovered_left (recover_all t rs (nothing_applied n₀) w 0) (recover_all_made rs (nothing_applied n₀) w 0 o (made_none P n₀))
          at false d = (h.0 n₀ (omega arith)).of

      pub feed_keeps : AllOf (OfEntries P) (feed t x rs n₀).readings
      unfolding feed first
      feed_keeps = first_left (plan_all t x.class (reverse rs) 0) (plan_made x (reverse rs) 0 (all_reverse (OfEntries P) rs [] o tt))

-- Births only go up, whatever the entries.
anything : (s : List Entry) → AllOf (λ (e : Entry). Unit {0}) s
anything [] = tt
anything (e ∷ s) = (tt, anything s)

anywhere : (w : Walk) → Leads (λ to. Unit {0}) w
anywhere (shift None) = tt
anywhere (shift (Some to)) = tt
anywhere (reduce k to below beside) = (tt, anywhere below, anywhere beside)

pub apply_grows : (t : Table) (x : Term) (w : Walk) (r : Reading) (n : ℕ) → n ≤ (apply t x w r n).next
apply_grows t x w r n =
    (apply_made (λ e. Unit {0}) (λ to. Unit {0}) 0 (record { born = λ e l k. tt; longer = λ e end m l h. tt }) t x w (anywhere w) r n (omega arith) (anything r.stack)).grows
