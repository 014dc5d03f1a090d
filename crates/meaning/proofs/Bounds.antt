-- The bounds of a feed: errors, readings, heights, births, reductions walked.
use Prim.Native.Nat.{ℕ, suc, ◌+◌, ◌*◌, ◌≤◌, ◌<◌}
use mathlib.Core.Path.{◌≡◌, refl, sym, subst}
use mathlib.Core.List.{List, [], ◌∷◌, ◌++◌, map, reverse}
use mathlib.Core.Bool.{Bool, true, false, not}
use lib.ListN.{length, length-append}
use lib.Dec.{ltb, T, ltb→lt}
use native.Mathlib.Omega.{arith}
use Rattle.meaning.specs.Basics.{either, is_nil, AllOf}
use Rattle.std.specs.Prelude.{if◌then◌else◌}
use Rattle.meaning.specs.Limits.{max_readings}
use Rattle.meaning.specs.TableFile.{Table}
use Rattle.meaning.specs.Readings.{Entry, Reading, states}
use Rattle.meaning.specs.Walk.{Walk, Walked, refused, walked, plan, ends}
use Rattle.meaning.specs.Applying.{Applied, apply, nothing_applied, one_result, joined, unplanned}
use Rattle.meaning.specs.Outcome.{Fed, refusal}
use Rattle.meaning.specs.Recovery.{Stage, stopped, came, then_stage, if_planned, error_term, is_held, recover_one, recover_all, longer_top, stays, take_term, term_taken, none_recovered, after_recovery, recover}
use Rattle.meaning.specs.Feeding.{Planned, no_plan, plans, add_reading, add_plan, plan_all, apply_all, some_took, none_took, settles, must_recover, settle, first_of, first, finish, feed}
use Rattle.meaning.specs.Bounds.{Standing, Bounded}
use Rattle.meaning.specs.declared.Term.{Term}
use Rattle.meaning.specs.declared.Refusal.{Refusal}
use Rattle.meaning.specs.declared.Refusal.TheVariants.{TooManyReadings}
use Rattle.meaning.proofs.Within.{Within, joined_within, nothing_within, wider, PlannedWithin, planned_within}
use Rattle.meaning.proofs.Tools.{length-map, length-reverse, all_append, all_reverse}

module _ (t : Table) (x : Term) where
  -- The first planning: `many` readings are still to come after c chains.
  record Taken (c many : ℕ) (ps : List (Reading × Walk)) (left : List Reading) (w c' : ℕ) : Type 0 where
    few : ℕ
    count : c' ≡ c + few
    fits : c ≤ 16 → c' ≤ 16
    left_few : length left ≤ many
    left_stands : AllOf Standing left
    walked_few : w ≤ 1024 * many
    out : (n : ℕ) → Within n few (33 * few) (apply_all t x ps n)

  abbrev TakenOf : ℕ → ℕ → Planned → Type 0
  TakenOf c many (no_plan k) = Unit {0}
  TakenOf c many (plans ps left w c') = Taken c many ps left w c'

  one_taken : (r : Reading) (tree : Walk) (k c c₁ : ℕ) → Standing r → PlannedWithin t x r c tree k c₁
      → (b : Bool) (many : ℕ) (ps : List (Reading × Walk)) (left : List Reading) (w c' : ℕ) → Taken c₁ many ps left w c'
      → TakenOf c (suc many) (if b then plans ((r, tree) ∷ ps) left (k + w) c' else plans ps (r ∷ left) (k + w) c')
  unfolding apply_all
  one_taken r tree k c c₁ s p true many ps left w c' h =
      let p1 = p.count in let p2 = p.walked_few in
      let h1 = h.count in let h2 = h.left_few in let h3 = h.walked_few in
      record {
        few = p.few + h.few;
        count = omega arith;
        fits = λ g. h.fits (p.fits g);
        left_few = omega arith;
        left_stands = h.left_stands;
        walked_few = omega arith;
        out = λ n.
            let o = apply t x tree r n in
            wider n (p.few + h.few) (33 * p.few + 33 * h.few) (p.few + h.few) (33 * (p.few + h.few)) (joined o (apply_all t x ps o.next)) (omega arith) (omega arith)
            (joined_within n p.few h.few (33 * p.few) (33 * h.few) o (apply_all t x ps o.next) (p.out n) (h.out o.next));
      }
  one_taken r tree k c c₁ s p false many ps left w c' h =
      let p1 = p.count in let p2 = p.walked_few in
      let h1 = h.count in let h2 = h.left_few in let h3 = h.walked_few in
      record {
        few = p.few + h.few;
        count = omega arith;
        fits = λ g. h.fits (p.fits g);
        left_few = omega arith;
        left_stands = (s, h.left_stands);
        walked_few = omega arith;
        out = λ n. wider n h.few (33 * h.few) (p.few + h.few) (33 * (p.few + h.few)) (apply_all t x ps n) (omega arith) (omega arith) (h.out n);
      }

  add_taken : (r : Reading) (tree : Walk) (k c c₁ : ℕ) → Standing r → PlannedWithin t x r c tree k c₁
      → (many : ℕ) (p : Planned) → TakenOf c₁ many p → TakenOf c (suc many) (add_reading r tree k p)
  add_taken r tree k c c₁ s p many (no_plan e) h = tt
  add_taken r tree k c c₁ s p many (plans ps left w c') h = one_taken r tree k c c₁ s p (ends tree) many ps left w c' h

  walk_taken : (r : Reading) (c many : ℕ) → Standing r → (go : ℕ → Planned) → ((c₁ : ℕ) → TakenOf c₁ many (go c₁)) → (v : Walked) → plan t 16 x.class (states r.stack) c ≡ v
      → TakenOf c (suc many) (add_plan r v go)
  walk_taken r c many s go h (refused k) e = tt
  walk_taken r c many s go h (walked tree k c₁) e = add_taken r tree k c c₁ s (planned_within t x x.class r c tree k c₁ e) many (go c₁) (h c₁)

  plan_taken : (rs : List Reading) (c : ℕ) → AllOf Standing rs → TakenOf c (length rs) (plan_all t x.class rs c)
  unfolding plan_all apply_all
  plan_taken [] c s = record { few = 0; count = omega arith; fits = λ g. g; left_few = omega arith; left_stands = tt; walked_few = omega arith; out = λ n. nothing_within n 0 0 }
  plan_taken (r ∷ rs) c s = walk_taken r c (length rs) s.0 (λ c₁. plan_all t x.class rs c₁) (λ c₁. plan_taken rs c₁ s.1) (plan t 16 x.class (states r.stack) c) refl

-- Recovery's first stage: one reading, from birth n, after w reductions and c chains, with so many heights left to try.
record One (n w c heights : ℕ) (o : Applied) (w' c' : ℕ) : Type 0 where
  few : ℕ
  count : c' ≡ c + few
  fits : c ≤ 16 → c' ≤ 16
  out : Within n few (33 * few) o
  walked_few : w' ≤ w + 1024 * heights

abbrev OneOf : (n w c heights : ℕ) → Stage → Type 0
OneOf n w c h (stopped k) = Unit {0}
OneOf n w c h (came o w' c') = One n w c h o w' c'

if_one : (n w c h : ℕ) (b : Bool) (p q : Stage) → OneOf n w c h p → OneOf n w c h q → OneOf n w c h (if b then p else q)
if_one n w c h true p q a b = a
if_one n w c h false p q a b = b

one_more : (n w c h k c₁ few : ℕ) → k ≤ 1024 → c₁ ≡ c + few → (c ≤ 16 → c₁ ≤ 16) → (p : Stage) → OneOf n (w + k) c₁ h p → OneOf n w c (suc h) p
one_more n w c h k c₁ few l e f (stopped s) a = tt
one_more n w c h k c₁ few l e f (came o w' c') a =
    let a1 = a.count in let a2 = a.walked_few in
    record { few = few + a.few; count = omega arith; fits = λ g. a.fits (f g); out = wider n a.few (33 * a.few) (few + a.few) (33 * (few + a.few)) o (omega arith) (omega arith) a.out; walked_few = omega arith }

one_within : (t : Table) (held : List Reading) (m : ℕ) (rest whole : List Entry) (p n w c : ℕ) → OneOf n w c (length rest) (recover_one t held m rest whole p n w c)
unfolding recover_one
one_within t held m [] whole p n w c = record { few = 0; count = omega arith; fits = λ g. g; out = nothing_within n 0 0; walked_few = omega arith }
one_within t held m (e ∷ rest) whole p n w c =
    if_one n w c (suc (length rest)) (is_held held e) (came (nothing_applied n) w c) (if_planned (plan t 16 1 (states (e ∷ rest)) c) found pops)
    (record { few = 0; count = omega arith; fits = λ g. g; out = nothing_within n 0 0; walked_few = omega arith })
    (at (plan t 16 1 (states (e ∷ rest)) c) refl (λ k c'. one_within t held m rest whole (p + 1) n (w + k) c'))
  where
    r : Reading
    r = record { mark = m; stack = e ∷ rest }

    found : Walk → ℕ → ℕ → Stage
    found tree k c' = came (apply t (error_term whole p) tree r n) (w + k) c'

    pops : ℕ → ℕ → Stage
    pops k c' = recover_one t held m rest whole (p + 1) n (w + k) c'

    at : (v : Walked) → plan t 16 1 (states (e ∷ rest)) c ≡ v → ((k c' : ℕ) → OneOf n (w + k) c' (length rest) (pops k c')) → OneOf n w c (suc (length rest)) (if_planned v found pops)
    at (refused k) i h = tt
    at (walked tree k c') i h =
        let q = planned_within t (error_term whole p) 1 r c tree k c' i in
        let q1 = q.walked_few in
        if_one n w c (suc (length rest)) (ends tree) (found tree k c') (pops k c')
        (record { few = q.few; count = q.count; fits = q.fits; out = q.out n; walked_few = omega arith })
        (one_more n w c (length rest) k c' q.few q1 q.count q.fits (pops k c') (h k c'))

-- All readings: c counts the chains of the whole stage, and w₀ reductions were walked before it.
record All (n w₀ many c : ℕ) (o : Applied) (w : ℕ) : Type 0 where
  few : c ≤ 16
  out : Within n c (33 * c) o
  walked_few : w ≤ w₀ + 1024 * (64 * many)

abbrev AllWithin : (n w₀ many : ℕ) → Stage → Type 0
AllWithin n w₀ many (stopped k) = Unit {0}
AllWithin n w₀ many (came o w c) = All n w₀ many c o w

recover_within : (t : Table) (rs : List Reading) (n w₀ done : ℕ) (d : Applied) (w c : ℕ) → AllOf Standing rs → All n w₀ done c d w → AllWithin n w₀ (done + length rs) (recover_all t rs d w c)
unfolding recover_all
recover_within t [] n w₀ done d w c s h = let h1 = h.walked_few in record { few = h.few; out = h.out; walked_few = omega arith }
recover_within t (r ∷ rs) n w₀ done d w c s h =
    subst (λ (m : ℕ). AllWithin n w₀ m (then_stage first on)) (omega arith)
    (then_within first (one_within t (rs ++ d.results) r.mark r.stack r.stack 0 d.next w c) (λ o w' c' g. recover_within t rs n w₀ (done + 1) (joined d o) w' c' s.1 g))
  where
    first : Stage
    first = recover_one t (rs ++ d.results) r.mark r.stack r.stack 0 d.next w c

    on : Applied → ℕ → ℕ → Stage
    on o w' c' = recover_all t rs (joined d o) w' c'

    then_within : (p : Stage) → OneOf d.next w c (length r.stack) p
        → ((o : Applied) (w' c' : ℕ) → All n w₀ (done + 1) c' (joined d o) w' → AllWithin n w₀ (done + 1 + length rs) (on o w' c'))
        → AllWithin n w₀ (done + 1 + length rs) (then_stage p on)
    then_within (stopped k) g go = tt
    then_within (came o w' c') g go =
        let g1 = g.count in let g2 = g.walked_few in let h1 = h.walked_few in let high = s.0.1 in
        go o w' c' (record {
          few = g.fits h.few;
          out = wider n (c + g.few) (33 * c + 33 * g.few) c' (33 * c') (joined d o) (omega arith) (omega arith) (joined_within n c g.few (33 * c) (33 * g.few) d o h.out g.out);
          walked_few = omega arith;
        })

-- Recovery's second stage, which begins at birth n with `old` errors and w₀ reductions walked.
record Takes (n old w₀ many c : ℕ) (o : Applied) (w : ℕ) : Type 0 where
  few : c ≤ 16
  taken : length o.results ≤ c
  refusals : length o.errors ≤ old + c
  grows : n ≤ o.next
  births_are : o.next ≤ n + 33 * c
  standing : AllOf Standing o.results
  walked_few : w ≤ w₀ + 1024 * many

abbrev TakesOf : (n old w₀ many : ℕ) → Stage → Type 0
TakesOf n old w₀ many (stopped k) = Unit {0}
TakesOf n old w₀ many (came o w c) = Takes n old w₀ many c o w

if_takes : (n old w₀ many : ℕ) (b : Bool) (p q : Stage) → (b ≡ true → TakesOf n old w₀ many p) → TakesOf n old w₀ many q → TakesOf n old w₀ many (if b then p else q)
if_takes n old w₀ many true p q h g = h refl
if_takes n old w₀ many false p q h g = g

stays_stands : (r : Reading) (e n : ℕ) → Standing r → Standing (stays r e n)
unfolding stays longer_top
stays_stands r e n h = subst (λ (k : ℕ). (1 ≤ k) × (k ≤ 64)) (sym (same r.stack)) h
  where
    same : (s : List Entry) → length (longer_top s e n) ≡ length s
    same [] = refl
    same (a ∷ s) = refl

take_within : (t : Table) (x : Term) (rs : List Reading) (n old w₀ done : ℕ) (d : Applied) (w c : ℕ) → AllOf Standing rs → Takes n old w₀ done c d w
    → TakesOf n old w₀ (done + length rs) (take_term t x rs d w c)
unfolding take_term
take_within t x [] n old w₀ done d w c s h =
    let h1 = h.walked_few in
    record { few = h.few; taken = h.taken; refusals = h.refusals; grows = h.grows; births_are = h.births_are; standing = h.standing; walked_few = omega arith }
take_within t x (r ∷ rs) n old w₀ done d w c s h =
    subst (λ (m : ℕ). TakesOf n old w₀ m (if_planned (plan t 16 x.class (states r.stack) c) takes stay)) (omega arith)
    (at (plan t 16 x.class (states r.stack) c) refl (λ d' w' c' h'. take_within t x rs n old w₀ (done + 1) d' w' c' s.1 h'))
  where
    takes : Walk → ℕ → ℕ → Stage
    takes tree k c' = take_term t x rs (joined d (apply t x tree r d.next)) (w + k) c'

    stayed : Applied
    stayed = one_result (stays r x.end d.next) (d.next + 1)

    stay : ℕ → ℕ → Stage
    stay k c' = if ltb c' 16 then take_term t x rs (joined d stayed) (w + k) (c' + 1) else stopped TooManyReadings

    at : (v : Walked) → plan t 16 x.class (states r.stack) c ≡ v
        → ((d' : Applied) (w' c' : ℕ) → Takes n old w₀ (done + 1) c' d' w' → TakesOf n old w₀ (done + 1 + length rs) (take_term t x rs d' w' c'))
        → TakesOf n old w₀ (done + 1 + length rs) (if_planned v takes stay)
    at (refused k) e go = tt
    at (walked tree k c') e go =
        let q = planned_within t x x.class r c tree k c' e in
        let o = apply t x tree r d.next in
        let q1 = q.count in let q2 = q.fits h.few in let q3 = q.walked_few in
        let a1 = (q.out d.next).both in let a2 = (q.out d.next).grows in let a3 = (q.out d.next).births_are in
        let b1 = h.taken in let b2 = h.refusals in let b3 = h.grows in let b4 = h.births_are in let b5 = h.walked_few in
        let e1 = length-append d.results o.results in
        let e2 = length-append d.errors o.errors in
        let f1 = length-append d.results (stays r x.end d.next ∷ []) in
        let f2 = length-append d.errors [] in
        if_takes n old w₀ (done + 1 + length rs) (ends tree) (takes tree k c') (stay k c')
        (λ _. go (joined d o) (w + k) c' (record {
          few = q2;
          taken = omega arith;
          refusals = omega arith;
          grows = omega arith;
          births_are = omega arith;
          standing = all_append Standing d.results o.results h.standing (q.out d.next).standing;
          walked_few = omega arith;
        }))
        (if_takes n old w₀ (done + 1 + length rs) (ltb c' 16) (take_term t x rs (joined d stayed) (w + k) (c' + 1)) (stopped TooManyReadings)
        (λ b. let less : c' < 16 = ltb→lt c' 16 (subst T (sym b) tt) in
        go (joined d stayed) (w + k) (c' + 1) (record {
          few = omega arith;
          taken = omega arith;
          refusals = omega arith;
          grows = omega arith;
          births_are = omega arith;
          standing = all_append Standing d.results (stays r x.end d.next ∷ []) h.standing (stays_stands r x.end d.next s.0, tt);
          walked_few = omega arith;
        }))
        tt)

-- The whole feed, with at most 16 readings that stand.
module _ (rs : List Reading) (n : ℕ) (few : length rs ≤ 16) (stand : AllOf Standing rs) where
  refusal_bounded : (k : Refusal) → Bounded n (refusal k rs n)
  refusal_bounded k = record { errors = omega arith; readings = few; heights = stand; grows = omega arith; births = omega arith; walked = omega arith }

  if_bounded : (b : Bool) (f g : Fed) → Bounded n f → Bounded n g → Bounded n (if b then f else g)
  if_bounded true f g h k = h
  if_bounded false f g h k = k

  taken_bounded : (m old w₀ many : ℕ) → old ≤ 16 → n ≤ m → m ≤ n + 16 * 33 → w₀ ≤ 1024 * (16 + 64 * 16) → many ≤ 16 → (s : Stage) → TakesOf m old w₀ many s → Bounded n (term_taken rs n s)
  taken_bounded m old w₀ many a b c d e (stopped k) s = refusal_bounded k
  taken_bounded m old w₀ many a b c d e (came o w count) s =
      let s0 = s.few in let s1 = s.taken in let s2 = s.refusals in let s3 = s.grows in let s4 = s.births_are in let s5 = s.walked_few in
      record { errors = omega arith; readings = omega arith; heights = s.standing; grows = omega arith; births = omega arith; walked = omega arith }

  recovery_bounded : (t : Table) (x : Term) (w₀ : ℕ) → w₀ ≤ 1024 * 16 → (p : Stage) → AllWithin n w₀ (length rs) p → Bounded n (after_recovery t x rs n p)
  recovery_bounded t x w₀ l (stopped k) a = refusal_bounded k
  recovery_bounded t x w₀ l (came d w c) a =
      let a0 = a.few in let a1 = a.out.both in let a2 = a.out.grows in let a3 = a.out.births_are in let a4 = a.walked_few in
      let e1 = length-append d.errors (map unplanned (reverse rs)) in
      let e2 = length-map unplanned (reverse rs) in
      let e3 = length-reverse rs [] in
      let e4 = length-reverse d.results [] in
      let d₀ : Applied = record { results = []; errors = d.errors; next = d.next } in
      if_bounded (is_nil d.results) (none_recovered rs d w) (term_taken rs n (take_term t x (reverse d.results) d₀ w 0))
      (record { errors = omega arith; readings = omega arith; heights = tt; grows = omega arith; births = omega arith; walked = omega arith })
      (taken_bounded d.next (length d.errors) w (0 + length (reverse d.results)) (omega arith) (omega arith) (omega arith) (omega arith) (omega arith) (take_term t x (reverse d.results) d₀ w 0)
      (take_within t x (reverse d.results) d.next (length d.errors) w 0 d₀ w 0 (all_reverse Standing d.results [] a.out.standing tt)
      (record { few = omega arith; taken = omega arith; refusals = omega arith; grows = omega arith; births_are = omega arith; standing = tt; walked_few = omega arith })))

  recover_bounded : (t : Table) (x : Term) (w : ℕ) → w ≤ 1024 * 16 → Bounded n (recover t x rs n w)
  unfolding recover
  recover_bounded t x w l =
      recovery_bounded t x w l (recover_all t rs (nothing_applied n) w 0)
      (subst (λ (m : ℕ). AllWithin n w m (recover_all t rs (nothing_applied n) w 0)) (omega arith)
      (recover_within t rs n w 0 (nothing_applied n) w 0 stand (record { few = omega arith; out = nothing_within n 0 (33 * 0); walked_few = omega arith })))

  settle_bounded : (t : Table) (x : Term) (p : Planned) → TakenOf t x 0 (length (reverse rs)) p → Bounded n (finish t x rs n (first_of t x n p))
  unfolding settle
  settle_bounded t x (no_plan k) a = refusal_bounded k
  settle_bounded t x (plans ps left w c) a = at (is_nil o.results) (either (not t.recovers) (not (is_nil ps)))
    where
      o : Applied
      o = apply_all t x ps n

      at : (b d : Bool) → Bounded n (finish t x rs n (if not b then settles (some_took left w o) else if d then settles (none_took left w o) else must_recover w))
      at true true =
          let a1 = a.count in let a2 = a.fits (omega arith) in let a3 = a.left_few in let a4 = a.walked_few in
          let b1 = (a.out n).both in let b2 = (a.out n).grows in let b3 = (a.out n).births_are in
          let e1 = length-append o.errors (map unplanned left) in
          let e2 = length-map unplanned left in
          let e3 = length-reverse rs [] in
          record { errors = omega arith; readings = omega arith; heights = a.left_stands; grows = omega arith; births = omega arith; walked = omega arith }
      at true false = let a4 = a.walked_few in let e3 = length-reverse rs [] in recover_bounded t x w (omega arith)
      at false d =
          let a1 = a.count in let a2 = a.fits (omega arith) in let a3 = a.left_few in let a4 = a.walked_few in
          let b1 = (a.out n).both in let b2 = (a.out n).grows in let b3 = (a.out n).births_are in
          let e1 = length-append o.errors (map unplanned (reverse left)) in
          let e2 = length-map unplanned (reverse left) in
          let e3 = length-reverse rs [] in
          let e4 = length-reverse left [] in
          record { errors = omega arith; readings = omega arith; heights = (a.out n).standing; grows = omega arith; births = omega arith; walked = omega arith }

pub bounds : (t : Table) (x : Term) (rs : List Reading) (next : ℕ) → length rs ≤ max_readings → AllOf Standing rs → Bounded next (feed t x rs next)
unfolding feed first
bounds t x rs n few stand = settle_bounded rs n few stand t x (plan_all t x.class (reverse rs) 0) (plan_taken t x (reverse rs) 0 (all_reverse Standing rs [] stand tt))
