-- What a feed without recovery leaves, as a function of the plain readings alone.
use Prim.Native.Nat.{ℕ, ◌+◌, ◌≤◌}
use mathlib.Core.Path.{◌≡◌, refl, sym, ap, ap₂, ◌∙◌, subst}
use mathlib.Core.List.{List, [], ◌∷◌, ◌++◌, map, reverse}
use mathlib.Core.Bool.{Bool, true, false, not}
use native.Mathlib.Omega.{arith}
use Rattle.std.proofs.lemmas.List.{map-append}
use Rattle.meaning.specs.Basics.{either, is_nil, flat, AllOf}
use Rattle.std.specs.Prelude.{if◌then◌else◌}
use Rattle.meaning.specs.Answers.{number}
use Rattle.meaning.specs.TableFile.{Table}
use Rattle.meaning.specs.Readings.{Reading, states, plain_entry, plain}
use Rattle.meaning.specs.Walk.{Walk, Walked, refused, walked, plan, ends, size, chains}
use Rattle.meaning.specs.Applying.{apply, unplanned}
use Rattle.meaning.specs.Outcome.{Fed}
use Rattle.meaning.specs.Feeding.{Planned, no_plan, plans, add_reading, add_plan, plan_all, apply_all, some_took, none_took, First, refuses, settles, must_recover, settle, first_of, first, finish, feed, is_recovery, starts_recovery}
use Rattle.meaning.specs.Demand3.{Undisturbed}
use Rattle.meaning.specs.declared.Term.{Term}
use Rattle.meaning.specs.declared.ErrorRecord.{ErrorRecord}
use Rattle.meaning.specs.declared.Refusal.{Refusal}
use Rattle.meaning.specs.declared.Refusal.TheVariants.{WrongLength, WrongTable, WrongState, Consumed, WrongArgument, ReachesStart, NoGoto, TooHigh, ChainTooLong, WalkTooLong, TooManyReadings}
use Rattle.meaning.proofs.Trees.{tree_from, Is, walk_is, walk_again}
use Rattle.meaning.proofs.Plain.{got, errs, got_none, errs_none, apply_plain}
use Rattle.meaning.proofs.Renamed.{states_ren, unplanned_all}
use Rattle.meaning.proofs.Booleans.{IsTrue}
use Rattle.meaning.proofs.Tools.{map_reverse, nil_map}

-- a refusal's number is from 1 to 11
pub number_range : (k : Refusal) → (1 ≤ number k) × (number k ≤ 11)
number_range WrongLength = (omega arith, omega arith)
number_range WrongTable = (omega arith, omega arith)
number_range WrongState = (omega arith, omega arith)
number_range Consumed = (omega arith, omega arith)
number_range WrongArgument = (omega arith, omega arith)
number_range ReachesStart = (omega arith, omega arith)
number_range NoGoto = (omega arith, omega arith)
number_range TooHigh = (omega arith, omega arith)
number_range ChainTooLong = (omega arith, omega arith)
number_range WalkTooLong = (omega arith, omega arith)
number_range TooManyReadings = (omega arith, omega arith)

abbrev pub total : {A : Type 0} → (A → ℕ) → List A → ℕ
total f [] = 0
total f (a ∷ l) = f a + total f l

-- of one plain reading: its tree, what it gives, its errors, itself if it is unplanned
abbrev pub tree_of : Table → Term → Reading → Walk
tree_of t x p = tree_from 32 t x.class (states p.stack)

unfoldable pub got_of : Table → Term → Reading → List Reading
got_of t x p = got t x (tree_of t x p) p

unfoldable pub errs_of : Table → Term → Reading → List ErrorRecord
errs_of t x p = errs t x (tree_of t x p) p

unfoldable pub left_of : Table → Term → Reading → List Reading
left_of t x p = (if ends (tree_of t x p) then [] else p ∷ [])

unfoldable pub size_of : Table → Term → Reading → ℕ
size_of t x p = size (tree_of t x p)

unfoldable pub chains_of : Table → Term → Reading → ℕ
chains_of t x p = chains (tree_of t x p)

unfoldable pub planned_of : Table → Term → Reading → List Reading
planned_of t x p = (if ends (tree_of t x p) then p ∷ [] else [])

-- a reading whose walk is not refused, if there is room
pub record Free (t : Table) (x : Term) (p : Reading) : Type 0 where
  pub before : ℕ
  pub tree : Walk
  pub count : ℕ
  pub after : ℕ
  pub is : plan t 16 x.class (states p.stack) before ≡ walked tree count after

module _ (t : Table) (x : Term) where
  pub record Told (c : ℕ) (ps : List Reading) (tk : List (Reading × Walk)) (lf : List Reading) (w c' : ℕ) : Type 0 where
    pub results : (n : ℕ) → map plain (apply_all t x tk n).results ≡ flat (got_of t x) ps
    pub errors : (n : ℕ) → (apply_all t x tk n).errors ≡ flat (errs_of t x) ps
    pub left : map plain lf ≡ flat (left_of t x) ps
    pub walked : w ≡ total (size_of t x) ps
    pub chains : c' ≡ c + total (chains_of t x) ps
    pub fits : c ≤ 16 → c' ≤ 16
    pub free : AllOf (Free t x) ps
    pub taken : is_nil tk ≡ is_nil (flat (planned_of t x) ps)

  abbrev ToldOf : ℕ → List Reading → Planned → Type 0
  ToldOf c ps (no_plan k) = Unit {0}
  ToldOf c ps (plans tk lf w c') = Told c ps tk lf w c'

  one_told : (r : Reading) (tree : Walk) (n c c₁ : ℕ) → tree ≡ tree_of t x (plain r) → n ≡ size tree → c₁ ≡ c + chains tree → (c ≤ 16 → c₁ ≤ 16) → Free t x (plain r)
      → (b : Bool) → ends tree ≡ b → (ps : List Reading) (tk : List (Reading × Walk)) (lf : List Reading) (w c' : ℕ) → Told c₁ ps tk lf w c'
      → ToldOf c (plain r ∷ ps) (if b then plans ((r, tree) ∷ tk) lf (n + w) c' else plans tk (r ∷ lf) (n + w) c')
  unfolding got_of errs_of left_of size_of chains_of planned_of apply_all
  one_told r tree n c c₁ is ns cs room fr true e ps tk lf w c' h =
      let s : size tree ≡ size (tree_of t x (plain r)) = ap size is in
      let d : chains tree ≡ chains (tree_of t x (plain r)) = ap chains is in
      let hw = h.walked in
      let hc = h.chains in
      record {
        results = λ m. map-append plain (apply t x tree r m).results (apply_all t x tk (apply t x tree r m).next).results
            ∙ ap₂ {C = List Reading} (λ a b. a ++ b) ((apply_plain t x tree r m).0 ∙ ap (λ (v : Walk). got t x v (plain r)) is) (h.results (apply t x tree r m).next);
        errors = λ m. ap₂ {C = List ErrorRecord} (λ a b. a ++ b) ((apply_plain t x tree r m).1 ∙ ap (λ (v : Walk). errs t x v (plain r)) is) (h.errors (apply t x tree r m).next);
        left = h.left ∙ ap {B = List Reading} (λ (b : Bool). (if b then [] else plain r ∷ []) ++ flat (left_of t x) ps) (sym e ∙ ap ends is);
        walked = omega arith;
        chains = omega arith;
        fits = λ g. h.fits (room g);
        free = (fr, h.free);
        taken = ap (λ (b : Bool). is_nil ((if b then plain r ∷ [] else []) ++ flat (planned_of t x) ps)) (sym e ∙ ap ends is);
      }
  one_told r tree n c c₁ is ns cs room fr false e ps tk lf w c' h =
      let s : size tree ≡ size (tree_of t x (plain r)) = ap size is in
      let d : chains tree ≡ chains (tree_of t x (plain r)) = ap chains is in
      let hw = h.walked in
      let hc = h.chains in
      let dead : ends (tree_of t x (plain r)) ≡ false = sym (ap ends is) ∙ e in
      record {
        results = λ m. h.results m ∙ ap {B = List Reading} (λ l. l ++ flat (got_of t x) ps) (sym (got_none t x (tree_of t x (plain r)) (plain r) dead));
        errors = λ m. h.errors m ∙ ap {B = List ErrorRecord} (λ l. l ++ flat (errs_of t x) ps) (sym (errs_none t x (tree_of t x (plain r)) (plain r) dead));
        left = ap {B = List Reading} (λ l. plain r ∷ l) h.left ∙ ap {B = List Reading} (λ (b : Bool). (if b then [] else plain r ∷ []) ++ flat (left_of t x) ps) (sym dead);
        walked = omega arith;
        chains = omega arith;
        fits = λ g. h.fits (room g);
        free = (fr, h.free);
        taken = h.taken ∙ ap (λ (b : Bool). is_nil ((if b then plain r ∷ [] else []) ++ flat (planned_of t x) ps)) (sym dead);
      }

  add_told : (r : Reading) (tree : Walk) (n c c₁ : ℕ) → tree ≡ tree_of t x (plain r) → n ≡ size tree → c₁ ≡ c + chains tree → (c ≤ 16 → c₁ ≤ 16) → Free t x (plain r)
      → (ps : List Reading) (p : Planned) → ToldOf c₁ ps p → ToldOf c (plain r ∷ ps) (add_reading r tree n p)
  add_told r tree n c c₁ is ns cs room fr ps (no_plan k) h = h
  add_told r tree n c c₁ is ns cs room fr ps (plans tk lf w c') h = one_told r tree n c c₁ is ns cs room fr (ends tree) refl ps tk lf w c' h

  walk_told : (r : Reading) (c : ℕ) (ps : List Reading) (go : ℕ → Planned) → ((c₁ : ℕ) → ToldOf c₁ ps (go c₁))
      → (v : Walked) → plan t 16 x.class (states r.stack) c ≡ v → ToldOf c (plain r ∷ ps) (add_plan r v go)
  unfolding plan
  walk_told r c ps go h (refused k) e = tt
  walk_told r c ps go h (walked tree n c₁) e =
      let i : Is (tree_from 32 t x.class (states r.stack)) 16 0 c tree n c₁ = walk_is 32 t 16 x.class (states r.stack) 0 c tree n c₁ e in
      let s : size tree ≡ size (tree_from 32 t x.class (states r.stack)) = ap size i.tree_is in
      let d : chains tree ≡ chains (tree_from 32 t x.class (states r.stack)) = ap chains i.tree_is in
      let i1 = i.count_is in
      let i2 = i.chains_is in
      add_told r tree n c c₁ (i.tree_is ∙ ap (tree_from 32 t x.class) (sym (states_ren (λ b. 0) r.stack))) (omega arith) (omega arith) i.fits
      (record { before = c; tree = tree; count = n; after = c₁; is = ap (λ (st : List ℕ). plan t 16 x.class st c) (states_ren (λ b. 0) r.stack) ∙ e }) ps (go c₁) (h c₁)

  pub plan_told : (rs : List Reading) (c : ℕ) → ToldOf c (map plain rs) (plan_all t x.class rs c)
  unfolding plan_all apply_all
  plan_told [] c = record { results = λ n. refl; errors = λ n. refl; left = refl; walked = refl; chains = omega arith; fits = λ g. g; free = tt; taken = refl }
  plan_told (r ∷ rs) c = walk_told r c (map plain rs) (λ c₁. plan_all t x.class rs c₁) (λ c₁. plan_told rs c₁) (plan t 16 x.class (states r.stack) c) refl

  -- a feed's outcome, told by the plain readings in the order in which they are planned
  pub record As (ps : List Reading) (f : Fed) : Type 0 where
    pub answer_is : f.answer ≡ (if is_nil (flat (got_of t x) ps) then 12 else 0)
    pub readings_are : map plain f.readings ≡ (if is_nil (flat (got_of t x) ps) then flat (left_of t x) ps else flat (got_of t x) ps)
    pub errors_are : f.errors ≡ flat (errs_of t x) ps ++ map unplanned (if is_nil (flat (got_of t x) ps) then flat (left_of t x) ps else reverse (flat (left_of t x) ps))
    pub walked_is : f.walked ≡ total (size_of t x) ps

  abbrev pub recovering : List Reading → Bool
  recovering ps = (if is_nil (flat (got_of t x) ps) then not (either (not t.recovers) (not (is_nil (flat (planned_of t x) ps)))) else false)

  -- nothing of the planning is refused, whatever the order
  pub record Quiet (ps : List Reading) : Type 0 where
    pub free : AllOf (Free t x) ps
    pub room : total (chains_of t x) ps ≤ 16

  abbrev pub AsOf : List Reading → First → Type 0
  AsOf ps (refuses k) = Unit {0}
  AsOf ps (settles f) = As ps f × (recovering ps ≡ false) × Quiet ps
  AsOf ps (must_recover w) = recovering ps ≡ true

  recover_flag : (ps : List Reading) (tk : List (Reading × Walk)) (lf : List Reading) (w c' n : ℕ) → Told 0 ps tk lf w c'
      → (b : Bool) → is_nil (apply_all t x tk n).results ≡ b → (d : Bool) → either (not t.recovers) (not (is_nil tk)) ≡ d → recovering ps ≡ (if b then not d else false)
  recover_flag ps tk lf w c' n h b e d f =
      ap₂ {C = Bool} (λ (u v : Bool). if u then not v else false) (sym (ap is_nil (h.results n)) ∙ nil_map plain (apply_all t x tk n).results ∙ e)
      (ap (λ (u : Bool). either (not t.recovers) (not u)) (sym h.taken) ∙ f)

  quiet : (ps : List Reading) (tk : List (Reading × Walk)) (lf : List Reading) (w c' : ℕ) → Told 0 ps tk lf w c' → Quiet ps
  quiet ps tk lf w c' h =
      let a = h.chains in
      let b = h.fits (omega arith) in
      record { free = h.free; room = omega arith }

  settle_told : (ps : List Reading) (tk : List (Reading × Walk)) (lf : List Reading) (w c' n : ℕ) → Told 0 ps tk lf w c'
      → (b : Bool) → is_nil (apply_all t x tk n).results ≡ b → (d : Bool) → either (not t.recovers) (not (is_nil tk)) ≡ d
      → AsOf ps (if not b then settles (some_took lf w (apply_all t x tk n)) else if d then settles (none_took lf w (apply_all t x tk n)) else must_recover w)
  settle_told ps tk lf w c' n h true e false f = recover_flag ps tk lf w c' n h true e false f
  settle_told ps tk lf w c' n h true e true f =
      let nil : true ≡ is_nil (flat (got_of t x) ps) = sym e ∙ sym (nil_map plain (apply_all t x tk n).results) ∙ ap is_nil (h.results n) in (
        record {
          answer_is = ap (λ (b : Bool). if b then 12 else 0) nil;
          readings_are = h.left ∙ ap (λ (b : Bool). if b then flat (left_of t x) ps else flat (got_of t x) ps) nil;
          errors_are = ap₂ {C = List ErrorRecord} (λ a l. a ++ l) (h.errors n)
              (sym (unplanned_all (λ b. 0) lf) ∙ ap (map unplanned) (h.left ∙ ap (λ (b : Bool). if b then flat (left_of t x) ps else reverse (flat (left_of t x) ps)) nil));
          walked_is = h.walked;
        },
        recover_flag ps tk lf w c' n h true e true f,
        quiet ps tk lf w c' h,
      )
  settle_told ps tk lf w c' n h false e d f =
      let nil : false ≡ is_nil (flat (got_of t x) ps) = sym e ∙ sym (nil_map plain (apply_all t x tk n).results) ∙ ap is_nil (h.results n) in (
        record {
          answer_is = ap (λ (b : Bool). if b then 12 else 0) nil;
          readings_are = h.results n ∙ ap (λ (b : Bool). if b then flat (left_of t x) ps else flat (got_of t x) ps) nil;
          errors_are = ap₂ {C = List ErrorRecord} (λ a l. a ++ l) (h.errors n)
              (sym (unplanned_all (λ b. 0) (reverse lf)) ∙ ap (map unplanned) (map_reverse plain lf [] ∙ ap reverse h.left ∙ ap (λ (b : Bool). if b then flat (left_of t x) ps else reverse (flat (left_of t x) ps)) nil));
          walked_is = h.walked;
        },
        recover_flag ps tk lf w c' n h false e d f,
        quiet ps tk lf w c' h,
      )

  planned_told : (ps : List Reading) (n : ℕ) (p : Planned) → ToldOf 0 ps p → AsOf ps (first_of t x n p)
  unfolding settle
  planned_told ps n (no_plan k) h = h
  planned_told ps n (plans tk lf w c) h = settle_told ps tk lf w c n h (is_nil (apply_all t x tk n).results) refl (either (not t.recovers) (not (is_nil tk))) refl

  pub first_told : (rs : List Reading) (n : ℕ) → AsOf (map plain (reverse rs)) (first t x rs n)
  unfolding first
  first_told rs n = planned_told (map plain (reverse rs)) n (plan_all t x.class (reverse rs) 0) (plan_told (reverse rs) 0)

  finish_told : (ps rs : List Reading) (n : ℕ) (f : First) → AsOf ps f → is_recovery f ≡ false → ((1 ≤ (finish t x rs n f).answer) × ((finish t x rs n f).answer ≤ 11) → ⊥) → As ps (finish t x rs n f) × (recovering ps ≡ false) × Quiet ps
  finish_told ps rs n (refuses k) h e g =
      absurd (g (number_range k))
  finish_told ps rs n (settles f) h e g = h
  finish_told ps rs n (must_recover w) h e g = absurd (subst IsTrue e tt)

  pub feed_told : (rs : List Reading) (n : ℕ) → Undisturbed t x rs n → As (map plain (reverse rs)) (feed t x rs n) × (recovering (map plain (reverse rs)) ≡ false) × Quiet (map plain (reverse rs))
  unfolding starts_recovery feed
  feed_told rs n u = finish_told (map plain (reverse rs)) rs n (first t x rs n) (first_told rs n) u.no_recovery u.not_refused

  -- the other way: with nothing to refuse, planning is not refused
  abbrev GoesOn : Planned → Type 0
  GoesOn (no_plan k) = ⊥
  GoesOn (plans tk lf w c) = Unit {0}

  add_on : (r : Reading) (tree : Walk) (n : ℕ) (p : Planned) → GoesOn p → GoesOn (add_reading r tree n p)
  add_on r tree n (no_plan k) h = h
  add_on r tree n (plans tk lf w c) h = at (ends tree)
    where
      at : (b : Bool) → GoesOn (if b then plans ((r, tree) ∷ tk) lf (n + w) c else plans tk (r ∷ lf) (n + w) c)
      at true = tt
      at false = tt

  plan_on : (rs : List Reading) (c : ℕ) → AllOf (Free t x) (map plain rs) → c + total (chains_of t x) (map plain rs) ≤ 16 → GoesOn (plan_all t x.class rs c)
  unfolding chains_of plan_all plan
  plan_on [] c f l = tt
  plan_on (r ∷ rs) c f l =
      let p = f.0 in
      let e : plan t 16 x.class (states r.stack) p.before ≡ walked p.tree p.count p.after = ap (λ (st : List ℕ). plan t 16 x.class st p.before) (sym (states_ren (λ b. 0) r.stack)) ∙ p.is in
      let i = walk_is 32 t 16 x.class (states (map plain_entry r.stack)) 0 p.before p.tree p.count p.after p.is in
      let d : chains p.tree ≡ chains (tree_of t x (plain r)) = ap chains i.tree_is in
      let a = walk_again 32 t 16 x.class (states r.stack) 0 p.before p.tree p.count p.after e c (omega arith) in
      subst (λ (v : Walked). GoesOn (add_plan r v (λ c'. plan_all t x.class rs c'))) (sym a)
      (add_on r p.tree p.count (plan_all t x.class rs (c + chains p.tree)) (plan_on rs (c + chains p.tree) f.1 (omega arith)))

  abbrev NotStop : First → Type 0
  NotStop (refuses k) = ⊥
  NotStop (settles f) = Unit {0}
  NotStop (must_recover w) = Unit {0}

  first_on : (n : ℕ) (p : Planned) → GoesOn p → NotStop (first_of t x n p)
  unfolding settle
  first_on n (no_plan k) h = h
  first_on n (plans tk lf w c) h = at (is_nil (apply_all t x tk n).results) (either (not t.recovers) (not (is_nil tk)))
    where
      at : (b d : Bool) → NotStop (if not b then settles (some_took lf w (apply_all t x tk n)) else if d then settles (none_took lf w (apply_all t x tk n)) else must_recover w)
      at true true = tt
      at true false = tt
      at false d = tt

  zero_or_twelve : (b : Bool) (k : ℕ) → k ≡ (if b then 12 else 0) → (1 ≤ k) × (k ≤ 11) → ⊥
  zero_or_twelve true k e h = let h0 = h.0 in let h1 = h.1 in omega arith
  zero_or_twelve false k e h = let h0 = h.0 in let h1 = h.1 in omega arith

  finish_on : (ps rs : List Reading) (n : ℕ) (f : First) → AsOf ps f → NotStop f → recovering ps ≡ false
      → (is_recovery f ≡ false) × ((1 ≤ (finish t x rs n f).answer) × ((finish t x rs n f).answer ≤ 11) → ⊥)
  finish_on ps rs n (refuses k) a s e = absurd s
  finish_on ps rs n (settles f) a s e = (refl, zero_or_twelve (is_nil (flat (got_of t x) ps)) f.answer a.0.answer_is)
  finish_on ps rs n (must_recover w) a s e = absurd (subst IsTrue (sym a ∙ e) tt)

  pub undisturbed : (rs : List Reading) (n : ℕ) → Quiet (map plain (reverse rs)) → recovering (map plain (reverse rs)) ≡ false → Undisturbed t x rs n
  unfolding starts_recovery feed first
  undisturbed rs n q e =
      let l = q.room in
      let o = finish_on (map plain (reverse rs)) rs n (first t x rs n) (first_told rs n) (first_on n (plan_all t x.class (reverse rs) 0) (plan_on (reverse rs) 0 q.free (omega arith))) e in
      record { no_recovery = o.0; not_refused = o.1 }
