-- The first planning: the pass over a state, and what it comes to by meaning's rule. Assumes nothing.
use Prim.Native.Nat.{ℕ, ◌+◌, ◌<◌, ◌≤◌}
use native.Mathlib.Omega.{arith}
use mathlib.Core.Path.{◌≡◌, refl, sym, ap, ◌∙◌, subst}
use mathlib.Core.Bool.{Bool, true, false}
use mathlib.Core.List.{List, [], ◌∷◌, ◌++◌, reverse, append-nil, append_assoc}
use Rattle.std.specs.Prelude.{if◌then◌else◌, Ok}
use Rattle.meaning.specs.Readings.{Reading, states}
use Rattle.meaning.specs.TableFile.{Table}
use Rattle.meaning.specs.Walk.{Walk, Walked, refused, walked, plan, ends}
use Rattle.meaning.specs.Applying.{Applied, apply, joined, nothing_applied}
use Rattle.meaning.specs.Feeding.{First as Meant, refuses, first}
use Rattle.meaning.specs.declared.Refusal.{Refusal}
use Rattle.meaning.specs.declared.Term.{Term}
use Rattle.meaning.proofs.Trees.{ends_chain, no_chain}
use Rattle.state.specs.Readings.{count_of, used_of, readings_from, readings_of}
use Rattle.state.proofs.Births.{first_finds}
use Rattle.state.proofs.Lists.{all_stand_kept}
use Rattle.actions.specs.Errors.{errors_from}
use Rattle.actions.specs.Telling.{Area}
use Rattle.taking.specs.declared.SoFar.{SoFar}
use Rattle.feeding.specs.OnePass.{Pass as MeantPass, stopped, passed, on_walk, one_pass, first_of_pass}
use Rattle.feeding.specs.Passing.{PassReady, Passes, pass_from}
use Rattle.feeding.specs.Ending.{EndReady, EndsWith, Waits, SettledIs, FirstReady, pass_over, MustRecover, Settles, FirstIs}
use Rattle.feeding.specs.declared.Ended.{Ended}
use Rattle.feeding.specs.declared.First.{First}
use Rattle.feeding.specs.declared.First.TheVariants as at_first
use Rattle.feeding.proofs.OnePass.{one_pass_lem, counted}
use Rattle.feeding.proofs.Turns.{Goes}

abbrev begun : (used : ℕ) → SoFar
begun used = record { counts = record { cells = used; results = 0; errors = 0 }; walked = 0; chains = 0 }

-- The pass begins with no result, no error and no reading left.
module _ (t : Table) (x : Term) (state w : List ℕ) (y : FirstReady state w) (used count : ℕ) (u : used ≡ used_of state) (c : count ≡ count_of state) where
  begins_ready : PassReady state w count (begun used) 0
  begins_ready =
      let few = y.few in let small = y.loaded.used in
      record {
        stands =
            record {
              loaded = y.loaded;
              below = omega arith;
              area = record { long = y.long; low = omega arith; high = omega arith; cells = omega arith; results = omega arith; errors = omega arith; stand = λ j p q. absurd (omega arith) };
              lefts = λ j p q. absurd (omega arith);
              few = omega arith;
              found = first_finds used (omega arith);
              paced = record { chains = omega arith; unborn = λ q. u; results = omega arith; both = omega arith };
              walked = omega arith;
            };
        readings = λ j p q. y.readings j p (omega arith);
        room = omega arith;
        budget = omega arith;
      }

  begins_same : pass_from t x state w count (begun used) 0 ≡ pass_over t x state
  unfolding readings_from errors_from
  begins_same = λ i. one_pass t x (reverse (readings_from state 18432 0 (c i))) (nothing_applied (u i)) [] 0 0

  pub pass_begins : Goes t x state w count (begun used) 0
  pass_begins = record { ready = begins_ready; same = begins_same }

-- A pass without a chain has left every reading, and nothing has come about.
module _ (t : Table) (x : Term) where
  abbrev AllLeft : (left rs : List Reading) → (c : ℕ) → MeantPass → Type 0
  AllLeft left rs c (stopped k) = Unit {0}
  AllLeft left rs c (passed a left' w' c') = (c ≤ c') × (c' ≡ c → left' ≡ left ++ rs)

  all_left : (rs : List Reading) (a : Applied) (left : List Reading) (w c : ℕ) → AllLeft left rs c (one_pass t x rs a left w c)
  unfolding one_pass
  all_left [] a left w c = (omega arith, λ e. sym (append-nil left))
  all_left (r ∷ rs) a left w c = at (plan t 16 x.class (states r.stack) c) refl (λ a' left' w' c'. all_left rs a' left' w' c')
    where
      f : Walk → ℕ → ℕ → MeantPass
      f tree k c' = one_pass t x rs (joined a (apply t x tree r a.next)) left (w + k) c'

      g : ℕ → ℕ → MeantPass
      g k c' = one_pass t x rs a (left ++ r ∷ []) (w + k) c'

      more : (c₁ : ℕ) → c < c₁ → (p : MeantPass) → AllLeft left rs c₁ p → AllLeft left (r ∷ rs) c p
      more c₁ h (stopped k) q = tt
      more c₁ h (passed a' left' w' c') q = let q0 = q.0 in (omega arith, λ e. absurd (omega arith))

      same : (c₁ : ℕ) → c₁ ≡ c → (p : MeantPass) → AllLeft (left ++ r ∷ []) rs c₁ p → AllLeft left (r ∷ rs) c p
      same c₁ h (stopped k) q = tt
      same c₁ h (passed a' left' w' c') q = let q0 = q.0 in (omega arith, λ e. q.1 (omega arith) ∙ append_assoc left (r ∷ []) rs)

      at : (v : Walked) → plan t 16 x.class (states r.stack) c ≡ v → ((a' : Applied) (left' : List Reading) (w' c' : ℕ) → AllLeft left' rs c' (one_pass t x rs a' left' w' c')) → AllLeft left (r ∷ rs) c (on_walk v f g)
      at (refused k) e go = tt
      at (walked tree k c₁) e go = by (ends tree) refl
        where
          by : (b : Bool) → ends tree ≡ b → AllLeft left (r ∷ rs) c (if b then f tree k c₁ else g k c₁)
          by true q =
              let n = counted t x r c tree k c₁ e in let l = ends_chain tree q in
              more c₁ (omega arith) (f tree k c₁) (go (joined a (apply t x tree r a.next)) left (w + k) c₁)
          by false q =
              let n = counted t x r c tree k c₁ e in let l = no_chain tree q in
              same c₁ (omega arith) (g k c₁) (go a (left ++ r ∷ []) (w + k) c₁)

  none_taken : (rs : List Reading) (n : ℕ) (a : Applied) (left : List Reading) (w c : ℕ) → one_pass t x rs (nothing_applied n) [] 0 0 ≡ passed a left w c → c ≡ 0 → left ≡ rs
  none_taken rs n a left w c e z = (subst (AllLeft [] rs 0) e (all_left rs (nothing_applied n) [] 0 0)).1 z

-- The ways out of the first planning.
module _ (t : Table) (x : Term) (state : List ℕ) where
  abbrev meant : Meant
  meant = first t x (readings_of state) (used_of state)

  by_pass : (p : MeantPass) → pass_over t x state ≡ p → meant ≡ first_of_pass t p
  by_pass p e = one_pass_lem t x (readings_of state) (used_of state) ∙ ap (first_of_pass t) e

  pub first_refused : (k : Refusal) → pass_over t x state ≡ stopped k → meant ≡ refuses k
  first_refused k h = by_pass (stopped k) h

  module _ (w₁ : List ℕ) (so : SoFar) (left : ℕ) (passes : Passes state (pass_over t x state) w₁ so left) where
    pub settle_ready : EndReady w₁ so left
    settle_ready =
        let a = passes.stands.paced.both in let b = passes.stands.paced.chains in let c = passes.stands.few in let v = passes.stands.walked in
        record {
          area = passes.stands.area;
          lefts = all_stand_kept (used_of state) w₁ w₁ (λ d q. refl) 41920 0 left (λ j p q. refl) passes.stands.lefts so.counts.cells passes.stands.below;
          few = c;
          room = omega arith;
          walked = omega arith;
        }

    module _ (recovers : Bool) (recovers_is : recovers ≡ t.recovers) where
      ended : (w₂ : List ℕ) (e : Ended) → EndsWith recovers w₁ so left w₂ e → Settles meant w₂ e
      ended w₂ e g = record { fed = g.fed; is = by_pass _ passes.is ∙ g.is t (sym recovers_is); holds = g.holds }

      waits : (w₂ : List ℕ) (walked left' : ℕ) → Waits recovers w₁ so left w₂ walked left' → MustRecover meant state w₂ walked left'
      waits w₂ v left' g =
          let st = passes.stands in
          let p = st.paced in
          let none = g.none in
          let results = p.results in let both = p.both in
          let counts-are : so.counts ≡ record { cells = used_of state; results = 0; errors = 0 } =
          (let a : so.counts.cells ≡ used_of state = p.unborn none in let b : so.counts.results ≡ 0 = omega arith in let c : so.counts.errors ≡ 0 = omega arith in λ i. record { cells = a i; results = b i; errors = c i }) in
          let few = st.walked in let is = g.walked_is in
          record {
            is = by_pass _ passes.is ∙ g.is t (sym recovers_is);
            loaded = rw g.same st.loaded;
            area = rw g.same (subst (Area 41824 w₁) counts-are st.area);
            lefts = rw (g.same, g.left_is) st.lefts;
            left_is = rw (g.same, g.left_is) (none_taken t x (reverse (readings_of state)) (used_of state) _ _ _ _ passes.is none);
            few = rw g.left_is st.few;
            few_walked = omega arith;
          }

      pub first_settled : (w₂ : List ℕ) (o : First) → SettledIs recovers w₁ so left w₂ o → FirstIs meant state w₂ (Ok o)
      first_settled w₂ (at_first.Ended e) g = ended w₂ e g
      first_settled w₂ (at_first.Recovers v left') g = waits w₂ v left' g
