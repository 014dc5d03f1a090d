-- What a walk's tree gives of a plain reading are the successful runs of its chains, in chain order.
use Prim.Native.Nat.{ℕ, zero, suc}
use mathlib.Core.Path.{◌≡◌, refl, sym, ap, ◌∙◌, subst, fun_ext}
use mathlib.Core.List.{List, [], ◌∷◌, ◌++◌, map, tail, append_assoc}
use lib.ListN.{drop}
use Rattle.std.specs.Prelude.{Option, None, Some}
use Rattle.meaning.specs.Basics.{bind, listed, cons_maybe, each, nth}
use Rattle.meaning.specs.TableFile.{Table, rule_of}
use Rattle.meaning.specs.Readings.{Entry, Reading, states}
use Rattle.meaning.specs.Chains.{record_at, landing, Chain, chains_by, chains_from}
use Rattle.meaning.specs.Walk.{Walk, shift}
use Rattle.meaning.specs.Applying.{act_on, reduced, shifted}
use Rattle.meaning.specs.Demand3.{run}
use Rattle.meaning.specs.declared.Rule.{Rule}
use Rattle.meaning.specs.declared.Term.{Term}
use Rattle.meaning.proofs.Trees.{tree_step, tree_by, tree_from}
use Rattle.meaning.proofs.Plain.{got}

cons_append : {A : Type 0} (m : Option A) (a b : List A) → cons_maybe m (a ++ b) ≡ cons_maybe m a ++ b
cons_append None a b = refl
cons_append (Some x) a b = refl

each_append : {A B : Type 0} (f : A → Option B) (l m : List A) → each f (l ++ m) ≡ each f l ++ each f m
each_append f [] m = refl
each_append {A} {B} f (a ∷ l) m = ap {B = List B} (cons_maybe (f a)) (each_append f l m) ∙ cons_append (f a) (each f l) (each f m)

each_map : {A B C : Type 0} (f : B → Option C) (g : A → B) (l : List A) → each f (map g l) ≡ each (λ (a : A). f (g a)) l
each_map f g [] = refl
each_map {A} {B} {C} f g (a ∷ l) = ap {B = List C} (cons_maybe (f (g a))) (each_map f g l)

each_none : {A B : Type 0} (l : List A) → each {B = B} (λ (a : A). None) l ≡ []
each_none [] = refl
each_none {A} {B} (a ∷ l) = each_none {B = B} l

states_drop : (n : ℕ) (s : List Entry) → states (drop n s) ≡ drop n (states s)
states_drop zero s = refl
states_drop (suc n) [] = refl
states_drop (suc n) (e ∷ s) = states_drop n s

abbrev head_of : List ℕ → Option ℕ
head_of [] = None
head_of (a ∷ l) = Some a

abbrev IsCons : List ℕ → Type 0
IsCons [] = ⊥
IsCons (a ∷ l) = Unit {0}

at_drop : (l : List ℕ) (i k : ℕ) (ks : List ℕ) → drop i l ≡ k ∷ ks → (nth l i ≡ Some k) × (drop (suc i) l ≡ ks)
at_drop [] zero k ks e = absurd (subst IsCons (sym e) tt)
at_drop [] (suc i) k ks e = absurd (subst IsCons (sym e) tt)
at_drop (a ∷ l) zero k ks e = (ap head_of e, ap tail e)
at_drop (a ∷ l) (suc i) k ks e = at_drop l i k ks e

module _ (t : Table) (x : Term) where
  abbrev runs : Reading → List Chain → List Reading
  runs r = each (λ (ch : Chain). run t x ch r)

  shift_runs : (r : Reading) (m : Option ℕ) → (record_at t x.class (states r.stack)).shift ≡ m
      → got t x (shift m) r ≡ runs r (listed m (λ to. [] ∷ []))
  unfolding run record_at
  shift_runs r None e = refl
  shift_runs r (Some to) e = sym (ap (λ (m : Option ℕ). cons_maybe (bind m (λ to. Some (shifted x to r 0))) []) e)

  act_runs : (q : Rule) (to : ℕ) (r : Reading) (below : Walk) (chs : List Chain) (m : Option ℕ)
      → ((v : ℕ) → got t x below (reduced q to v r 0) ≡ runs (reduced q to v r 0) chs)
      → listed m (λ v. got t x below (reduced q to v r 0)) ≡ each (λ (ch : Chain). bind m (λ v. run t x ch (reduced q to v r 0))) chs
  act_runs q to r below chs None h = sym (each_none {B = Reading} chs)
  act_runs q to r below chs (Some v) h = h v

  step_runs : (i k : ℕ) (r : Reading) (deeper : ℕ → Walk) (more : ℕ → List Chain) (beside : Walk) (m : Option ℕ)
      → nth (record_at t x.class (states r.stack)).rules i ≡ Some k
      → landing t (rule_of t k) (states r.stack) ≡ m
      → ((to v : ℕ) → got t x (deeper to) (reduced (rule_of t k) to v r 0) ≡ runs (reduced (rule_of t k) to v r 0) (more to))
      → got t x (tree_step m k deeper beside) r ≡ runs r (map (λ (ch : Chain). i ∷ ch) (listed m more)) ++ got t x beside r
  unfolding run record_at
  step_runs i k r deeper more beside None at land h = refl
  step_runs i k r deeper more beside (Some to) at land h =
      ap {B = List Reading} (λ l. l ++ got t x beside r)
      (act_runs (rule_of t k) to r (deeper to) (more to) (act_on (rule_of t k) r.stack) (h to)
      ∙ ap (λ (f : Chain → Option Reading). each f (more to)) (fun_ext (λ ch. sym (unfolded ch)))
      ∙ sym (each_map (λ (ch : Chain). run t x ch r) (λ (ch : Chain). i ∷ ch) (more to)))
    where
      after : Chain → ℕ → Option Reading
      after ch k' = bind (landing t (rule_of t k') (states r.stack)) (λ to'. bind (act_on (rule_of t k') r.stack) (λ v. run t x ch (reduced (rule_of t k') to' v r 0)))

      unfolded : (ch : Chain) → run t x (i ∷ ch) r ≡ bind (act_on (rule_of t k) r.stack) (λ v. run t x ch (reduced (rule_of t k) to v r 0))
      unfolded ch = ap (λ (m : Option ℕ). bind m (after ch)) at
          ∙ ap (λ (m : Option ℕ). bind m (λ to'. bind (act_on (rule_of t k) r.stack) (λ v. run t x ch (reduced (rule_of t k) to' v r 0)))) land

  abbrev Agree : (List ℕ → Walk) → (List ℕ → List Chain) → Type 0
  Agree deeper more = (r : Reading) → got t x (deeper (states r.stack)) r ≡ runs r (more (states r.stack))

  reduced_runs : (deeper : List ℕ → Walk) (more : List ℕ → List Chain) → Agree deeper more → (q : Rule) (to v : ℕ) (r : Reading)
      → got t x (deeper (to ∷ drop q.len (states r.stack))) (reduced q to v r 0) ≡ runs (reduced q to v r 0) (more (to ∷ drop q.len (states r.stack)))
  unfolding reduced
  reduced_runs deeper more h q to v r =
      subst (λ (l : List ℕ). got t x (deeper (to ∷ l)) (reduced q to v r 0) ≡ runs (reduced q to v r 0) (more (to ∷ l))) (states_drop q.len r.stack) (h (reduced q to v r 0))

  rules_runs : (deeper : List ℕ → Walk) (more : List ℕ → List Chain) → Agree deeper more → (r : Reading) (i : ℕ) (ks : List ℕ)
      → drop i (record_at t x.class (states r.stack)).rules ≡ ks
      → got t x (tree_by t deeper (record_at t x.class (states r.stack)).shift (states r.stack) ks) r
      ≡ runs r (chains_by t more (states r.stack) i ks ++ listed (record_at t x.class (states r.stack)).shift (λ to. [] ∷ []))
  unfolding chains_by record_at
  rules_runs deeper more h r i [] e = shift_runs r (record_at t x.class (states r.stack)).shift refl
  rules_runs deeper more h r i (k ∷ ks) e =
      step_runs i k r (λ to. deeper (to ∷ drop (rule_of t k).len (states r.stack))) (λ to. more (to ∷ drop (rule_of t k).len (states r.stack)))
      (tree_by t deeper (record_at t x.class (states r.stack)).shift (states r.stack) ks)
      (landing t (rule_of t k) (states r.stack)) (at_drop (record_at t x.class (states r.stack)).rules i k ks e).0 refl
      (λ to v. reduced_runs deeper more h (rule_of t k) to v r)
      ∙ ap {B = List Reading} (λ l. runs r first ++ l) (rules_runs deeper more h r (suc i) ks (at_drop (record_at t x.class (states r.stack)).rules i k ks e).1)
      ∙ sym (each_append (λ (ch : Chain). run t x ch r) first (others ++ ended))
      ∙ ap (runs r) (sym (append_assoc first others ended))
    where
      first : List Chain
      first = map (λ (ch : Chain). i ∷ ch) (listed (landing t (rule_of t k) (states r.stack)) (λ to. more (to ∷ drop (rule_of t k).len (states r.stack))))

      others : List Chain
      others = chains_by t more (states r.stack) (suc i) ks

      ended : List Chain
      ended = listed (record_at t x.class (states r.stack)).shift (λ to. [] ∷ [])

  pub tree_runs : (left : ℕ) (r : Reading)
      → got t x (tree_from left t x.class (states r.stack)) r ≡ each (λ (ch : Chain). run t x ch r) (chains_from left t x.class (states r.stack))
  unfolding chains_from
  tree_runs zero r = rules_runs (λ s. shift None) (λ s. []) (λ r'. refl) r 0 (record_at t x.class (states r.stack)).rules refl
  tree_runs (suc left) r = rules_runs (λ s. tree_from left t x.class s) (λ s. chains_from left t x.class s) (λ r'. tree_runs left r') r 0 (record_at t x.class (states r.stack)).rules refl
