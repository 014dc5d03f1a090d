-- The array that `states_into` fills stands for the stack's states.
use Rattle.std.proofs.Common.{ℕ, suc, ◌≡◌, refl, sym, ap, ap₂, ◌∙◌, List, [], ◌∷◌, ◌++◌, append_assoc, length, get_or, drop, arith, ◌≤◌}
use mathlib.Core.List.{reverse, reverse-cons}
use Rattle.meaning.specs.Calls.{written}
use Rattle.meaning.specs.Readings.{Entry, states}
use Rattle.meaning.proofs.Tools.{length-map, length-reverse}
use Rattle.cells.specs.Pool.{cell_at}
use Rattle.cells.specs.Stacks.{entries_of}
use Rattle.cells.proofs.Stacks.{length_entries}
use Rattle.chains.specs.Simulated.{stack_of}
use Rattle.chains.specs.Filling.{Filled}

-- the element behind l
get_d_behind : (l m : List ℕ) (a : ℕ) → get_or (l ++ (a ∷ m)) (length l) 0 ≡ a
get_d_behind [] m a = refl
get_d_behind (b ∷ l) m a = get_d_behind l m a

pub stack_of_reverse : (st rest : List ℕ) → stack_of (reverse st ++ rest) (length st) ≡ st
unfolding stack_of
stack_of_reverse [] rest = refl
stack_of_reverse (a ∷ st) rest =
    ap (λ (l : List ℕ). stack_of l (suc (length st))) shape
    ∙ ap₂ {C = List ℕ} (λ b l. b ∷ l) (ap (λ (i : ℕ). get_or (reverse st ++ (a ∷ rest)) i 0) (sym long) ∙ get_d_behind (reverse st) rest a) (stack_of_reverse st (a ∷ rest))
  where
    shape : reverse (a ∷ st) ++ rest ≡ reverse st ++ (a ∷ rest)
    shape = ap (λ (l : List ℕ). l ++ rest) (reverse-cons a st) ∙ append_assoc (reverse st) (a ∷ []) rest

    long : length (reverse st) ≡ length st
    long = let e = length-reverse st [] in omega arith

-- As the planner is given it: a stack of cells, its states written into an array.
in_array : (s : List Entry) (h : ℕ) (old : List ℕ) → length s ≡ h → stack_of (written (reverse (states s)) old) h ≡ states s
in_array s h old e =
    ap (stack_of (written (reverse (states s)) old)) (sym (length-map (λ (y : Entry). y.state) s ∙ e)) ∙ stack_of_reverse (states s) (drop (length (reverse (states s))) old)

pub filled : (pool : List ℕ) (h c : ℕ) (a old : List ℕ) (k : ℕ) → 1 ≤ h → h ≤ 64 → a ≡ written (reverse (states (entries_of (cell_at pool) h c))) old → k ≡ h
    → Filled pool h c (record { states = a; height = k })
filled pool h c a old k low high e is =
    record {
      same = ap (stack_of a) is ∙ ap (λ (l : List ℕ). stack_of l h) e ∙ in_array (entries_of (cell_at pool) h c) h old (length_entries (cell_at pool) h c);
      stands = record { low = omega arith; high = omega arith };
    }
