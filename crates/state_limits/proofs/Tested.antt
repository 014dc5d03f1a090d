-- Results that pass the test of a list may be committed. Assumes nothing.
use mathlib.Core.Path.{◌≡◌, sym, ◌∙◌}
use mathlib.Core.Bool.{Bool, true}
use mathlib.Core.List.{List}
use Prim.Native.Nat.{ℕ, ◌≤◌}
use native.Mathlib.Omega.{arith}
use lib.ListN.{length}
use Rattle.state.specs.Layout.{results_at, state_len, work_cells, work_len}
use Rattle.state.specs.Check.{slots_right}
use Rattle.state.proofs.Valid.{slots_claim}
use Rattle.commit.specs.Committing.{Results}

pub tested : (m : ℕ) (w s : List ℕ) (count cells : ℕ) (b : Bool) → length w ≡ work_len → length s ≡ state_len → cells ≤ work_cells → count ≤ 16 →
    b ≡ slots_right cells m w results_at 0 count → b ≡ true → Results w s results_at count cells
tested m w s count cells b l k p f e q =
    record {
      work = l;
      state = k;
      pool = p;
      few = f;
      list = omega arith;
      stands = (slots_claim cells m w results_at 0 count (sym e ∙ q)).0;
    }
