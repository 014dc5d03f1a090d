-- The way out of gathering, and what the loop has read. Assumes nothing.
--     gathered     what was read from the first record on is what is promised
use mathlib.Core.Path.{◌≡◌, sym, ap, ap₂, ◌∙◌, subst}
use mathlib.Core.List.{List, [], ◌∷◌, ◌++◌}
use Prim.Native.Nat.{ℕ, ◌+◌, ◌*◌, ◌<◌, ◌≤◌}
use native.Mathlib.Omega.{arith}
use lib.ListN.{length, set, replicate}
use Rattle.meaning.specs.Limits.{max_errors}
use Rattle.meaning.specs.declared.ErrorRecord.{ErrorRecord}
use Rattle.state.specs.Layout.{work_len, errors_at}
use Rattle.actions.specs.Errors.{error_size, error_at, errors_from, errors_of}
use Rattle.actions.proofs.ErrorRecords.{length_errors, errors_last}
use Rattle.lists.specs.Filling.{no_record, padded}
use Rattle.lists.proofs.Laws.{padded_one}
use Rattle.gathering.specs.Gathering.{Gathered}

-- what the loop keeps: the first i records stand in the first i places, and no record in any other
pub record GatheredTo (w : List ℕ) (count : ℕ) (list : List ErrorRecord) (i : ℕ) : Type 0 where
  pub few : i ≤ count
  pub is : list ≡ padded max_errors no_record (errors_of w i)

pub gather_first : (w : List ℕ) (count : ℕ) (list : List ErrorRecord) → list ≡ replicate max_errors no_record → GatheredTo w count list 0
unfolding errors_from
gather_first w count list e = record { few = omega arith; is = e }

module _ (w : List ℕ) (count : ℕ) (long : length w ≡ work_len) (fits : count ≤ max_errors) (list : List ErrorRecord) (i : ℕ) (g : GatheredTo w count list i) where
  pub gather_room : i < count → errors_at + error_size * i + error_size ≤ length w
  gather_room h = omega arith

  pub gather_more : (place : ℕ) (x : ErrorRecord) → i < count → place ≡ i → x ≡ error_at w i → GatheredTo w count (set list place x) (i + 1)
  gather_more place x h here e =
      let u : 0 + i ≡ i = omega arith in
      let l = length_errors w 0 i in
      let more : errors_of w i ++ (x ∷ []) ≡ errors_of w (i + 1) = ap (λ (y : ErrorRecord). errors_of w i ++ (y ∷ [])) e ∙ sym (rw u at (errors_last w 0 i)) in
      record {
        few = omega arith;
        is =
            ap₂ (λ (m : List ErrorRecord) (j : ℕ). set m j x) g.is here
            ∙ subst (λ (n : ℕ). set (padded 32 no_record (errors_of w i)) n x ≡ padded 32 no_record (errors_of w i ++ (x ∷ []))) l (padded_one (errors_of w i) 32 no_record x (omega arith))
            ∙ ap (padded 32 no_record) more;
      }

  pub gathered : (n : ℕ) → count ≤ i → n ≡ count → Gathered w count (record { list = list; count = n })
  gathered n h e =
      let f = g.few in
      let all : i ≡ count = omega arith in
      record { count_is = e ∙ sym (length_errors w 0 count); few = omega arith; list_is = rw all at g.is }
