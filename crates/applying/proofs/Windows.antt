-- The marks in the work area: kept where nothing is written there. Assumes nothing.
use Prim.Native.Nat.{ℕ, ◌+◌, ◌<◌}
use native.Mathlib.Omega.{arith}
use mathlib.Core.Path.{◌≡◌, sym, ◌∙◌}
use mathlib.Core.List.{List}
use lib.ListN.{length, get_or, drop, length-take, length-drop}
use lib.Seq.{ext_get_or, get_or-take, get_or-drop}
use Rattle.numbers.specs.Writing.{Agree}
use Rattle.state.specs.Layout.{marks_at, work_len}
use Rattle.applying.specs.Following.{marks_of}

module _ (w : List ℕ) (long : length w ≡ work_len) where
  pub length_marks : length (marks_of w) ≡ 4096
  unfolding marks_of
  length_marks = simp (length-take, length-drop) (omega arith)

  mark_byte : (i : ℕ) → i < 4096 → get_or (marks_of w) i 0 ≡ get_or w (37728 + i) 0
  unfolding marks_of
  mark_byte i h = get_or-take 4096 (drop 37728 w) i 0 h ∙ get_or-drop 37728 w i 0

pub marks_same : (w w' : List ℕ) → length w ≡ work_len → length w' ≡ length w → Agree w' w marks_at 4096 → marks_of w' ≡ marks_of w
marks_same w w' long same a =
    let long' : length w' ≡ 46464 = omega arith in
    let l = length_marks w long in
    let l' = length_marks w' long' in
    ext_get_or 0 (marks_of w') (marks_of w) (omega arith) (λ i h.
    let j : i < 4096 = omega arith in
    mark_byte w' long' i j ∙ a (37728 + i) (omega arith) (omega arith) ∙ sym (mark_byte w long i j))
