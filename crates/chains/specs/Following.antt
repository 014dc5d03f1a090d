-- Following a planned walk by its marks: what stands at a stack, and at a rule list, of a walk that was not refused.
use Rattle.std.specs.Prelude.{ℕ, ◌+◌, ◌-◌, ◌≤◌, ◌<◌, ◌≡◌, List, ◌∷◌, ltb, length, get_or, drop, Option, Some}
use Rattle.meaning.specs.Limits.{max_height, max_chain, max_walked}
use Rattle.meaning.specs.TableFile.{Table, goto_of, rule_of}
use Rattle.meaning.specs.Walk.{Walk, reduce, walked, walk_rules, walk_from, plan, ends, chains}
use Rattle.chains.specs.Marks.{chains_mark, size_mark, Marked}
use Rattle.chains.specs.Planning.{deeper_of}

-- At a stack, with `left` chain steps left: w is walked there, and the marks from number n on hold it.
pub record Follows (left : ℕ) (t : Table) (room class : ℕ) (st : List ℕ) (m : List ℕ) (n : ℕ) (w : Walk) : Type 0 where
  pub before : ℕ
  pub after : ℕ
  pub ended : ℕ
  pub is : walk_from left t room class st n before ≡ walked w after ended
  pub few : after ≤ max_walked
  pub marked : Marked m n w

-- The same at a rule list, with the shift after it.
pub record FollowsRules (left : ℕ) (t : Table) (room class : ℕ) (sh : Option ℕ) (st ks : List ℕ) (m : List ℕ) (n : ℕ) (w : Walk) : Type 0 where
  pub before : ℕ
  pub after : ℕ
  pub ended : ℕ
  pub is : walk_rules t room left (deeper_of left t room class) sh st ks n before ≡ walked w after ended
  pub few : after ≤ max_walked
  pub marked : Marked m n w

-- What the first rule of the list does, and what its mark, numbered n, says of it: whether a chain ends below it, and where what is walked beside it goes on.
pub record FollowsRule (left : ℕ) (t : Table) (room class : ℕ) (sh : Option ℕ) (st : List ℕ) (rule : ℕ) (ks : List ℕ) (m : List ℕ) (n : ℕ) (w : Walk) : Type 0 where
  pub to : ℕ
  pub below : Walk
  pub beside : Walk
  pub walk_is : w ≡ reduce rule to below beside
  pub some_left : 1 ≤ left
  pub pops : (rule_of t rule).len < length st
  pub leads : goto_of t (get_or (drop (rule_of t rule).len st) 0 0) (rule_of t rule).left ≡ Some to
  pub low : length (drop (rule_of t rule).len st) < max_height
  pub few : n < max_walked
  pub rest_few : n + size_mark m n ≤ max_walked
  pub chains_below : chains_mark m n ≡ chains below
  pub live : ends below ≡ ltb 0 (chains_mark m n)
  pub follows_below : Follows (left - 1) t room class (to ∷ drop (rule_of t rule).len st) m (n + 1) below
  pub follows_beside : FollowsRules left t room class sh st ks m (n + size_mark m n) beside

-- A planning that was not refused: the walk, and whether the reading is planned.
pub record Plans (t : Table) (room class : ℕ) (st : List ℕ) (c : ℕ) (m : List ℕ) (n c' : ℕ) : Type 0 where
  pub walk : Walk
  pub is : plan t room class st c ≡ walked walk n c'
  pub planned : ends walk ≡ ltb c c'
  pub few : n ≤ max_walked
  pub fits : c ≤ room → c' ≤ room
  pub follows : Follows max_chain t room class st m 0 walk
