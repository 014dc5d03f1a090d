-- The marks that a planning leaves: for each reduction, in the order of the walk, the chains that end below it and the reductions of its subtree with itself.
use Rattle.std.specs.Prelude.{ℕ, ◌+◌, ◌*◌, ◌≡◌, List}
use Rattle.meaning.specs.Bytes.{u16_at}
use Rattle.meaning.specs.Walk.{Walk, shift, reduce, Walked, refused, walked, size, chains}
use Rattle.numbers.specs.Writing.{put_u16}

-- The layout, 4 bytes a mark: nothing outside this crate opens it.
unfoldable pub chains_mark : List ℕ → (k : ℕ) → ℕ
chains_mark m k = u16_at m (k * 4)

unfoldable pub size_mark : List ℕ → (k : ℕ) → ℕ
size_mark m k = u16_at m (k * 4 + 2)

unfoldable pub put_mark : List ℕ → (k chains size : ℕ) → List ℕ
put_mark m k c n = put_u16 (put_u16 m (k * 4) c) (k * 4 + 2) n

-- the mark numbered k
pub record OneMark (m : List ℕ) (k chains size : ℕ) : Type 0 where
  pub chains_read : chains_mark m k ≡ chains
  pub size_read : size_mark m k ≡ size

-- The marks from number k on hold a walk.
unfoldable pub Marked : List ℕ → (k : ℕ) → Walk → Type 0
Marked m k (shift sh) = Unit {0}
Marked m k (reduce rule to below beside) = OneMark m k (chains below) (1 + size below) × Marked m (k + 1) below × Marked m (k + (1 + size below)) beside

-- A walk that was refused leaves no promise.
abbrev pub MarksHold : List ℕ → (k : ℕ) → Walked → Type 0
MarksHold m k (refused e) = Unit {0}
MarksHold m k (walked w n c) = Marked m k w
