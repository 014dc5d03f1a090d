-- Lines of the input: the bytes that are taken in one after the other, how a line takes them, and what it ends as. That the bytes are those of standard input no contract can say: what a read put into the piece is here as it is found there.
use Rattle.std.specs.Prelude.{◌≡◌, true, not, ◌⊎◌, List, [], ◌∷◌, ◌++◌, ℕ, ◌+◌, ◌-◌, ◌<◌, ◌≤◌, eqb, ltb, length, get_or, set, take, Option, Some, None}
use Rattle.std.proofs.lemmas.List.Edits.{sets}
use Rattle.meaning.specs.Basics.{both, every}
use Rattle.std.specs.Prelude.{if◌then◌else◌}
use Rattle.console.specs.declared.lines.Rest.{Rest}
use Rattle.console.specs.declared.lines.Byte.{Byte}
use Rattle.console.specs.declared.lines.Next.{Next}

-- The bytes of a piece and of a line.
abbrev pub piece_room : ℕ
piece_room = 65536

abbrev pub line_room : ℕ
line_room = 131100

-- The first byte of a piece of which so many bytes were read; none were at the end of the input.
abbrev pub begun_by : (piece : List ℕ) (end : ℕ) → Option Byte
begun_by piece end = if eqb end 0 then None else Some (record { byte = get_or piece 0 0; rest = record { at = 1; end = end } })

pub record Refilled (piece : List ℕ) (r : Option Byte) : Type 0 where
  pub end : ℕ
  pub within : end ≤ length piece
  pub is : r ≡ begun_by piece end

-- The piece's next byte, or, where none is left, the first of a new one.
pub record Fetched (piece : List ℕ) (rest : Rest) (r : Option Byte) (piece' : List ℕ) : Type 0 where
  pub there : rest.at < rest.end → rest.at < piece_room → (r ≡ Some (record { byte = get_or piece rest.at 0; rest = record { at = rest.at + 1; end = rest.end } })) × (piece' ≡ piece)
  pub over : (rest.end ≤ rest.at) ⊎ (piece_room ≤ rest.at) → Refilled piece' r

-- These bytes, one after the other, from one place of the input to another.
pub record OneByte (piece : List ℕ) (rest : Rest) (b : ℕ) (on : List ℕ → Rest → Type 0) : Type 0 where
  pub piece₁ : List ℕ
  pub rest₁ : Rest
  pub fetched : Fetched piece rest (Some (record { byte = b; rest = rest₁ })) piece₁
  pub further : on piece₁ rest₁

unfoldable pub Taken : (piece : List ℕ) (rest : Rest) (bytes : List ℕ) (piece' : List ℕ) (rest' : Rest) → Type 0
Taken piece rest [] piece' rest' = (piece ≡ piece') × (rest ≡ rest')
Taken piece rest (b ∷ bytes) piece' rest' = OneByte piece rest b (λ p r. Taken p r bytes piece' rest')

-- A byte goes behind the others; a line too long is cut, and counts one byte more than the place has.
pub record PutIs (line : List ℕ) (length byte r : ℕ) (line' : List ℕ) : Type 0 where
  pub counts : r ≡ (if ltb length line_room then length + 1 else line_room + 1)
  pub bytes : line' ≡ (if ltb length line_room then set line length byte else line)

-- A carriage return at a line's end does not belong to the line.
abbrev pub without_return : (line : List ℕ) (length : ℕ) → ℕ
without_return line length = if both (ltb 0 length) (eqb (get_or line (length - 1) 0) 13) then length - 1 else length

abbrev pub ended_line : (line : List ℕ) (length : ℕ) → Rest → Next
ended_line line length rest = record { length = if ltb line_room length then None else Some (without_return line length); rest = rest }

-- The last line may lack its end.
abbrev pub ended_input : (line : List ℕ) (length : ℕ) → Rest → Option Next
ended_input line length rest = if eqb length 0 then None else Some (ended_line line length rest)

-- How a line ends: with a line feed, with the input, or where no turn is left to take a byte in.
pub record AtFeed (piece : List ℕ) (rest : Rest) (bytes : List ℕ) (r : Option Next) (piece' : List ℕ) : Type 0 where
  pub rest' : Rest
  pub taken : Taken piece rest (bytes ++ 10 ∷ []) piece' rest'
  pub is : r ≡ Some (ended_line bytes (length bytes) rest')

pub record AtEnd (piece : List ℕ) (rest : Rest) (bytes : List ℕ) (r : Option Next) (piece' : List ℕ) : Type 0 where
  pub last : List ℕ
  pub rest' : Rest
  pub taken : Taken piece rest bytes last rest'
  pub over : Fetched last rest' None piece'
  pub is : r ≡ ended_input bytes (length bytes) rest'

-- A line is the bytes up to the next line feed: the line's place has them at its front, as many as it has room for, and is else as it was.
pub record LineIs (piece : List ℕ) (rest : Rest) (line : List ℕ) (r : Option Next) (piece' line' : List ℕ) : Type 0 where
  pub bytes : List ℕ
  pub no_feed : every (λ b. not (eqb b 10)) bytes ≡ true
  pub holds : line' ≡ sets line 0 (take line_room bytes)
  pub ends : AtFeed piece rest bytes r piece' ⊎ (AtEnd piece rest bytes r piece' ⊎ ((length bytes ≡ 18446744073709551615) × (r ≡ None)))
