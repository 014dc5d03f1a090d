-- Numbers in bytes: unsigned, high byte first. A byte past the end reads as 0.
use Rattle.std.specs.Prelude.{ℕ, ◌+◌, ◌*◌, List, get_or}

abbrev pub byte_at : List ℕ → ℕ → ℕ
byte_at s i = get_or s i 0

unfoldable pub u16_at : List ℕ → ℕ → ℕ
u16_at s i = byte_at s i * 256 + byte_at s (i + 1)

unfoldable pub u32_at : List ℕ → ℕ → ℕ
u32_at s i = u16_at s i * 65536 + u16_at s (i + 2)
