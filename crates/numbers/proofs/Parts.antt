-- Copying a number's bytes into a part of a list writes the number there.
use Rattle.std.specs.Prelude.{◌≡◌, List, [], ◌∷◌, ℕ, suc, ◌+◌, ◌/◌, ◌%◌, ◌<◌, ◌≤◌, length}
use Rattle.std.proofs.Common.{append_assoc, arith}
use Rattle.std.proofs.Math.Seq.{sets, sets-eq}
use Rattle.std.proofs.lemmas.List.{drop-drop}
use borrow.Rule.Slice.PartMut.{put_mid}
use Rattle.numbers.specs.Writing.{put_u16, put_u32}

part_sets : (s vs ys : List ℕ) (i k : ℕ) → i + length vs ≤ length s → k ≡ length vs → ys ≡ vs → put_mid i k s ys ≡ sets s i vs
part_sets s vs ys i k h l e = rw (e, drop-drop, l, sets-eq vs s i h, append_assoc)

module _ (s ys : List ℕ) (i k v : ℕ) where
  pub part_u16 : i + 2 ≤ length s → k ≡ 2 → v < 65536 → ys ≡ v / 256 % 256 ∷ v % 256 ∷ [] → put_mid i k s ys ≡ put_u16 s i v
  unfolding put_u16
  part_u16 h l f e =
      let p = part_sets s _ ys i k h l e in
      let high : v / 256 % 256 ≡ v / 256 = omega arith in
      let next : suc i ≡ i + 1 = omega arith in
      cc

  pub part_u32 : i + 4 ≤ length s → k ≡ 4 → v < 4294967296 → ys ≡ v / 16777216 % 256 ∷ v / 65536 % 256 ∷ v / 256 % 256 ∷ v % 256 ∷ [] → put_mid i k s ys ≡ put_u32 s i v
  unfolding put_u16 put_u32
  part_u32 h l f e =
      let p = part_sets s _ ys i k h l e in
      let first : v / 16777216 % 256 ≡ v / 65536 / 256 = omega arith in
      let third : v / 256 % 256 ≡ v % 65536 / 256 = omega arith in
      let fourth : v % 256 ≡ v % 65536 % 256 = omega arith in
      let one : suc i ≡ i + 1 = omega arith in
      let two : suc (suc i) ≡ i + 2 = omega arith in
      let three : suc (suc (suc i)) ≡ i + 2 + 1 = omega arith in
      cc
