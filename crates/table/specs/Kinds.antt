-- The two kinds of record, told by the place.
use Rattle.std.specs.Prelude.{List, ℕ, refl}
use Rattle.std.proofs.Common.{arith}
use Rattle.meaning.specs.TableFile.{action_at, action_size, goto_at}
use Rattle.meaning.specs.TableRight.{Format, action_format, goto_format}
use Rattle.meaning.specs.declared.Counts.{Counts}
use Rattle.table.specs.Records.{placed, seek, RecordLaws}

abbrev pub placed_actions : List ℕ → Counts → Format ℕ
placed_actions s c = placed (action_format s c)

pub action_laws : RecordLaws action_size placed_actions
unfolding action_format action_at seek
action_laws =
    record {
      sized = λ s c p. refl;
      place = λ s c p. refl;
      high = λ s c p. refl;
      low = λ s c p. refl;
      long = λ s p. omega arith;
      any = λ s c d a b e at. refl;
    }

abbrev pub goto_bytes : List ℕ → ℕ → ℕ
goto_bytes s p = 6

abbrev pub placed_gotos : List ℕ → Counts → Format ℕ
placed_gotos s c = placed (goto_format s c)

pub goto_laws : RecordLaws goto_bytes placed_gotos
unfolding goto_format goto_at seek
goto_laws =
    record {
      sized = λ s c p. refl;
      place = λ s c p. refl;
      high = λ s c p. refl;
      low = λ s c p. refl;
      long = λ s p. omega arith;
      any = λ s c d a b e at. refl;
    }
