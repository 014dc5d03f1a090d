-- The rules of field 2: a rule stands at p.
use Rattle.std.specs.Prelude.{false, List, ℕ, zero, suc, ◌+◌, ltb, leb, eqb, Ok, if◌then◌else◌}
use Rattle.meaning.specs.TableFile.{rule_at}
use Rattle.meaning.specs.declared.Counts.{Counts}
use Rattle.meaning.specs.declared.Rule.{Rule}
use Rattle.faults.specs.Verdicts.{Verdict, first, tested, one_of}
use Rattle.faults.specs.declared.Place.{Place}
use Rattle.faults.specs.declared.Fault.TheVariants.{UnknownLeftSide, ManyItems, UnknownKind, PickNotZero, PickNoItem, LowNotZero, HighNotZero, LowAboveHigh}

abbrev pub pick_fault : Rule → Place → (p : ℕ) → Verdict
pick_fault r place p = first (tested (leb 1 r.pick) PickNoItem place (p + 4)) (tested (leb r.pick r.len) PickNoItem place (p + 4))

abbrev pub high_fault : Rule → Place → (p : ℕ) → Verdict
high_fault r place p = tested (eqb r.high 0) HighNotZero place (p + 13)

abbrev pub range_fault : Rule → Place → (p : ℕ) → Verdict
range_fault r place p = first (tested (eqb r.low 0) LowNotZero place (p + 9)) (high_fault r place p)

abbrev pub kind_fault : Rule → Place → (p : ℕ) → Verdict
kind_fault r place p =
    if eqb r.kind 0 then first (tested (eqb r.pick 0) PickNotZero place (p + 4)) (range_fault r place p)
    else if eqb r.kind 1 then first (pick_fault r place p) (range_fault r place p)
    else if eqb r.kind 2 then first (pick_fault r place p) (high_fault r place p)
    else if eqb r.kind 3 then first (pick_fault r place p) (tested (leb r.low r.high) LowAboveHigh place (p + 9))
    else tested false UnknownKind place (p + 3)

unfoldable pub rule_fault : Counts → Rule → Place → (p : ℕ) → Verdict
rule_fault c r place p =
    first (tested (ltb r.left c.nonterminals) UnknownLeftSide place p) (first (tested (leb r.len 15) ManyItems place (p + 2)) (kind_fault r place p))

-- n rules, the first of them rule i at p
unfoldable pub rules_fault : Counts → (n : ℕ) → List ℕ → (i p : ℕ) → Verdict
rules_fault c zero s i p = Ok tt
rules_fault c (suc n) s i p = first (rule_fault c (rule_at s p) (one_of 2 i) p) (rules_fault c n s (i + 1) (p + 17))
