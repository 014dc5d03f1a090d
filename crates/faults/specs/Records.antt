-- The records of fields 3 and 4: a record stands at p.
use Rattle.std.specs.Prelude.{Bool, List, [], ◌∷◌, ℕ, zero, suc, ◌+◌, ◌-◌, ltb, leb, eqb, Ok, if◌then◌else◌}
use Rattle.meaning.specs.Bytes.{byte_at, u16_at}
use Rattle.meaning.specs.TableFile.{places}
use Rattle.meaning.specs.TableRight.{Format, key_of, fits, action_format, goto_format}
use Rattle.meaning.specs.declared.Counts.{Counts}
use Rattle.faults.specs.Verdicts.{Verdict, first, tested, one_of}
use Rattle.faults.specs.declared.Place.{Place}
use Rattle.faults.specs.declared.Fault.TheVariants.{PastField, UnknownState, UnknownClass, UnknownNonterminal, UnknownTarget, UnknownRule, ManyReductions, NoAction, NotAscending}

-- target 65535 is no shift, and then there is a rule
abbrev pub target_fault : (to states count : ℕ) → Place → (p : ℕ) → Verdict
target_fault to states count place p =
    if eqb to 65535 then tested (ltb 0 count) NoAction place (p + 4) else tested (ltb to states) UnknownTarget place (p + 4)

-- n numbers of rules from p on
unfoldable pub reductions_fault : (rules n : ℕ) → List ℕ → Place → (p : ℕ) → Verdict
reductions_fault rules zero s place p = Ok tt
reductions_fault rules (suc n) s place p = first (tested (ltb (u16_at s p) rules) UnknownRule place p) (reductions_fault rules n s place (p + 2))

abbrev pub pair_fault : List ℕ → Counts → Place → (p : ℕ) → Verdict
pair_fault s c place p = first (tested (ltb (u16_at s p) c.states) UnknownState place p) (tested (ltb (u16_at s (p + 2)) c.classes) UnknownClass place (p + 2))

abbrev pub action_fault : List ℕ → Counts → Place → (p : ℕ) → Verdict
action_fault s c place p =
    first (pair_fault s c place p)
    (first (target_fault (u16_at s (p + 4)) c.states (byte_at s (p + 6)) place p)
    (first (tested (leb (byte_at s (p + 6)) 4) ManyReductions place (p + 6)) (reductions_fault c.rules (byte_at s (p + 6)) s place (p + 7))))

abbrev pub goto_fault : List ℕ → Counts → Place → (p : ℕ) → Verdict
goto_fault s c place p =
    first (tested (ltb (u16_at s p) c.states) UnknownState place p)
    (first (tested (ltb (u16_at s (p + 2)) c.nonterminals) UnknownNonterminal place (p + 2)) (tested (ltb (u16_at s (p + 4)) c.states) UnknownTarget place (p + 4)))

-- a record ends by the field's end, is right, and comes after the one before it
unfoldable pub in_field : (right : Verdict) (ends ascends : Bool) → Place → (p : ℕ) → Verdict
in_field right ends ascends place p = first (tested ends PastField place p) (first right (tested ascends NotAscending place p))

-- the records at these places of a field that ends at e, with keys from low on
unfoldable pub records_fault : {X : Type 0} → Format X → (field : ℕ) (one : Place → ℕ → Verdict) (e low i : ℕ) → List ℕ → Verdict
records_fault F field one e low i [] = Ok tt
records_fault F field one e low i (p ∷ ps) =
    first (in_field (one (one_of field i) p) (fits F e p) (leb low (key_of F (F.decode p))) (one_of field i) p)
    (records_fault F field one e (key_of F (F.decode p) + 1) (i + 1) ps)

unfoldable pub field_fault : {X : Type 0} → Format X → (field : ℕ) (one : Place → ℕ → Verdict) (e low i at : ℕ) → Verdict
field_fault F field one e low i at = records_fault F field one e low i (places F.size (e - at) at e)

abbrev pub actions_fault : List ℕ → Counts → (e low i at : ℕ) → Verdict
actions_fault s c e low i at = field_fault (action_format s c) 3 (action_fault s c) e low i at

abbrev pub gotos_fault : List ℕ → Counts → (e low i at : ℕ) → Verdict
gotos_fault s c e low i at = field_fault (goto_format s c) 4 (goto_fault s c) e low i at
