-- Applying: the same chains in the same order, with actions. Spans, marks, births and error records.
use Rattle.std.specs.Prelude.{ℕ, zero, suc, ◌+◌, ◌-◌, ◌%◌, List, [], ◌∷◌, ◌++◌, get_or, drop, Option, None, Some}
use Rattle.std.specs.Prelude.{if◌then◌else◌}
use Rattle.meaning.specs.TableFile.{Table, state_no, rule_of}
use Rattle.meaning.specs.Kinds.{act}
use Rattle.meaning.specs.Readings.{Entry, Reading, no_entry, top}
use Rattle.meaning.specs.Walk.{Walk, shift, reduce, ends}
use Rattle.meaning.specs.declared.Rule.{Rule}
use Rattle.meaning.specs.declared.Term.{Term}
use Rattle.meaning.specs.declared.ErrorRecord.{ErrorRecord}

-- item k of a rule of length n, counted from 1 at the left: the n top entries are the items, the top one is item n
abbrev pub item : List Entry → (n k : ℕ) → ℕ
item s n k = (get_or s (n - k) no_entry).value

unfoldable pub act_on : Rule → List Entry → Option ℕ
act_on q s = act q (item s q.len 1) (item s q.len q.pick)

-- A span over n popped entries runs from the lowest one's start to the highest one's end; with none it is empty at the end of the top entry.
unfoldable pub span_start : List Entry → (n : ℕ) → ℕ
span_start s zero = (top s).end
span_start s (suc n) = (get_or s n no_entry).start

-- the reading after a successful reduction by q to the state `to`: the mark grows by the rule's modulo 4,294,967,296, the new entry is born
unfoldable pub reduced : Rule → (to value : ℕ) → Reading → (born : ℕ) → Reading
reduced q to v r n =
    record {
      mark = (r.mark + q.mark) % 4294967296;
      stack = record { born = n; state = to; value = v; start = span_start r.stack q.len; end = (top r.stack).end } ∷ drop q.len r.stack;
    }

-- the reading after the shift of a term
unfoldable pub shifted : Term → (to : ℕ) → Reading → (born : ℕ) → Reading
shifted x to r n = record { mark = r.mark; stack = record { born = n; state = to; value = x.value; start = x.start; end = x.end } ∷ r.stack }

-- The error record of a refused action: the rule, the top state after popping, the mark before the action.
unfoldable pub refused_action : Table → (rule : ℕ) → Reading → ErrorRecord
refused_action t k r = record { rule = k; state = state_no (top (drop (rule_of t k).len r.stack)).state; mark = r.mark }

-- That of a reading that is not planned: no rule, its top state, its mark.
unfoldable pub unplanned : Reading → ErrorRecord
unplanned r = record { rule = 65535; state = state_no (top r.stack).state; mark = r.mark }

-- What applying gives: readings, errors, and the next identity that is free.
pub record Applied : Type 0 where
  pub results : List Reading
  pub errors : List ErrorRecord
  pub next : ℕ

abbrev pub nothing_applied : ℕ → Applied
nothing_applied n = record { results = []; errors = []; next = n }

abbrev pub one_result : Reading → ℕ → Applied
one_result r n = record { results = r ∷ []; errors = []; next = n }

abbrev pub one_error : ErrorRecord → ℕ → Applied
one_error e n = record { results = []; errors = e ∷ []; next = n }

abbrev pub joined : Applied → Applied → Applied
joined a b = record { results = a.results ++ b.results; errors = a.errors ++ b.errors; next = b.next }

-- the one, then the other with the identities that the one left free
abbrev pub then_applied : Applied → (ℕ → Applied) → Applied
then_applied a f = joined a (f a.next)

abbrev pub if_acts : Option ℕ → (ℕ → Applied) → Applied → Applied
if_acts None f refused = refused
if_acts (Some v) f refused = f v

-- A reduction below which no chain ends is not run. One that is shared by several chains runs once; if it refuses, all chains through it end, with one error record.
unfoldable pub apply : Table → Term → Walk → Reading → (next : ℕ) → Applied
apply t x (shift None) r n = nothing_applied n
apply t x (shift (Some to)) r n = one_result (shifted x to r n) (n + 1)
apply t x (reduce k to below beside) r n =
    then_applied
    (if ends below
    then if_acts (act_on (rule_of t k) r.stack) (λ v. apply t x below (reduced (rule_of t k) to v r n) (n + 1)) (one_error (refused_action t k r) n)
    else nothing_applied n)
    (λ n'. apply t x beside r n')
