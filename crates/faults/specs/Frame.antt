-- The frame: the length of the file, the five fields, the counts, in the order of the bytes.
use Rattle.std.specs.Prelude.{List, ℕ, ◌+◌, ◌*◌, leb, eqb, length}
use Rattle.meaning.specs.Bytes.{byte_at, u16_at}
use Rattle.meaning.specs.Limits.{max_states, max_classes, max_nonterminals, max_rules, max_bytes}
use Rattle.meaning.specs.declared.Counts.{Counts}
use Rattle.meaning.specs.declared.View.{View}
use Rattle.faults.specs.Verdicts.{Verdict, first, framed}
use Rattle.faults.specs.declared.Fault.{Fault}
use Rattle.faults.specs.declared.Fault.TheVariants.{TooLong, WrongTag, WrongLength, FewStates, ManyStates, FewClasses, ManyClasses, FewNonterminals, ManyNonterminals, ManyRules, WrongFlag, WrongEnd}

-- a count is not below the least, nor above the most
abbrev pub count_fault : (n least : ℕ) (few : Fault) (most : ℕ) (many : Fault) (byte : ℕ) → Verdict
count_fault n least few most many byte = first (framed (leb least n) few 1 byte) (framed (leb n most) many 1 byte)

abbrev pub states_fault : ℕ → Verdict
states_fault n = count_fault n 1 FewStates max_states ManyStates 3

abbrev pub classes_fault : ℕ → Verdict
classes_fault n = count_fault n 4 FewClasses max_classes ManyClasses 5

abbrev pub nonterminals_fault : ℕ → Verdict
nonterminals_fault n = count_fault n 1 FewNonterminals max_nonterminals ManyNonterminals 7

abbrev pub counts_fault : Counts → Verdict
counts_fault c =
    first (states_fault c.states)
    (first (classes_fault c.classes) (first (nonterminals_fault c.nonterminals) (framed (leb c.rules max_rules) ManyRules 1 9)))

abbrev pub tag_fault : List ℕ → (i field : ℕ) → Verdict
tag_fault s i field = framed (eqb (byte_at s i) field) WrongTag field i

abbrev pub head_fault : List ℕ → (i field len : ℕ) → Verdict
head_fault s i field len = first (tag_fault s i field) (framed (eqb (u16_at s (i + 1)) len) WrongLength field (i + 1))

abbrev pub back_fault : List ℕ → ℕ → Verdict
back_fault s i =
    first (head_fault s i 5 1) (first (framed (leb (byte_at s (i + 3)) 1) WrongFlag 5 (i + 3)) (framed (eqb (length s) (i + 4)) WrongEnd 5 (i + 4)))

unfoldable pub front_fault : List ℕ → Counts → Verdict
front_fault s c =
    first (framed (leb (length s) max_bytes) TooLong 0 max_bytes) (first (head_fault s 0 1 8) (first (counts_fault c) (head_fault s 11 2 (17 * c.rules))))

unfoldable pub frame_fault : List ℕ → View → Verdict
frame_fault s v =
    first (front_fault s v.counts) (first (tag_fault s v.rules.end 3) (first (tag_fault s v.actions.end 4) (back_fault s v.gotos.end)))
