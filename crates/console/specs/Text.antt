-- What stands in a line of text: words, numbers in decimal with blanks between two, terms.
use Rattle.std.specs.Prelude.{◌≡◌, Bool, ◌&&◌, ◌||◌, List, [], ◌∷◌, ℕ, ◌+◌, ◌-◌, ◌*◌, eqb, ltb, leb, length, take, drop, take_while, reverse, Option, Some, None, option_and_then, if◌then◌else◌}
use Rattle.std.specs.List.{starts_with}
use Rattle.meaning.specs.declared.Term.{Term}
use Rattle.console.specs.declared.words.Number.{Number}
use Rattle.console.specs.declared.words.Scan.{Scan}

-- A blank or a tab.
abbrev pub is_blank : (byte : ℕ) → Bool
is_blank b = eqb b 32 || eqb b 9

-- Past the blanks that stand from a place on, and where those at the end begin.
abbrev pub past_blanks : List ℕ → (at : ℕ) → ℕ
past_blanks line at = at + length (take_while is_blank (drop at line))

abbrev pub text_end : List ℕ → ℕ
text_end line = length line - length (take_while is_blank (reverse line))

-- A digit's value, up to 15.
abbrev pub digit_of : (byte : ℕ) → Option ℕ
digit_of b =
    if leb 48 b && leb b 57 then Some (b - 48)
    else if leb 97 b && leb b 102 then Some (b - 87)
    else if leb 65 b && leb b 70 then Some (b - 55)
    else None

-- A decimal digit's.
abbrev pub decimal_of : (byte : ℕ) → Option ℕ
decimal_of b = if leb 48 b && leb b 57 then Some (b - 48) else None

-- The decimal digits at the front of a text, and the number that they are, with v before them.
abbrev pub digit_then : Option ℕ → List ℕ → List ℕ
digit_then None ds = []
digit_then (Some d) ds = if leb d 9 then d ∷ ds else []

unfoldable pub digits : List ℕ → List ℕ
digits [] = []
digits (b ∷ text) = digit_then (digit_of b) (digits text)

unfoldable pub number_from : (v : ℕ) → List ℕ → ℕ
number_from v [] = v
number_from v (d ∷ ds) = number_from (v * 10 + d) ds

-- The greatest number of 32 bits, and a number up to it.
abbrev pub greatest : ℕ
greatest = 4294967295

abbrev pub fitting : ℕ → Option ℕ
fitting v = if leb v greatest then Some v else None

-- With one digit more; a number that is too great only stays so.
abbrev pub grown_by : (value digit : ℕ) → ℕ
grown_by v d = if leb v greatest then v * 10 + d else v

pub record ScanIs (text : List ℕ) (r : Scan) : Type 0 where
  pub count : r.count ≡ length (digits text)
  pub value : r.value ≡ fitting (number_from 0 (digits text))

-- A number of at least one digit and at most 32 bits, and where the line goes on.
abbrev pub digits_at : List ℕ → (at : ℕ) → List ℕ
digits_at line at = digits (drop at line)

abbrev pub number_at : List ℕ → (at : ℕ) → Option Number
number_at line at =
    if eqb (length (digits_at line at)) 0 then None
    else option_and_then (λ value. Some (record { value = value; next = past_blanks line (at + length (digits_at line at)) })) (fitting (number_from 0 (digits_at line at)))

-- The same as the line's last.
abbrev pub last_at : List ℕ → (at : ℕ) → Option ℕ
last_at line at = option_and_then (λ (number : Number). if eqb number.next (length line) then Some number.value else None) (number_at line at)

abbrev pub last_number : List ℕ → (at : ℕ) → Option ℕ
last_number line at = last_at line (past_blanks line at)

-- A class above 65,535 is given as 65,535, which no table has.
abbrev pub short_of : ℕ → ℕ
short_of v = if ltb 65535 v then 65535 else v

-- Class, value, start and end, to the line's end.
abbrev pub term_at : List ℕ → (at : ℕ) → Option Term
term_at line at =
    option_and_then (λ (class : Number).
    option_and_then (λ (value : Number).
    option_and_then (λ (start : Number).
    option_and_then (λ end. Some (record { class = short_of class.value; value = value.value; start = start.value; end = end }))
    (last_at line start.next)) (number_at line value.next)) (number_at line class.next)) (number_at line (past_blanks line at))

-- Behind a word that a line begins with, past the blanks; where neither a blank stands there nor the line ends, the line's word is another.
abbrev pub behind_word : (line word : List ℕ) → Option ℕ
behind_word line word =
    let next = past_blanks line (length word) in
    if starts_with eqb line word && (ltb (length word) next || leb (length line) (length word)) then Some next else None

-- The first n bytes; none where there are fewer.
abbrev pub first_of : List ℕ → (n : ℕ) → List ℕ
first_of bytes n = if leb n (length bytes) then take n bytes else []

-- A line without the blanks at its end and at its front.
abbrev pub trimmed_of : List ℕ → List ℕ
trimmed_of line =
    let text = first_of line (text_end line) in
    drop (past_blanks text 0) text
