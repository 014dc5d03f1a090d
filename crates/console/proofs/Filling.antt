-- A line that is filled with the bytes taken in, by the ways out of the code. Assumes nothing.
use mathlib.Core.Path.{◌≡◌, refl, sym, ap, subst, ◌∙◌}
use mathlib.Core.Bool.{Bool, true, false, not}
use mathlib.Core.Logic.{◌⊎◌, inl, inr}
use mathlib.Core.List.{List, [], ◌∷◌, ◌++◌}
use Prim.Native.Nat.{ℕ, suc, ◌+◌, ◌-◌, ◌<◌, ◌≤◌}
use native.Mathlib.Omega.{arith}
use lib.Dec.{eqb, ltb}
use Rattle.std.proofs.lemmas.Grind.{common_steps}
use lib.ListN.{length, get_or, set, take, drop, length-append, get_or-append}
use lib.Seq.{sets, sets-eq, length-sets, take_all, take-append-le}
use borrow.Author.Tests.{le-leb, ne_eqb, eq-eqb, eqb-true, eqb-false, lt-ltb, le-ltb, ltb-true, ltb-false}
use Rattle.meaning.specs.Basics.{both, every}
use Rattle.std.specs.Prelude.{if◌then◌else◌, Option, Some, None}
use Rattle.meaning.proofs.Booleans.{both_left, both_right, both_true}
use Rattle.console.specs.Text.{first_of}
use Rattle.console.specs.Input.{line_room, Fetched, Taken, PutIs, without_return, ended_line, ended_input, AtFeed, AtEnd, LineIs}
use Rattle.console.specs.declared.lines.Rest.{Rest}
use Rattle.console.specs.declared.lines.Byte.{Byte}
use Rattle.console.specs.declared.lines.Next.{Next}

-- No line feed.
abbrev is_plain : ℕ → Bool
is_plain b = not (eqb b 10)

-- The turns of the loop.
abbrev all_turns : ℕ
all_turns = 18446744073709551615

-- So far: these bytes, none of them a line feed, were taken in; the line has them, and they are counted.
pub record Filling (piece₀ : List ℕ) (rest₀ : Rest) (line₀ piece : List ℕ) (rest : Rest) (line : List ℕ) (n turns : ℕ) : Type 0 where
  pub bytes : List ℕ
  pub no_feed : every is_plain bytes ≡ true
  pub taken : Taken piece₀ rest₀ bytes piece rest
  pub holds : line ≡ sets line₀ 0 (take line_room bytes)
  pub short : length bytes ≤ line_room → n ≡ length bytes
  pub long : line_room < length bytes → n ≡ line_room + 1
  pub turned : length bytes ≡ turns

pub filling_begins : (piece : List ℕ) (rest : Rest) (line : List ℕ) → Filling piece rest line piece rest line 0 0
unfolding Taken
filling_begins piece rest line = record { bytes = []; no_feed = refl; taken = (refl, refl); holds = refl; short = λ h. refl; long = λ h. absurd (omega arith); turned = refl }

-- One byte more.
taken_more : (piece : List ℕ) (rest : Rest) (bytes p : List ℕ) (r : Rest) (b : ℕ) (p' : List ℕ) (r' : Rest) →
    Taken piece rest bytes p r → Fetched p r (Some (record { byte = b; rest = r' })) p' → Taken piece rest (bytes ++ b ∷ []) p' r'
unfolding Taken
taken_more piece rest [] p r b p' r' (e, f) g = record {
  piece₁ = p';
  rest₁ = r';
  fetched = subst (λ (x : List ℕ). Fetched x rest (Some (record { byte = b; rest = r' })) p') (sym e) (subst (λ (x : Rest). Fetched p x (Some (record { byte = b; rest = r' })) p') (sym f) g);
  further = (refl, refl);
}
taken_more piece rest (a ∷ bytes) p r b p' r' h g = record {
  piece₁ = h.piece₁;
  rest₁ = h.rest₁;
  fetched = h.fetched;
  further = taken_more h.piece₁ h.rest₁ bytes p r b p' r' h.further g;
}

plain_more : (bytes : List ℕ) (b : ℕ) → every is_plain bytes ≡ true → is_plain b ≡ true → every is_plain (bytes ++ b ∷ []) ≡ true
plain_more [] b h k = rw k
plain_more (a ∷ bytes) b h k =
    let rest = plain_more bytes b (both_right (is_plain a) (every is_plain bytes) h) k in
    both_true (is_plain a) (every is_plain (bytes ++ b ∷ [])) (both_left (is_plain a) (every is_plain bytes) h) rest

sets_more : (line : List ℕ) (i : ℕ) (vs : List ℕ) (b : ℕ) → sets line i (vs ++ b ∷ []) ≡ set (sets line i vs) (i + length vs) b
sets_more line i [] b = let u : i ≡ i + 0 = omega arith in ap (λ (k : ℕ). set line k b) u
sets_more line i (v ∷ vs) b =
    let u : suc i + length vs ≡ i + suc (length vs) = omega arith in
    sets_more (set line i v) (suc i) vs b ∙ ap (λ (k : ℕ). set (sets (set line i v) (suc i) vs) k b) u

module _ (piece₀ : List ℕ) (rest₀ : Rest) (line₀ piece : List ℕ) (rest : Rest) (line : List ℕ) (n turns : ℕ) (f : Filling piece₀ rest₀ line₀ piece rest line n turns) where
  abbrev m : ℕ
  m = length f.bytes

  counted_past : line_room ≤ m → line_room ≤ n
  counted_past l = by (ltb line_room m) refl
    where
      by : (t : Bool) → ltb line_room m ≡ t → line_room ≤ n
      by true e = let q = f.long (ltb-true line_room m e) in omega arith
      by false e = let q = f.short (ltb-false line_room m e) in omega arith

  -- what the line ends as is what its bytes end as
  last_byte : length line ≡ line_room → m ≤ line_room → 0 < m → get_or line (m - 1) 0 ≡ get_or f.bytes (m - 1) 0
  last_byte l s z =
      let all : take line_room f.bytes ≡ f.bytes = take_all line_room f.bytes s in
      let long : length line₀ ≡ length line = sym (length-sets line₀ 0 (take line_room f.bytes)) ∙ ap length (sym f.holds) in
      let is : line ≡ f.bytes ++ drop (0 + m) line₀ = f.holds ∙ ap (sets line₀ 0) all ∙ sets-eq f.bytes line₀ 0 (omega arith) in
      ap (λ (x : List ℕ). get_or x (m - 1) 0) is ∙ get_or-append f.bytes (drop (0 + m) line₀) 0 (m - 1) (omega arith)

  same_cut : length line ≡ line_room → m ≤ line_room → without_return line m ≡ without_return f.bytes m
  same_cut l s = at (ltb 0 m) refl
    where
      at : (t : Bool) → ltb 0 m ≡ t → (if both t (eqb (get_or line (m - 1) 0) 13) then m - 1 else m) ≡ (if both t (eqb (get_or f.bytes (m - 1) 0) 13) then m - 1 else m)
      at true e = ap (λ (x : ℕ). if eqb x 13 then m - 1 else m) (last_byte l s (ltb-true 0 m e))
      at false e = refl

  same_line : length line ≡ line_room → (rest' : Rest) → ended_line line n rest' ≡ ended_line f.bytes m rest'
  same_line l rest' = at (ltb line_room m) refl
    where
      at : (t : Bool) → ltb line_room m ≡ t → ended_line line n rest' ≡ ended_line f.bytes m rest'
      at true e =
          let q = f.long (ltb-true line_room m e) in
          let k : line_room < n = omega arith in
          rw (lt-ltb 131100 n k, e)
      at false e =
          let s = ltb-false line_room m e in
          let q = f.short s in
          ap (λ (k : ℕ). ended_line line k rest') q ∙ rw (e) (ap (λ (k : ℕ). record { length = Some k; rest = rest' }) (same_cut l s))

  line_more : (b n' : ℕ) (line' : List ℕ) → PutIs line n b n' line' → line' ≡ sets line₀ 0 (take line_room (f.bytes ++ b ∷ []))
  line_more b n' line' p = at (ltb m line_room) refl
    where
      at : (t : Bool) → ltb m line_room ≡ t → line' ≡ sets line₀ 0 (take line_room (f.bytes ++ b ∷ []))
      at true e =
          let l : m < line_room = ltb-true m line_room e in
          let s = f.short (omega arith) in
          let q : n ≡ 0 + m = omega arith in
          let k : n < line_room = omega arith in
          let j = length-append f.bytes (b ∷ []) in
          let here : line' ≡ set line n b = p.bytes ∙ rw (lt-ltb n 131100 k) in
          let all : take line_room f.bytes ≡ f.bytes = take_all line_room f.bytes (omega arith) in
          let more : take line_room (f.bytes ++ b ∷ []) ≡ f.bytes ++ b ∷ [] = take_all line_room (f.bytes ++ b ∷ []) (omega arith) in
          here ∙ ap (λ (x : List ℕ). set x n b) (f.holds ∙ ap (sets line₀ 0) all) ∙ ap (λ (k : ℕ). set (sets line₀ 0 f.bytes) k b) q ∙ sym (sets_more line₀ 0 f.bytes b) ∙ ap (sets line₀ 0) (sym more)
      at false e =
          let l : line_room ≤ m = ltb-false m line_room e in
          let k : line_room ≤ n = counted_past l in
          let here : line' ≡ line = p.bytes ∙ rw (le-ltb n 131100 k) in
          here ∙ f.holds ∙ ap (sets line₀ 0) (sym (take-append-le line_room f.bytes (b ∷ []) l))

  -- the next turn
  module _ (q : Option Byte) (piece' : List ℕ) (g : Fetched piece rest q piece') (next : Byte) (e : q ≡ Some next) where
    abbrev b : ℕ
    b = next.byte

    abbrev rest' : Rest
    rest' = next.rest

    fetched : Fetched piece rest (Some (record { byte = b; rest = rest' })) piece'
    fetched = subst (λ (x : Option Byte). Fetched piece rest x piece') e g

    pub filling_on : (b ≡ 10 → ⊥) → (n' : ℕ) (line' : List ℕ) → PutIs line n b n' line' → Filling piece₀ rest₀ line₀ piece' rest' line' n' (turns + 1)
    filling_on d n' line' p =
        let j = length-append f.bytes (b ∷ []) in
        let turned = f.turned in
        record {
          bytes = f.bytes ++ b ∷ [];
          no_feed = plain_more f.bytes b f.no_feed (rw (ne_eqb b 10 d));
          taken = taken_more piece₀ rest₀ f.bytes piece rest b piece' rest' f.taken fetched;
          holds = line_more b n' line' p;
          short = λ h. (let s = f.short (omega arith) in let k : n < line_room = omega arith in let c : n' ≡ n + 1 = p.counts ∙ rw (lt-ltb n 131100 k) in omega arith);
          long = λ h. (let k = counted_past (omega arith) in p.counts ∙ rw (le-ltb n 131100 k));
          turned = omega arith;
        }

    -- the line feed
    pub ends_at_feed : b ≡ 10 → length line ≡ line_room → (r : Next) → r ≡ ended_line line n rest' → LineIs piece₀ rest₀ line₀ (Some r) piece' line
    ends_at_feed d l r h = record {
      bytes = f.bytes;
      no_feed = f.no_feed;
      holds = f.holds;
      ends = inl (record {
        rest' = rest';
        taken = taken_more piece₀ rest₀ f.bytes piece rest 10 piece' rest' f.taken (subst (λ (x : ℕ). Fetched piece rest (Some (record { byte = x; rest = rest' })) piece') d fetched);
        is = ap Some (h ∙ same_line l rest');
      });
    }

  -- the end of the input
  some : (m ≡ 0 → ⊥) → n ≡ 0 → ⊥
  some d z = by (ltb line_room m) refl
    where
      by : (t : Bool) → ltb line_room m ≡ t → ⊥
      by true e = let q = f.long (ltb-true line_room m e) in omega arith
      by false e = let q = f.short (ltb-false line_room m e) in d (omega arith)

  same_input : length line ≡ line_room → ended_input line n rest ≡ ended_input f.bytes m rest
  same_input l = at (eqb m 0) refl
    where
      at : (t : Bool) → eqb m 0 ≡ t → ended_input line n rest ≡ ended_input f.bytes m rest
      at true e =
          let z = eqb-true m 0 e in
          let s = f.short (omega arith) in
          rw (eq-eqb n 0 (let u : n ≡ 0 = omega arith in u), e)
      at false e = rw (ne_eqb n 0 (some (eqb-false m 0 e)), e) (ap Some (same_line l rest))

  pub ends_at_end : (q : Option Byte) (piece' : List ℕ) → Fetched piece rest q piece' → q ≡ None → length line ≡ line_room → (r : Option Next) → r ≡ ended_input line n rest → LineIs piece₀ rest₀ line₀ r piece' line
  ends_at_end q piece' g e l r s = record {
    bytes = f.bytes;
    no_feed = f.no_feed;
    holds = f.holds;
    ends = inr (inl (record {
      last = piece;
      rest' = rest;
      taken = f.taken;
      over = subst (λ (x : Option Byte). Fetched piece rest x piece') e g;
      is = s ∙ same_input l;
    }));
  }

  -- no turn is left
  pub ends_late : all_turns ≤ turns → turns ≤ all_turns → LineIs piece₀ rest₀ line₀ None piece line
  ends_late h k = let turned = f.turned in record { bytes = f.bytes; no_feed = f.no_feed; holds = f.holds; ends = inr (inr (omega arith, refl)) }

-- The same, as the loop counts its turns: so many are left.
pub record FillingLeft (piece₀ : List ℕ) (rest₀ : Rest) (line₀ piece : List ℕ) (rest : Rest) (line : List ℕ) (n turns : ℕ) : Type 0 where
  pub filling : Filling piece₀ rest₀ line₀ piece rest line n (all_turns - turns)
  pub turned : length filling.bytes + turns ≡ all_turns

pub left_begins : (piece : List ℕ) (rest : Rest) (line : List ℕ) → FillingLeft piece rest line piece rest line 0 all_turns
left_begins piece rest line = let filling = filling_begins piece rest line in let none = filling.turned in record { filling = filling; turned = omega arith }

module _ (piece₀ : List ℕ) (rest₀ : Rest) (line₀ piece : List ℕ) (rest : Rest) (line : List ℕ) (n turns : ℕ) (f : FillingLeft piece₀ rest₀ line₀ piece rest line n turns) where
  module _ (q : Option Byte) (piece' : List ℕ) (g : Fetched piece rest q piece') (next : Byte) (e : q ≡ Some next) where
    pub left_on : (next.byte ≡ 10 → ⊥) → (n' : ℕ) (line' : List ℕ) → PutIs line n next.byte n' line' → 0 < turns → FillingLeft piece₀ rest₀ line₀ piece' next.rest line' n' (turns - 1)
    left_on d n' line' p some_left =
        let turned = f.turned in
        let more : Filling piece₀ rest₀ line₀ piece' next.rest line' n' (all_turns - turns + 1) = filling_on piece₀ rest₀ line₀ piece rest line n (all_turns - turns) f.filling q piece' g next e d n' line' p in
        let left : all_turns - turns + 1 ≡ all_turns - (turns - 1) = omega arith in
        let filling : Filling piece₀ rest₀ line₀ piece' next.rest line' n' (all_turns - (turns - 1)) = subst (Filling piece₀ rest₀ line₀ piece' next.rest line' n') left more in
        let long = filling.turned in
        record { filling = filling; turned = omega arith }

    pub left_at_feed : next.byte ≡ 10 → length line ≡ line_room → (r : Next) → r ≡ ended_line line n next.rest → LineIs piece₀ rest₀ line₀ (Some r) piece' line
    left_at_feed = ends_at_feed piece₀ rest₀ line₀ piece rest line n (all_turns - turns) f.filling q piece' g next e

  pub left_at_end : (q : Option Byte) (piece' : List ℕ) → Fetched piece rest q piece' → q ≡ None → length line ≡ line_room → (r : Option Next) → r ≡ ended_input line n rest → LineIs piece₀ rest₀ line₀ r piece' line
  left_at_end = ends_at_end piece₀ rest₀ line₀ piece rest line n (all_turns - turns) f.filling

  pub none_left : turns ≤ 0 → LineIs piece₀ rest₀ line₀ None piece line
  none_left h = ends_late piece₀ rest₀ line₀ piece rest line n (all_turns - turns) f.filling (omega arith) (omega arith)

-- What is given as a line is the bytes up to the line feed or the end of the input, without a carriage return at their end.
abbrev IsLine : (bytes : List ℕ) (n : ℕ) → Type 0
IsLine bytes n = (n ≡ without_return bytes (length bytes)) × (length bytes ≤ line_room)

module _ (bytes : List ℕ) (rest rest' : Rest) (n : ℕ) where
  ended_line_lem : Some (record { length = Some n; rest = rest }) ≡ Some (ended_line bytes (length bytes) rest') → IsLine bytes n
  ended_line_lem e = grind (arith, common_steps)

  ended_input_lem : Some (record { length = Some n; rest = rest }) ≡ ended_input bytes (length bytes) rest' → IsLine bytes n
  ended_input_lem e = at (eqb (length bytes) 0) refl
    where
      at : (t : Bool) → eqb (length bytes) 0 ≡ t → IsLine bytes n
      at true h = let g : Some (record { length = Some n; rest = rest }) ≡ None = rw h at e in cc
      at false h = ended_line_lem (rw h at e)

cut_shorter : (bytes : List ℕ) (n : ℕ) → without_return bytes n ≤ n
cut_shorter bytes n = at (both (ltb 0 n) (eqb (get_or bytes (n - 1) 0) 13))
  where
    at : (t : Bool) → (if t then n - 1 else n) ≤ n
    at true = omega arith
    at false = omega arith

module _ (piece : List ℕ) (rest : Rest) (line : List ℕ) (r : Option Next) (piece' line' : List ℕ) (g : LineIs piece rest line r piece' line') (l : length line ≡ line_room) where
  abbrev k : ℕ
  k = length g.bytes

  pub line_given : (n : ℕ) (rest' : Rest) → r ≡ Some (record { length = Some n; rest = rest' }) → first_of line' n ≡ take (without_return g.bytes k) g.bytes
  line_given n rest' e = by (is g.ends)
    where
      is : AtFeed piece rest g.bytes r piece' ⊎ (AtEnd piece rest g.bytes r piece' ⊎ ((k ≡ all_turns) × (r ≡ None))) → IsLine g.bytes n
      is (inl a) = ended_line_lem g.bytes rest' a.rest' n (sym e ∙ a.is)
      is (inr (inl a)) = ended_input_lem g.bytes rest' a.rest' n (sym e ∙ a.is)
      is (inr (inr a)) = let z : Some (record { length = Some n; rest = rest' }) ≡ None = sym e ∙ a.1 in cc

      by : IsLine g.bytes n → first_of line' n ≡ take (without_return g.bytes k) g.bytes
      by (m, s) =
          let c = cut_shorter g.bytes k in
          let all : take line_room g.bytes ≡ g.bytes = take_all line_room g.bytes s in
          let is : line' ≡ g.bytes ++ drop (0 + k) line = g.holds ∙ ap (sets line 0) all ∙ sets-eq g.bytes line 0 (omega arith) in
          let long : length line' ≡ length line = ap length g.holds ∙ length-sets line 0 (take line_room g.bytes) in
          let h : n ≤ length line' = omega arith in
          rw (le-leb n (length line') h) (ap (take n) is ∙ take-append-le n g.bytes (drop (0 + k) line) (omega arith) ∙ ap (λ (j : ℕ). take j g.bytes) m)
