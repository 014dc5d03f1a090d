-- The ways out of reading a stack, and its entries by recursion. Assumes nothing.
use mathlib.Core.Path.{◌≡◌, refl, sym, ap, ◌∙◌, subst}
use mathlib.Core.Bool.{Bool, true, false}
use mathlib.Core.List.{List, [], ◌∷◌, map, append-nil}
use Prim.Native.Nat.{ℕ, zero, suc, ◌+◌, ◌-◌, ◌*◌, ◌<◌, ◌≤◌}
use native.Mathlib.Omega.{arith}
use lib.Dec.{eqb}
use lib.ListN.{length, take, drop, set, replicate, length-map}
use borrow.Author.Tests.{eq-eqb, ne_eqb, le-leb, lt-leb}
use Rattle.std.specs.Prelude.{Result, Ok, Err, MatchResult}
use Rattle.std.specs.Array.{IsWholeChunk}
use Rattle.std.proofs.Math.Seq.{take-length}
use Rattle.std.proofs.lemmas.List.{drop_all}
use borrow.Rule.Slice.PartMut.{mid_of, put_mid}
use Rattle.meaning.specs.Basics.{is_nil}
use Rattle.meaning.specs.Calls.{written, StackCall, stack_right, stack_call, stack_refused, stack_read, no_reading}
use Rattle.meaning.specs.Readings.{seen}
use Rattle.meaning.specs.declared.Entry.{Entry as SeenEntry}
use Rattle.meaning.specs.declared.Refusal.{Refusal}
use Rattle.meaning.specs.declared.Refusal.TheVariants.{WrongLength, Consumed, WrongArgument}
use Rattle.meaning.specs.TableFile.{Table}
use Rattle.cells.specs.Pool.{cell_size, cell_at}
use Rattle.cells.specs.Stacks.{Pool, entry_at, entries_of, StackIn}
use Rattle.cells.specs.declared.Cell.{Cell}
use Rattle.meaning.proofs.Booleans.{both_false}
use Rattle.cells.proofs.Stacks.{length_entries}
use Rattle.lists.specs.Filling.{Entries, no_entry, stored, filled}
use Rattle.state.specs.Layout.{state_len, readings_at, slot_size}
use Rattle.state.specs.Readings.{slot_at, top_at, height_at, reading_at, readings_from, count_of, readings_of, ListIn}
use Rattle.state.specs.declared.Slot.{Slot}
use Rattle.state.proofs.Holding.{first_slot, top_room, top_stack}
use Rattle.state.proofs.Lists.{length_readings, reading_numbered}
use Rattle.state.proofs.Valid.{waiting_list}
use Rattle.checks.specs.Checks.{found_of}
use Rattle.promises.specs.Buffers.{lists_right, state_for}
use Rattle.promises.specs.Calls.{stack_on, StackPromise}
use Rattle.by_value.specs.Reading.{no_entries, ReadReady, EntriesRead, refused_read, handed_read, RightState, ReadPromise}
use Rattle.by_value.specs.declared.reading.StackRead.{StackRead}
use Rattle.checks.proofs.Checks.{some_readings, file_found, valid_found, checked_refused, checked_right}
use Rattle.by_value.proofs.Listing.{filled_on, stack_lists}

abbrev seen_of : Pool → (height top : ℕ) → List SeenEntry
seen_of p h c = map seen (entries_of p h c)

-- The ways out of the recursion down a stack.
pub into_none : (p : Pool) (h c : ℕ) (out : List SeenEntry) → h ≡ 0 → out ≡ written (seen_of p h c) out
unfolding entries_of
into_none p h c out e = rw e

pub into_more : (p : Pool) (h c : ℕ) (out : List SeenEntry) (y : SeenEntry) (x : Cell) (rest : List SeenEntry) → y ≡ seen (entry_at p c) → x ≡ p c → (h ≡ 0 → ⊥) → h ≤ length out →
    rest ≡ written (seen_of p (h - 1) x.parent.0) (mid_of 1 (length (set out 0 y) - 1) (set out 0 y)) → put_mid 1 (length (set out 0 y) - 1) (set out 0 y) rest ≡ written (seen_of p h c) out
unfolding entries_of
into_more p zero c out y x rest f e z l r = absurd (z refl)
into_more p (suc h) c [] y x rest f e z l r = absurd (omega arith)
into_more p (suc h) c (old ∷ out) y x rest f e z l r =
    let u : suc h - 1 ≡ h = omega arith in
    let k : suc (length out) - 1 ≡ length out = omega arith in
    rw (r, k, u, take-length, drop_all (length out) out (omega arith), append-nil, f, e)

pub into_room : (h : ℕ) (out : List SeenEntry) (y : SeenEntry) → (h ≡ 0 → ⊥) → h ≤ length out → h - 1 ≤ length (take (length (set out 0 y) - 1) (drop 1 (set out 0 y)))
into_room h [] y z l = absurd (z (omega arith))
into_room h (old ∷ out) y z l =
    let k : suc (length out) - 1 ≡ length out = omega arith in
    rw (k, take-length) (omega arith)

pub into_ready : (s : List ℕ) (height top : ℕ) → ReadReady s height top → (height ≤ 64) × StackIn s height top
into_ready s height top y = (y.few, y.stack)

pub entries_read : (s : List ℕ) (height top n : ℕ) (none : SeenEntry) (list : List SeenEntry) → ReadReady s height top → (none.state.0 ≡ 0) × ((none.value ≡ 0) × ((none.start ≡ 0) × (none.end ≡ 0))) →
    list ≡ written (seen_of (cell_at s) height top) (replicate 64 none) → n ≡ height → EntriesRead (seen_of (cell_at s) height top) (record { list = list; count = n })
entries_read s height top n none list y z e f =
    let same : none ≡ no_entry = λ i. record { state = record { 0 = z.0 i }; value = z.1.0 i; start = z.1.1.0 i; end = z.1.1.1 i } in
    rw f (record {
      count_is = sym (length-map (entries_of (cell_at s) height top) seen ∙ length_entries (cell_at s) height top);
      few = y.few;
      list_is = e ∙ ap (λ (x : SeenEntry). written (seen_of (cell_at s) height top) (replicate 64 x)) same;
    })

-- The ways out.
call_as : (call call' : List SeenEntry → StackCall) (r : StackRead) → call no_entries.list ≡ call' no_entries.list → ReadPromise call r → ReadPromise call' r
call_as call call' r e p =
    record {
      answers = p.answers ∙ ap (λ (s : StackCall). s.says) e;
      entries_are = p.entries_are ∙ ap (λ (s : StackCall). s.entries) e;
      count_is = p.count_is ∙ ap (λ (s : StackCall). s.says.height) e;
      few = p.few;
    }

refused_promise : (call : List SeenEntry → StackCall) (k : Refusal) → stack_refused no_entries.list k ≡ call no_entries.list → ReadPromise call (refused_read k)
refused_promise call k = λ f. call_as (λ ys. stack_refused ys k) call (refused_read k) f (record { answers = refl; entries_are = refl; count_is = refl; few = omega arith })

module _ (state : List ℕ) (number count : ℕ) (e : count ≡ count_of state) where
  pub stack_consumed : count ≡ 0 → ReadPromise (stack_right (readings_of state) number) (refused_read Consumed)
  unfolding stack_right readings_from
  stack_consumed z = refused_promise (stack_right (readings_of state) number) Consumed (rw (← e, z))

  module _ (some : count ≡ 0 → ⊥) where
    not_nil : is_nil (readings_of state) ≡ false
    not_nil = some_readings state (count_of state) (λ z. some (e ∙ z))

    pub stack_none : count ≤ number → ReadPromise (stack_right (readings_of state) number) (refused_read WrongArgument)
    unfolding stack_right
    stack_none h =
        refused_promise (stack_right (readings_of state) number) WrongArgument
        (rw (not_nil, length_readings state readings_at 0 (count_of state), le-leb (count_of state) number (omega arith)))

    module _ (y : RightState state) (l : length state ≡ state_len) (h : number < count) where
      listed : ListIn state readings_at number (count - number)
      listed = waiting_list y.states state y.valid l number (count - number) (omega arith)

      stack_is : stack_read no_entries.list (reading_at state readings_at number) ≡ stack_right (readings_of state) number no_entries.list
      unfolding stack_right
      stack_is =
          let u : 0 + number ≡ number = omega arith in
          rw (not_nil, length_readings state readings_at 0 (count_of state), lt-leb (count_of state) number (omega arith), reading_numbered state readings_at 0 (count_of state) number no_reading (omega arith), u)

      pub number_slot : readings_at + slot_size * number + slot_size ≤ length state
      number_slot = first_slot state readings_at number (count - number) (λ z. omega arith) listed

      module _ (slot : Slot) (f : slot ≡ slot_at state readings_at number) where
        pub number_room : cell_size * slot.top.0 + cell_size ≤ length state
        number_room = top_room state readings_at number (count - number) (λ z. omega arith) listed slot f

        module _ (x : Cell) (g : x ≡ cell_at state slot.top.0) where
          pub number_ready : ReadReady state x.height slot.top.0
          number_ready =
              record {
                few = rw (g, f) (listed.stands number (omega arith) (omega arith)).high;
                stack = top_stack state readings_at number (count - number) (λ z. omega arith) listed slot f x g;
              }

          pub stack_done : (r : Entries) → EntriesRead (seen_of (cell_at state) x.height slot.top.0) r → ReadPromise (stack_right (readings_of state) number) (record { answer = Ok (record { height = x.height; mark = slot.mark }); entries = r })
          stack_done r d =
              let h : x.height ≡ length (reading_at state readings_at number).stack =
              rw (g, f) (sym (length_entries (cell_at state) (height_at state readings_at number) (top_at state readings_at number))) in
              let m : slot.mark ≡ (reading_at state readings_at number).mark = rw f in
              call_as (λ ys. stack_read ys (reading_at state readings_at number)) (stack_right (readings_of state) number) (record { answer = Ok (record { height = x.height; mark = slot.mark }); entries = r }) stack_is (record {
                answers = λ i. record { answer = 0; height = h i; mark = m i };
                entries_are = d.list_is ∙ rw (g, f);
                count_is = d.count_is ∙ rw (g, f) (length-map (reading_at state readings_at number).stack seen);
                few = d.few;
              })

-- By what the checks find.
module _ (table state : List ℕ) (number : ℕ) (q : Result Table Refusal) (says : q ≡ found_of table state) where
  pub stack_refused_lem : (k : Refusal) → q ≡ Err k → ReadPromise (stack_on true table state number) (refused_read k)
  unfolding stack_call stack_right
  stack_refused_lem k e =
      refused_promise (stack_on true table state number) k (checked_refused table state q says (stack_refused no_entries.list) (λ t rs. stack_right rs number no_entries.list) k e)

  module _ (t : Table) (e : q ≡ Ok t) where
    pub right_state : RightState state
    right_state = record { states = t.counts.states; valid = valid_found table state q says t e }

    pub stack_found : (r : StackRead) → ReadPromise (stack_right (readings_of state) number) r → ReadPromise (stack_on true table state number) r
    unfolding stack_call stack_right
    stack_found r =
        call_as (stack_right (readings_of state) number) (stack_on true table state number) r
        (checked_right table state t (file_found table state q says t e) (valid_found table state q says t e) (stack_refused no_entries.list) (λ t rs. stack_right rs number no_entries.list))

-- what a stack read on a state buffer of the right length is handed back as
pub read_handed : (q : Result StackRead Refusal) (r : StackRead) → MatchResult q (λ x. r ≡ x) (λ k. r ≡ refused_read k) → r ≡ handed_read q
read_handed (Ok x) r e = e
read_handed (Err k) r e = e

-- Check 1.
lists_short : (state : List ℕ) (places : ℕ) → eqb places 64 ≡ false → lists_right state places ≡ false
unfolding lists_right
lists_short state places e = rw (e, both_false (eqb (length state) 18532))

module _ (table state : List ℕ) (number places : ℕ) where
  abbrev on_bytes : List SeenEntry → StackCall
  on_bytes = stack_on (lists_right state places) table state number

  refused_length : lists_right state places ≡ false → ReadPromise on_bytes (refused_read WrongLength)
  unfolding stack_call
  refused_length e = refused_promise on_bytes WrongLength (rw e)

  pub stack_length : (length state ≡ state_len → ⊥) → (r : StackRead) → r ≡ refused_read WrongLength → ReadPromise on_bytes r
  unfolding lists_right
  stack_length l r e = rw e (refused_length (rw (ne_eqb (length state) 18532 l)))

  pub stack_places : (places ≡ 64 → ⊥) → (r : StackRead) → r ≡ refused_read WrongLength → ReadPromise on_bytes r
  stack_places l r e = rw e (refused_length (lists_short state places (ne_eqb places 64 l)))

  pub stack_long : (same : List ℕ) → IsWholeChunk state same state_len → places ≡ 64 → (q r : StackRead) → ReadPromise (stack_on true table same number) q → r ≡ q → ReadPromise on_bytes r
  unfolding lists_right
  stack_long same w m q r p e = rw (e, eq-eqb (length state) 18532 w.long, eq-eqb places 64 m, ← w.same) p

-- The call by value is a public one: for every lent list, filled with the entries, what `Machine::stack` promises.
no_height : (table state : List ℕ) (number : ℕ) → (stack_on false table state number no_entries.list).says.height ≡ 0
unfolding stack_call
no_height table state number = refl

module _ (table state : List ℕ) (number : ℕ) (ys : List SeenEntry) (r : StackRead) (p : ReadPromise (stack_on (lists_right state (length ys)) table state number) r) where
  pub stack_listed : StackPromise table state number ys r.answer (filled r.entries.list ys r.entries.count)
  stack_listed =
      let l = stack_lists (lists_right state (length ys)) table (state_for table state) number in
      record {
        answers = p.answers ∙ l.same no_entries.list ys;
        entries_are = rw (p.entries_are, p.count_is) (filled_on _ _ _ (stack_on (lists_right state (length ys)) table state number) l no_entries.list ys);
      }

  -- where the list has another length, there are no entries to be stored
  all_stored : (b : Bool) → eqb (length ys) 64 ≡ b → stored 64 (length ys) r.entries.count ≡ r.entries.count
  all_stored true e = rw (e, le-leb r.entries.count 64 p.few)
  all_stored false e = rw e (sym (p.count_is ∙ rw (lists_short state (length ys) e) (no_height table state number)))

  pub stack_filled : (n : ℕ) (zs : List SeenEntry) → n ≡ stored 64 (length ys) r.entries.count → zs ≡ filled r.entries.list ys n → StackPromise table state number ys r.answer zs
  stack_filled n zs e f =
      let is : zs ≡ filled r.entries.list ys r.entries.count = f ∙ ap (filled r.entries.list ys) (e ∙ all_stored (eqb (length ys) 64) refl) in
      subst (StackPromise table state number ys r.answer) (sym is) stack_listed
