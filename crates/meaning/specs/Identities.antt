-- Identities put in the place of others: only which places share an entry matters, not the numbers. Theorem: proofs/Identities.
use Rattle.std.specs.Prelude.{ℕ, ◌+◌, ◌≤◌, ◌≡◌, ◌⊎◌, true, List, map}
use Rattle.meaning.specs.Readings.{Entry, Reading, held_by}
use Rattle.meaning.specs.Outcome.{Fed}

abbrev pub ren_entry : (ℕ → ℕ) → Entry → Entry
ren_entry ρ e = record { born = ρ e.born; state = e.state; value = e.value; start = e.start; end = e.end }

abbrev pub ren_reading : (ℕ → ℕ) → Reading → Reading
ren_reading ρ r = record { mark = r.mark; stack = map (ren_entry ρ) r.stack }

abbrev pub ren_fed : (ℕ → ℕ) → Fed → Fed
ren_fed ρ f = record { answer = f.answer; readings = map (ren_reading ρ) f.readings; errors = f.errors; walked = f.walked; next = ρ f.next }

-- The identities that occur in a feed: those that its readings hold, and those from next on, which its births take.
abbrev pub Occurs : List Reading → (next : ℕ) → ℕ → Type 0
Occurs rs next a = (held_by rs a ≡ true) ⊎ (next ≤ a)

-- Two identities that occur never become one, and births stay in their order.
pub record Renaming (ρ : ℕ → ℕ) (rs : List Reading) (next : ℕ) : Type 0 where
  pub apart : (a b : ℕ) → Occurs rs next a → Occurs rs next b → ρ a ≡ ρ b → a ≡ b
  pub births : (m : ℕ) → next ≤ m → ρ (m + 1) ≡ ρ m + 1
