-- The sizes that the tablet allows: the eight limits of the machine, and what goes with them.
use Rattle.std.specs.Prelude.{ℕ}

abbrev pub max_states : ℕ
max_states = 512

abbrev pub max_classes : ℕ
max_classes = 64

abbrev pub max_nonterminals : ℕ
max_nonterminals = 64

abbrev pub max_rules : ℕ
max_rules = 256

abbrev pub max_readings : ℕ
max_readings = 16

abbrev pub max_height : ℕ
max_height = 64

-- reductions in a chain
abbrev pub max_chain : ℕ
max_chain = 32

-- reductions walked in one planning
abbrev pub max_walked : ℕ
max_walked = 1024

-- A table file, the state buffer and the work area have at most this many bytes each.
abbrev pub max_bytes : ℕ
max_bytes = 65536

-- records of the error list
abbrev pub max_errors : ℕ
max_errors = 32

-- values, spans and marks have 32 bits
abbrev pub max_value : ℕ
max_value = 4294967295
