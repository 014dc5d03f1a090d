-- The eleven constants of the machine, each by its definition.
use Rattle.meaning.specs.Limits.{max_states, max_classes, max_nonterminals, max_rules, max_readings, max_height, max_chain, max_walked, max_errors}
use Rattle.state.specs.Layout.{state_len, work_len}
use Rattle.machine.specs.declared.Limits.{Limits}

abbrev pub limits : Limits
limits =
    record {
      states = max_states;
      classes = max_classes;
      nonterminals = max_nonterminals;
      rules = max_rules;
      readings = max_readings;
      height = max_height;
      chain = max_chain;
      walked = max_walked;
      state_length = state_len;
      work_length = work_len;
      errors = max_errors;
    }
