-- `table::rules::find_rule` meets its contract. Assumes nothing.
use Rattle.std.proofs.Common.{◌≡◌, ◌∙◌}
use Rattle.meaning.specs.TableFile.{no_rule}
use Rattle.table.proofs.RuleLaws.{rule_found, rule_out}
use Rattle.table.proofs.rules.find_rule.Goals as goal

pub returns-then-number-n : goal.returns-then-number-n
returns-then-number-n c = search (rule_found)

pub returns : goal.returns
returns c =
    let h = c.default.ensures in
    let zero : c.default.result ≡ no_rule = λ i. record { left = h.0 i; len = h.1.0 i; kind = h.1.1.0 i; pick = h.1.1.1.0 i; mark = h.1.1.1.1.0 i; low = h.1.1.1.1.1.0 i; high = h.1.1.1.1.1.1 i } in
    zero ∙ search (rule_out)
