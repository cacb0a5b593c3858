use Rattle.std.proofs.Common.{◌≡◌, ◌+◌, length, length-append, ◌∙◌, arith}
use Rattle.std.specs.Prelude.{map}
use Rattle.std.proofs.lemmas.List.{length-map}
use Rattle.ha_config.specs.declared.config.Config.{Config}
use Rattle.ha_config.specs.Units.{as_unit, units_of}
use Rattle.ha_engine.proofs.boot.unit_count.Goals as goal

units-many : (c : Config) → length (units_of c) ≡ length c.automations + length c.scripts
units-many c = length-append c.automations (map as_unit c.scripts) ∙ (λ i. length c.automations + length-map c.scripts as_unit i)

pub overflow_add-result : goal.overflow_add-result
overflow_add-result c = (let many = units-many c.args.config.now in omega (arith, many, c.requires, c.len.ensures, c.len-2.ensures))

pub returns-clause-count : goal.returns-clause-count
returns-clause-count c = (let many = units-many c.args.config.now in omega (arith, many, c.len.ensures, c.len-2.ensures))

pub returns-clause-few : goal.returns-clause-few
returns-clause-few c = (let many = units-many c.args.config.now in omega (arith, many, c.requires, c.len.ensures, c.len-2.ensures))
