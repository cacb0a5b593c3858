use Rattle.std.proofs.Common.{◌∙◌}
use Rattle.engine_entry.proofs.NameNumbers.{config-numbered, number-known}
use Rattle.engine_entry.proofs.names.number_named.Goals as goal

pub returns : goal.returns
returns c j all named =
    c.number_by.ensures ∙ number-known j c.args.config.now c.args.numbers.now c.args.name.now (config-numbered j c.args.config.now c.args.numbers.now all named)
