use Rattle.std.proofs.Common.{sym, ◌∙◌}
use Rattle.state_table.proofs.DomainLemmas.{unchanged}
use Rattle.state_table.proofs.domain.update.Goals as goal

pub returns-then-same_data-clause-ok : goal.returns-then-same_data-clause-ok
returns-then-same_data-clause-ok c =
    unchanged c.args.object.now _ _ c.args.now (sym c.same_text.ensures ∙ c.if-not-same_text.false) (sym c.same_data.ensures ∙ c.if-same_data.true)
