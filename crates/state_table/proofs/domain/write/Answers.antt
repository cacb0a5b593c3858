use Rattle.std.proofs.Common.{◌≡◌, sym, subst, ◌∙◌}
use Rattle.std.specs.Prelude.{None, OnOk}
use Rattle.ha_sight.specs.StateStep.{next_object}
use Rattle.ha_config.specs.Words.{Pairs}
use Rattle.ha_config.proofs.EqualLemmas.{same_pairs-sound}
use Rattle.state_table.proofs.domain.write.Goals as goal

pub returns-then-same_data-clause-ok : goal.returns-then-same_data-clause-ok
returns-then-same_data-clause-ok c =
    subst (λ (ps : Pairs). OnOk c.write_text.result (c.write_text.new.state ≡ next_object None c.args.text.now ps c.args.now))
    (same_pairs-sound c.args.state.now.attributes c.args.attributes.now (sym c.same_data.ensures ∙ c.if-same_data.true)) c.write_text.ensures.ok
