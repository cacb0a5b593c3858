use Rattle.std.proofs.Common.{◌∙◌, ap, false, refl}
use Rattle.std.specs.Prelude.{◌&&◌, not}
use Rattle.ha_config.specs.Words.{Text, same}
use Rattle.ha_config.proofs.IdLemmas.{agrees, turns}
use Rattle.event_bus.specs.Lists.{has_at}
use Rattle.event_bus.proofs.lists.take_for.Goals as goal

pub returns-clause-own : goal.returns-clause-own
returns-clause-own c =
    let old = λ (q : Text). has_at c.args.lists.now q c.args.number in
    let new = λ (q : Text). has_at c.take_at.new.lists q c.args.number in
    turns false old new c.args.entity.now c.text.ensures.domain (λ b x. not b && x) refl (λ q. c.take_at.ensures.own q ∙ ap (λ t. not (same t q) && old q) c.text.ensures.value)

pub returns-clause-others : goal.returns-clause-others
returns-clause-others c e k apart =
    agrees false (λ q. has_at c.args.lists.now q k) (λ q. has_at c.take_at.new.lists q k) (λ q. c.take_at.ensures.others q k apart) e
