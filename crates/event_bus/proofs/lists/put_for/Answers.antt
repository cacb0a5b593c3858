use Rattle.std.proofs.Common.{◌∙◌, ap, false, refl}
use Rattle.std.specs.Prelude.{◌||◌}
use Rattle.ha_config.specs.Words.{Text, same}
use Rattle.ha_config.proofs.IdLemmas.{agrees, turns}
use Rattle.event_bus.specs.Lists.{has_at}
use Rattle.event_bus.proofs.ListLemmas.{err-then, on-then}
use Rattle.event_bus.proofs.lists.put_for.Goals as goal

pub returns-clause-own : goal.returns-clause-own
returns-clause-own c =
    let old = λ (q : Text). has_at c.args.lists.now q c.args.number in
    let new = λ (q : Text). has_at c.put_at.new.lists q c.args.number in
    on-then _ _ c.put_at.result
    (λ own. turns false old new c.args.entity.now c.text.ensures.domain (λ b x. b || x) refl (λ q. own q ∙ ap (λ t. same t q || old q) c.text.ensures.value))
    c.put_at.ensures.own

pub returns-clause-others : goal.returns-clause-others
returns-clause-others c e k apart =
    agrees false (λ q. has_at c.args.lists.now q k) (λ q. has_at c.put_at.new.lists q k) (λ q. c.put_at.ensures.others q k apart) e

pub returns-clause-err : goal.returns-clause-err
returns-clause-err c =
    err-then _ _ c.put_at.result
    (λ as_before e k. agrees false (λ q. has_at c.args.lists.now q k) (λ q. has_at c.put_at.new.lists q k) (λ q. as_before q k) e) c.put_at.ensures.err
