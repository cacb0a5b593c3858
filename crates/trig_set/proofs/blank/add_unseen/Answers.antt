use Rattle.std.proofs.Common.{◌∙◌, ◌∷◌, ◌++◌, [], ap, sym, Some, take}
use Rattle.std.specs.List.{list_any}
use Rattle.ha_config.specs.Words.{same_entity}
use Rattle.trig_set.proofs.OnLemmas.{on-then}
use Rattle.trig_set.proofs.BlankLemmas.{place-again, place-new}
use Rattle.trig_set.proofs.blank.add_unseen.Goals as goal

pub returns-then-known-clause-places : goal.returns-then-known-clause-places
returns-then-known-clause-places c front is =
    is
    ∙ ap (λ l. front ++ l) (place-again c.args.trigger front c.args.entities.now c.args.place c.index-entities-place.result c.requires.within
    (ap (λ x. list_any (λ e. same_entity e x) (take c.args.place c.args.entities.now)) (sym c.index-entities-place.is) ∙ sym (c.requires.seen c.index-entities-place.result) ∙ sym c.is_seen-known.ensures ∙ c.if-known.true))

pub returns-clause-places : goal.returns-clause-places
returns-clause-places c =
    on-then _ _ c.add.result
    (λ e front is.
    e
    ∙ (λ i. is i ++ ((c.args.trigger, Some ((c.in_ok-copy.ensures ∙ c.index-entities-place.is) i)) ∷ []))
    ∙ place-new c.args.trigger front c.args.entities.now c.args.place c.index-entities-place.result c.requires.within
    (ap (λ x. list_any (λ e. same_entity e x) (take c.args.place c.args.entities.now)) (sym c.index-entities-place.is) ∙ sym (c.requires.seen c.index-entities-place.result) ∙ sym c.is_seen-known.ensures ∙ c.if-known.false))
    c.add.ensures.places
