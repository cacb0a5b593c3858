use Rattle.std.proofs.Common.{◌∙◌, ◌++◌, ◌∷◌, [], sym}
use Rattle.std.specs.Prelude.{if◌then◌else◌}
use Rattle.ha_config.proofs.ListLemmas.{append-nil}
use Rattle.unit_book.proofs.grown.add_origin.Goals as goal

pub returns-then-is_below : goal.returns-then-is_below
returns-then-is_below c =
    sym (append-nil c.args.origins.now.items)
    ∙ (λ i. c.args.origins.now.items ++ (if sym (sym c.is_below.ensures ∙ c.if-is_below.true) i then [] else (c.args.latest, c.args.at) ∷ []))

pub returns : goal.returns
returns c =
    c.in_ok-push.ensures.items
    ∙ (λ i. c.args.origins.now.items ++ (if sym (sym c.is_below.ensures ∙ c.if-is_below.false) i then [] else (c.args.latest, c.args.at) ∷ []))
