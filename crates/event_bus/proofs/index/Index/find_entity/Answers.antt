use Rattle.std.proofs.Common.{◌∙◌, ap, false, sym}
use Rattle.std.specs.HashMap.{get_by_text}
use Rattle.std.specs.Option.{option_map_or}
use Rattle.ha_config.proofs.IdLemmas.{here}
use Rattle.event_bus.specs.Lists.{has, has_at}
use Rattle.event_bus.proofs.index.Index.find_entity.Goals as goal

pub returns-in-Some : goal.returns-in-Some
returns-in-Some c n =
    let m = c.args.self.now.entities in
    ap (λ o. option_map_or (λ set. has set n) o false) (c.in-Some.ensures.value ∙ ap (get_by_text m) c.text.ensures.value)
    ∙ sym (here false (λ q. has_at m q n) c.args.entity.now c.text.ensures.domain)

pub returns-in-None : goal.returns-in-None
returns-in-None c n =
    let m = c.args.self.now.entities in
    ap (λ o. option_map_or (λ set. has set n) o false) (c.in-None.ensures.value ∙ ap (get_by_text m) c.text.ensures.value)
    ∙ sym (here false (λ q. has_at m q n) c.args.entity.now c.text.ensures.domain)
