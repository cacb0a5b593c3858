use Rattle.std.proofs.Common.{◌∙◌, refl}
use Rattle.std.specs.Prelude.{None}
use Rattle.std.specs.BTreeMap.{get_by_text}
use Rattle.ha_config.specs.Words.{same}
use Rattle.ha_config.proofs.IdLemmas.{turns}
use Rattle.entity_places.specs.Placed.{place_or}
use Rattle.entity_places.proofs.TableLemmas.{ok-then}
use Rattle.entity_places.proofs.places.put_place.Goals as goal

pub returns : goal.returns
returns c =
    let old = get_by_text c.args.table.now in
    ok-then c.put_name.result
    (λ put. turns None old (get_by_text c.put_name.new.table) c.args.entity.now c.text.ensures.domain (place_or c.args.place) refl
    (λ q. put q ∙ (λ i. place_or c.args.place (same (c.text.ensures.value i) q) (old q))))
    c.put_name.ensures
