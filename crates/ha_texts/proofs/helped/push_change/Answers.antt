use Rattle.std.proofs.Common.{codes}
use Rattle.ha_config.specs.CommandText.{id_text}
use Rattle.ha_config.specs.ValueText.{quoted}
use Rattle.ha_sight.specs.ItemText.{event_or_null, span_or_null}
use Rattle.ha_texts.proofs.LineLemmas.{four_pairs}
use Rattle.ha_texts.proofs.helped.push_change.Goals as goal

pub returns : goal.returns
returns c =
    let made = c.args.change.now in
    four_pairs (codes "entity") (codes "text") (codes "span") (codes "event") (id_text made.entity) (quoted made.text) (span_or_null made.span) (event_or_null made.event) _ _ _ _ _ _ _ _ _ _
    c.in_ok-push_str.ensures.ok c.in_ok-push_id.ensures c.in_ok-push_str-2.ensures.ok (rw c.as_str.ensures.value at c.in_ok-push_quoted.ensures) c.in_ok-push_str-3.ensures.ok c.in_ok-push_span.ensures
    c.in_ok-push_str-4.ensures.ok c.in_ok-push_event.ensures c.in_ok-push_byte.ensures.ok
