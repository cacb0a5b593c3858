use Rattle.std.proofs.Common.{[], ◌∷◌, codes, map}
use Rattle.ha_config.specs.ValueText.{flag_text, list_text, map_text, print_pairs}
use Rattle.ha_sight.specs.ItemText.{script_text}
use Rattle.ha_texts.proofs.LineLemmas.{one_pair, three_pairs}
use Rattle.ha_texts.proofs.item.push_started.Goals as goal

pub returns : goal.returns
returns c =
    let scripts = list_text (map (script_text c.args.units.now) c.args.scripts.now) in
    one_pair (codes "started") (map_text ((codes "scripts", scripts) ∷ (codes "data", print_pairs c.args.fields.now) ∷ (codes "waits", flag_text c.args.waits) ∷ [])) _ _ _ _ c.in_ok-push_str.ensures.ok
    (three_pairs (codes "scripts") (codes "data") (codes "waits") scripts (print_pairs c.args.fields.now) (flag_text c.args.waits) _ _ _ _ _ _ _ _ c.in_ok-push_str-2.ensures.ok c.in_ok-push_scripts.ensures c.in_ok-push_str-3.ensures.ok c.in_ok-push_pairs.ensures c.in_ok-push_str-4.ensures.ok c.in_ok-push_flag.ensures c.in_ok-push_byte.ensures.ok)
    c.in_ok-push_byte-2.ensures.ok
