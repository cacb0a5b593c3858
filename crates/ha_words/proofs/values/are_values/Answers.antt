use Rattle.std.proofs.Common.{◌≡◌, ◌∙◌, ap, rules, Bool, true, ◌&&◌}
use Rattle.std.specs.List.{list_all}
use Rattle.std.specs.Option.{option_map_or}
use Rattle.ha_words.specs.Texts.{is_value}
use Rattle.ha_words.proofs.values.are_values.Goals as goal

all_true : (a b d f x y : Bool) → a ≡ true → b ≡ true → d ≡ true → f ≡ true → x ≡ y → x ≡ (a && (b && (d && (f && y))))
all_true a b d f x y p q r s h = search (rules, p, q, r, s, h)

pub returns-then-is_value_or_none-2 : goal.returns-then-is_value_or_none-2
returns-then-is_value_or_none-2 c =
    let t = c.args.texts.now in
    let config : is_value t.config ≡ true = search rules in
    let start : is_value t.start ≡ true = search rules in
    let zone : option_map_or is_value t.zone true ≡ true = search rules in
    let trace : option_map_or is_value t.trace true ≡ true = search rules in
    all_true _ _ _ _ _ _ config start zone trace (c.are_all_values.ensures ∙ ap (list_all is_value) c.as_slice.ensures)
