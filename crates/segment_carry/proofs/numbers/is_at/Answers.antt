use Rattle.std.proofs.Common.{◌∙◌, ℕ, ap, false, refl, sym}
use Rattle.std.specs.Option.{option_map_or}
use Rattle.std.proofs.lemmas.Option.{slice_get_past, slice_get_read}
use Rattle.ha_config.specs.Words.{Text, same}
use Rattle.segment_carry.proofs.numbers.is_at.Goals as goal

pub returns-in-Some : goal.returns-in-Some
returns-in-Some c =
    let x = c.in-Some.pair.now in
    let there = slice_get_read _ _ _ x refl c.in-Some.ensures.lookup.3.0 c.in-Some.ensures.lookup.1 in
    c.same_text.ensures ∙ ap (λ o. option_map_or (λ (p : Text × ℕ). same p.0 c.args.name.now) o false) (sym there)

pub returns-in-None : goal.returns-in-None
returns-in-None c = ap (λ o. option_map_or (λ (p : Text × ℕ). same p.0 c.args.name.now) o false) (sym (slice_get_past _ _ c.in-None.ensures.lookup.3))
