use Rattle.std.proofs.Common.{rules, arith, ◌≡◌, ◌<◌, length, get_or, take, ◌∙◌}
use Rattle.std.specs.Str.{bytes_eq}
use Rattle.ha_value.proofs.EntityLemmas.{front_tells}
use Rattle.ha_value.proofs.id.begins.Goals as goal

pub returns : goal.returns
returns c =
    let text = c.args.text.now in
    let front = c.args.front.now in
    let longer : length front < length text = omega (arith, c.if-text-end.false) in
    let dot : get_or text (length front) 0 ≡ 46 = omega (arith, c.if-text-end-ne46.false) in
    let is : c.eq.result ≡ bytes_eq (take (length front) text) front = search rules in
    is ∙ front_tells text front c.requires.kept longer dot c.requires.dotless
