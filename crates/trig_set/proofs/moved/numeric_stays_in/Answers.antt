use Rattle.std.proofs.Common.{◌∙◌, Option, ap, false}
use Rattle.ha_value.specs.declared.value.Num.{Num}
use Rattle.std.specs.Option.{option_copied, option_map_or}
use Rattle.ha_config.specs.Equal.{same_flag}
use Rattle.ha_config.specs.Numbers.{in_bounds}
use Rattle.trig_set.proofs.moved.numeric_stays_in.Goals as goal

pub returns : goal.returns
returns c j since shows =
    let within = λ (o : Option Num). option_map_or (in_bounds c.args.above c.args.below) o false in
    c.equal_flag.ensures
    ∙ (λ i. same_flag ((c.is_within-was.ensures ∙ ap within (c.latest-latest.ensures ∙ shows.numbers c.args.entity.now (option_copied c.args.attribute))) i)
    ((c.is_within-is.ensures ∙ ap within (c.latest_after-next.ensures j since shows)) i))
