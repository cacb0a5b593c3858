use Rattle.std.proofs.Common.{◌∙◌, sym}
use Rattle.std.specs.Prelude.{Some, None, false, slice_get, option_and_then, if◌then◌else◌}
use Rattle.std.specs.Option.{option_map_or}
use Rattle.ha_sight.specs.Services.{is_for}
use Rattle.helper_set.proofs.MeantLemmas.{meant-shown}
use Rattle.helper_set.proofs.meant.place_meant.Goals as goal

pub returns : goal.returns
returns c =
    c.if_for.ensures
    ∙ (λ i. option_and_then (λ n. if option_map_or (λ k. is_for c.args.service k.helper.kind) (slice_get (c.as_slice.ensures i) n) false then Some n else None) (c.place_in.ensures i))
    ∙ sym (meant-shown c.args.kept.now.items c.args.service c.args.entity.now)
