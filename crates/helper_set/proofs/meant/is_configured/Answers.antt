use Rattle.std.proofs.Common.{◌∙◌, ap, sym}
use Rattle.std.specs.List.{list_any}
use Rattle.ha_sight.specs.Services.{is_for}
use Rattle.helper_set.proofs.MeantLemmas.{any-shown}
use Rattle.helper_set.proofs.meant.is_configured.Goals as goal

pub returns : goal.returns
returns c =
    c.is_for_any.ensures ∙ ap (list_any (λ k. is_for c.args.service k.helper.kind)) c.as_slice.ensures
    ∙ sym (any-shown (λ k. is_for c.args.service k.helper.kind) c.args.kept.now.items)
