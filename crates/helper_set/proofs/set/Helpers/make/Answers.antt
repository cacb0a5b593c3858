use Rattle.std.proofs.Common.{[], ◌∷◌, map, sym, ap, subst, ◌∙◌}
use Rattle.ha_journal.specs.declared.entry.Entry.TheVariants.{Boot}
use Rattle.helper_set.specs.Kept.{Stands, first_kept}
use Rattle.helper_set.proofs.BootLemmas.{boot-stands}
use Rattle.helper_set.proofs.set.Helpers.make.Goals as goal

pub returns : goal.returns
returns c d same sound text stored start zone carry =
    let kept = c.in_ok-kept.kept.items in
    subst (λ q. Stands kept q (Boot text d stored start zone carry ∷ [])) (sym c.make-2.ensures)
    (boot-stands d kept sound (c.in_ok-kept.ensures ∙ c.in_ok-begun.ensures ∙ ap (map first_kept) (c.as_slice.ensures ∙ sym same)) text stored start zone carry)
