use Rattle.std.proofs.Common.{◌≡◌, ◌∙◌, get_or, sym, true, false}
use Rattle.ha_sight.specs.Services.{fits_at}
use Rattle.helper_set.proofs.ListLemmas.{all-from}
use Rattle.helper_set.proofs.SeenLemmas.{fits-seen}
use Rattle.helper_set.proofs.set.all_fit.Goals as goal

pub returns-then-not-fits_at : goal.returns-then-not-fits_at
returns-then-not-fits_at c sight at seen =
    let places = c.args.places.now in
    let w = c.args.wanted.now in
    let p = get_or places c.loop-i.i 0 in
    let no-fit : fits_at sight w p ≡ false = fits-seen c.args.kept.now sight at seen w p ∙ sym c.fits_at.ensures ∙ c.if-not-fits_at.true in
    sym (c.loop-i.invariant sight at seen ∙ all-from (fits_at sight w) places c.loop-i.i false c.loop-i-test.true no-fit)

pub loop-i-preserved : goal.loop-i-preserved
loop-i-preserved c sight at seen =
    let places = c.args.places.now in
    let w = c.args.wanted.now in
    let p = get_or places c.loop-i.i 0 in
    let fit : fits_at sight w p ≡ true = fits-seen c.args.kept.now sight at seen w p ∙ sym c.fits_at.ensures ∙ c.if-not-fits_at.false in
    c.loop-i.invariant sight at seen ∙ all-from (fits_at sight w) places c.loop-i.i true c.loop-i-test.true fit
