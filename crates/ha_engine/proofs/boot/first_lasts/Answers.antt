use Rattle.std.proofs.Common.{◌≡◌, [], sym, ap, ◌∙◌}
use Rattle.std.specs.Prelude.{option_map}
use Rattle.std.specs.Option.{option_map_or}
use Rattle.ha_journal.specs.declared.carry.Carry.{Carry}
use Rattle.segment_carry.specs.Sources.{carry_in}
use Rattle.ha_engine.specs.Noted.{known_lasts}
use Rattle.ha_engine.specs.Reloads.{lasts_at}
use Rattle.ha_engine.proofs.boot.first_lasts.Goals as goal

pub returns : goal.returns
returns c =
    let names : c.as_slice.result.now ≡ c.args.book.now.names = c.as_slice.ensures ∙ c.names.ensures in
    let carried : c.as_slice-carried.result.now ≡ lasts_at c.args.journal.now c.args.front
    = c.as_slice-carried.ensures ∙ ap (λ (v : Carry). v.last) (c.carry_at.ensures c.requires.0 c.requires.1)
    ∙ (λ i. option_map_or (λ (v : Carry). v.last) (option_map carry_in (sym c.requires.1 i)) []) in
    c.in_ok-lasts.ensures ∙ (λ i. known_lasts [] (names i) (carried i))
