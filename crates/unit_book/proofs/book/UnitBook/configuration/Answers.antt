use Rattle.std.proofs.Common.{◌∙◌, ap, sym}
use Rattle.std.specs.Prelude.{option_map}
use Rattle.std.specs.Option.{option_copied}
use Rattle.ha_config.proofs.ListLemmas.{none-some, some-same}
use Rattle.ha_journal.specs.Force.{in_place_of}
use Rattle.unit_book.proofs.book.UnitBook.configuration.Goals as goal

pub unreachable-requires : goal.unreachable-requires
unreachable-requires c =
    let here = sym c.config_at.ensures ∙ ap option_copied c.in-None.is in
    none-some c.requires.0.config (ap (option_map (in_place_of c.requires.0.config)) (sym here) ∙ c.requires.1.config_is)

pub returns : goal.returns
returns c f h =
    let here = sym c.config_at.ensures ∙ ap option_copied c.in-Some.is in
    some-same (in_place_of f.config c.in-Some.config.now) f.config (ap (option_map (in_place_of f.config)) (sym here) ∙ h.config_is)
