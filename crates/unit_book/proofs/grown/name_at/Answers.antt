use Rattle.std.proofs.Common.{◌≡◌, ◌∙◌, [], ap, subst, sym}
use Rattle.std.specs.Prelude.{IfOk, Option, option_and_then}
use Rattle.std.specs.Option.{option_copied, option_map_or}
use Rattle.ha_config.specs.declared.config.Automation.{Automation}
use Rattle.ha_config.specs.declared.config.Config.{Config}
use Rattle.ha_config.specs.Names.{unit_of}
use Rattle.ha_config.specs.Units.{units_of}
use Rattle.ha_config.specs.Words.{Text}
use Rattle.ha_config.proofs.ListLemmas.{none-some}
use Rattle.ha_config.proofs.NumberedLemmas.{get-within}
use Rattle.unit_book.proofs.grown.name_at.Goals as goal

pub unreachable-requires : goal.unreachable-requires
unreachable-requires c =
    let here = sym c.config_at.ensures ∙ ap option_copied c.in-None.is in
    none-some c.requires.0 (ap (option_and_then (λ (d : Config). unit_of (units_of d) c.args.origin.1)) (sym here) ∙ c.requires.1)

pub run_name-requires : goal.run_name-requires
run_name-requires c =
    let here = sym c.config_at.ensures ∙ ap option_copied c.in-Some.is in
    get-within (units_of c.in-Some.config.now) c.args.origin.1 c.requires.0 (ap (option_and_then (λ (d : Config). unit_of (units_of d) c.args.origin.1)) (sym here) ∙ c.requires.1)

pub returns : goal.returns
returns c =
    let here = sym c.config_at.ensures ∙ ap option_copied c.in-Some.is in
    subst (λ (o : Option Automation). IfOk c.run_name.result (λ name. name ≡ option_map_or {T = Automation} {U = Text} (λ u. u.name) o []))
    (ap (option_and_then (λ (d : Config). unit_of (units_of d) c.args.origin.1)) (sym here)) c.run_name.ensures
