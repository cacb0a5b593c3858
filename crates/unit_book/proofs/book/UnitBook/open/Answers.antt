use Rattle.std.proofs.Common.{◌≡◌, ◌∙◌, ◌++◌, List, length, refl, sym, ap, subst, arith}
use Rattle.std.specs.Prelude.{IfSome, option_map}
use Rattle.ha_config.specs.declared.config.Config.{Config}
use Rattle.ha_config.specs.Sound.{IsSoundConfig}
use Rattle.ha_config.specs.Units.{units_of}
use Rattle.ha_config.proofs.ListLemmas.{some-same}
use Rattle.ha_config.proofs.UnitLemmas.{units-few}
use Rattle.ha_journal.specs.Force.{in_place_of, opened}
use Rattle.unit_book.specs.Book.{AreAt, Origin, brought}
use Rattle.unit_book.proofs.StepLemmas.{opens-at}
use Rattle.unit_book.proofs.book.UnitBook.open.Goals as goal

pub add_origins-requires : goal.add_origins-requires
add_origins-requires c =
    let few = units-few c.requires.c c.requires.sound in
    omega (arith, few, c.requires.numbered, ap length c.as_slice.ensures)

pub made-requires : goal.made-requires
made-requires c =
    let h = c.requires in
    let few = units-few h.c h.sound in
    let origins : c.add_origins.new.origins.items ≡ brought c.args.latest 0 0 c.args.numbers.now
    = c.in_ok-add_origins.ensures ∙ (λ i. c.new-origins.ensures.items i ++ brought c.args.latest 0 0 (c.as_slice.ensures i)) in
    record {
      us = units_of h.c;
      units_are = subst (λ (os : List Origin). AreAt c.args.journal.now os (units_of h.c)) (sym origins) (opens-at c.args.journal.now c.args.latest c.args.numbers.now h);
      few = omega (arith, few);
      known_are = refl;
    }

pub returns : goal.returns
returns c d is =
    let h = c.requires in
    let alike : in_place_of d h.c ≡ d = some-same (in_place_of d h.c) d (ap (option_map (in_place_of d)) (sym h.config_is) ∙ is) in
    let origins : c.add_origins.new.origins.items ≡ brought c.args.latest 0 0 c.args.numbers.now
    = c.in_ok-add_origins.ensures ∙ (λ i. c.new-origins.ensures.items i ++ brought c.args.latest 0 0 (c.as_slice.ensures i)) in
    let units : AreAt c.args.journal.now c.add_origins.new.origins.items (units_of d)
    = subst (λ (e : Config). AreAt c.args.journal.now c.add_origins.new.origins.items (units_of e)) alike
    (subst (λ (os : List Origin). AreAt c.args.journal.now os (units_of h.c)) (sym origins) (opens-at c.args.journal.now c.args.latest c.args.numbers.now h)) in
    c.in_ok-book.ensures (opened d) is (subst (λ o. IfSome o IsSoundConfig) (sym h.config_is) h.sound) units
