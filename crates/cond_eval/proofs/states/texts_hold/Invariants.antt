use Rattle.std.proofs.Common.{◌≡◌, false, drop}
use Rattle.std.specs.List.{list_all}
use Rattle.std.specs.Option.{option_copied, option_map_or}
use Rattle.cond_eval.specs.Cases.{text_passes}
use Rattle.cond_eval.specs.Seen.{seen}
use Rattle.cond_eval.proofs.states.texts_hold.Given as goal

abbrev pub invariant-loop-i : goal.invariant-loop-i
invariant-loop-i l =
    list_all (λ e. option_map_or (text_passes (seen l.view) (option_copied l.attribute) l.texts l.hold) ((seen l.view).states e) false) l.entities
    ≡ list_all (λ e. option_map_or (text_passes (seen l.view) (option_copied l.attribute) l.texts l.hold) ((seen l.view).states e) false) (drop l.i l.entities)
