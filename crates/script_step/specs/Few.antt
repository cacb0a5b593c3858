-- Scripts whose parallel blocks have few lists, so that a list has a number of 32 bits.
use Rattle.std.specs.Prelude.{Bool, true, ◌&&◌, nat_lt, List, length}
use Rattle.std.specs.List.{list_all}
use Rattle.ha_config.specs.declared.config.Action.{Action}
use Rattle.ha_config.specs.declared.config.ActionKind.TheOpen.{ActionKind-F}
use Rattle.ha_config.specs.declared.config.ActionKind.TheFolds.{fold-Action}

abbrev pub all_few : List Bool → Bool
all_few bs = list_all (λ b. b) bs

abbrev pub few_kind_step : ActionKind-F Bool Bool → Bool
few_kind_step (ActionKind-F.Call service target fields) = true
few_kind_step (ActionKind-F.Delay form) = true
few_kind_step (ActionKind-F.WaitUntil test timeout go_on) = true
few_kind_step (ActionKind-F.WaitFor triggers timeout go_on) = true
few_kind_step (ActionKind-F.Choose options fallback) = list_all (λ x. all_few x.1) options && all_few fallback
few_kind_step (ActionKind-F.If tests yes' no') = all_few yes' && all_few no'
few_kind_step (ActionKind-F.Repeat kind body) = all_few body
few_kind_step (ActionKind-F.Parallel lists) = nat_lt (length lists) 4_294_967_296 && list_all all_few lists
few_kind_step (ActionKind-F.Block body) = all_few body
few_kind_step (ActionKind-F.Set pairs) = true
few_kind_step (ActionKind-F.Fire event fields) = true
few_kind_step ActionKind-F.Stop = true
few_kind_step (ActionKind-F.Test c) = true

abbrev pub is_few_action : Action → Bool
is_few_action = fold-Action Bool Bool few_kind_step (λ a. a.kind)

abbrev pub has_few_lists : List Action → Bool
has_few_lists actions = list_all is_few_action actions
