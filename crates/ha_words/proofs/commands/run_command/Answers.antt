use Rattle.std.proofs.Common.{rules, ap, ap₂, codes, true, false, ◌≡◌, ◌∙◌}
use Rattle.std.proofs.lemmas.Result.{IfOk-weaker}
use Rattle.std.specs.Borrow.{Bor}
use Rattle.std.specs.Prelude.{Some}
use Rattle.clap.specs.declared.builder.action.ArgAction.{ArgAction}
use Rattle.clap.specs.declared.builder.action.ArgAction.TheVariants.{Set, Append}
use Rattle.clap.specs.Words.{Rule, Shape, Text, app_of, rule_of, with_rule}
use Rattle.clap.specs.Simple.{app_of_fields, on_top}
use Rattle.clap.specs.declared.builder.arg.Arg.{Arg}
use Rattle.ha_words.specs.Grammar.{bare_app, option_rule, words_rule, run_app}
use Rattle.ha_words.proofs.commands.run_command.Goals as goal

-- what each builder does to the rule
set_long : (a b : Arg) (r : Rule) (name : Bor Text) → b ≡ record a { long = Some name } → rule_of a ≡ r → rule_of b ≡ record r { long = Some name.now }
set_long a b r name e h = ap rule_of e ∙ ap (λ (x : Rule). record x { long = Some name.now }) h

set_action : (a b : Arg) (r : Rule) (action : ArgAction) → b ≡ record a { action = Some action } → rule_of a ≡ r → rule_of b ≡ record r { action = Some action }
set_action a b r action e h = ap rule_of e ∙ ap (λ (x : Rule). record x { action = Some action }) h

needed : (a b : Arg) (r : Rule) → b ≡ record a { required = true } → rule_of a ≡ r → rule_of b ≡ record r { required = true }
needed a b r e h = ap rule_of e ∙ ap (λ (x : Rule). record x { required = true }) h

local : (a b : Arg) → b ≡ record a { required = true } → a.global ≡ false → b.global ≡ false
local a b e h = ap (λ (x : Arg). x.global) e ∙ h

local_long : (a b : Arg) (name : Bor Text) → b ≡ record a { long = Some name } → a.global ≡ false → b.global ≡ false
local_long a b name e h = ap (λ (x : Arg). x.global) e ∙ h

local_action : (a b : Arg) (action : ArgAction) → b ≡ record a { action = Some action } → a.global ≡ false → b.global ≡ false
local_action a b action e h = ap (λ (x : Arg). x.global) e ∙ h

pub returns : goal.returns
unfolding run_app
returns c =
    let config_is : rule_of c.action.result ≡ option_rule (codes "config") false = set_action c.long.result _ _ Set c.action.ensures (set_long c.new.result _ _ _ c.long.ensures c.new.ensures.rule) in
    let start_is : rule_of c.action-2.result ≡ option_rule (codes "start") false = set_action c.long-2.result _ _ Set c.action-2.ensures (set_long c.new-2.result _ _ _ c.long-2.ensures c.new-2.ensures.rule) in
    let zone_is : rule_of c.action-zone.result ≡ option_rule (codes "zone") false = search rules in
    let trace_is : rule_of c.action-trace.result ≡ option_rule (codes "trace") false = search rules in
    let source_is : rule_of c.action-3.result ≡ record (words_rule (codes "source")) { required = false } = set_action c.new-5.result _ _ Append c.action-3.ensures c.new-5.ensures.rule in
    let bare_is : app_of c.disable_version_flag-run.result ≡ bare_app (codes "run") =
    ap app_of_fields c.disable_version_flag-run.ensures
    ∙ ap (on_top (λ (s : Shape). record s { disable_version_flag = true }))
    (ap app_of_fields c.disable_help_flag.ensures
    ∙ ap (on_top (λ (s : Shape). record s { disable_help_flag = true }))
    (ap app_of_fields c.no_binary_name.ensures
    ∙ ap (on_top (λ (s : Shape). record s { no_binary_name = true })) c.new-6.ensures.app)) in
    let one = c.in_ok-arg.ensures.shape (local c.action.result _ c.required-config.ensures (local_action c.long.result _ Set c.action.ensures (local_long c.new.result _ _ c.long.ensures c.new.ensures.optional.1))) ∙ ap₂ with_rule bare_is (needed c.action.result _ _ c.required-config.ensures config_is) in
    let two = c.in_ok-arg-2.ensures.shape (local c.action-2.result _ c.required-start.ensures (local_action c.long-2.result _ Set c.action-2.ensures (local_long c.new-2.result _ _ c.long-2.ensures c.new-2.ensures.optional.1))) ∙ ap₂ with_rule one (needed c.action-2.result _ _ c.required-start.ensures start_is) in
    let three = c.in_ok-arg-3.ensures.shape (search rules) ∙ ap₂ with_rule two zone_is in
    let four = c.in_ok-arg-4.ensures.shape (search rules) ∙ ap₂ with_rule three trace_is in
    IfOk-weaker c.arg-5.result _ _ (λ r h. h.shape (local c.action-3.result _ c.required-source.ensures (local_action c.new-5.result _ Append c.action-3.ensures c.new-5.ensures.optional.1)) ∙ ap₂ with_rule four (needed c.action-3.result _ _ c.required-source.ensures source_is)) c.arg-5.ensures
