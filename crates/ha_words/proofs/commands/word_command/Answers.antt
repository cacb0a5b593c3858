use Rattle.std.proofs.Common.{ap, ap₂, codes, Some, true, false, ◌≡◌, ◌∙◌}
use Rattle.std.proofs.lemmas.Result.{IfOk-weaker}
use Rattle.clap.specs.Words.{Rule, Shape, app_of, rule_of, with_rule}
use Rattle.clap.specs.Simple.{app_of_fields, on_top}
use Rattle.clap.specs.declared.builder.arg.Arg.{Arg}
use Rattle.clap.specs.declared.builder.action.ArgAction.{ArgAction}
use Rattle.clap.specs.declared.builder.action.ArgAction.TheVariants.{Set}
use Rattle.ha_words.specs.Grammar.{bare_app, one_word_app, word_rule}
use Rattle.ha_words.proofs.commands.word_command.Goals as goal

set_action : (a b : Arg) (r : Rule) (action : ArgAction) → b ≡ record a { action = Some action } → rule_of a ≡ r → rule_of b ≡ record r { action = Some action }
set_action a b r action e h = ap rule_of e ∙ ap (λ (x : Rule). record x { action = Some action }) h

needed : (a b : Arg) (r : Rule) → b ≡ record a { required = true } → rule_of a ≡ r → rule_of b ≡ record r { required = true }
needed a b r e h = ap rule_of e ∙ ap (λ (x : Rule). record x { required = true }) h

local : (a b : Arg) → b ≡ record a { required = true } → a.global ≡ false → b.global ≡ false
local a b e h = ap (λ (x : Arg). x.global) e ∙ h

local_action : (a b : Arg) (action : ArgAction) → b ≡ record a { action = Some action } → a.global ≡ false → b.global ≡ false
local_action a b action e h = ap (λ (x : Arg). x.global) e ∙ h

pub returns : goal.returns
unfolding one_word_app
returns c =
    let name = c.args.name.now in
    let word_is : rule_of c.action.result ≡ record (word_rule (codes "word")) { required = false } = set_action c.new.result _ _ Set c.action.ensures c.new.ensures.rule in
    let bare_is : app_of c.disable_version_flag-command.result ≡ bare_app name =
    ap app_of_fields c.disable_version_flag-command.ensures
    ∙ ap (on_top (λ (s : Shape). record s { disable_version_flag = true }))
    (ap app_of_fields c.disable_help_flag.ensures
    ∙ ap (on_top (λ (s : Shape). record s { disable_help_flag = true }))
    (ap app_of_fields c.no_binary_name.ensures
    ∙ ap (on_top (λ (s : Shape). record s { no_binary_name = true })) c.new-2.ensures.app)) in
    IfOk-weaker c.arg.result _ _ (λ r h. h.shape (local c.action.result _ c.required-word.ensures (local_action c.new.result _ Set c.action.ensures c.new.ensures.optional.1))
    ∙ ap₂ with_rule bare_is (needed c.action.result _ _ c.required-word.ensures word_is)) c.arg.ensures
