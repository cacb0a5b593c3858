-- The template of a rehearsal's configuration is read.
use Rattle.std.proofs.Common.{◌≡◌, ap, refl, [], ◌∷◌, false, codes, Some}
use Rattle.ha_config.specs.declared.template.Expr.{Expr}
use Rattle.ha_config.specs.declared.template.Expr
use Rattle.ha_config.specs.declared.template.Piece.{Piece}
use Rattle.ha_config.specs.declared.template.Template.{Template}
use Rattle.tpl_parse.specs.declared.token.Token.{Token}
use Rattle.tpl_parse.specs.Grammar as g
use Rattle.tpl_parse.specs.Pieces.{template_of as made_of}
use Rattle.tpl_parse.specs.Reading.{tag_depth}
use Rattle.tpl_parse.specs.Token.{common, spaces, stands}
use Rattle.tpl_parse.proofs.OnlyPieces.{template_read}
use Rattle.conf_field.specs.Kinds.{template_of, tree_of}

trigger_word : g.IsWord (codes "trigger.to_state.state }}") (codes "trigger") (codes ".to_state.state }}")
trigger_word = g.more refl (g.more refl (g.more refl (g.more refl (g.more refl (g.more refl (g.more refl (g.other refl)))))))

to_state_word : g.IsWord (codes "to_state.state }}") (codes "to_state") (codes ".state }}")
to_state_word = g.more refl (g.more refl (g.more refl (g.more refl (g.more refl (g.more refl (g.more refl (g.more refl (g.other refl))))))))

state_word : g.IsWord (codes "state }}") (codes "state") (codes " }}")
state_word = g.more refl (g.more refl (g.more refl (g.more refl (g.more refl (g.other refl)))))

abbrev asked : Expr
asked = Expr.Field (Expr.Field (Expr.Name (codes "trigger")) (codes "to_state")) (codes "state")

parts : g.Is g.with_parts tag_depth (codes " trigger.to_state.state }}") asked (codes " }}")
unfolding spaces stands common
parts = g.asked (g.of_name (g.name refl trigger_word refl) refl) (g.one_key (g.takes refl) (g.name refl to_state_word refl) (g.one_key (g.takes refl) (g.name refl state_word refl) g.no_part))

whole : g.Is g.an_expression tag_depth (codes " trigger.to_state.state }}") asked (codes " }}")
whole = g.chosen (g.chain (g.chain (g.compared (g.alone (g.chain (g.chain (g.chain (g.filtered (g.unsigned parts) g.no_filter) g.no_operand) g.no_operand) g.no_operand))) g.no_operand) g.no_operand)

abbrev pub state_shown : Template
state_shown = made_of (Piece.Show asked ∷ [])

ended : g.IsLast Token.ShowEnd Token.TrimShowEnd asked false (codes " trigger.to_state.state }}") []
unfolding spaces stands common
ended = g.last whole (g.ends (g.takes refl))

spelled : g.IsTemplate (codes "{{ trigger.to_state.state }}") state_shown
spelled = g.template (g.tag {t = []} {ps = Piece.Show asked ∷ []} g.no_character (g.plain refl refl) (g.shown ended (g.last_text {t = []} g.no_character)))

pub shown : template_of (codes "{{ trigger.to_state.state }}") ≡ Some state_shown
shown = ap tree_of (template_read (codes "{{ trigger.to_state.state }}") state_shown spelled)
