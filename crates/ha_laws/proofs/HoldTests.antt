-- Holds with a Gone between, and a queue that takes one run, computed.
use Rattle.std.proofs.Common.{◌≡◌, [], ◌∷◌, refl, ◌∙◌}
use Rattle.std.specs.Prelude.{Some, None}
use Rattle.ha_value.specs.declared.value.Value.TheVariants.{outs-Number, outs-Text, outs-Flag}
use Rattle.ha_value.specs.declared.value.Value.TheViews.{out-roll-Value}
use Rattle.ha_value.specs.Numbers.{read_number}
use Rattle.ha_value.specs.Truth.{says_yes_text}
use Rattle.ha_value.specs.Ids.{read_entity}
use Rattle.ha_value.specs.Arithmetic.{to_whole}
use Rattle.ha_model.specs.declared.record.EndCause.{EndCause}
use Rattle.ha_model.specs.Records.{records_of}
use Rattle.ha_model.proofs.FoldLaws.{records-passes}
use Rattle.ha_sight.proofs.Rolls.{rolls}
use Rattle.ha_laws.specs.WorkedHolds.{attempted, number_held, template_held, attribute_held, queue_of_one, queue_run}

pub number-too-soon : attempted number_held 3 ≡ []
unfolding read_number
number-too-soon = refl

pub number-fires : attempted number_held 4 ≡ 0 ∷ []
unfolding read_number
number-fires = refl

pub template-ended : attempted template_held 5 ≡ []
unfolding read_number to_whole read_entity says_yes_text
template-ended = simp (rolls, out-roll-Value, outs-Text, outs-Number, outs-Flag)

pub template-fires : attempted template_held 6 ≡ 0 ∷ []
unfolding read_number to_whole read_entity says_yes_text
template-fires = simp (rolls, out-roll-Value, outs-Text, outs-Number, outs-Flag)

pub attribute-too-soon : attempted attribute_held 5 ≡ []
attribute-too-soon = simp (rolls, out-roll-Value)

pub attribute-fires : attempted attribute_held 6 ≡ 0 ∷ []
attribute-fires = simp (rolls, out-roll-Value)

pub one-at-a-time : records_of queue_of_one ≡ queue_run 1 2 (Some (5, EndCause.Done)) 1 ∷ queue_run 2 7 None 0 ∷ []
unfolding read_entity
one-at-a-time = records-passes queue_of_one ∙ simp rolls
