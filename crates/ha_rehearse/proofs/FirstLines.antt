-- The pieces of the first lines of a rehearsal's configuration.
use Rattle.std.proofs.Common.{◌≡◌, ◌∙◌, ℕ, suc, [], ◌∷◌, ◌++◌, true, false, refl, codes, Some}
use Rattle.std.specs.Str.{chars, is_utf8}
use lib.Utf8.{encode}
use Rattle.yaml_scan.specs.Words.{colon_at, comment_at, nothing_left, text_end, without_blanks}
use Rattle.yaml_tree.specs.Pieces.{dash, floor, found, heads, key, leaf_at, pieces, plain_key, value_at}
use Rattle.ha_rehearse.proofs.LineLemmas.{dash_line, key_line, leaf_plain, plain_line, step}
use Rattle.ha_rehearse.proofs.ConfigRows.{line1, line2, line3, line4, line5, line6, line7, line8, line9, line10, line11, line12}
use Rattle.ha_rehearse.proofs.ConfigRows.{line13, line14, line15}
use Rattle.ha_rehearse.proofs.ConfigRows.{from16, from15, from14, from13, from12, from11, from10}
use Rattle.ha_rehearse.proofs.ConfigRows.{from9, from8, from7, from6, from5, from4, from3, from2, from1, found0, found1, found2, found3}
use Rattle.ha_rehearse.proofs.ConfigRows.{found4, found5, found6, found7, found8, found9, found10, found11, found12, found13, found14}

colon1 : colon_at false 0 (codes "automation:") ≡ Some 10
unfolding colon_at nothing_left
colon1 = refl

begins1 : heads found0 1 true 0 (codes "automation:") from2 ≡ plain_key found0 1 0 (codes "automation:") (colon_at false 0 (codes "automation:")) from2
begins1 = plain_line found0 1 0 97 true (codes "utomation:") from2 refl refl refl refl

keyed1 : plain_key found0 1 0 (codes "automation:") (colon_at false 0 (codes "automation:")) from2 ≡ value_at (found0 ++ key 1 0 (codes "automation") ∷ []) 1 11 (codes "") from2
unfolding text_end is_utf8 chars encode
keyed1 = key_line found0 1 0 from2 (codes "automation:") 10 (codes "automation") (codes "") colon1 refl refl refl refl

value1 : value_at (found0 ++ key 1 0 (codes "automation") ∷ []) 1 11 (codes "") from2 ≡ found found1 from2
unfolding nothing_left
value1 = refl

pub step1 : (k : ℕ) → pieces (suc k) found0 from1 ≡ pieces k found1 from2
step1 k = step k found0 found1 line1 from2 refl refl (begins1 ∙ keyed1 ∙ value1)

colon2 : colon_at false 0 (codes "alias: Even") ≡ Some 5
unfolding colon_at nothing_left
colon2 = refl

begins2 : heads found1 2 true 2 (codes "- alias: Even") from3 ≡ plain_key (found1 ++ dash 2 2 ∷ []) 2 4 (codes "alias: Even") (colon_at false 0 (codes "alias: Even")) from3
begins2 = dash_line found1 2 2 true (codes "alias: Even") from3 ∙ plain_line (found1 ++ dash 2 2 ∷ []) 2 4 97 true (codes "lias: Even") from3 refl refl refl refl

keyed2 : plain_key (found1 ++ dash 2 2 ∷ []) 2 4 (codes "alias: Even") (colon_at false 0 (codes "alias: Even")) from3 ≡ value_at ((found1 ++ dash 2 2 ∷ []) ++ key 2 4 (codes "alias") ∷ []) 2 10 (codes " Even") from3
unfolding text_end is_utf8 chars encode
keyed2 = key_line (found1 ++ dash 2 2 ∷ []) 2 4 from3 (codes "alias: Even") 5 (codes "alias") (codes " Even") colon2 refl refl refl refl

valued2 : value_at ((found1 ++ dash 2 2 ∷ []) ++ key 2 4 (codes "alias") ∷ []) 2 10 (codes " Even") from3 ≡ leaf_at ((found1 ++ dash 2 2 ∷ []) ++ key 2 4 (codes "alias") ∷ []) 2 false 11 (codes "Even") from3
unfolding nothing_left without_blanks
valued2 = refl

value2 : value_at ((found1 ++ dash 2 2 ∷ []) ++ key 2 4 (codes "alias") ∷ []) 2 10 (codes " Even") from3 ≡ found found2 from3
unfolding colon_at comment_at nothing_left text_end floor is_utf8 chars encode
value2 = valued2 ∙ leaf_plain ((found1 ++ dash 2 2 ∷ []) ++ key 2 4 (codes "alias") ∷ []) 2 11 69 (codes "ven") (codes "Even") line3 from4 refl refl refl refl refl refl refl refl

pub step2 : (k : ℕ) → pieces (suc k) found1 from2 ≡ pieces k found2 from3
step2 k = step k found1 found2 line2 from3 refl refl (begins2 ∙ keyed2 ∙ value2)

colon3 : colon_at false 0 (codes "triggers:") ≡ Some 8
unfolding colon_at nothing_left
colon3 = refl

begins3 : heads found2 3 true 4 (codes "triggers:") from4 ≡ plain_key found2 3 4 (codes "triggers:") (colon_at false 0 (codes "triggers:")) from4
begins3 = plain_line found2 3 4 116 true (codes "riggers:") from4 refl refl refl refl

keyed3 : plain_key found2 3 4 (codes "triggers:") (colon_at false 0 (codes "triggers:")) from4 ≡ value_at (found2 ++ key 3 4 (codes "triggers") ∷ []) 3 13 (codes "") from4
unfolding text_end is_utf8 chars encode
keyed3 = key_line found2 3 4 from4 (codes "triggers:") 8 (codes "triggers") (codes "") colon3 refl refl refl refl

value3 : value_at (found2 ++ key 3 4 (codes "triggers") ∷ []) 3 13 (codes "") from4 ≡ found found3 from4
unfolding nothing_left
value3 = refl

pub step3 : (k : ℕ) → pieces (suc k) found2 from3 ≡ pieces k found3 from4
step3 k = step k found2 found3 line3 from4 refl refl (begins3 ∙ keyed3 ∙ value3)

colon4 : colon_at false 0 (codes "trigger: numeric_state") ≡ Some 7
unfolding colon_at nothing_left
colon4 = refl

begins4 : heads found3 4 true 6 (codes "- trigger: numeric_state") from5 ≡ plain_key (found3 ++ dash 4 6 ∷ []) 4 8 (codes "trigger: numeric_state") (colon_at false 0 (codes "trigger: numeric_state")) from5
begins4 = dash_line found3 4 6 true (codes "trigger: numeric_state") from5 ∙ plain_line (found3 ++ dash 4 6 ∷ []) 4 8 116 true (codes "rigger: numeric_state") from5 refl refl refl refl

keyed4 : plain_key (found3 ++ dash 4 6 ∷ []) 4 8 (codes "trigger: numeric_state") (colon_at false 0 (codes "trigger: numeric_state")) from5 ≡ value_at ((found3 ++ dash 4 6 ∷ []) ++ key 4 8 (codes "trigger") ∷ []) 4 16 (codes " numeric_state") from5
unfolding text_end is_utf8 chars encode
keyed4 = key_line (found3 ++ dash 4 6 ∷ []) 4 8 from5 (codes "trigger: numeric_state") 7 (codes "trigger") (codes " numeric_state") colon4 refl refl refl refl

valued4 : value_at ((found3 ++ dash 4 6 ∷ []) ++ key 4 8 (codes "trigger") ∷ []) 4 16 (codes " numeric_state") from5 ≡ leaf_at ((found3 ++ dash 4 6 ∷ []) ++ key 4 8 (codes "trigger") ∷ []) 4 false 17 (codes "numeric_state") from5
unfolding nothing_left without_blanks
valued4 = refl

value4 : value_at ((found3 ++ dash 4 6 ∷ []) ++ key 4 8 (codes "trigger") ∷ []) 4 16 (codes " numeric_state") from5 ≡ found found4 from5
unfolding colon_at comment_at nothing_left text_end floor is_utf8 chars encode
value4 = valued4 ∙ leaf_plain ((found3 ++ dash 4 6 ∷ []) ++ key 4 8 (codes "trigger") ∷ []) 4 17 110 (codes "umeric_state") (codes "numeric_state") line5 from6 refl refl refl refl refl refl refl refl

pub step4 : (k : ℕ) → pieces (suc k) found3 from4 ≡ pieces k found4 from5
step4 k = step k found3 found4 line4 from5 refl refl (begins4 ∙ keyed4 ∙ value4)

colon5 : colon_at false 0 (codes "entity_id: sensor.s0") ≡ Some 9
unfolding colon_at nothing_left
colon5 = refl

begins5 : heads found4 5 true 8 (codes "entity_id: sensor.s0") from6 ≡ plain_key found4 5 8 (codes "entity_id: sensor.s0") (colon_at false 0 (codes "entity_id: sensor.s0")) from6
begins5 = plain_line found4 5 8 101 true (codes "ntity_id: sensor.s0") from6 refl refl refl refl

keyed5 : plain_key found4 5 8 (codes "entity_id: sensor.s0") (colon_at false 0 (codes "entity_id: sensor.s0")) from6 ≡ value_at (found4 ++ key 5 8 (codes "entity_id") ∷ []) 5 18 (codes " sensor.s0") from6
unfolding text_end is_utf8 chars encode
keyed5 = key_line found4 5 8 from6 (codes "entity_id: sensor.s0") 9 (codes "entity_id") (codes " sensor.s0") colon5 refl refl refl refl

valued5 : value_at (found4 ++ key 5 8 (codes "entity_id") ∷ []) 5 18 (codes " sensor.s0") from6 ≡ leaf_at (found4 ++ key 5 8 (codes "entity_id") ∷ []) 5 false 19 (codes "sensor.s0") from6
unfolding nothing_left without_blanks
valued5 = refl

value5 : value_at (found4 ++ key 5 8 (codes "entity_id") ∷ []) 5 18 (codes " sensor.s0") from6 ≡ found found5 from6
unfolding colon_at comment_at nothing_left text_end floor is_utf8 chars encode
value5 = valued5 ∙ leaf_plain (found4 ++ key 5 8 (codes "entity_id") ∷ []) 5 19 115 (codes "ensor.s0") (codes "sensor.s0") line6 from7 refl refl refl refl refl refl refl refl

pub step5 : (k : ℕ) → pieces (suc k) found4 from5 ≡ pieces k found5 from6
step5 k = step k found4 found5 line5 from6 refl refl (begins5 ∙ keyed5 ∙ value5)

colon6 : colon_at false 0 (codes "above: 50") ≡ Some 5
unfolding colon_at nothing_left
colon6 = refl

begins6 : heads found5 6 true 8 (codes "above: 50") from7 ≡ plain_key found5 6 8 (codes "above: 50") (colon_at false 0 (codes "above: 50")) from7
begins6 = plain_line found5 6 8 97 true (codes "bove: 50") from7 refl refl refl refl

keyed6 : plain_key found5 6 8 (codes "above: 50") (colon_at false 0 (codes "above: 50")) from7 ≡ value_at (found5 ++ key 6 8 (codes "above") ∷ []) 6 14 (codes " 50") from7
unfolding text_end is_utf8 chars encode
keyed6 = key_line found5 6 8 from7 (codes "above: 50") 5 (codes "above") (codes " 50") colon6 refl refl refl refl

valued6 : value_at (found5 ++ key 6 8 (codes "above") ∷ []) 6 14 (codes " 50") from7 ≡ leaf_at (found5 ++ key 6 8 (codes "above") ∷ []) 6 false 15 (codes "50") from7
unfolding nothing_left without_blanks
valued6 = refl

value6 : value_at (found5 ++ key 6 8 (codes "above") ∷ []) 6 14 (codes " 50") from7 ≡ found found6 from7
unfolding colon_at comment_at nothing_left text_end floor is_utf8 chars encode
value6 = valued6 ∙ leaf_plain (found5 ++ key 6 8 (codes "above") ∷ []) 6 15 53 (codes "0") (codes "50") line7 from8 refl refl refl refl refl refl refl refl

pub step6 : (k : ℕ) → pieces (suc k) found5 from6 ≡ pieces k found6 from7
step6 k = step k found5 found6 line6 from7 refl refl (begins6 ∙ keyed6 ∙ value6)

colon7 : colon_at false 0 (codes "actions:") ≡ Some 7
unfolding colon_at nothing_left
colon7 = refl

begins7 : heads found6 7 true 4 (codes "actions:") from8 ≡ plain_key found6 7 4 (codes "actions:") (colon_at false 0 (codes "actions:")) from8
begins7 = plain_line found6 7 4 97 true (codes "ctions:") from8 refl refl refl refl

keyed7 : plain_key found6 7 4 (codes "actions:") (colon_at false 0 (codes "actions:")) from8 ≡ value_at (found6 ++ key 7 4 (codes "actions") ∷ []) 7 12 (codes "") from8
unfolding text_end is_utf8 chars encode
keyed7 = key_line found6 7 4 from8 (codes "actions:") 7 (codes "actions") (codes "") colon7 refl refl refl refl

value7 : value_at (found6 ++ key 7 4 (codes "actions") ∷ []) 7 12 (codes "") from8 ≡ found found7 from8
unfolding nothing_left
value7 = refl

pub step7 : (k : ℕ) → pieces (suc k) found6 from7 ≡ pieces k found7 from8
step7 k = step k found6 found7 line7 from8 refl refl (begins7 ∙ keyed7 ∙ value7)

colon8 : colon_at false 0 (codes "action: fan.turn_on") ≡ Some 6
unfolding colon_at nothing_left
colon8 = refl

begins8 : heads found7 8 true 6 (codes "- action: fan.turn_on") from9 ≡ plain_key (found7 ++ dash 8 6 ∷ []) 8 8 (codes "action: fan.turn_on") (colon_at false 0 (codes "action: fan.turn_on")) from9
begins8 = dash_line found7 8 6 true (codes "action: fan.turn_on") from9 ∙ plain_line (found7 ++ dash 8 6 ∷ []) 8 8 97 true (codes "ction: fan.turn_on") from9 refl refl refl refl

keyed8 : plain_key (found7 ++ dash 8 6 ∷ []) 8 8 (codes "action: fan.turn_on") (colon_at false 0 (codes "action: fan.turn_on")) from9 ≡ value_at ((found7 ++ dash 8 6 ∷ []) ++ key 8 8 (codes "action") ∷ []) 8 15 (codes " fan.turn_on") from9
unfolding text_end is_utf8 chars encode
keyed8 = key_line (found7 ++ dash 8 6 ∷ []) 8 8 from9 (codes "action: fan.turn_on") 6 (codes "action") (codes " fan.turn_on") colon8 refl refl refl refl

valued8 : value_at ((found7 ++ dash 8 6 ∷ []) ++ key 8 8 (codes "action") ∷ []) 8 15 (codes " fan.turn_on") from9 ≡ leaf_at ((found7 ++ dash 8 6 ∷ []) ++ key 8 8 (codes "action") ∷ []) 8 false 16 (codes "fan.turn_on") from9
unfolding nothing_left without_blanks
valued8 = refl

value8 : value_at ((found7 ++ dash 8 6 ∷ []) ++ key 8 8 (codes "action") ∷ []) 8 15 (codes " fan.turn_on") from9 ≡ found found8 from9
unfolding colon_at comment_at nothing_left text_end floor is_utf8 chars encode
value8 = valued8 ∙ leaf_plain ((found7 ++ dash 8 6 ∷ []) ++ key 8 8 (codes "action") ∷ []) 8 16 102 (codes "an.turn_on") (codes "fan.turn_on") line9 from10 refl refl refl refl refl refl refl refl

pub step8 : (k : ℕ) → pieces (suc k) found7 from8 ≡ pieces k found8 from9
step8 k = step k found7 found8 line8 from9 refl refl (begins8 ∙ keyed8 ∙ value8)

colon9 : colon_at false 0 (codes "target:") ≡ Some 6
unfolding colon_at nothing_left
colon9 = refl

begins9 : heads found8 9 true 8 (codes "target:") from10 ≡ plain_key found8 9 8 (codes "target:") (colon_at false 0 (codes "target:")) from10
begins9 = plain_line found8 9 8 116 true (codes "arget:") from10 refl refl refl refl

keyed9 : plain_key found8 9 8 (codes "target:") (colon_at false 0 (codes "target:")) from10 ≡ value_at (found8 ++ key 9 8 (codes "target") ∷ []) 9 15 (codes "") from10
unfolding text_end is_utf8 chars encode
keyed9 = key_line found8 9 8 from10 (codes "target:") 6 (codes "target") (codes "") colon9 refl refl refl refl

value9 : value_at (found8 ++ key 9 8 (codes "target") ∷ []) 9 15 (codes "") from10 ≡ found found9 from10
unfolding nothing_left
value9 = refl

pub step9 : (k : ℕ) → pieces (suc k) found8 from9 ≡ pieces k found9 from10
step9 k = step k found8 found9 line9 from10 refl refl (begins9 ∙ keyed9 ∙ value9)

colon10 : colon_at false 0 (codes "entity_id: fan.f0") ≡ Some 9
unfolding colon_at nothing_left
colon10 = refl

begins10 : heads found9 10 true 10 (codes "entity_id: fan.f0") from11 ≡ plain_key found9 10 10 (codes "entity_id: fan.f0") (colon_at false 0 (codes "entity_id: fan.f0")) from11
begins10 = plain_line found9 10 10 101 true (codes "ntity_id: fan.f0") from11 refl refl refl refl

keyed10 : plain_key found9 10 10 (codes "entity_id: fan.f0") (colon_at false 0 (codes "entity_id: fan.f0")) from11 ≡ value_at (found9 ++ key 10 10 (codes "entity_id") ∷ []) 10 20 (codes " fan.f0") from11
unfolding text_end is_utf8 chars encode
keyed10 = key_line found9 10 10 from11 (codes "entity_id: fan.f0") 9 (codes "entity_id") (codes " fan.f0") colon10 refl refl refl refl

valued10 : value_at (found9 ++ key 10 10 (codes "entity_id") ∷ []) 10 20 (codes " fan.f0") from11 ≡ leaf_at (found9 ++ key 10 10 (codes "entity_id") ∷ []) 10 false 21 (codes "fan.f0") from11
unfolding nothing_left without_blanks
valued10 = refl

value10 : value_at (found9 ++ key 10 10 (codes "entity_id") ∷ []) 10 20 (codes " fan.f0") from11 ≡ found found10 from11
unfolding colon_at comment_at nothing_left text_end floor is_utf8 chars encode
value10 = valued10 ∙ leaf_plain (found9 ++ key 10 10 (codes "entity_id") ∷ []) 10 21 102 (codes "an.f0") (codes "fan.f0") line11 from12 refl refl refl refl refl refl refl refl

pub step10 : (k : ℕ) → pieces (suc k) found9 from10 ≡ pieces k found10 from11
step10 k = step k found9 found10 line10 from11 refl refl (begins10 ∙ keyed10 ∙ value10)

colon11 : colon_at false 0 (codes "delay: 60") ≡ Some 5
unfolding colon_at nothing_left
colon11 = refl

begins11 : heads found10 11 true 6 (codes "- delay: 60") from12 ≡ plain_key (found10 ++ dash 11 6 ∷ []) 11 8 (codes "delay: 60") (colon_at false 0 (codes "delay: 60")) from12
begins11 = dash_line found10 11 6 true (codes "delay: 60") from12 ∙ plain_line (found10 ++ dash 11 6 ∷ []) 11 8 100 true (codes "elay: 60") from12 refl refl refl refl

keyed11 : plain_key (found10 ++ dash 11 6 ∷ []) 11 8 (codes "delay: 60") (colon_at false 0 (codes "delay: 60")) from12 ≡ value_at ((found10 ++ dash 11 6 ∷ []) ++ key 11 8 (codes "delay") ∷ []) 11 14 (codes " 60") from12
unfolding text_end is_utf8 chars encode
keyed11 = key_line (found10 ++ dash 11 6 ∷ []) 11 8 from12 (codes "delay: 60") 5 (codes "delay") (codes " 60") colon11 refl refl refl refl

valued11 : value_at ((found10 ++ dash 11 6 ∷ []) ++ key 11 8 (codes "delay") ∷ []) 11 14 (codes " 60") from12 ≡ leaf_at ((found10 ++ dash 11 6 ∷ []) ++ key 11 8 (codes "delay") ∷ []) 11 false 15 (codes "60") from12
unfolding nothing_left without_blanks
valued11 = refl

value11 : value_at ((found10 ++ dash 11 6 ∷ []) ++ key 11 8 (codes "delay") ∷ []) 11 14 (codes " 60") from12 ≡ found found11 from12
unfolding colon_at comment_at nothing_left text_end floor is_utf8 chars encode
value11 = valued11 ∙ leaf_plain ((found10 ++ dash 11 6 ∷ []) ++ key 11 8 (codes "delay") ∷ []) 11 15 54 (codes "0") (codes "60") line12 from13 refl refl refl refl refl refl refl refl

pub step11 : (k : ℕ) → pieces (suc k) found10 from11 ≡ pieces k found11 from12
step11 k = step k found10 found11 line11 from12 refl refl (begins11 ∙ keyed11 ∙ value11)

colon12 : colon_at false 0 (codes "action: fan.turn_off") ≡ Some 6
unfolding colon_at nothing_left
colon12 = refl

begins12 : heads found11 12 true 6 (codes "- action: fan.turn_off") from13 ≡ plain_key (found11 ++ dash 12 6 ∷ []) 12 8 (codes "action: fan.turn_off") (colon_at false 0 (codes "action: fan.turn_off")) from13
begins12 = dash_line found11 12 6 true (codes "action: fan.turn_off") from13 ∙ plain_line (found11 ++ dash 12 6 ∷ []) 12 8 97 true (codes "ction: fan.turn_off") from13 refl refl refl refl

keyed12 : plain_key (found11 ++ dash 12 6 ∷ []) 12 8 (codes "action: fan.turn_off") (colon_at false 0 (codes "action: fan.turn_off")) from13 ≡ value_at ((found11 ++ dash 12 6 ∷ []) ++ key 12 8 (codes "action") ∷ []) 12 15 (codes " fan.turn_off") from13
unfolding text_end is_utf8 chars encode
keyed12 = key_line (found11 ++ dash 12 6 ∷ []) 12 8 from13 (codes "action: fan.turn_off") 6 (codes "action") (codes " fan.turn_off") colon12 refl refl refl refl

valued12 : value_at ((found11 ++ dash 12 6 ∷ []) ++ key 12 8 (codes "action") ∷ []) 12 15 (codes " fan.turn_off") from13 ≡ leaf_at ((found11 ++ dash 12 6 ∷ []) ++ key 12 8 (codes "action") ∷ []) 12 false 16 (codes "fan.turn_off") from13
unfolding nothing_left without_blanks
valued12 = refl

value12 : value_at ((found11 ++ dash 12 6 ∷ []) ++ key 12 8 (codes "action") ∷ []) 12 15 (codes " fan.turn_off") from13 ≡ found found12 from13
unfolding colon_at comment_at nothing_left text_end floor is_utf8 chars encode
value12 = valued12 ∙ leaf_plain ((found11 ++ dash 12 6 ∷ []) ++ key 12 8 (codes "action") ∷ []) 12 16 102 (codes "an.turn_off") (codes "fan.turn_off") line13 from14 refl refl refl refl refl refl refl refl

pub step12 : (k : ℕ) → pieces (suc k) found11 from12 ≡ pieces k found12 from13
step12 k = step k found11 found12 line12 from13 refl refl (begins12 ∙ keyed12 ∙ value12)

colon13 : colon_at false 0 (codes "target:") ≡ Some 6
unfolding colon_at nothing_left
colon13 = refl

begins13 : heads found12 13 true 8 (codes "target:") from14 ≡ plain_key found12 13 8 (codes "target:") (colon_at false 0 (codes "target:")) from14
begins13 = plain_line found12 13 8 116 true (codes "arget:") from14 refl refl refl refl

keyed13 : plain_key found12 13 8 (codes "target:") (colon_at false 0 (codes "target:")) from14 ≡ value_at (found12 ++ key 13 8 (codes "target") ∷ []) 13 15 (codes "") from14
unfolding text_end is_utf8 chars encode
keyed13 = key_line found12 13 8 from14 (codes "target:") 6 (codes "target") (codes "") colon13 refl refl refl refl

value13 : value_at (found12 ++ key 13 8 (codes "target") ∷ []) 13 15 (codes "") from14 ≡ found found13 from14
unfolding nothing_left
value13 = refl

pub step13 : (k : ℕ) → pieces (suc k) found12 from13 ≡ pieces k found13 from14
step13 k = step k found12 found13 line13 from14 refl refl (begins13 ∙ keyed13 ∙ value13)

colon14 : colon_at false 0 (codes "entity_id: fan.f0") ≡ Some 9
unfolding colon_at nothing_left
colon14 = refl

begins14 : heads found13 14 true 10 (codes "entity_id: fan.f0") from15 ≡ plain_key found13 14 10 (codes "entity_id: fan.f0") (colon_at false 0 (codes "entity_id: fan.f0")) from15
begins14 = plain_line found13 14 10 101 true (codes "ntity_id: fan.f0") from15 refl refl refl refl

keyed14 : plain_key found13 14 10 (codes "entity_id: fan.f0") (colon_at false 0 (codes "entity_id: fan.f0")) from15 ≡ value_at (found13 ++ key 14 10 (codes "entity_id") ∷ []) 14 20 (codes " fan.f0") from15
unfolding text_end is_utf8 chars encode
keyed14 = key_line found13 14 10 from15 (codes "entity_id: fan.f0") 9 (codes "entity_id") (codes " fan.f0") colon14 refl refl refl refl

valued14 : value_at (found13 ++ key 14 10 (codes "entity_id") ∷ []) 14 20 (codes " fan.f0") from15 ≡ leaf_at (found13 ++ key 14 10 (codes "entity_id") ∷ []) 14 false 21 (codes "fan.f0") from15
unfolding nothing_left without_blanks
valued14 = refl

value14 : value_at (found13 ++ key 14 10 (codes "entity_id") ∷ []) 14 20 (codes " fan.f0") from15 ≡ found found14 from15
unfolding colon_at comment_at nothing_left text_end floor is_utf8 chars encode
value14 = valued14 ∙ leaf_plain (found13 ++ key 14 10 (codes "entity_id") ∷ []) 14 21 102 (codes "an.f0") (codes "fan.f0") line15 from16 refl refl refl refl refl refl refl refl

pub step14 : (k : ℕ) → pieces (suc k) found13 from14 ≡ pieces k found14 from15
step14 k = step k found13 found14 line14 from15 refl refl (begins14 ∙ keyed14 ∙ value14)
