-- The pieces of all lines of a rehearsal's configuration.
use Rattle.std.proofs.Common.{◌≡◌, ◌∙◌, ℕ, suc, [], ◌∷◌, ◌++◌, true, false, refl, codes, Some}
use Rattle.std.specs.Str.{chars, is_utf8}
use lib.Utf8.{encode}
use Rattle.yaml_scan.specs.Words.{colon_at, comment_at, nothing_left, text_end, without_blanks}
use Rattle.yaml_scan.specs.Quoted.{quoted, run}
use Rattle.yaml_tree.specs.Pieces.{all_pieces, dash, floor, found, heads, key, leaf_at, pieces, plain_key, value_at}
use Rattle.ha_rehearse.proofs.LineLemmas.{dash_line, key_line, last_plain, leaf_plain, leaf_quoted, plain_line, step}
use Rattle.ha_rehearse.proofs.ConfigRows.{line15, line16, line17, line18, line19, line20, line21, line22, line23, line24}
use Rattle.ha_rehearse.proofs.ConfigRows.{line25, line26, line27, line28, from29, from28, from27, from26, from25, from24, from23, from22}
use Rattle.ha_rehearse.proofs.ConfigRows.{from21, from20, from19, from18, from17, from16, from15}
use Rattle.ha_rehearse.proofs.ConfigRows.{from1}
use Rattle.ha_rehearse.proofs.ConfigRows.{found14}
use Rattle.ha_rehearse.proofs.ConfigRows.{found15, found16, found17, found18, found19, found20, found21, found22, found23, found24}
use Rattle.ha_rehearse.proofs.ConfigRows.{found25, found26, found27, found28}
use Rattle.ha_rehearse.proofs.FirstLines.{step1, step2, step3, step4, step5, step6, step7, step8, step9, step10, step11, step12, step13, step14}

colon15 : colon_at false 0 (codes "mode: restart") ≡ Some 4
unfolding colon_at nothing_left
colon15 = refl

begins15 : heads found14 15 true 4 (codes "mode: restart") from16 ≡ plain_key found14 15 4 (codes "mode: restart") (colon_at false 0 (codes "mode: restart")) from16
begins15 = plain_line found14 15 4 109 true (codes "ode: restart") from16 refl refl refl refl

keyed15 : plain_key found14 15 4 (codes "mode: restart") (colon_at false 0 (codes "mode: restart")) from16 ≡ value_at (found14 ++ key 15 4 (codes "mode") ∷ []) 15 9 (codes " restart") from16
unfolding text_end is_utf8 chars encode
keyed15 = key_line found14 15 4 from16 (codes "mode: restart") 4 (codes "mode") (codes " restart") colon15 refl refl refl refl

valued15 : value_at (found14 ++ key 15 4 (codes "mode") ∷ []) 15 9 (codes " restart") from16 ≡ leaf_at (found14 ++ key 15 4 (codes "mode") ∷ []) 15 false 10 (codes "restart") from16
unfolding nothing_left without_blanks
valued15 = refl

value15 : value_at (found14 ++ key 15 4 (codes "mode") ∷ []) 15 9 (codes " restart") from16 ≡ found found15 from16
unfolding colon_at comment_at nothing_left text_end floor is_utf8 chars encode
value15 = valued15 ∙ leaf_plain (found14 ++ key 15 4 (codes "mode") ∷ []) 15 10 114 (codes "estart") (codes "restart") line16 from17 refl refl refl refl refl refl refl refl

step15 : (k : ℕ) → pieces (suc k) found14 from15 ≡ pieces k found15 from16
step15 k = step k found14 found15 line15 from16 refl refl (begins15 ∙ keyed15 ∙ value15)

colon16 : colon_at false 0 (codes "alias: Odd") ≡ Some 5
unfolding colon_at nothing_left
colon16 = refl

begins16 : heads found15 16 true 2 (codes "- alias: Odd") from17 ≡ plain_key (found15 ++ dash 16 2 ∷ []) 16 4 (codes "alias: Odd") (colon_at false 0 (codes "alias: Odd")) from17
begins16 = dash_line found15 16 2 true (codes "alias: Odd") from17 ∙ plain_line (found15 ++ dash 16 2 ∷ []) 16 4 97 true (codes "lias: Odd") from17 refl refl refl refl

keyed16 : plain_key (found15 ++ dash 16 2 ∷ []) 16 4 (codes "alias: Odd") (colon_at false 0 (codes "alias: Odd")) from17 ≡ value_at ((found15 ++ dash 16 2 ∷ []) ++ key 16 4 (codes "alias") ∷ []) 16 10 (codes " Odd") from17
unfolding text_end is_utf8 chars encode
keyed16 = key_line (found15 ++ dash 16 2 ∷ []) 16 4 from17 (codes "alias: Odd") 5 (codes "alias") (codes " Odd") colon16 refl refl refl refl

valued16 : value_at ((found15 ++ dash 16 2 ∷ []) ++ key 16 4 (codes "alias") ∷ []) 16 10 (codes " Odd") from17 ≡ leaf_at ((found15 ++ dash 16 2 ∷ []) ++ key 16 4 (codes "alias") ∷ []) 16 false 11 (codes "Odd") from17
unfolding nothing_left without_blanks
valued16 = refl

value16 : value_at ((found15 ++ dash 16 2 ∷ []) ++ key 16 4 (codes "alias") ∷ []) 16 10 (codes " Odd") from17 ≡ found found16 from17
unfolding colon_at comment_at nothing_left text_end floor is_utf8 chars encode
value16 = valued16 ∙ leaf_plain ((found15 ++ dash 16 2 ∷ []) ++ key 16 4 (codes "alias") ∷ []) 16 11 79 (codes "dd") (codes "Odd") line17 from18 refl refl refl refl refl refl refl refl

step16 : (k : ℕ) → pieces (suc k) found15 from16 ≡ pieces k found16 from17
step16 k = step k found15 found16 line16 from17 refl refl (begins16 ∙ keyed16 ∙ value16)

colon17 : colon_at false 0 (codes "triggers:") ≡ Some 8
unfolding colon_at nothing_left
colon17 = refl

begins17 : heads found16 17 true 4 (codes "triggers:") from18 ≡ plain_key found16 17 4 (codes "triggers:") (colon_at false 0 (codes "triggers:")) from18
begins17 = plain_line found16 17 4 116 true (codes "riggers:") from18 refl refl refl refl

keyed17 : plain_key found16 17 4 (codes "triggers:") (colon_at false 0 (codes "triggers:")) from18 ≡ value_at (found16 ++ key 17 4 (codes "triggers") ∷ []) 17 13 (codes "") from18
unfolding text_end is_utf8 chars encode
keyed17 = key_line found16 17 4 from18 (codes "triggers:") 8 (codes "triggers") (codes "") colon17 refl refl refl refl

value17 : value_at (found16 ++ key 17 4 (codes "triggers") ∷ []) 17 13 (codes "") from18 ≡ found found17 from18
unfolding nothing_left
value17 = refl

step17 : (k : ℕ) → pieces (suc k) found16 from17 ≡ pieces k found17 from18
step17 k = step k found16 found17 line17 from18 refl refl (begins17 ∙ keyed17 ∙ value17)

colon18 : colon_at false 0 (codes "trigger: state") ≡ Some 7
unfolding colon_at nothing_left
colon18 = refl

begins18 : heads found17 18 true 6 (codes "- trigger: state") from19 ≡ plain_key (found17 ++ dash 18 6 ∷ []) 18 8 (codes "trigger: state") (colon_at false 0 (codes "trigger: state")) from19
begins18 = dash_line found17 18 6 true (codes "trigger: state") from19 ∙ plain_line (found17 ++ dash 18 6 ∷ []) 18 8 116 true (codes "rigger: state") from19 refl refl refl refl

keyed18 : plain_key (found17 ++ dash 18 6 ∷ []) 18 8 (codes "trigger: state") (colon_at false 0 (codes "trigger: state")) from19 ≡ value_at ((found17 ++ dash 18 6 ∷ []) ++ key 18 8 (codes "trigger") ∷ []) 18 16 (codes " state") from19
unfolding text_end is_utf8 chars encode
keyed18 = key_line (found17 ++ dash 18 6 ∷ []) 18 8 from19 (codes "trigger: state") 7 (codes "trigger") (codes " state") colon18 refl refl refl refl

valued18 : value_at ((found17 ++ dash 18 6 ∷ []) ++ key 18 8 (codes "trigger") ∷ []) 18 16 (codes " state") from19 ≡ leaf_at ((found17 ++ dash 18 6 ∷ []) ++ key 18 8 (codes "trigger") ∷ []) 18 false 17 (codes "state") from19
unfolding nothing_left without_blanks
valued18 = refl

value18 : value_at ((found17 ++ dash 18 6 ∷ []) ++ key 18 8 (codes "trigger") ∷ []) 18 16 (codes " state") from19 ≡ found found18 from19
unfolding colon_at comment_at nothing_left text_end floor is_utf8 chars encode
value18 = valued18 ∙ leaf_plain ((found17 ++ dash 18 6 ∷ []) ++ key 18 8 (codes "trigger") ∷ []) 18 17 115 (codes "tate") (codes "state") line19 from20 refl refl refl refl refl refl refl refl

step18 : (k : ℕ) → pieces (suc k) found17 from18 ≡ pieces k found18 from19
step18 k = step k found17 found18 line18 from19 refl refl (begins18 ∙ keyed18 ∙ value18)

colon19 : colon_at false 0 (codes "entity_id: sensor.s1") ≡ Some 9
unfolding colon_at nothing_left
colon19 = refl

begins19 : heads found18 19 true 8 (codes "entity_id: sensor.s1") from20 ≡ plain_key found18 19 8 (codes "entity_id: sensor.s1") (colon_at false 0 (codes "entity_id: sensor.s1")) from20
begins19 = plain_line found18 19 8 101 true (codes "ntity_id: sensor.s1") from20 refl refl refl refl

keyed19 : plain_key found18 19 8 (codes "entity_id: sensor.s1") (colon_at false 0 (codes "entity_id: sensor.s1")) from20 ≡ value_at (found18 ++ key 19 8 (codes "entity_id") ∷ []) 19 18 (codes " sensor.s1") from20
unfolding text_end is_utf8 chars encode
keyed19 = key_line found18 19 8 from20 (codes "entity_id: sensor.s1") 9 (codes "entity_id") (codes " sensor.s1") colon19 refl refl refl refl

valued19 : value_at (found18 ++ key 19 8 (codes "entity_id") ∷ []) 19 18 (codes " sensor.s1") from20 ≡ leaf_at (found18 ++ key 19 8 (codes "entity_id") ∷ []) 19 false 19 (codes "sensor.s1") from20
unfolding nothing_left without_blanks
valued19 = refl

value19 : value_at (found18 ++ key 19 8 (codes "entity_id") ∷ []) 19 18 (codes " sensor.s1") from20 ≡ found found19 from20
unfolding colon_at comment_at nothing_left text_end floor is_utf8 chars encode
value19 = valued19 ∙ leaf_plain (found18 ++ key 19 8 (codes "entity_id") ∷ []) 19 19 115 (codes "ensor.s1") (codes "sensor.s1") line20 from21 refl refl refl refl refl refl refl refl

step19 : (k : ℕ) → pieces (suc k) found18 from19 ≡ pieces k found19 from20
step19 k = step k found18 found19 line19 from20 refl refl (begins19 ∙ keyed19 ∙ value19)

colon20 : colon_at false 0 (codes "actions:") ≡ Some 7
unfolding colon_at nothing_left
colon20 = refl

begins20 : heads found19 20 true 4 (codes "actions:") from21 ≡ plain_key found19 20 4 (codes "actions:") (colon_at false 0 (codes "actions:")) from21
begins20 = plain_line found19 20 4 97 true (codes "ctions:") from21 refl refl refl refl

keyed20 : plain_key found19 20 4 (codes "actions:") (colon_at false 0 (codes "actions:")) from21 ≡ value_at (found19 ++ key 20 4 (codes "actions") ∷ []) 20 12 (codes "") from21
unfolding text_end is_utf8 chars encode
keyed20 = key_line found19 20 4 from21 (codes "actions:") 7 (codes "actions") (codes "") colon20 refl refl refl refl

value20 : value_at (found19 ++ key 20 4 (codes "actions") ∷ []) 20 12 (codes "") from21 ≡ found found20 from21
unfolding nothing_left
value20 = refl

step20 : (k : ℕ) → pieces (suc k) found19 from20 ≡ pieces k found20 from21
step20 k = step k found19 found20 line20 from21 refl refl (begins20 ∙ keyed20 ∙ value20)

colon21 : colon_at false 0 (codes "repeat:") ≡ Some 6
unfolding colon_at nothing_left
colon21 = refl

begins21 : heads found20 21 true 6 (codes "- repeat:") from22 ≡ plain_key (found20 ++ dash 21 6 ∷ []) 21 8 (codes "repeat:") (colon_at false 0 (codes "repeat:")) from22
begins21 = dash_line found20 21 6 true (codes "repeat:") from22 ∙ plain_line (found20 ++ dash 21 6 ∷ []) 21 8 114 true (codes "epeat:") from22 refl refl refl refl

keyed21 : plain_key (found20 ++ dash 21 6 ∷ []) 21 8 (codes "repeat:") (colon_at false 0 (codes "repeat:")) from22 ≡ value_at ((found20 ++ dash 21 6 ∷ []) ++ key 21 8 (codes "repeat") ∷ []) 21 15 (codes "") from22
unfolding text_end is_utf8 chars encode
keyed21 = key_line (found20 ++ dash 21 6 ∷ []) 21 8 from22 (codes "repeat:") 6 (codes "repeat") (codes "") colon21 refl refl refl refl

value21 : value_at ((found20 ++ dash 21 6 ∷ []) ++ key 21 8 (codes "repeat") ∷ []) 21 15 (codes "") from22 ≡ found found21 from22
unfolding nothing_left
value21 = refl

step21 : (k : ℕ) → pieces (suc k) found20 from21 ≡ pieces k found21 from22
step21 k = step k found20 found21 line21 from22 refl refl (begins21 ∙ keyed21 ∙ value21)

colon22 : colon_at false 0 (codes "count: 2") ≡ Some 5
unfolding colon_at nothing_left
colon22 = refl

begins22 : heads found21 22 true 10 (codes "count: 2") from23 ≡ plain_key found21 22 10 (codes "count: 2") (colon_at false 0 (codes "count: 2")) from23
begins22 = plain_line found21 22 10 99 true (codes "ount: 2") from23 refl refl refl refl

keyed22 : plain_key found21 22 10 (codes "count: 2") (colon_at false 0 (codes "count: 2")) from23 ≡ value_at (found21 ++ key 22 10 (codes "count") ∷ []) 22 16 (codes " 2") from23
unfolding text_end is_utf8 chars encode
keyed22 = key_line found21 22 10 from23 (codes "count: 2") 5 (codes "count") (codes " 2") colon22 refl refl refl refl

valued22 : value_at (found21 ++ key 22 10 (codes "count") ∷ []) 22 16 (codes " 2") from23 ≡ leaf_at (found21 ++ key 22 10 (codes "count") ∷ []) 22 false 17 (codes "2") from23
unfolding nothing_left without_blanks
valued22 = refl

value22 : value_at (found21 ++ key 22 10 (codes "count") ∷ []) 22 16 (codes " 2") from23 ≡ found found22 from23
unfolding colon_at comment_at nothing_left text_end floor is_utf8 chars encode
value22 = valued22 ∙ leaf_plain (found21 ++ key 22 10 (codes "count") ∷ []) 22 17 50 (codes "") (codes "2") line23 from24 refl refl refl refl refl refl refl refl

step22 : (k : ℕ) → pieces (suc k) found21 from22 ≡ pieces k found22 from23
step22 k = step k found21 found22 line22 from23 refl refl (begins22 ∙ keyed22 ∙ value22)

colon23 : colon_at false 0 (codes "sequence:") ≡ Some 8
unfolding colon_at nothing_left
colon23 = refl

begins23 : heads found22 23 true 10 (codes "sequence:") from24 ≡ plain_key found22 23 10 (codes "sequence:") (colon_at false 0 (codes "sequence:")) from24
begins23 = plain_line found22 23 10 115 true (codes "equence:") from24 refl refl refl refl

keyed23 : plain_key found22 23 10 (codes "sequence:") (colon_at false 0 (codes "sequence:")) from24 ≡ value_at (found22 ++ key 23 10 (codes "sequence") ∷ []) 23 19 (codes "") from24
unfolding text_end is_utf8 chars encode
keyed23 = key_line found22 23 10 from24 (codes "sequence:") 8 (codes "sequence") (codes "") colon23 refl refl refl refl

value23 : value_at (found22 ++ key 23 10 (codes "sequence") ∷ []) 23 19 (codes "") from24 ≡ found found23 from24
unfolding nothing_left
value23 = refl

step23 : (k : ℕ) → pieces (suc k) found22 from23 ≡ pieces k found23 from24
step23 k = step k found22 found23 line23 from24 refl refl (begins23 ∙ keyed23 ∙ value23)

colon24 : colon_at false 0 (codes "action: notify.log") ≡ Some 6
unfolding colon_at nothing_left
colon24 = refl

begins24 : heads found23 24 true 12 (codes "- action: notify.log") from25 ≡ plain_key (found23 ++ dash 24 12 ∷ []) 24 14 (codes "action: notify.log") (colon_at false 0 (codes "action: notify.log")) from25
begins24 = dash_line found23 24 12 true (codes "action: notify.log") from25 ∙ plain_line (found23 ++ dash 24 12 ∷ []) 24 14 97 true (codes "ction: notify.log") from25 refl refl refl refl

keyed24 : plain_key (found23 ++ dash 24 12 ∷ []) 24 14 (codes "action: notify.log") (colon_at false 0 (codes "action: notify.log")) from25 ≡ value_at ((found23 ++ dash 24 12 ∷ []) ++ key 24 14 (codes "action") ∷ []) 24 21 (codes " notify.log") from25
unfolding text_end is_utf8 chars encode
keyed24 = key_line (found23 ++ dash 24 12 ∷ []) 24 14 from25 (codes "action: notify.log") 6 (codes "action") (codes " notify.log") colon24 refl refl refl refl

valued24 : value_at ((found23 ++ dash 24 12 ∷ []) ++ key 24 14 (codes "action") ∷ []) 24 21 (codes " notify.log") from25 ≡ leaf_at ((found23 ++ dash 24 12 ∷ []) ++ key 24 14 (codes "action") ∷ []) 24 false 22 (codes "notify.log") from25
unfolding nothing_left without_blanks
valued24 = refl

value24 : value_at ((found23 ++ dash 24 12 ∷ []) ++ key 24 14 (codes "action") ∷ []) 24 21 (codes " notify.log") from25 ≡ found found24 from25
unfolding colon_at comment_at nothing_left text_end floor is_utf8 chars encode
value24 = valued24 ∙ leaf_plain ((found23 ++ dash 24 12 ∷ []) ++ key 24 14 (codes "action") ∷ []) 24 22 110 (codes "otify.log") (codes "notify.log") line25 from26 refl refl refl refl refl refl refl refl

step24 : (k : ℕ) → pieces (suc k) found23 from24 ≡ pieces k found24 from25
step24 k = step k found23 found24 line24 from25 refl refl (begins24 ∙ keyed24 ∙ value24)

colon25 : colon_at false 0 (codes "data:") ≡ Some 4
unfolding colon_at nothing_left
colon25 = refl

begins25 : heads found24 25 true 14 (codes "data:") from26 ≡ plain_key found24 25 14 (codes "data:") (colon_at false 0 (codes "data:")) from26
begins25 = plain_line found24 25 14 100 true (codes "ata:") from26 refl refl refl refl

keyed25 : plain_key found24 25 14 (codes "data:") (colon_at false 0 (codes "data:")) from26 ≡ value_at (found24 ++ key 25 14 (codes "data") ∷ []) 25 19 (codes "") from26
unfolding text_end is_utf8 chars encode
keyed25 = key_line found24 25 14 from26 (codes "data:") 4 (codes "data") (codes "") colon25 refl refl refl refl

value25 : value_at (found24 ++ key 25 14 (codes "data") ∷ []) 25 19 (codes "") from26 ≡ found found25 from26
unfolding nothing_left
value25 = refl

step25 : (k : ℕ) → pieces (suc k) found24 from25 ≡ pieces k found25 from26
step25 k = step k found24 found25 line25 from26 refl refl (begins25 ∙ keyed25 ∙ value25)

colon26 : colon_at false 0 (codes "value: \"{{ trigger.to_state.state }}\"") ≡ Some 5
unfolding colon_at nothing_left
colon26 = refl

begins26 : heads found25 26 true 16 (codes "value: \"{{ trigger.to_state.state }}\"") from27 ≡ plain_key found25 26 16 (codes "value: \"{{ trigger.to_state.state }}\"") (colon_at false 0 (codes "value: \"{{ trigger.to_state.state }}\"")) from27
begins26 = plain_line found25 26 16 118 true (codes "alue: \"{{ trigger.to_state.state }}\"") from27 refl refl refl refl

keyed26 : plain_key found25 26 16 (codes "value: \"{{ trigger.to_state.state }}\"") (colon_at false 0 (codes "value: \"{{ trigger.to_state.state }}\"")) from27 ≡ value_at (found25 ++ key 26 16 (codes "value") ∷ []) 26 22 (codes " \"{{ trigger.to_state.state }}\"") from27
unfolding text_end is_utf8 chars encode
keyed26 = key_line found25 26 16 from27 (codes "value: \"{{ trigger.to_state.state }}\"") 5 (codes "value") (codes " \"{{ trigger.to_state.state }}\"") colon26 refl refl refl refl

valued26 : value_at (found25 ++ key 26 16 (codes "value") ∷ []) 26 22 (codes " \"{{ trigger.to_state.state }}\"") from27 ≡ leaf_at (found25 ++ key 26 16 (codes "value") ∷ []) 26 false 23 (codes "\"{{ trigger.to_state.state }}\"") from27
unfolding nothing_left without_blanks
valued26 = refl

value26 : value_at (found25 ++ key 26 16 (codes "value") ∷ []) 26 22 (codes " \"{{ trigger.to_state.state }}\"") from27 ≡ found found26 from27
unfolding quoted run nothing_left is_utf8 chars encode
value26 = valued26 ∙ leaf_quoted (found25 ++ key 26 16 (codes "value") ∷ []) 26 23 (codes "{{ trigger.to_state.state }}\"") (codes "{{ trigger.to_state.state }}") from27 refl refl

step26 : (k : ℕ) → pieces (suc k) found25 from26 ≡ pieces k found26 from27
step26 k = step k found25 found26 line26 from27 refl refl (begins26 ∙ keyed26 ∙ value26)

colon27 : colon_at false 0 (codes "mode: queued") ≡ Some 4
unfolding colon_at nothing_left
colon27 = refl

begins27 : heads found26 27 true 4 (codes "mode: queued") from28 ≡ plain_key found26 27 4 (codes "mode: queued") (colon_at false 0 (codes "mode: queued")) from28
begins27 = plain_line found26 27 4 109 true (codes "ode: queued") from28 refl refl refl refl

keyed27 : plain_key found26 27 4 (codes "mode: queued") (colon_at false 0 (codes "mode: queued")) from28 ≡ value_at (found26 ++ key 27 4 (codes "mode") ∷ []) 27 9 (codes " queued") from28
unfolding text_end is_utf8 chars encode
keyed27 = key_line found26 27 4 from28 (codes "mode: queued") 4 (codes "mode") (codes " queued") colon27 refl refl refl refl

valued27 : value_at (found26 ++ key 27 4 (codes "mode") ∷ []) 27 9 (codes " queued") from28 ≡ leaf_at (found26 ++ key 27 4 (codes "mode") ∷ []) 27 false 10 (codes "queued") from28
unfolding nothing_left without_blanks
valued27 = refl

value27 : value_at (found26 ++ key 27 4 (codes "mode") ∷ []) 27 9 (codes " queued") from28 ≡ found found27 from28
unfolding colon_at comment_at nothing_left text_end floor is_utf8 chars encode
value27 = valued27 ∙ leaf_plain (found26 ++ key 27 4 (codes "mode") ∷ []) 27 10 113 (codes "ueued") (codes "queued") line28 from29 refl refl refl refl refl refl refl refl

step27 : (k : ℕ) → pieces (suc k) found26 from27 ≡ pieces k found27 from28
step27 k = step k found26 found27 line27 from28 refl refl (begins27 ∙ keyed27 ∙ value27)

colon28 : colon_at false 0 (codes "max: 3") ≡ Some 3
unfolding colon_at nothing_left
colon28 = refl

begins28 : heads found27 28 true 4 (codes "max: 3") from29 ≡ plain_key found27 28 4 (codes "max: 3") (colon_at false 0 (codes "max: 3")) from29
begins28 = plain_line found27 28 4 109 true (codes "ax: 3") from29 refl refl refl refl

keyed28 : plain_key found27 28 4 (codes "max: 3") (colon_at false 0 (codes "max: 3")) from29 ≡ value_at (found27 ++ key 28 4 (codes "max") ∷ []) 28 8 (codes " 3") from29
unfolding text_end is_utf8 chars encode
keyed28 = key_line found27 28 4 from29 (codes "max: 3") 3 (codes "max") (codes " 3") colon28 refl refl refl refl

valued28 : value_at (found27 ++ key 28 4 (codes "max") ∷ []) 28 8 (codes " 3") from29 ≡ leaf_at (found27 ++ key 28 4 (codes "max") ∷ []) 28 false 9 (codes "3") from29
unfolding nothing_left without_blanks
valued28 = refl

value28 : value_at (found27 ++ key 28 4 (codes "max") ∷ []) 28 8 (codes " 3") from29 ≡ found found28 from29
unfolding colon_at comment_at nothing_left text_end floor is_utf8 chars encode
value28 = valued28 ∙ last_plain (found27 ++ key 28 4 (codes "max") ∷ []) 28 9 51 (codes "") (codes "3") refl refl refl refl refl

step28 : (k : ℕ) → pieces (suc k) found27 from28 ≡ pieces k found28 from29
step28 k = step k found27 found28 line28 from29 refl refl (begins28 ∙ keyed28 ∙ value28)

last : pieces 1 found28 [] ≡ found found28 []
unfolding pieces
last = refl

pub all_found : all_pieces from1 ≡ found found28 []
all_found = step1 28 ∙ step2 27 ∙ step3 26 ∙ step4 25 ∙ step5 24 ∙ step6 23 ∙ step7 22 ∙ step8 21 ∙ step9 20 ∙ step10 19 ∙ step11 18 ∙ step12 17 ∙ step13 16 ∙ step14 15 ∙ step15 14 ∙ step16 13 ∙ step17 12 ∙ step18 11 ∙ step19 10 ∙ step20 9 ∙ step21 8 ∙ step22 7 ∙ step23 6 ∙ step24 5 ∙ step25 4 ∙ step26 3 ∙ step27 2 ∙ step28 1 ∙ last
