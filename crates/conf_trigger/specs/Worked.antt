-- Texts of triggers, as their trees, and what they are.
use Rattle.std.specs.Prelude.{◌≡◌, ℕ, true, false, List, [], ◌∷◌, Some, None, Ok, Err, codes, pos}
use Rattle.ha_value.specs.declared.value.Num.{Num}
use Rattle.ha_config.specs.declared.config.Match.{Match}
use Rattle.ha_config.specs.declared.config.TriggerRule.{TriggerRule}
use Rattle.ha_config.specs.declared.config.Unit as unit
use Rattle.ha_config.specs.declared.template.Piece.TheVariants as pieces
use Rattle.yaml_scan.specs.declared.fault.Code.TheVariants as code
use Rattle.yaml_tree.specs.declared.node.Node.{Node}
use Rattle.yaml_tree.specs.declared.node.NodeKind.{NodeKind}
use Rattle.yaml_tree.specs.declared.node.NodeKind.TheVariants as kinds
use Rattle.conf_trigger.specs.Triggers.{triggers}

abbrev pub at : ℕ → NodeKind → Node
at line kind = record { line = line; kind = kind }

-- "- trigger: state\n  entity_id: light.hall, light.b\n  to: 'on'\n  for: 5\n"
abbrev pub state_with_a_hold : Type 0
state_with_a_hold =
    triggers (at 1 (kinds.List ((at 1
    (kinds.Map (((codes "trigger"), 1, (at 1 (kinds.Scalar (codes "state") true)))
    ∷ ((codes "entity_id"), 2, (at 2 (kinds.Scalar (codes "light.hall, light.b") true)))
    ∷ ((codes "to"), 3, (at 3 (kinds.Scalar (codes "on") false))) ∷ ((codes "for"), 4, (at 4 (kinds.Scalar (codes "5") true))) ∷ [])))
    ∷ []))) ≡ Ok (record {
      id = (codes "0");
      idx = 0;
      rule = TriggerRule.State
          (record { domain = (codes "light"); object = (codes "hall") } ∷ record { domain = (codes "light"); object = (codes "b") }
          ∷ []) None Match.Absent (Match.OneOf ((codes "on") ∷ []));
      hold = (Some 5000);
    } ∷ [])

-- 'trigger: state\nplatform: state\nentity_id: light.hall\nto: on\nnot_to: off\n'
abbrev pub second_word_is_repeated : Type 0
second_word_is_repeated =
    triggers (at 1 (kinds.Map (((codes "trigger"), 1, (at 1 (kinds.Scalar (codes "state") true)))
    ∷ ((codes "platform"), 2, (at 2 (kinds.Scalar (codes "state") true)))
    ∷ ((codes "entity_id"), 3, (at 3 (kinds.Scalar (codes "light.hall") true)))
    ∷ ((codes "to"), 4, (at 4 (kinds.Scalar (codes "on") true)))
    ∷ ((codes "not_to"), 5, (at 5 (kinds.Scalar (codes "off") true))) ∷ []))) ≡ Err (record { line = 2; code = code.RepeatedKey })

-- '- trigger: state\n  entity_id: hall\n  from:\n  bogus: 1\n'
abbrev pub id_without_a_domain : Type 0
id_without_a_domain =
    triggers (at 1 (kinds.List ((at 1
    (kinds.Map (((codes "trigger"), 1, (at 1 (kinds.Scalar (codes "state") true)))
    ∷ ((codes "entity_id"), 2, (at 2 (kinds.Scalar (codes "hall") true))) ∷ ((codes "from"), 3, (at 3 (kinds.Scalar [] true)))
    ∷ ((codes "bogus"), 4, (at 4 (kinds.Scalar (codes "1") true))) ∷ []))) ∷ []))) ≡ Err (record { line = 2; code = code.EntityId })

-- "- trigger: numeric_state\n  entity_id: sensor.t\n  above: 20\n  for:\n    minutes: 1\n    seconds: 30\n  id: warm\n"
-- "- platform: time\n  at: ['07:00', '7:5', '23:59:59']\n"
abbrev pub short_time_in_a_list : Type 0
short_time_in_a_list =
    triggers (at 1 (kinds.List ((at 1
    (kinds.Map (((codes "trigger"), 1, (at 1 (kinds.Scalar (codes "numeric_state") true)))
    ∷ ((codes "entity_id"), 2, (at 2 (kinds.Scalar (codes "sensor.t") true)))
    ∷ ((codes "above"), 3, (at 3 (kinds.Scalar (codes "20") true)))
    ∷ (
      (codes "for"),
      4,
      (at 5
          (kinds.Map (((codes "minutes"), 5, (at 5 (kinds.Scalar (codes "1") true)))
          ∷ ((codes "seconds"), 6, (at 6 (kinds.Scalar (codes "30") true))) ∷ []))),
    )
    ∷ ((codes "id"), 7, (at 7 (kinds.Scalar (codes "warm") true))) ∷ [])))
    ∷ (at 8 (kinds.Map (((codes "platform"), 8, (at 8 (kinds.Scalar (codes "time") true)))
    ∷ (
      (codes "at"),
      9,
      (at 9
          (kinds.List ((at 9 (kinds.Scalar (codes "07:00") false)) ∷ (at 9 (kinds.Scalar (codes "7:5") false))
          ∷ (at 9 (kinds.Scalar (codes "23:59:59") false)) ∷ []))),
    ) ∷ []))) ∷ []))) ≡ Err (record { line = 9; code = code.Time })

-- "- trigger: time\n  at: ['07:00', '23:59:59']\n- trigger: time_pattern\n  minutes: /5\n"
-- "- trigger: homeassistant\n  event: start\n  enabled: no\n- trigger: event\n  event_type: [a, b]\n"
abbrev pub times_patterns_start_and_events : Type 0
times_patterns_start_and_events =
    triggers (at 1 (kinds.List ((at 1
    (kinds.Map (((codes "trigger"), 1, (at 1 (kinds.Scalar (codes "time") true)))
    ∷ (
      (codes "at"),
      2,
      (at 2
          (kinds.List ((at 2 (kinds.Scalar (codes "07:00") false)) ∷ (at 2 (kinds.Scalar (codes "23:59:59") false)) ∷ []))),
    ) ∷ [])))
    ∷ (at 3 (kinds.Map (((codes "trigger"), 3, (at 3 (kinds.Scalar (codes "time_pattern") true)))
    ∷ ((codes "minutes"), 4, (at 4 (kinds.Scalar (codes "/5") true))) ∷ [])))
    ∷ (at 5 (kinds.Map (((codes "trigger"), 5, (at 5 (kinds.Scalar (codes "homeassistant") true)))
    ∷ ((codes "event"), 6, (at 6 (kinds.Scalar (codes "start") true))) ∷ ((codes "enabled"), 7, (at 7 (kinds.Scalar (codes "no") true)))
    ∷ []))) ∷ (at 8 (kinds.Map
    (((codes "trigger"), 8, (at 8 (kinds.Scalar (codes "event") true)))
    ∷ (
      (codes "event_type"),
      9,
      (at 9 (kinds.List ((at 9 (kinds.Scalar (codes "a") true)) ∷ (at 9 (kinds.Scalar (codes "b") true)) ∷ []))),
    ) ∷ []))) ∷ [])))
    ≡ Ok (record { id = (codes "0"); idx = 0; rule = TriggerRule.Time (25200 ∷ 86399 ∷ []); hold = None }
    ∷ record {
      id = (codes "1");
      idx = 1;
      rule = TriggerRule.Pattern unit.Unit.Every (unit.Unit.Each 5)
          (unit.Unit.Exact 0);
      hold = None;
    }
    ∷ record { id = (codes "3"); idx = 3; rule = TriggerRule.Event ((codes "a") ∷ (codes "b") ∷ []) []; hold = None } ∷ [])

-- '- trigger: numeric_state\n  entity_id: sensor.t\n- state\n'
abbrev pub number_without_bounds : Type 0
number_without_bounds =
    triggers (at 1 (kinds.List ((at 1
    (kinds.Map (((codes "trigger"), 1, (at 1 (kinds.Scalar (codes "numeric_state") true)))
    ∷ ((codes "entity_id"), 2, (at 2 (kinds.Scalar (codes "sensor.t") true))) ∷ [])))
    ∷ (at 3 (kinds.Scalar (codes "state") true)) ∷ []))) ≡ Err (record { line = 1; code = code.MissingKey })

-- '- trigger: bogus\n  x: y\n- \n'
abbrev pub unknown_kind : Type 0
unknown_kind =
    triggers (at 1 (kinds.List ((at 1
    (kinds.Map (((codes "trigger"), 1, (at 1 (kinds.Scalar (codes "bogus") true)))
    ∷ ((codes "x"), 2, (at 2 (kinds.Scalar (codes "y") true))) ∷ []))) ∷ (at 3 (kinds.Scalar [] true)) ∷ [])))
    ≡ Err (record { line = 1; code = code.UnknownKind })

-- 'null\n'
abbrev pub null_is_none : Type 0
null_is_none =
    triggers (at 1 (kinds.Scalar (codes "null") true)) ≡ Ok ([])

-- "- trigger: time_pattern\n  hours: 24\n- trigger: template\n  for: 0\n"
abbrev pub hour_24 : Type 0
hour_24 =
    triggers (at 1 (kinds.List ((at 1
    (kinds.Map (((codes "trigger"), 1, (at 1 (kinds.Scalar (codes "time_pattern") true)))
    ∷ ((codes "hours"), 2, (at 2 (kinds.Scalar (codes "24") true))) ∷ [])))
    ∷ (at 3 (kinds.Map (((codes "trigger"), 3, (at 3 (kinds.Scalar (codes "template") true)))
    ∷ ((codes "for"), 4, (at 4 (kinds.Scalar (codes "0") true))) ∷ []))) ∷ []))) ≡ Err (record { line = 2; code = code.Time })

-- '- trigger: state\n  for: {days: 400, hours: x}\n  entity_id: a.b\n'
abbrev pub sum_over_the_bound : Type 0
sum_over_the_bound =
    triggers (at 1 (kinds.List ((at 1
    (kinds.Map (((codes "trigger"), 1, (at 1 (kinds.Scalar (codes "state") true)))
    ∷ (
      (codes "for"),
      2,
      (at 2
          (kinds.Map (((codes "days"), 2, (at 2 (kinds.Scalar (codes "400") true)))
          ∷ ((codes "hours"), 2, (at 2 (kinds.Scalar (codes "x") true))) ∷ []))),
    )
    ∷ ((codes "entity_id"), 3, (at 3 (kinds.Scalar (codes "a.b") true))) ∷ []))) ∷ []))) ≡ Err (record { line = 2; code = code.Time })

-- '- trigger: template\n  for: {}\n'
abbrev pub template_is_missing : Type 0
template_is_missing =
    triggers (at 1 (kinds.List ((at 1
    (kinds.Map (((codes "trigger"), 1, (at 1 (kinds.Scalar (codes "template") true)))
    ∷ ((codes "for"), 2, (at 2 (kinds.Map ([])))) ∷ []))) ∷ []))) ≡ Err (record { line = 1; code = code.MissingKey })

-- '- {trigger: state, entity_id: a.b, enabled: maybe, id: ~}\n'
abbrev pub flag_of_another_word : Type 0
flag_of_another_word =
    triggers (at 1 (kinds.List ((at 1
    (kinds.Map (((codes "trigger"), 1, (at 1 (kinds.Scalar (codes "state") true)))
    ∷ ((codes "entity_id"), 1, (at 1 (kinds.Scalar (codes "a.b") true)))
    ∷ ((codes "enabled"), 1, (at 1 (kinds.Scalar (codes "maybe") true)))
    ∷ ((codes "id"), 1, (at 1 (kinds.Scalar (codes "~") true))) ∷ []))) ∷ []))) ≡ Err (record { line = 1; code = code.Kind })

-- '- trigger: numeric_state\n  entity_id: sensor.t\n  above: 20\n  for:\n    minutes: 1\n    seconds: 30\n  id: warm\n'
abbrev pub number_with_parts_of_a_hold : Type 0
number_with_parts_of_a_hold =
    triggers (at 1 (kinds.List ((at 1
    (kinds.Map (((codes "trigger"), 1, (at 1 (kinds.Scalar (codes "numeric_state") true)))
    ∷ ((codes "entity_id"), 2, (at 2 (kinds.Scalar (codes "sensor.t") true)))
    ∷ ((codes "above"), 3, (at 3 (kinds.Scalar (codes "20") true)))
    ∷ (
      (codes "for"),
      4,
      (at 5
          (kinds.Map (((codes "minutes"), 5, (at 5 (kinds.Scalar (codes "1") true)))
          ∷ ((codes "seconds"), 6, (at 6 (kinds.Scalar (codes "30") true))) ∷ []))),
    )
    ∷ ((codes "id"), 7, (at 7 (kinds.Scalar (codes "warm") true))) ∷ []))) ∷ [])))
    ≡ Ok (record {
      id = (codes "warm");
      idx = 0;
      rule = TriggerRule.Numeric
          (record { domain = (codes "sensor"); object = (codes "t") } ∷ []) None (Some (Num.Whole (pos 20))) None;
      hold = (Some 90000);
    } ∷ [])

-- '- trigger: state\n  entity_id: a.b\n  from:\n  not_to: [x, y]\n  attribute: k\n'
abbrev pub null_matches_any : Type 0
null_matches_any =
    triggers (at 1 (kinds.List ((at 1
    (kinds.Map (((codes "trigger"), 1, (at 1 (kinds.Scalar (codes "state") true)))
    ∷ ((codes "entity_id"), 2, (at 2 (kinds.Scalar (codes "a.b") true))) ∷ ((codes "from"), 3, (at 3 (kinds.Scalar [] true)))
    ∷ ((codes "not_to"), 4, (at 4 (kinds.List ((at 4 (kinds.Scalar (codes "x") true)) ∷ (at 4 (kinds.Scalar (codes "y") true)) ∷ []))))
    ∷ ((codes "attribute"), 5, (at 5 (kinds.Scalar (codes "k") true))) ∷ []))) ∷ [])))
    ≡ Ok (record {
      id = (codes "0");
      idx = 0;
      rule = TriggerRule.State (record { domain = (codes "a"); object = (codes "b") } ∷ [])
          (Some (codes "k")) Match.Any (Match.NoneOf ((codes "x") ∷ (codes "y") ∷ []));
      hold = None;
    } ∷ [])
