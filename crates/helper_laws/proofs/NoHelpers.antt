-- What definitions say where no helper is configured.
use Rattle.std.proofs.Common.{◌≡◌, List, [], ◌∷◌, ◌++◌, map, refl, ◌∙◌, append-nil}
use Rattle.std.specs.Prelude.{Option, Some, None, codes, filter, filter_map, option_map, if◌then◌else◌}
use Rattle.std.specs.Option.{option_map_or, option_to_list}
use Rattle.ha_value.specs.declared.value.EntityId.{EntityId}
use Rattle.ha_config.specs.declared.command.Cmd.{Cmd}
use Rattle.ha_config.specs.declared.helper.Helper.{Helper}
use Rattle.ha_config.specs.Helpers.{helper_named, is_helper}
use Rattle.ha_config.specs.Names.{named_among}
use Rattle.ha_config.specs.Words.{Pairs, Text, same}
use Rattle.ha_journal.specs.declared.entry.Entry.{Entry}
use Rattle.ha_journal.specs.Commands.{put_as}
use Rattle.ha_journal.specs.Entries.{changes_in, event_in}
use Rattle.ha_journal.specs.Helpers.{event_for, event_of_change, events_of, finishes, known, last_change, own_event, timer_event}
use Rattle.ha_journal.specs.Journal.{Journal, helpers, in_force}
use Rattle.ha_journal.specs.States.{of_automation, of_helper, reported, states}

pub states-without : (j : Journal) → helpers j ≡ [] → (e : EntityId) → states j e
    ≡ (if same e.domain (codes "automation") then option_map (of_automation j) (named_among (in_force j) e.object) else reported j e)
states-without j none e =
    (λ i. if same e.domain (codes "automation") then option_map (of_automation j) (named_among (in_force j) e.object)
    else option_map_or (of_helper j) (helper_named (none i) e) (reported j e))

module _ (j : Journal) (x : Entry) (none : helpers j ≡ []) (still : changes_in x ≡ []) where
  -- LAW: its events are its own
  pub events-without : events_of j x ≡ map own_event (option_to_list (event_in x))
  events-without =
      (λ i. map own_event (option_to_list (event_in x))
      ++ (filter_map event_of_change (still i) ++ map (timer_event (codes "timer.finished")) (map (λ (h : Helper). h.entity) (filter (finishes j x) (none i)))))
      ∙ append-nil (map own_event (option_to_list (event_in x)))

  -- LAW: and none is a timer's
  pub others-without : (e : EntityId) → event_for (Some e) (events_of j x) ≡ None
  others-without e = (λ i. event_for (Some e) (events-without i)) ∙ by (event_in x)
    where
      by : (o : Option (Text × Pairs)) → event_for (Some e) (map own_event (option_to_list o)) ≡ None
      by None = refl
      by (Some v) = refl

pub report-without : (j : Journal) → helpers j ≡ [] → (e : EntityId) (text : Text) (attributes : Pairs) → put_as j (Cmd.Report e text attributes) ≡ Cmd.Report e text attributes
report-without j none e text attributes = (λ i. if is_helper (none i) e then Cmd.Refused 14 else Cmd.Report e text attributes)

pub gone-without : (j : Journal) → helpers j ≡ [] → (e : EntityId) → put_as j (Cmd.Gone e) ≡ Cmd.Gone e
gone-without j none e = (λ i. if is_helper (none i) e then Cmd.Refused 14 else Cmd.Gone e)

pub known-without : (j : Journal) → helpers j ≡ [] → known j ≡ []
known-without j none = (λ i. map (λ h. record { helper = h; last = last_change j h.entity }) (none i))
