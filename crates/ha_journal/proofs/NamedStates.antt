-- The states of automations by their names, with any entry more.
use Rattle.std.proofs.Common.{◌≡◌, ℕ, suc, length, take, Bool, true, false, refl, sym, ◌∙◌, Option}
use Rattle.std.specs.Prelude.{Some, None, not, option_map, codes, ◌||◌, if◌then◌else◌}
use Rattle.std.specs.Option.{option_map_or}
use Rattle.ha_value.specs.declared.value.EntityId.{EntityId}
use Rattle.ha_config.specs.Helpers.{helper_named}
use Rattle.ha_config.specs.Names.{named_among}
use Rattle.ha_config.specs.Words.{same}
use Rattle.ha_config.proofs.NumberedLemmas.{named-unit}
use Rattle.ha_journal.specs.declared.entry.Entry.{Entry}
use Rattle.ha_journal.specs.Entries.{opens_segment}
use Rattle.ha_journal.specs.Journal.{HasEntry, Journal, helpers, in_force, more, now, units}
use Rattle.ha_journal.specs.States.{of_automation, of_helper, reported, since_moment, states, switch_state}
use Rattle.ha_journal.specs.Switches.{is_on, name_switched_at, same_switch, switch_named}
use Rattle.ha_journal.proofs.ForceLaws.{in-force-units}
use Rattle.ha_journal.proofs.MoreLemmas.{through-last}
use Rattle.ha_journal.proofs.SinceLaws.{name-switched-more, name-switched-within, take-more}

-- LAW: the state of an automation is the switch of its name, since the latest entry that changed it or brought the name into force
pub states-named : (j : Journal) (e : EntityId) → same e.domain (codes "automation") ≡ true → states j e ≡ option_map (switch_state (since_moment j e.object)) (switch_named j e.object)
states-named j e domain =
    (λ i. if domain i then option_map (of_automation j) (named_among (in_force j) e.object) else option_map_or (of_helper j) (helper_named (helpers j) e) (reported j e))
    ∙ by (named_among (in_force j) e.object) refl
  where
    by : (o : Option ℕ) → named_among (in_force j) e.object ≡ o → option_map (of_automation j) o ≡ option_map (switch_state (since_moment j e.object)) (option_map (is_on j) o)
    by None f = refl
    by (Some a) f =
        (let name = named-unit (units j) (in_force j) e.object a (in-force-units j) f in
        λ i. Some (switch_state (now (take (suc (name_switched_at j (name i))) j)) (is_on j a)))

same-switch : (a b : Option Bool) → same_switch a b ≡ true → a ≡ b
same-switch None None h = refl
same-switch (Some true) (Some true) h = refl
same-switch (Some false) (Some false) h = refl
same-switch (Some true) (Some false) h = cc
same-switch (Some false) (Some true) h = cc
same-switch None (Some b) h = cc
same-switch (Some a) None h = cc

-- LAW: where an entry is no Boot or Restart and leaves the switch of the name as it was, the state stays, a Reload too
pub states-stay : (j : Journal) (x : Entry) (e : EntityId) → HasEntry j → same e.domain (codes "automation") ≡ true → opens_segment x ≡ false
    → same_switch (switch_named j e.object) (switch_named (more j x) e.object) ≡ true → states (more j x) e ≡ states j e
states-stay j x e some domain opens stays =
    states-named (more j x) e domain
    ∙ (λ i. option_map (switch_state (moment i)) (sym (same-switch (switch_named j e.object) (switch_named (more j x) e.object) stays) i))
    ∙ sym (states-named j e domain)
  where
    place : name_switched_at (more j x) e.object ≡ name_switched_at j e.object
    place = name-switched-more j x e.object ∙ (λ i. if opens i || not (stays i) then length j else name_switched_at j e.object)

    moment : since_moment (more j x) e.object ≡ since_moment j e.object
    moment = (λ i. now (take (suc (place i)) (more j x))) ∙ (λ i. now (take-more j x (suc (name_switched_at j e.object)) (name-switched-within j e.object some) i))

-- LAW: else it is the switch, if there is one, since this entry
pub states-anew : (j : Journal) (x : Entry) (e : EntityId) → same e.domain (codes "automation") ≡ true
    → (opens_segment x || not (same_switch (switch_named j e.object) (switch_named (more j x) e.object))) ≡ true
    → states (more j x) e ≡ option_map (switch_state (now (more j x))) (switch_named (more j x) e.object)
states-anew j x e domain changes =
    states-named (more j x) e domain ∙ (λ i. option_map (switch_state (moment i)) (switch_named (more j x) e.object))
  where
    place : name_switched_at (more j x) e.object ≡ length j
    place = name-switched-more j x e.object ∙ (λ i. if changes i then length j else name_switched_at j e.object)

    moment : since_moment (more j x) e.object ≡ now (more j x)
    moment = (λ i. now (take (suc (place i)) (more j x))) ∙ (λ i. now (through-last j x i))
