-- What a place sees behind a Reload of what is in force is what it saw before: the same switches, states and numbers, at the same moment.
use Rattle.std.proofs.Common.{◌≡◌, ℕ, suc, ◌<◌, max, List, [], ◌∷◌, length, map, Bool, true, false, refl, sym, ap, ◌∙◌, arith, Option}
use Rattle.std.specs.Prelude.{Some, None, not, option_map, codes, ◌||◌, if◌then◌else◌}
use Rattle.std.specs.Option.{option_map_or}
use Rattle.ha_value.specs.declared.value.EntityId.{EntityId}
use Rattle.ha_config.specs.declared.config.Automation.{Automation}
use Rattle.ha_config.specs.declared.config.Config.{Config}
use Rattle.ha_config.specs.declared.config.Script.{Script}
use Rattle.ha_config.specs.declared.helper.Helper.{Helper}
use Rattle.ha_config.specs.Helpers.{helper_named}
use Rattle.ha_config.specs.Names.{named_among}
use Rattle.ha_config.specs.Numbered.{AreUnits}
use Rattle.ha_config.specs.Sound.{IsSoundConfig}
use Rattle.ha_config.specs.Words.{Text, same}
use Rattle.ha_config.proofs.NumberedLemmas.{get-within, named-there, number-below}
use Rattle.ha_journal.specs.declared.entry.Entry.{Entry}
use Rattle.ha_journal.specs.Entries.{reload_in}
use Rattle.ha_journal.specs.Force.{Force, IsAlike}
use Rattle.ha_journal.specs.Helpers.{known}
use Rattle.ha_journal.specs.Journal.{HasEntry, Journal, configured, helpers, in_force, more, now, scripts_in, units, zone_of}
use Rattle.ha_journal.specs.Moves.{sight}
use Rattle.ha_journal.specs.States.{of_automation, of_helper, reported, states, switches_seen}
use Rattle.ha_journal.specs.Switches.{is_on, name_switched_at, same_switch, since, switch_named}
use Rattle.ha_journal.proofs.ForceLaws.{in-force-units}
use Rattle.ha_journal.proofs.HelperLaws.{helper-left, known-left, text-left}
use Rattle.ha_journal.proofs.MoreLemmas.{helpers-more, through-last}
use Rattle.ha_journal.proofs.NamedStates.{states-stay}
use Rattle.ha_journal.proofs.SinceLaws.{name-switched-more, on-kept, since-kept, take-before}
use Rattle.ha_journal.proofs.StateLemmas.{now-snoc, reported-other}
use Rattle.reload_laws.proofs.ReloadLine.{IsOnly, reload-only}
use Rattle.reload_laws.proofs.SameForce.{force-same}

same-itself : (a : Option Bool) → same_switch a a ≡ true
same-itself None = refl
same-itself (Some true) = refl
same-itself (Some false) = refl

module _ (j : Journal) (x : Entry) (c : Config) (some : HasEntry j) (reloads : reload_in x ≡ Some c) where
  abbrev k : Journal
  k = more j x

  only : IsOnly x
  only = reload-only x c reloads

  -- LAW: since when a unit is on that was there
  pub since-same : (a : ℕ) → a < length (units j) → since k a ≡ since j a
  since-same a lt = since-kept j x c a some reloads only.opens lt

  on-these : (ps : List (ℕ × Automation)) → AreUnits (λ (z : Automation). z) (units j) ps
      → map {A = ℕ × Automation} {B = ℕ × Text × Bool} (λ p. (p.0, p.1.name, is_on k p.0)) ps ≡ map {A = ℕ × Automation} {B = ℕ × Text × Bool} (λ p. (p.0, p.1.name, is_on j p.0)) ps
  on-these [] are = refl
  on-these (p ∷ ps) are = (λ i. (p.0, p.1.name, on-kept j x c p.0 some reloads (get-within (units j) p.0 p.1 are.0) i) ∷ on-these ps are.1 i)

  module _ (sound : IsSoundConfig (configured j)) (alike : IsAlike c (configured j)) where
    same-force : in_force k ≡ in_force j
    same-force = ap (λ (f : Force). f.rules) (force-same j x c some reloads sound alike)

    switches-same : switches_seen k ≡ switches_seen j
    switches-same = (λ i. map {A = ℕ × Automation} {B = ℕ × Text × Bool} (λ p. (p.0, p.1.name, is_on k p.0)) (same-force i)) ∙ on-these (in_force j) (in-force-units j)

    scripts-same : scripts_in k ≡ scripts_in j
    scripts-same = (λ i. map {A = ℕ × Script} {B = Text × ℕ} (λ p. (p.1.name, p.0)) (force-same j x c some reloads sound alike i).scripts)

    -- LAW: the switch of a name
    pub named-same : (name : Text) → switch_named k name ≡ switch_named j name
    named-same name = (λ i. option_map (is_on k) (named_among (same-force i) name)) ∙ by (named_among (in_force j) name) refl
      where
        by : (o : Option ℕ) → named_among (in_force j) name ≡ o → option_map (is_on k) o ≡ option_map (is_on j) o
        by None e = refl
        by (Some a) e = ap Some (on-kept j x c a some reloads (number-below (λ (z : Automation). z) (units j) (in_force j) a (in-force-units j) (named-there (in_force j) name a e)))

    same-named : (name : Text) → same_switch (switch_named j name) (switch_named k name) ≡ true
    same-named name = (λ i. same_switch (switch_named j name) (named-same name i)) ∙ same-itself (switch_named j name)

    -- LAW: and since when it is known
    pub known-same : (name : Text) → name_switched_at k name ≡ name_switched_at j name
    known-same name = name-switched-more j x name ∙ (λ i. if only.opens i || not (same-named name i) then length j else name_switched_at j name)

    states-same : (e : EntityId) → states k e ≡ states j e
    states-same e = by (same e.domain (codes "automation")) refl
      where
        of_helpers : (o : Option Helper) → option_map_or (of_helper k) o (reported j e) ≡ option_map_or (of_helper j) o (reported j e)
        of_helpers None = refl
        of_helpers (Some a) = helper-left j x a some (text-left j x (record { changes = only.helps; moment = only.moment }) a)

        others : option_map_or (of_helper k) (helper_named (helpers k) e) (reported k e) ≡ option_map_or (of_helper j) (helper_named (helpers j) e) (reported j e)
        others =
            (λ i. option_map_or (of_helper k) (helper_named (sym (helpers-more j x some) i) e) (reported-other j e x only.report only.gone only.restart i))
            ∙ of_helpers (helper_named (helpers j) e)

        by : (b : Bool) → same e.domain (codes "automation") ≡ b → states k e ≡ states j e
        by true d = states-stay j x e some d only.opens (same-named e.object)
        by false d =
            (λ i. if d i then option_map (of_automation k) (named_among (in_force k) e.object) else option_map_or (of_helper k) (helper_named (helpers k) e) (reported k e))
            ∙ others
            ∙ (λ i. if sym d i then option_map (of_automation j) (named_among (in_force j) e.object) else option_map_or (of_helper j) (helper_named (helpers j) e) (reported j e))

    now-same : now k ≡ now j
    now-same = now-snoc j x ∙ (λ i. max (now j) (only.start i)) ∙ omega arith

    -- LAW: what a place sees
    pub sight-same : sight k (suc (length j)) ≡ sight k (length j)
    sight-same =
        (let all = through-last j x in λ i. record { states = states (all i); now = now (all i); zone = zone_of k; automations = switches_seen (all i); scripts = scripts_in (all i); helpers = known (all i) })
        ∙ (λ i. record { states = λ e. states-same e i; now = now-same i; zone = zone_of k; automations = switches-same i; scripts = scripts-same i; helpers = known-left j x some only.helps i })
        ∙ (let all = sym (take-before j x) in λ i. record { states = states (all i); now = now (all i); zone = zone_of k; automations = switches_seen (all i); scripts = scripts_in (all i); helpers = known (all i) })
