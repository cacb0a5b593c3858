-- What stays at an entry that changes no switch and opens no segment.
use Rattle.std.proofs.Common.{◌≡◌, ℕ, suc, ◌+◌, ◌-◌, ◌<◌, ◌≤◌, List, [], ◌∷◌, length, take, map, Bool, true, false, refl, sym, ap, subst, ◌∙◌, rules, arith}
use Rattle.std.specs.Prelude.{IsTrue, None, is_some, not, nat_eq, max, ◌&&◌, ◌||◌, flat_map, if◌then◌else◌}
use Rattle.std.specs.Option.{option_map_or}
use Rattle.std.specs.List.{list_any, enumerate_from}
use Rattle.std.proofs.lemmas.List.{take_all}
use Rattle.ha_config.specs.declared.config.Automation.{Automation}
use Rattle.ha_config.specs.declared.config.Config.{Config}
use Rattle.ha_config.specs.declared.command.Cmd.{Cmd}
use Rattle.ha_journal.specs.declared.entry.Entry.{Entry}
use Rattle.ha_journal.specs.declared.entry.Entry.TheVariants.{Line}
use Rattle.ha_journal.specs.Entries.{Turning, is_reload, reload_in, turning, opens_segment}
use Rattle.ha_config.specs.Fair.{IsPlain}
use Rattle.ha_config.specs.Equal.{same_flag}
use Rattle.ha_config.specs.Numbered.{has_number}
use Rattle.ha_config.specs.Words.{Text, last_of}
use Rattle.ha_journal.specs.Journal.{Journal, HasEntry, in_force, units, zone_of, now, brings, more}
use Rattle.ha_journal.specs.Switches.{is_on, since}
use Rattle.ha_journal.specs.Sights.{changes_switch, renames}
use Rattle.ha_config.specs.Sound.{is_sound_config}
use Rattle.ha_journal.proofs.SinceLaws.{take-before, on-left, since-left}
use Rattle.ha_journal.proofs.ForceLaws.{configured-more, in-force-more, units-more}
use Rattle.ha_journal.proofs.MoreLemmas.{length-more}
use Rattle.ha_journal.proofs.StateLemmas.{last_of-snoc, now-snoc}
use Rattle.ha_journal.proofs.SwitchLemmas.{leaves-none}
use Rattle.ha_sight.specs.Sight.{Automations}
use Rattle.switch_book.specs.Book.{StandsFor}
use Rattle.ha_past.specs.Firings.{Owner}
use Rattle.trig_set.specs.Stands.{attached}
use Rattle.trig_set.specs.declared.set.TrigSet.{TrigSet}
use Rattle.wait_set.specs.declared.asked.Asked.{Asked}
use Rattle.wait_set.specs.Asked.{WaitTable}
use Rattle.engine_parts.specs.Owners.{owners_on}
use Rattle.engine_parts.specs.Kept.{AreSound, AreOwned, Owned}
use Rattle.engine_parts.specs.Runs.{first_wait}
use Rattle.engine_parts.proofs.DetachLemmas.{below-more}

-- ---- lines

pub plain-leaves : (source number : ℕ) (cmd : Cmd) → IsPlain cmd → turning (Line source number cmd) ≡ Turning.Leaves
plain-leaves source number (Cmd.Report entity text attributes) h = refl
plain-leaves source number (Cmd.Gone entity) h = refl
plain-leaves source number (Cmd.Event kind pairs) h = refl
plain-leaves source number (Cmd.Moment at) h = refl
plain-leaves source number (Cmd.Switch name on stop) h = absurd h
plain-leaves source number (Cmd.Trigger name skip) h = refl
plain-leaves source number Cmd.Restart h = absurd h
plain-leaves source number (Cmd.Reload text config) h = absurd h
plain-leaves source number (Cmd.Refused code) h = refl
plain-leaves source number Cmd.Lost h = refl
plain-leaves source number Cmd.TooLong h = refl

pub plain-goes-on : (source number : ℕ) (cmd : Cmd) → IsPlain cmd → opens_segment (Line source number cmd) ≡ false
plain-goes-on source number (Cmd.Report entity text attributes) h = refl
plain-goes-on source number (Cmd.Gone entity) h = refl
plain-goes-on source number (Cmd.Event kind pairs) h = refl
plain-goes-on source number (Cmd.Moment at) h = refl
plain-goes-on source number (Cmd.Switch name on stop) h = absurd h
plain-goes-on source number (Cmd.Trigger name skip) h = refl
plain-goes-on source number Cmd.Restart h = absurd h
plain-goes-on source number (Cmd.Reload text config) h = absurd h
plain-goes-on source number (Cmd.Refused code) h = refl
plain-goes-on source number Cmd.Lost h = refl
plain-goes-on source number Cmd.TooLong h = refl

-- ---- the first entry

pub zone-more : (j : Journal) (x : Entry) → HasEntry j → zone_of (more j x) ≡ zone_of j
zone-more [] x h = absurd h
zone-more (e ∷ es) x h = refl

pub sound-more : (j : Journal) (x : Entry) → HasEntry j → reload_in x ≡ None → AreSound j → AreSound (more j x)
sound-more j x h reloads sound = subst (λ (c : Config). IsTrue (is_sound_config c)) (configured-more j x h reloads) sound

pub plain-reloads : (source number : ℕ) (cmd : Cmd) → IsPlain cmd → reload_in (Line source number cmd) ≡ None
plain-reloads source number cmd h = leaves-none (Line source number cmd) (plain-leaves source number cmd h)

has-length : (j : Journal) → HasEntry j → 0 < length j
has-length [] h = absurd h
has-length (e ∷ es) h = omega arith

pub now-left : (j : Journal) (x : Entry) → brings x ≡ 0 → now (more j x) ≡ now j
now-left j x none = now-snoc j x ∙ ap (max (now j)) none ∙ (let least : max (now j) 0 ≡ now j = omega arith in least)

module _ (j : Journal) (x : Entry) (h : HasEntry j) (leaves : turning x ≡ Turning.Leaves) (goes_on : opens_segment x ≡ false) where
  abbrev k : Journal
  k = more j x

  pub reloads : reload_in x ≡ None
  reloads = leaves-none x leaves

  -- LAW: the switches stay
  pub switches-left : (s : Automations) → StandsFor s j → StandsFor s k
  switches-left s stands = stands ∙ (λ i. map {A = ℕ × Automation} {B = ℕ × Text × Bool} (λ p. (p.0, p.1.name, sym (on-left j x p.0 h leaves) i)) (in-force-more j x h reloads i))

  flag-self : (b : Bool) → not (same_flag b b) ≡ false
  flag-self true = refl
  flag-self false = refl

  none-any : {X : Type 0} (test : X → Bool) → ((y : X) → test y ≡ false) → (xs : List X) → list_any test xs ≡ false
  none-any test none [] = refl
  none-any test none (y ∷ ys) = (λ i. none y i || none-any test none ys i)

  -- LAW: and none has changed
  pub changed-left : changes_switch k ≡ false
  changed-left =
      let first : nat_eq (length k) 1 ≡ false = apart (length k) (omega (arith, length-more j x, has-length j h)) in
      let before : take (length k - 1) k ≡ j = (let n : length k - 1 ≡ length j = omega (arith, length-more j x) in ap (λ m. take m k) n ∙ take-before j x) in
      let plain : option_map_or is_reload (last_of k) false ≡ false = (λ i. option_map_or is_reload (last_of-snoc j x i) false) ∙ ap is_some reloads in
      (λ i. first i || changed_by (option_map_or is_reload (last_of k) false) (take (length k - 1) k))
      ∙ (λ i. changed_by (plain i) (before i))
      ∙ none-any (λ p. not (same_flag (is_on j p.0) (is_on k p.0))) (λ p. (λ i. not (same_flag (is_on j p.0) (on-left j x p.0 h leaves i))) ∙ flag-self (is_on j p.0)) (in_force k)
    where
      changed_by : Bool → Journal → Bool
      changed_by b was = if b then renames was k else list_any (λ p. not (same_flag (is_on was p.0) (is_on k p.0))) (in_force k)

      apart : (n : ℕ) → 1 < n → nat_eq n 1 ≡ false
      apart n lt = search (rules, lt)

  -- the owner that an automation is
  abbrev owner_in : Journal → ℕ × Automation → List Owner
  owner_in i y = if has_number (in_force i) y.0 && is_on i y.0 then record { owner = y.0; triggers = y.1.triggers; since = since i y.0 } ∷ [] else []

  whole : (i : Journal) → 0 < length i → take (suc (length i - 1)) i ≡ i
  whole i lt = take_all (suc (length i - 1)) i (omega (arith, lt))

  -- LAW: the same automations are on, since the same place
  pub owners-left : owners_on j (length j - 1) ≡ owners_on k (length k - 1)
  owners-left =
      (λ i. flat_map (owner_in (whole j (has-length j h) i)) (enumerate_from 0 (units (whole j (has-length j h) i))))
      ∙ (λ i. flat_map (λ (y : ℕ × Automation). if has_number (in-force-more j x h reloads i) y.0 && sym (on-left j x y.0 h leaves) i then record { owner = y.0; triggers = y.1.triggers; since = sym (since-left j x y.0 h leaves goes_on) i } ∷ [] else []) (enumerate_from 0 (units-more j x h reloads i)))
      ∙ (λ i. flat_map (owner_in (sym (whole k (omega (arith, length-more j x))) i)) (enumerate_from 0 (units (sym (whole k (omega (arith, length-more j x))) i))))

  owned-later : (n m : ℕ) (owners : List Owner) (asks : List Asked) → n ≤ m → AreOwned n owners asks → AreOwned m owners asks
  owned-later n m owners [] le o = tt
  owned-later n m owners (a ∷ asks) le o = (record { owner_is = o.0.owner_is; early = omega (arith, le, o.0.early); attached = o.0.attached }, owned-later n m owners asks le o.1)

  -- LAW: and have their triggers attached
  pub owned-left : (t : TrigSet) (w : WaitTable) → Owned j t w → Owned k t w
  owned-left t w owned = record {
    automations_attached = owned.automations_attached ∙ owners-left;
    ascend = owned.ascend;
    early = below-more (first_wait + length j) (first_wait + length k) (attached t) (omega (arith, length-more j x)) owned.early;
    waits_owned = owned-later (length j) (length k) (attached t) w.asks (omega (arith, length-more j x)) owned.waits_owned;
    apart = owned.apart;
  }
