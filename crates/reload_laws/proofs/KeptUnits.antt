-- A unit that a Reload keeps: its number, its switch, and what is pending of its triggers.
use Rattle.std.proofs.Common.{◌≡◌, ℕ, ◌<◌, length, true, false, refl, ◌∙◌, Option}
use Rattle.std.specs.Prelude.{Some, None, is_some, nat_le, ◌&&◌, if◌then◌else◌}
use Rattle.ha_value.specs.declared.value.EntityId.{EntityId}
use Rattle.ha_config.specs.declared.config.Config.{Config}
use Rattle.ha_config.specs.declared.config.Trigger.{Trigger}
use Rattle.ha_config.specs.Names.{unit_of}
use Rattle.ha_config.specs.Sound.{may_hold}
use Rattle.ha_journal.specs.declared.entry.Entry.{Entry}
use Rattle.ha_journal.specs.Entries.{is_moment, reload_in}
use Rattle.ha_journal.specs.Force.{force}
use Rattle.ha_journal.specs.Journal.{HasEntry, Journal, more, now, units}
use Rattle.ha_journal.specs.Switches.{is_on, since}
use Rattle.ha_journal.proofs.ForceLaws.{in-force-below, unit-more}
use Rattle.ha_journal.proofs.SinceLaws.{on-kept, since-kept}
use Rattle.ha_past.specs.Looks.{Holding, arrived, standing, unripe}
use Rattle.ha_past.proofs.EntryLaws.{standing-any}
use Rattle.reload_laws.specs.Kept.{is_kept}
use Rattle.reload_laws.proofs.KeptLemmas.{kept-was}
use Rattle.reload_laws.proofs.ReloadLine.{IsOnly, reload-only}

-- what is not over at an entry that is no moment
left : (x : Entry) (at : ℕ) → is_moment x ≡ false → (o : Option Holding) → unripe x at o ≡ o
left x at other None = refl
left x at other (Some h) = (λ i. if other i && nat_le h.due at then None else Some h)

module _ (j : Journal) (x : Entry) (c : Config) (some : HasEntry j) (reloads : reload_in x ≡ Some c) (a : ℕ) (kept : is_kept (force j) c a ≡ true) where
  below : a < length (units j)
  below = in-force-below j a (kept-was (force j) c a kept)

  only : IsOnly x
  only = reload-only x c reloads

  pub kept-unit : unit_of (units (more j x)) a ≡ unit_of (units j) a
  kept-unit = unit-more j x a below

  pub kept-on : is_on (more j x) a ≡ is_on j a
  kept-on = on-kept j x c a some reloads below

  pub kept-since : since (more j x) a ≡ since j a
  kept-since = since-kept j x c a some reloads only.opens below

  -- LAW: what is pending is what was, where it stays watched, else what the Reload moves
  pub kept-holds : (t : Trigger) (e : Option EntityId) → (is_some t.hold ≡ true → may_hold t.rule ≡ true) → standing (more j x) t e (since (more j x) a) ≡ arrived j x t e (since j a)
  kept-holds t e may =
      (λ i. standing (more j x) t e (kept-since i))
      ∙ standing-any j x t e (since j a) may
      ∙ left x (now (more j x)) only.moment (arrived j x t e (since j a))
