-- The actions of all units that were in force are sound.
use Rattle.std.proofs.Common.{◌≡◌, ℕ, zero, suc, List, [], ◌∷◌, true, refl, sym, ◌∙◌, Option}
use Rattle.std.specs.Prelude.{Some, None, IfSome, option_and_then, slice_get}
use Rattle.std.specs.Option.{option_map_or}
use Rattle.ha_config.specs.declared.config.Automation.{Automation}
use Rattle.ha_config.specs.declared.config.Config.{Config}
use Rattle.ha_config.specs.Names.{unit_of}
use Rattle.ha_config.specs.Sound.{IsSoundConfig, are_sound_actions}
use Rattle.ha_config.specs.Units.{units_of}
use Rattle.ha_config.proofs.ListLemmas.{none-some}
use Rattle.ha_journal.specs.declared.entry.Entry.{Entry}
use Rattle.ha_journal.specs.Force.{Force}
use Rattle.ha_model.specs.Records.{actions_of}
use Rattle.unit_book.specs.declared.book.UnitBook.{UnitBook}
use Rattle.unit_book.specs.Book.{AreAt, Holds, Origin, config_at}
use Rattle.ha_engine.proofs.PrepareLemmas.{acts_soundly, unit-sound}

acts-at : (es : List Entry) (os : List Origin) (us : List Automation) (a : ℕ) → AreAt es os us → acts_soundly (slice_get us a) ≡ true
acts-at es [] [] a h = refl
acts-at es (o ∷ os) (u ∷ us) zero h = by (config_at es o.0) h.0 h.1
  where
    by : (m : Option Config) → option_and_then (λ c. unit_of (units_of c) o.1) m ≡ Some u → IfSome m IsSoundConfig → are_sound_actions u.actions ≡ true
    by None e sound = absurd (none-some u e)
    by (Some c) e sound = (λ i. acts_soundly (sym e i)) ∙ unit-sound c o.1 sound
acts-at es (o ∷ os) (u ∷ us) (suc a) h = acts-at es os us a h.2
acts-at es [] (u ∷ us) a h = absurd h
acts-at es (o ∷ os) [] a h = absurd h

-- LAW: where a book holds them
pub holds-acts : (es : List Entry) (f : Force) (b : UnitBook) → Holds es f b → (a : ℕ) → are_sound_actions (actions_of f.units a) ≡ true
holds-acts es f b h a = by (slice_get f.units a) (acts-at es b.origins.items f.units a h.units_are)
  where
    by : (o : Option Automation) → acts_soundly o ≡ true → are_sound_actions (option_map_or {T = Automation} (λ x. x.actions) o []) ≡ true
    by None e = refl
    by (Some x) e = e
