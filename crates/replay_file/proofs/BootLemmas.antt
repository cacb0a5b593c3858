-- The first line of a trace.
use Rattle.std.proofs.Common.{◌≡◌, ◌∙◌, ◌<◌, ◌+◌, ap, refl, sym, subst, ℕ, inl, inr, [], ◌∷◌, length, take, get_or, true, false, List}
use Rattle.std.proofs.lemmas.List.Folds.{list_all_more}
use Rattle.std.specs.List.{list_all}
use Rattle.std.specs.Prelude.{◌&&◌, Option, Result, Ok, Err, IsSome, is_some}
use Rattle.ha_clock.specs.Zone.{zone_of}
use Rattle.ha_journal.specs.Entries.{first_carry}
use Rattle.ha_journal.specs.EntryText.{trace_line}
use Rattle.yaml_scan.specs.declared.fault.Fault.{Fault}
use Rattle.std.specs.Str.{is_utf8}
use Rattle.ha_config.specs.declared.config.Config.{Config}
use Rattle.ha_journal.specs.declared.entry.Entry.{Entry}
use Rattle.ha_journal.specs.declared.entry.Entry.TheVariants.{Boot, Line, Step, Again}
use Rattle.ha_config.specs.Names.{automation_named, of_automations}
use Rattle.ha_config.specs.Sound.{AreSoundMoments, are_in_name_order}
use Rattle.ha_config.specs.Words.{Text}
use Rattle.ha_config.specs.Names.{names_of}
use Rattle.ha_config.specs.Units.{units_of}
use Rattle.ha_config.proofs.ListLemmas.{true-false}
use Rattle.ha_config.proofs.OrderLemmas.{moments-all-named}
use Rattle.ha_journal.specs.Journal.{Journal}
use Rattle.ha_whole.specs.Whole.{Right}
use Rattle.ha_model.specs.Records.{Records}
use Rattle.conf_auto.specs.Config.{config_of}
use Rattle.ha_replay.specs.declared.boot.BootLine.{BootLine}
use Rattle.ha_replay.specs.declared.boot.Parts.{Parts}
use Rattle.ha_replay.specs.declared.fault.TraceFault.{TraceFault}
use Rattle.ha_replay.specs.Boots.{HasUtf8, IsBootLine, Moments, Reads, Switches, are_in_time, have_utf8_names}
use Rattle.replay_file.specs.Boot.{IsBooted, IsUnbooted}
use Rattle.trace_laws.specs.Runs.{GoesOn, IsConfigured, MayFollow, boot_line}
use Rattle.trace_laws.proofs.FirstLemmas.{first_line, ok_same, one_parts}

-- what may stand first is the line of a first entry whose configuration is read
pub first_follows : (line : Text) → MayFollow [] [] line → (b : BootLine) × (config : Config) × IsConfigured b config × IsBootLine line b
first_follows line (inl end) = absurd end.0
first_follows line (inr next) = by next.0 next.2
  where
    by : (x : Entry) → GoesOn [] line x next.1 → (b : BootLine) × (config : Config) × IsConfigured b config × IsBootLine line b
    by (Boot text config stored start zone carry) g =
        let first : IsConfigured (boot_line text stored start zone carry.last) config = g.run.0.0 in
        (boot_line text stored start zone carry.last, config, first, first_line line (boot_line text stored start zone carry.last) config first (λ other. g.line_is))
    by (Line source number cmd) g = absurd g.run.0
    by (Step worker serial branch item) g = absurd g.run.0
    by (Again number start stored carry) g = absurd g.run.0

-- a line that is not read is none
pub unread_first : (line : Text) (fault : TraceFault) → Reads line (Err fault) → IsUnbooted line fault
unread_first line TraceFault.Refused none = λ follows. let f = first_follows line follows in none f.0 f.3 f.2.utf8
unread_first line TraceFault.Full none = none
unread_first line TraceFault.Memory none = tt

-- nor is one whose configuration is refused
pub unconfigured : (line : Text) (b : BootLine) → IsBootLine line b → HasUtf8 b → ((config : Config) → config_of b.text ≡ Ok config → ⊥) → MayFollow [] [] line → ⊥
unconfigured line b is u none follows =
    let f = first_follows line follows in
    let same = ap (λ (p : Parts). p.text) (one_parts line b f.0 is u f.3 f.2.utf8) in
    none f.1 (ap config_of same ∙ f.2.config_is)

-- nor is one with a moment of no automation
pub unknown : (line : Text) (b : BootLine) (config : Config) → IsBootLine line b → HasUtf8 b → config_of b.text ≡ Ok config → list_all (λ p. is_some (automation_named config.automations p.0)) b.last ≡ false
    → MayFollow [] [] line → ⊥
unknown line b config is u read bad follows =
    let f = first_follows line follows in
    let same = one_parts line b f.0 is u f.3 f.2.utf8 in
    let configs : f.1 ≡ config = ok_same f.1 config (sym f.2.config_is ∙ (λ i. config_of (sym same i).text) ∙ read) in
    true-false (sym f.2.known ∙ (λ i. list_all (λ p. is_some (automation_named (configs i).automations p.0)) (sym same i).last) ∙ bad)

pub are_utf8 : (text : Text) (stored : Option Switches) (start : ℕ) (zone : Text) (last : Moments) → is_utf8 text ≡ true → have_utf8_names stored ≡ true → is_utf8 zone ≡ true → list_all (λ p. is_utf8 p.0) last ≡ true
    → HasUtf8 (boot_line text stored start zone last)
are_utf8 text stored start zone last t n z l = record { text = t; names = n; zone = z; last_names = l }

-- the zone is held by another name
pub with_zone : (line : Text) (b : BootLine) (zone : Text) → zone ≡ b.zone → IsBootLine line b → IsBootLine line (boot_line b.text b.stored b.start zone b.last)
with_zone line b zone e is = record {
  line_is = λ config. is.line_is config ∙ (λ i. trace_line (names_of (units_of config)) (Boot b.text config b.stored b.start (sym e i) (first_carry b.last)));
  start = is.start;
  zone = subst (λ z. IsSome (zone_of z)) (sym e) is.zone;
  ordered = is.ordered;
  last_ordered = is.last_ordered;
  last_in_time = is.last_in_time;
}

-- a text that is refused is no configuration
pub refused_config : (text bytes : Text) (config : Config) (fault : Fault) → bytes ≡ text → config_of bytes ≡ Err fault → config_of text ≡ Ok config → ⊥
refused_config text bytes config fault same refused read = (let bad : ◌≡◌ {A = Result Config Fault} (Err fault) (Ok config) = sym refused ∙ ap config_of same ∙ read in cc)

-- one more name is a text
pub texts_more : {X : Type 0} (pairs : List (Text × X)) (i : ℕ) (p : Text × X) → i < length pairs → p ≡ get_or pairs i p → list_all (λ q. is_utf8 q.0) (take i pairs) ≡ true → is_utf8 p.0 ≡ true
    → list_all (λ q. is_utf8 q.0) (take (i + 1) pairs) ≡ true
texts_more {X} pairs i p lt is h u = list_all_more (λ (q : Text × X). is_utf8 q.0) pairs i p lt ∙ (λ k. h k && ((λ m. is_utf8 (sym is m).0) ∙ u) k)

-- what the moments' part of a boot has to be
pub sound_moments : (last : Moments) → are_in_name_order last ≡ true → list_all (λ p. is_utf8 p.0) last ≡ true → are_in_time last ≡ true → AreSoundMoments last
sound_moments last ordered utf8 in_time = record { ordered = ordered; utf8 = utf8; in_time = in_time }

-- the core that was booted
pub booted : (line text : Text) (config : Config) (stored : Option Switches) (start : ℕ) (zone : Text) (last : Moments) (j : Journal) (rs : Records) → IsConfigured (boot_line text stored start zone last) config
    → IsBootLine line (boot_line text stored start zone last) → j ≡ Boot text config stored start zone (first_carry (of_automations config.automations last)) ∷ [] → Right j rs → IsBooted line j rs
booted line text config stored start zone last j rs made is e right = record {
  first = Boot text config stored start zone (first_carry last);
  journal = e ∙ (λ i. Boot text config stored start zone (first_carry (moments-all-named config.automations last made.known i)) ∷ []);
  is_first = (made, refl);
  line_is = is.line_is config;
  right = right;
}
