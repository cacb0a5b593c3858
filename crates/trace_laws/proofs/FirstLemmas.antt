-- A line is that of one first entry at most.
use Rattle.std.proofs.Common.{◌≡◌, ◌∙◌, ap, sym, List}
use Rattle.std.specs.Prelude.{Ok, Result}
use Rattle.yaml_scan.specs.declared.fault.Fault.{Fault}
use Rattle.ha_config.specs.declared.config.Config.{Config}
use Rattle.ha_journal.specs.declared.entry.Entry.{Entry}
use Rattle.ha_journal.specs.declared.entry.Entry.TheVariants.{Boot, Line, Step, Again}
use Rattle.ha_config.specs.Words.{Text}
use Rattle.ha_config.specs.CheckText.{as_line}
use Rattle.ha_journal.specs.Entries.{first_carry}
use Rattle.ha_journal.specs.EntryText.{trace_line}
use Rattle.ha_config.proofs.ListLemmas.{some-same}
use Rattle.ha_config.specs.Names.{names_of}
use Rattle.ha_config.specs.Units.{units_of}
use Rattle.flow_line.proofs.Whole.{document_read, same_value}
use Rattle.conf_auto.specs.Config.{config_of}
use Rattle.ha_replay.specs.declared.boot.BootLine.{BootLine}
use Rattle.ha_replay.specs.declared.boot.Parts.{Parts}
use Rattle.ha_replay.specs.Boots.{HasUtf8, IsBootLine, parts, parts_in}
use Rattle.ha_replay.proofs.BootLemmas.{boot-parts, boot-spelled, value_of}
use Rattle.trace_laws.specs.Runs.{IsConfigured, IsFirst, boot_line}
use Rattle.trace_laws.proofs.FeedLemmas.{entry_feed}

-- the parts of a first line
abbrev pub parts_of : BootLine → Parts
parts_of b = parts b.text b.stored b.start b.zone b.last

-- LAW: a line is that of one first entry at most
pub one_parts : (line : Text) (b b' : BootLine) → IsBootLine line b → HasUtf8 b → IsBootLine line b' → HasUtf8 b' → ◌≡◌ {A = Parts} (parts_of b) (parts_of b')
one_parts line b b' is u is' u' =
    let same : value_of b ≡ value_of b' = same_value line (value_of b) (value_of b') (document_read line (value_of b) (boot-spelled line b is u)) (boot-spelled line b' is' u') in
    some-same _ _ (sym (boot-parts b is.start is.last_in_time) ∙ ap parts_in same ∙ boot-parts b' is'.start is'.last_in_time)

-- a configured first entry's line is that of its parts
pub first_line : (line : Text) (b : BootLine) (config : Config) → IsConfigured b config → ((other : Config) → as_line line ≡ trace_line (names_of (units_of other)) (Boot b.text other b.stored b.start b.zone (first_carry b.last))) → IsBootLine line b
first_line line b config f is = record { line_is = is; start = f.start; zone = f.zone; ordered = f.ordered; last_ordered = f.last_ordered; last_in_time = f.last_in_time }

pub ok_same : (config config' : Config) → ◌≡◌ {A = Result Config Fault} (Ok config) (Ok config') → config ≡ config'
ok_same config config' e = cc

-- LAW: two first entries with one line are the same
pub one_first : (all all' : List Text) (x y : Entry) → IsFirst x → IsFirst y → trace_line all x ≡ trace_line all' y → x ≡ y
one_first all all' (Line source number cmd) y f g e = absurd f
one_first all all' (Step worker serial branch item) y f g e = absurd f
one_first all all' (Again number start stored carry) y f g e = absurd f
one_first all all' (Boot text config stored start zone carry) (Line source number cmd) f g e = absurd g
one_first all all' (Boot text config stored start zone carry) (Step worker serial branch item) f g e = absurd g
one_first all all' (Boot text config stored start zone carry) (Again number start' stored' carry') f g e = absurd g
one_first all all' (Boot text config stored start zone carry) (Boot text' config' stored' start' zone' carry') f g e =
    let feed = entry_feed all (Boot text config stored start zone carry) in
    let same = one_parts feed.line (boot_line text stored start zone carry.last) (boot_line text' stored' start' zone' carry'.last)
    (first_line feed.line (boot_line text stored start zone carry.last) config f.0 (λ other. feed.shown_is)) f.0.utf8
    (first_line feed.line (boot_line text' stored' start' zone' carry'.last) config' g.0 (λ other. feed.shown_is ∙ e)) g.0.utf8 in
    let configs = ok_same config config' (sym f.0.config_is ∙ (λ i. config_of (same i).text) ∙ g.0.config_is) in
    let carries : carry ≡ carry' = f.1 ∙ (λ i. first_carry (same i).last) ∙ sym g.1 in
    (λ i. Boot (same i).text (configs i) (same i).stored (same i).start (same i).zone (carries i))
