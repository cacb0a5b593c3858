-- Which commands a source may give, where some names are those of automations and some entities are helpers, and what stands for each.
use Rattle.std.specs.Prelude.{ℕ, ◌≢◌, ◌≤◌, IsTrue, Bool, true, false, not, ◌&&◌, ◌||◌, nat_eq, nat_le, codes, if◌then◌else◌, Option, Some, None, is_some}
use Rattle.std.specs.Str.{is_utf8}
use Rattle.ha_value.specs.declared.value.EntityId.{EntityId}
use Rattle.ha_value.specs.Ids.{is_entity, is_name}
use Rattle.ha_clock.specs.Local.{last_moment}
use Rattle.ha_config.specs.declared.command.Cmd.{Cmd}
use Rattle.ha_config.specs.declared.config.Config.{Config}
use Rattle.ha_config.specs.Words.{Text, Pairs, characters}
use Rattle.ha_config.specs.ValueFacts.{AreFairPairs}

-- ---- fair commands

-- an entity that a line may report, but for whether it is a helper: in the form of an id, and no automation
abbrev pub IsReportable : EntityId → Type 0
IsReportable e = IsTrue (is_entity e) × (e.domain ≢ codes "automation")

-- the name of an automation among these, in the form of an object id
abbrev pub IsNamedAmong : (Text → Bool) → Text → Type 0
IsNamedAmong has name = IsTrue (is_name name) × IsTrue (has name)

-- what a report gives: the text has at most 255 characters
abbrev pub IsFairReport : EntityId → Text → Pairs → Type 0
IsFairReport e text attributes = IsReportable e × IsTrue (is_utf8 text) × (characters text ≤ 255) × AreFairPairs attributes

-- the codes of refused lines: 1 to 10, and 12 to 14
abbrev pub is_refusal : ℕ → Bool
is_refusal code = (nat_le 1 code && nat_le code 10) || (nat_le 12 code && nat_le code 14)

-- a command that a source may give, where one more Reload may stand or not: no line reports a helper
abbrev pub IsFairAmong : (Text → Bool) → (EntityId → Bool) → Bool → Cmd → Type 0
IsFairAmong has helps more (Cmd.Report entity text attributes) = IsFairReport entity text attributes × IsTrue (not (helps entity))
IsFairAmong has helps more (Cmd.Gone entity) = IsReportable entity × IsTrue (not (helps entity))
IsFairAmong has helps more (Cmd.Event kind pairs) = IsTrue (is_utf8 kind) × AreFairPairs pairs
IsFairAmong has helps more (Cmd.Moment at) = at ≤ last_moment
IsFairAmong has helps more (Cmd.Switch name on stop) = IsNamedAmong has name
IsFairAmong has helps more (Cmd.Trigger name skip) = IsNamedAmong has name
IsFairAmong has helps more Cmd.Restart = Unit {0}
IsFairAmong has helps more (Cmd.Reload text config) = IsTrue (is_utf8 text) × IsTrue (is_some config) × IsTrue more
IsFairAmong has helps more (Cmd.Refused code) = IsTrue (is_refusal code)
IsFairAmong has helps more Cmd.Lost = Unit {0}
IsFairAmong has helps more Cmd.TooLong = Unit {0}

-- ---- what stands for a command that was read

-- a line that names no automation
abbrev pub no_automation : ℕ
no_automation = 9

-- a line that reports a helper
abbrev pub of_helper : ℕ
of_helper = 14

-- a reload whose text is no configuration, and one too many
abbrev pub no_configuration : ℕ
no_configuration = 12

abbrev pub too_many_reloads : ℕ
too_many_reloads = 13

-- how many Reloads a journal may have
abbrev pub most_reloads : ℕ
most_reloads = 64

-- a command with what its text is read as: a line is read without, and a Reload then has the configuration of its text, if it is one
abbrev pub prepared : (Text → Option Config) → Cmd → Cmd
prepared read (Cmd.Report entity text attributes) = Cmd.Report entity text attributes
prepared read (Cmd.Gone entity) = Cmd.Gone entity
prepared read (Cmd.Event kind pairs) = Cmd.Event kind pairs
prepared read (Cmd.Moment at) = Cmd.Moment at
prepared read (Cmd.Switch name on stop) = Cmd.Switch name on stop
prepared read (Cmd.Trigger name skip) = Cmd.Trigger name skip
prepared read Cmd.Restart = Cmd.Restart
prepared read (Cmd.Reload text config) = Cmd.Reload text (read text)
prepared read (Cmd.Refused code) = Cmd.Refused code
prepared read Cmd.Lost = Cmd.Lost
prepared read Cmd.TooLong = Cmd.TooLong

-- a command as its line is read: of a Reload, without the configuration
abbrev pub as_read : Cmd → Cmd
as_read = prepared (λ text. None)

-- what a Reload with this configuration is put as
abbrev pub put_reload : Bool → Text → Option Config → Cmd
put_reload more text None = Cmd.Refused no_configuration
put_reload more text (Some c) = if more then Cmd.Reload text (Some c) else Cmd.Refused too_many_reloads

-- what stands for a prepared command: a refusal where it reports a helper, where it names no automation, where the text of a Reload is no
-- configuration, and where it is one Reload too many; else the command
abbrev pub put_among : (Text → Bool) → (EntityId → Bool) → Bool → Cmd → Cmd
put_among has helps more (Cmd.Report entity text attributes) = if helps entity then Cmd.Refused of_helper else Cmd.Report entity text attributes
put_among has helps more (Cmd.Gone entity) = if helps entity then Cmd.Refused of_helper else Cmd.Gone entity
put_among has helps more (Cmd.Event kind pairs) = Cmd.Event kind pairs
put_among has helps more (Cmd.Moment at) = Cmd.Moment at
put_among has helps more (Cmd.Switch name on stop) = if has name then Cmd.Switch name on stop else Cmd.Refused no_automation
put_among has helps more (Cmd.Trigger name skip) = if has name then Cmd.Trigger name skip else Cmd.Refused no_automation
put_among has helps more Cmd.Restart = Cmd.Restart
put_among has helps more (Cmd.Reload text config) = put_reload more text config
put_among has helps more (Cmd.Refused code) = Cmd.Refused code
put_among has helps more Cmd.Lost = Cmd.Lost
put_among has helps more Cmd.TooLong = Cmd.TooLong

-- ---- the classes of commands that other definitions and laws speak of

-- after this line its source has no other
abbrev pub shuts_source : Cmd → Bool
shuts_source Cmd.Lost = true
shuts_source (Cmd.Reload text config) = false
shuts_source Cmd.TooLong = true
shuts_source (Cmd.Report entity text attributes) = false
shuts_source (Cmd.Gone entity) = false
shuts_source (Cmd.Event kind pairs) = false
shuts_source (Cmd.Moment at) = false
shuts_source (Cmd.Switch name on stop) = false
shuts_source (Cmd.Trigger name skip) = false
shuts_source Cmd.Restart = false
shuts_source (Cmd.Refused code) = false

-- a line that changes no switch, and is no Restart and no Reload
abbrev pub IsPlain : Cmd → Type 0
IsPlain (Cmd.Switch name on stop) = ⊥
IsPlain Cmd.Restart = ⊥
IsPlain (Cmd.Reload text config) = ⊥
IsPlain (Cmd.Report entity text attributes) = Unit {0}
IsPlain (Cmd.Gone entity) = Unit {0}
IsPlain (Cmd.Event kind pairs) = Unit {0}
IsPlain (Cmd.Moment at) = Unit {0}
IsPlain (Cmd.Trigger name skip) = Unit {0}
IsPlain (Cmd.Refused code) = Unit {0}
IsPlain Cmd.Lost = Unit {0}
IsPlain Cmd.TooLong = Unit {0}
