-- Commands: which a source may give, and what stands in the journal for one that was read.
use Rattle.std.specs.Prelude.{ℕ, ◌≡◌, Bool, List, [], ◌∷◌, ◌++◌, is_some, nat_eq, nat_lt, count_by, Option, IfSome, if◌then◌else◌}
use Rattle.std.specs.List.{AllZip}
use Rattle.std.specs.Option.{option_map_or}
use Rattle.ha_config.specs.declared.command.Cmd.{Cmd}
use Rattle.ha_config.specs.declared.config.Config.{Config}
use Rattle.ha_journal.specs.declared.entry.Entry.{Entry}
use Rattle.ha_config.specs.Words.{EachAfter, Text}
use Rattle.ha_journal.specs.Entries.{is_reload, line_of}
use Rattle.ha_journal.specs.Journal.{Journal, helpers, in_force}
use Rattle.ha_config.specs.Helpers.{is_helper}
use Rattle.ha_config.specs.Names.{named_among}
use Rattle.ha_config.specs.Fair.{IsNamedAmong, most_reloads, prepared, put_among, IsFairAmong}

-- ---- fair commands

-- an automation in force has this name
abbrev pub has_automation : Journal → Text → Bool
has_automation j name = is_some (named_among (in_force j) name)

-- one more Reload may stand behind these entries
abbrev pub lets_reload : Journal → Bool
lets_reload j = nat_lt (count_by is_reload j) most_reloads

-- the name of an automation, in the form of an object id
abbrev pub IsOfAutomation : Journal → Text → Type 0
IsOfAutomation j name = IsNamedAmong (has_automation j) name

-- a command that a source may give behind these entries
abbrev pub IsFair : Journal → Cmd → Type 0
IsFair j cmd = IsFairAmong (has_automation j) (is_helper (helpers j)) (lets_reload j) cmd

-- ---- what stands for a command that was read

-- what stands behind these entries for a command that was prepared
abbrev pub put_as : Journal → Cmd → Cmd
put_as before cmd = put_among (has_automation before) (is_helper (helpers before)) (lets_reload before) cmd

-- the configuration of each Reload is the one that its text is read as
abbrev pub IsReadEntry : (Text → Option Config) → Entry → Type 0
IsReadEntry read x = IfSome (line_of x) (λ l. prepared read l.cmd ≡ l.cmd)

abbrev pub AreRead : (Text → Option Config) → Journal → Type 0
AreRead read j = EachAfter (λ before x. IsReadEntry read x) [] j

-- a source's line, with the entries before it
pub record Placed : Type 0 where
  pub before : Journal
  pub cmd : Cmd

abbrev pub placed_line : ℕ → Journal → Entry → List Placed
placed_line k before x = option_map_or (λ l. if nat_eq l.source k then record { before = before; cmd = l.cmd } ∷ [] else []) (line_of x) []

abbrev pub placed_from : ℕ → Journal → List Entry → List Placed
placed_from k before [] = []
placed_from k before (x ∷ xs) = placed_line k before x ++ placed_from k (before ++ (x ∷ [])) xs

-- the lines of a source, in order
abbrev pub lines_of : ℕ → Journal → List Placed
lines_of k j = placed_from k [] j

-- the lines of a source are put from these commands: there are as many, and each stands for its command at its place
abbrev pub ArePutFrom : ℕ → Journal → List Cmd → Type 0
ArePutFrom k j commands = AllZip (λ l c. l.cmd ≡ put_as l.before c) (lines_of k j) commands
