-- What the text of a file is read as: a configuration, or a refusal.
use Rattle.std.specs.Prelude.{ℕ, ◌≡◌, Option, Result, Ok, Err, IsErrAnd}
use Rattle.yaml_scan.specs.declared.fault.Fault.{Fault}
use Rattle.yaml_scan.specs.declared.fault.YamlFault.{YamlFault}
use Rattle.yaml_scan.specs.declared.fault.YamlFault.TheVariants.{Bad, Memory}
use Rattle.yaml_scan.specs.Codes.{number_of}
use Rattle.ha_config.specs.declared.config.Config.{Config}
use Rattle.conf_auto.specs.Config.{config_of}
use Rattle.ha_status.specs.declared.status.Status.{Status}
use Rattle.ha_status.specs.StatusLine.{Text}
use Rattle.ha_status.specs.Files.{Files, HoldsText}

-- the fault has this line and code
pub record IsFaultAt (line code : ℕ) (fault : Fault) : Type 0 where
  pub line_is : fault.line ≡ line
  pub code_is : number_of fault.code ≡ code

-- the text is refused at this line, with this code
abbrev pub IsRefusedAt : Text → ℕ → ℕ → Type 0
IsRefusedAt text line code = IsErrAnd (config_of text) (IsFaultAt line code)

-- the fault that a text was refused with, unless memory ran out
abbrev pub IsRefusal : Result Config Fault → YamlFault → Type 0
IsRefusal read (Bad line code) = read ≡ Err (record { line = line; code = code })
IsRefusal read Memory = Unit {0}

-- the text is read as this configuration, and is the file's where files are told
pub record IsConfigOf (files : Option Files) (name text : Text) (config : Config) : Type 0 where
  pub holds : HoldsText files name text
  pub reads : config_of text ≡ Ok config

-- a text is refused so, which is the file's where files are told
abbrev pub RefusedCause : Option Files → Text → Status → Type 0
RefusedCause files name (Status.ConfigRefused line code) = (text : Text) × HoldsText files name text × IsRefusedAt text line code
RefusedCause files name _ = Unit {0}
