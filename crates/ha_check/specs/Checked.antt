-- What `check` answers for.
use Rattle.std.specs.Prelude.{◌≡◌, ◌⊎◌, Option, Some, None, Result, IsOk, IsErrAnd}
use Rattle.yaml_scan.specs.declared.fault.Fault.{Fault}
use Rattle.ha_config.specs.declared.config.Config.{Config}
use Rattle.ha_config.specs.CheckText.{check_text}
use Rattle.conf_auto.specs.Config.{config_of}
use Rattle.ha_status.specs.declared.status.Status.{Status}
use Rattle.ha_status.specs.StatusLine.{Text}
use Rattle.ha_status.specs.Files.{Files}
use Rattle.ha_status.specs.Written.{IsWritten}
use Rattle.ha_check.specs.Configured.{IsConfigOf, IsFaultAt}

-- ---- the status, by the bytes of the file

-- the answers where the bytes are read so: Ok where they are a configuration, ConfigRefused where they are refused, with their line and
-- code, and the faults of the outside and want of memory, which come first
abbrev pub IsAnswerFor : Result Config Fault → Status → Type 0
IsAnswerFor read Status.Ok = IsOk read
IsAnswerFor read (Status.WriteFault zero) = IsOk read
IsAnswerFor read (Status.ConfigRefused line code) = IsErrAnd read (IsFaultAt line code)
IsAnswerFor read (Status.OpenFault name) = Unit {0}
IsAnswerFor read (Status.ReadFault source) = Unit {0}
IsAnswerFor read Status.Memory = Unit {0}
IsAnswerFor read _ = ⊥

-- the answers for a file: one that is missing is not opened
abbrev pub IsAnswerOf : Option Text → Status → Type 0
IsAnswerOf (Some text) status = IsAnswerFor (config_of text) status
IsAnswerOf None (Status.OpenFault name) = Unit {0}
IsAnswerOf None Status.Memory = Unit {0}
IsAnswerOf None _ = ⊥

-- the answers of `check`, whatever a place tells
abbrev pub IsCheckStatus : Text → Status → Type 0
IsCheckStatus name Status.Ok = Unit {0}
IsCheckStatus name (Status.WriteFault zero) = Unit {0}
IsCheckStatus name (Status.ConfigRefused line code) = Unit {0}
IsCheckStatus name (Status.OpenFault other) = other ≡ name
IsCheckStatus name (Status.ReadFault None) = Unit {0}
IsCheckStatus name Status.Memory = Unit {0}
IsCheckStatus name _ = ⊥

-- ---- what was written

-- the lines of a configuration that the file's text is, as far as the call came: all of them at Ok
pub record IsCheckOf (files : Option Files) (name : Text) (status : Status) (before after : Option Text) : Type 0 where
  pub text : Text
  pub config : Config
  pub read : IsConfigOf files name text config
  pub written : IsWritten status (check_text config) before after

-- The output at each status: the lines of the configuration at Ok, a front of them where the output or memory failed, and else nothing.
abbrev pub IsOutput : Option Files → Text → Status → Option Text → Option Text → Type 0
IsOutput files name Status.Ok before after = IsCheckOf files name Status.Ok before after
IsOutput files name (Status.WriteFault zero) before after = IsCheckOf files name (Status.WriteFault zero) before after
IsOutput files name Status.Memory before after = (after ≡ before) ⊎ IsCheckOf files name Status.Memory before after
IsOutput files name _ before after = after ≡ before

-- ---- parts of the call

-- the answers where a configuration was read
abbrev pub IsShown : Status → Type 0
IsShown Status.Ok = Unit {0}
IsShown (Status.WriteFault zero) = Unit {0}
IsShown Status.Memory = Unit {0}
IsShown _ = ⊥
