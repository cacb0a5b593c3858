-- What a sink took and what a keeper holds, where it is told, and how often the outside has failed.
use Rattle.std.specs.Prelude.{ℕ, Option, option_map}
use Rattle.ha_config.specs.Words.{Text}

pub record SinkState : Type 0 where
  pub took : Option Text
  pub faults : ℕ
  pub zeros : ℕ
  pub name : Option Text

pub record KeeperState : Type 0 where
  pub kept : Option (Option Text)
  pub faults : ℕ

abbrev pub sink_state : Option Text → ℕ → ℕ → Option Text → SinkState
sink_state took faults zeros name = record { took = took; faults = faults; zeros = zeros; name = name }

abbrev pub keeper_state : Option (Option Text) → ℕ → KeeperState
keeper_state kept faults = record { kept = kept; faults = faults }

-- what lies outside of a bus: the sinks of the calls and of the errors, that of the trace, where there is one, and the keeper
pub record Outside : Type 0 where
  pub calls : SinkState
  pub errors : SinkState
  pub trace : Option SinkState
  pub keep : KeeperState

-- what is seen of a sink and of a keeper, by the members of their traits
abbrev pub sink_of : {S : Type 0} → (S → Option Text) → (S → ℕ) → (S → ℕ) → (S → Option Text) → S → SinkState
sink_of took faults zeros name s = sink_state (took s) (faults s) (zeros s) (name s)

abbrev pub keeper_of : {S : Type 0} → (S → Option (Option Text)) → (S → ℕ) → S → KeeperState
keeper_of kept faults s = keeper_state (kept s) (faults s)

abbrev pub outside : SinkState → SinkState → Option SinkState → KeeperState → Outside
outside calls errors trace keep = record { calls = calls; errors = errors; trace = trace; keep = keep }

abbrev pub outside_of : {S T : Type 0} → (S → SinkState) → (T → KeeperState) → S → S → Option S → T → Outside
outside_of sink keeper calls errors trace keep = outside (sink calls) (sink errors) (option_map sink trace) (keeper keep)
