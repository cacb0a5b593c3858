-- What is handed back where the configuration was not read. (A stage of the code, no part of what it promises.)
use Rattle.std.specs.Prelude.{◌≡◌, ◌⊎◌, List, [], Option, option_to_list}
use Rattle.ha_status.specs.declared.status.Status.{Status}

-- its source where reading it failed, and none at any other status; or memory ran out
abbrev pub SourcesAt : {S : Type 0} → Status → Option S → List S → Type 0
SourcesAt (Status.ReadFault source) given sources = sources ≡ option_to_list given
SourcesAt status given sources = sources ≡ []

abbrev pub GivesBack : {S : Type 0} → Status → Option S → Status → List S → Type 0
GivesBack status given told sources = ((told ≡ status) × SourcesAt status given sources) ⊎ ((told ≡ Status.Memory) × (sources ≡ []))
