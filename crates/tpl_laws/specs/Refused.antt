-- A refusal, and what its place is in terms of the grammar.
use Rattle.std.specs.Prelude.{◌≡◌, ℕ, ◌+◌, List, length, Result, Ok, Err}
use Rattle.ha_config.specs.declared.template.Template.{Template}
use Rattle.reading.specs.declared.fault.Bad.{Bad}
use Rattle.tpl_parse.specs.declared.fault.ParseFault.{ParseFault}
use Rattle.tpl_parse.specs.declared.fault.ParseFault.TheVariants as faults
use Rattle.tpl_parse.specs.Pieces.{template}
use Rattle.tpl_parse.specs.Refused.{IsFirstFault}

-- the definition refuses the text at this place
abbrev pub IsRefusedAt : List ℕ → ℕ → Type 0
IsRefusedAt text at = (fault : Bad (Unit {0})) × (template text ≡ Err fault) × (at + fault.left ≡ length text)

-- A refused text is refused at its first fault. Want of memory says nothing of the text.
abbrev pub Refuses : List ℕ → Result Template ParseFault → Type 0
Refuses text (Ok tree) = Unit {0}
Refuses text (Err faults.Memory) = Unit {0}
Refuses text (Err (faults.At at)) = IsFirstFault text at
