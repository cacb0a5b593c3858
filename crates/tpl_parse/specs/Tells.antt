-- What `parse` answers.
use Rattle.std.specs.Prelude.{◌≡◌, ℕ, ◌+◌, List, [], length, Result, Ok, Err}
use Rattle.ha_config.specs.declared.template.Template.{Template}
use Rattle.reading.specs.declared.fault.Bad.{Bad}
use Rattle.reading.specs.Answer.{Answer}
use Rattle.tpl_parse.specs.declared.fault.ParseFault.{ParseFault}
use Rattle.tpl_parse.specs.declared.fault.ParseFault.TheVariants as faults

-- the tree of the whole text, or the place of its fault, unless memory ran out
abbrev pub Tells : List ℕ → Answer ℕ (Bad (Unit {0})) Template → Result Template ParseFault → Type 0
Tells text answer (Ok t) = answer ≡ Ok (t, [])
Tells text answer (Err faults.Memory) = Unit {0}
Tells text answer (Err (faults.At at)) = (f : Bad (Unit {0})) × (answer ≡ Err f) × (at + f.left ≡ length text)
