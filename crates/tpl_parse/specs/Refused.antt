-- What the place of a refusal is in terms of the grammar.
use Rattle.std.specs.Prelude.{ℕ, suc, ◌≤◌, ◌<◌, List, ◌++◌, length, take, Result, Ok, Err}
use Rattle.ha_config.specs.declared.template.Template.{Template}
use Rattle.tpl_parse.specs.declared.fault.ParseFault.{ParseFault}
use Rattle.tpl_parse.specs.declared.fault.ParseFault.TheVariants as faults
use Rattle.tpl_parse.specs.Grammar.{IsTemplate}

-- some text that begins so is a template
abbrev pub GoesOn : List ℕ → Type 0
GoesOn text = (more : List ℕ) × (tree : Template) × IsTemplate (text ++ more) tree

-- no text that begins so is a template
abbrev pub IsLost : List ℕ → Type 0
IsLost text = (more : List ℕ) (tree : Template) → IsTemplate (text ++ more) tree → ⊥

-- No template begins with what stands up to the place and the byte there. Where the text ends at the place, it is none itself.
pub record NoneGoesOn (text : List ℕ) (at : ℕ) : Type 0 where
  pub within : at ≤ length text
  pub lost : at < length text → IsLost (take (suc at) text)
  pub none : (tree : Template) → IsTemplate text tree → ⊥

-- The first fault: some text goes on from what stands up to the place, and none from that and the byte there.
pub record IsFirstFault (text : List ℕ) (at : ℕ) : Type 0 where
  pub goes_on : GoesOn (take at text)
  pub no_more : NoneGoesOn text at

abbrev pub Stops : List ℕ → Result Template ParseFault → Type 0
Stops text (Ok tree) = Unit {0}
Stops text (Err faults.Memory) = Unit {0}
Stops text (Err (faults.At at)) = NoneGoesOn text at
