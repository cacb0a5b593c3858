-- What `parse` answers is the tree of the grammar: both clauses follow from what reading gives.
use Rattle.std.proofs.Common.{◌≡◌, ℕ, List, [], Result, Ok, Err, sym, ◌∙◌}
use Rattle.std.specs.Prelude.{IfOk}
use Rattle.ha_config.specs.declared.template.Template.{Template}
use Rattle.reading.proofs.Basics.{ok_parts}
use Rattle.tpl_parse.specs.declared.fault.ParseFault.{ParseFault}
use Rattle.tpl_parse.specs.declared.fault.ParseFault.TheVariants as faults
use Rattle.tpl_parse.specs.Grammar.{IsTemplate, Answers}
use Rattle.tpl_parse.specs.Tells.{Tells}
use Rattle.tpl_parse.specs.Pieces.{template}
use Rattle.tpl_parse.proofs.Next.{Fault}
use Rattle.tpl_parse.proofs.FoundPieces.{template_found}
use Rattle.tpl_parse.proofs.OnlyPieces.{template_read}

-- what is answered is in the grammar
pub found_of : (text : List ℕ) (result : Result Template ParseFault) → Tells text (template text) result → IfOk result (λ x. IsTemplate text x)
found_of text (Ok x) told = (template_found text x [] told).0
found_of text (Err fault) told = tt

-- what is in the grammar is answered
pub only_of : (text : List ℕ) (result : Result Template ParseFault) → Tells text (template text) result → (tree : Template) → IsTemplate text tree → Answers result tree
only_of text (Ok x) told tree here = (ok_parts {F = Fault} (x, []) (tree, []) (sym told ∙ template_read text tree here)).0
only_of text (Err faults.Memory) told tree here = tt
only_of text (Err (faults.At at)) told tree here = let e = template_read text tree here in let f = told.1 in absurd cc

-- a text at which reading stops has no tree
pub no_tree : (text : List ℕ) (fault : Fault) → template text ≡ Err fault → (tree : Template) → IsTemplate text tree → ⊥
no_tree text fault e tree here = let f = template_read text tree here in cc

-- one text has one tree
pub one_tree : (text : List ℕ) (a b : Template) → IsTemplate text a → IsTemplate text b → a ≡ b
one_tree text a b here there = (ok_parts {F = Fault} (a, []) (b, []) (sym (template_read text a here) ∙ template_read text b there)).0
