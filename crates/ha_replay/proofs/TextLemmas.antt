-- The lines of entries without their ends, and how they begin.
use Rattle.std.proofs.Common.{◌≡◌, ◌∙◌, ap, sym, ℕ, List, [], ◌∷◌, ◌++◌, get_or, append_assoc, arith}
use Rattle.std.specs.Prelude.{codes, decimal}
use Rattle.std.proofs.lemmas.List.{append_cancel_right}
use Rattle.ha_config.specs.declared.command.Cmd.{Cmd}
use Rattle.ha_sight.specs.declared.item.Item.{Item}
use Rattle.ha_journal.specs.declared.entry.Entry.TheVariants.{Line, Step}
use Rattle.ha_config.specs.Words.{Text}
use Rattle.ha_config.specs.CommandText.{cmd_text}
use Rattle.ha_sight.specs.ItemText.{item_text}
use Rattle.ha_config.specs.ValueText.{comma_joined, list_text, map_text, pair_text}
use Rattle.ha_config.specs.CheckText.{as_line}
use Rattle.ha_journal.specs.EntryText.{trace_line}
use Rattle.std.specs.Prelude.{map}
use Rattle.flow_printed.specs.Printed.{line_text}
use Rattle.ha_replay.specs.Steps.{IsOf}

-- two lines are the same where they are so with their ends
pub same-line : (line text : Text) → as_line line ≡ as_line text → line ≡ text
same-line line text e = append_cancel_right line text (10 ∷ []) e

abbrev step_text : List Text → ℕ → ℕ → List ℕ → Item → Text
step_text all worker serial branch item =
    map_text ((codes "worker", decimal worker) ∷ (codes "run", decimal serial) ∷ (codes "branch", list_text (map decimal branch)) ∷ (codes "item", item_text all item) ∷ [])

-- what follows the worker's number and the comma
abbrev step_pairs : List Text → ℕ → List ℕ → Item → List (Text × Text)
step_pairs all serial branch item = (codes "run", decimal serial) ∷ (codes "branch", list_text (map decimal branch)) ∷ (codes "item", item_text all item) ∷ []

abbrev step_behind : List Text → ℕ → List ℕ → Item → Text
step_behind all serial branch item = comma_joined (map {A = Text × Text} {B = Text} (λ p. pair_text p.0 p.1) (step_pairs all serial branch item))

step-begins : (all : List Text) (worker serial : ℕ) (branch : List ℕ) (item : Item)
    → step_text all worker serial branch item ≡ codes "{\"worker\":" ++ (decimal worker ++ 44 ∷ (step_behind all serial branch item ++ 125 ∷ []))
step-begins all worker serial branch item = ap (λ l. codes "{\"worker\":" ++ l) (append_assoc (decimal worker) (44 ∷ step_behind all serial branch item) (125 ∷ []))

-- the line of a step names its worker first
pub step-is-of : (all : List Text) (line : Text) (worker serial : ℕ) (branch : List ℕ) (item : Item) → as_line line ≡ trace_line all (Step worker serial branch item) → IsOf line worker
step-is-of all line worker serial branch item e = (step_behind all serial branch item ++ 125 ∷ [], same-line line (step_text all worker serial branch item) e ∙ step-begins all worker serial branch item)

-- the third byte tells a source's line and a step's apart
abbrev third : Text → ℕ
third t = get_or t 2 0

pub no-source-line : (line rest : Text) (source number : ℕ) (shown : Text) → line ≡ codes "{\"worker\":" ++ rest → line ≡ line_text source number shown → ⊥
no-source-line line rest source number shown e e' = (let same : 119 ≡ 115 = ap third (sym e ∙ e') in omega (arith, same))

pub no-step-line : (line : Text) (worker source number : ℕ) (shown : Text) → IsOf line worker → line ≡ line_text source number shown → ⊥
no-step-line line worker source number shown of e = no-source-line line (decimal worker ++ 44 ∷ of.0) source number shown of.1 e

pub line-text : (all : List Text) (line : Text) (source number : ℕ) (cmd : Cmd) → as_line line ≡ trace_line all (Line source number cmd) → line ≡ line_text source number (cmd_text cmd)
line-text all line source number cmd e = same-line line (line_text source number (cmd_text cmd)) e
