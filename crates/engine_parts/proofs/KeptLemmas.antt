-- What is kept, in the words of the definitions.
use Rattle.std.proofs.Common.{◌≡◌, ℕ, suc, List, [], ◌∷◌, length, false, eqb, sym, ap, ◌∙◌, rules}
use Rattle.ha_sight.specs.Scripts.{Branch}
use Rattle.ha_journal.specs.Journal.{Journal}
use Rattle.ha_model.specs.Records.{Records}
use Rattle.ha_model.specs.Lawful.{Right, ready, is_empty}
use Rattle.engine_parts.specs.declared.parts.Parts.{Parts}
use Rattle.engine_parts.specs.Kept.{Kept}
use Rattle.ha_ready.proofs.ReadyLemmas.{ready-pairs}

-- LAW: the pairs that are kept are the ready ones
pub kept-ready : (j : Journal) (rs : Records) (p : Parts) → Right j rs → Kept j rs p → p.ready.pairs.items ≡ ready rs j
kept-ready j rs p right kept = kept.going.runs_kept.pairs_are ∙ sym (ready-pairs j rs right)

-- LAW: a list is empty where its length is 0
pub counted : (xs : List (ℕ × Branch)) (n : ℕ) → n ≡ length xs → eqb n 0 ≡ is_empty xs
counted [] n e = ap (λ m. eqb m 0) e
counted (x ∷ xs) n e = ap (λ m. eqb m 0) e ∙ (let off : eqb (suc (length xs)) 0 ≡ false = search rules in off)
