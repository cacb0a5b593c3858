-- A pending wait whose template reads nothing that an entry changes goes on waiting.
use Rattle.std.proofs.Common.{◌≡◌, ◌∙◌, ℕ, suc, ◌<◌, List, [], ◌∷◌, length, get_or, false, zero, sym, ap, arith}
use Rattle.std.specs.Prelude.{None, Some}
use Rattle.std.specs.Option.{option_map_or}
use Rattle.ha_value.specs.declared.value.EntityId.{EntityId}
use Rattle.ha_config.specs.declared.template.Template.{Template}
use Rattle.ha_journal.specs.Journal.{Journal}
use Rattle.ha_journal.specs.Moves.{sight}
use Rattle.ha_sight.specs.Sight.{Sight}
use Rattle.ha_sight.specs.Templates.{rendered, says}
use Rattle.tpl_reads.specs.Agree.{Agree}
use Rattle.tpl_reads.specs.Reads.{entities_read}
use Rattle.tpl_reads.proofs.TemplateLemmas.{rendered-same}
use Rattle.wait_set.specs.declared.asked.Asked.{Asked}
use Rattle.wait_set.specs.Stands.{StandsFor, StandsOne}

-- LAW: where what its template reads is as at the last entry, that is not true
pub quiet-one : (j : Journal) (s : Sight) (a : Asked) (t : Template) (read : List EntityId) → StandsOne j a → a.place < length j → a.end ≡ None → a.ask.test ≡ Some t
    → entities_read t ≡ Some read → Agree (sight j (length j)) s read → says (rendered s t a.ask.env) ≡ false
quiet-one j s a t read stands begun none test is agree =
    ap says (sym (rendered-same (sight j (length j)) s t read is agree a.ask.env))
    ∙ sym (λ i. option_map_or (λ u. says (rendered (sight j (length j)) u a.ask.env)) (test i) false) ∙ stands.unmet begun none

-- LEMMA: each of the waits stands
pub stands-at : (j : Journal) (asks : List Asked) (n : ℕ) (d : Asked) → n < length asks → StandsFor asks j → StandsOne j (get_or asks n d)
stands-at j [] n d lt stands = absurd (omega (arith, lt))
stands-at j (a ∷ asks) zero d lt stands = stands.0
stands-at j (a ∷ asks) (suc n) d lt stands = stands-at j asks n d (omega (arith, lt)) stands.1
