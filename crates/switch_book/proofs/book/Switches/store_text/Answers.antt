use Rattle.std.proofs.Common.{◌≡◌, ◌∙◌, ap}
use Rattle.std.specs.Prelude.{IfOk, Result, Ok, Err}
use Rattle.ha_config.specs.StoreText.{store_of}
use Rattle.ha_config.specs.Words.{Text}
use Rattle.ha_journal.specs.Journal.{Journal}
use Rattle.ha_journal.specs.States.{switches_of}
use Rattle.ha_sight.specs.Sight.{Automations}
use Rattle.store_text.specs.Store.{Moments, by_names}
use Rattle.switch_book.specs.Book.{StandsFor}
use Rattle.switch_book.proofs.SwitchLaws.{pairs-of-journal}
use Rattle.switch_book.proofs.book.Switches.store_text.Goals as goal

written : {E : Type 0} (r : Result Text E) (s given : Automations) (last moments : Moments) → given ≡ s → moments ≡ last → IfOk r (λ w. w ≡ store_of (by_names given) moments)
    → IfOk r (λ w. (j : Journal) → StandsFor s j → w ≡ store_of (switches_of j) last)
written (Ok w) s given last moments e f h = λ j stands. h ∙ (λ i. store_of (by_names (e i)) (f i)) ∙ ap (λ ps. store_of ps last) (pairs-of-journal s j stands)
written (Err fault) s given last moments e f h = tt

pub returns-clause-stands : goal.returns-clause-stands
returns-clause-stands c =
    rw (← c.self.view_is) (written c.write_store.result c.self.inside.switches.items _ c.args.last.now _ c.as_slice.ensures.value c.as_slice-2.ensures c.write_store.ensures.text)
