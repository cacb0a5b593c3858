-- What a run asks of its place.
use Rattle.std.proofs.Common.{◌≡◌, List, [], ◌∷◌, Option, sym, subst}
use Rattle.ha_io.specs.Told.{Call, IsAskedSome, and_asked}
use Rattle.ha_journal.specs.declared.entry.Entry.{Entry}
use Rattle.ha_top.specs.Answered.{IsAskedFor}
use Rattle.ha_io.proofs.AskedLemmas.{asked_whole}

-- nothing was booted
pub asked_early : (calls : List Call) (journal : List Entry) (before after : Option (List Call)) → journal ≡ [] → IsAskedSome before calls after
    → IsAskedFor calls journal before after
asked_early calls journal before after none h = subst (λ j. IsAskedFor calls j before after) (sym none) h

-- all were asked for
pub asked_all : (calls : List Call) (journal : List Entry) (before after : Option (List Call)) → after ≡ and_asked before calls → IsAskedFor calls journal before after
asked_all calls [] before after h = asked_whole before after calls h
asked_all calls (entry ∷ later) before after h = h
