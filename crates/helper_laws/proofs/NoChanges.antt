-- Where no helper is configured no entry of a right journal changes one.
use Rattle.std.proofs.Common.{◌≡◌, List, [], ◌∷◌, ◌++◌, length, take, refl, sym, ◌∙◌}
use Rattle.ha_config.specs.Words.{EachAfter}
use Rattle.ha_config.proofs.ListLemmas.{none-some}
use Rattle.ha_sight.specs.declared.helped.HelperChange.{HelperChange}
use Rattle.ha_sight.specs.Sight.{Sight}
use Rattle.ha_journal.specs.declared.entry.Entry.{Entry}
use Rattle.ha_journal.specs.Entries.{changes_in}
use Rattle.ha_journal.specs.Journal.{Journal, helpers}
use Rattle.ha_journal.specs.Moves.{sight}
use Rattle.ha_model.specs.Lawful.{Right}
use Rattle.ha_model.specs.Records.{Records}
use Rattle.script_laws.specs.Made.{AreMade, known_as}
use Rattle.helper_laws.proofs.MadeChanges.{ChangesMade, changes-made}
use Rattle.helper_laws.proofs.NoHelpers.{known-without}

-- what is made where no helper is seen is nothing
made-none : (s : Sight) → s.helpers ≡ [] → (cs : List HelperChange) → AreMade s cs → cs ≡ []
made-none s none [] made = refl
made-none s none (c ∷ cs) made = absurd (none-some made.0.seen ((λ i. known_as (sym none i) c.entity) ∙ made.0.is_seen))

abbrev StaysStill : Journal → Entry → Type 0
StaysStill before x = changes_in x ≡ []

-- so it is of the entries behind a journal, whose helpers are those of its first entry
none-behind : (e : Entry) (es xs : Journal) → helpers (e ∷ es) ≡ [] → EachAfter ChangesMade (e ∷ es) xs → EachAfter StaysStill (e ∷ es) xs
none-behind e es [] none made = tt
none-behind e es (x ∷ xs) none made = (
  made-none (sight (e ∷ es) (length (e ∷ es))) (known-without (take (length (e ∷ es)) (e ∷ es)) none) (changes_in x) made.0,
  none-behind e (es ++ (x ∷ [])) xs none made.1,
)

-- LAW: and of all entries of a right journal
pub changes-without : (j : Journal) (rs : Records) → Right j rs → helpers j ≡ [] → EachAfter (λ before x. changes_in x ≡ []) [] j
changes-without j rs right none = by j none (changes-made j rs right)
  where
    by : (k : Journal) → helpers k ≡ [] → EachAfter ChangesMade [] k → EachAfter StaysStill [] k
    by [] none made = tt
    by (e ∷ xs) none made = (made-none (sight [] 0) refl (changes_in e) made.0, none-behind e [] xs none made.1)
