-- Parts of a journal with one more entry.
use Rattle.std.proofs.Common.{◌≡◌, ℕ, suc, ◌<◌, [], ◌∷◌, length, refl, arith, length-append}
use Rattle.ha_journal.specs.declared.entry.Entry.{Entry}
use Rattle.ha_journal.specs.declared.entry.Entry.TheVariants.{Boot, Line, Step, Again}
use Rattle.ha_journal.specs.Journal.{Journal, IsJournal, helpers, more, HasEntry, through}
use Rattle.std.proofs.lemmas.List.{take-append-le, take_all}

pub has-entry : (j : Journal) → IsJournal j → HasEntry j
has-entry [] h = absurd h
has-entry (e ∷ es) h = tt

pub helpers-more : (j : Journal) (x : Entry) → HasEntry j → helpers j ≡ helpers (more j x)
helpers-more [] x h = absurd h
helpers-more (Boot text config stored start zone carry ∷ es) x h = refl
helpers-more (Again number start stored carry ∷ es) x h = refl
helpers-more (Line source number cmd ∷ es) x h = refl
helpers-more (Step worker serial branch item ∷ es) x h = refl

pub length-more : (j : Journal) (x : Entry) → length (more j x) ≡ suc (length j)
length-more j x = omega (arith, length-append j (x ∷ []))

pub through-more : (j : Journal) (x : Entry) (p : ℕ) → p < length j → through (more j x) p ≡ through j p
through-more j x p lt = take-append-le (suc p) j (x ∷ []) lt

pub through-last : (j : Journal) (x : Entry) → through (more j x) (length j) ≡ more j x
through-last j x = take_all (suc (length j)) (more j x) (omega (arith, length-more j x))
