-- One answer by the commands that were read, over all segments.
use Rattle.std.proofs.Common.{◌≡◌, ℕ, List, ◌∷◌, true}
use Rattle.ha_config.specs.declared.command.Cmd.{Cmd}
use Rattle.ha_journal.specs.declared.entry.Entry.{Entry}
use Rattle.ha_journal.specs.declared.entry.Entry.TheVariants.{Boot, Line, Step, Again}
use Rattle.ha_journal.specs.Journal.{Journal}
use Rattle.ha_journal.specs.Entries.{IsBoot}
use Rattle.ha_model.specs.Records.{Records}
use Rattle.ha_journal.specs.Commands.{ArePutFrom}
use Rattle.ha_laws.specs.Makers.{makers, OfOne}
use Rattle.ha_laws.proofs.ReadLines.{commands-of-one, commands-same}
use Rattle.ha_whole.specs.Whole.{IsFirst, Lawful, is_quiet}
use Rattle.whole_laws.proofs.AnswerLemmas.{one_answer}
use Rattle.whole_laws.proofs.OneSource.{one_source}

pub first-boot : (e : Entry) → IsFirst e → IsBoot e
first-boot (Boot text config stored start zone carry) h = tt
first-boot (Line source number cmd) h = absurd h
first-boot (Step worker serial branch item) h = absurd h
first-boot (Again number start stored carry) h = absurd h

-- LAW: for a Boot, the commands that were read of each source, and the makers of the entries, at most one journal with its records is lawful
pub one-answer-read : (boot : Entry) (xs ys : Journal) (rs rs' : Records) → Lawful (boot ∷ xs) rs → Lawful (boot ∷ ys) rs' → makers xs ≡ makers ys → (read : ℕ → List Cmd)
    → ((q : ℕ) → ArePutFrom q (boot ∷ xs) (read q)) → ((q : ℕ) → ArePutFrom q (boot ∷ ys) (read q)) → (xs ≡ ys) × (rs ≡ rs')
one-answer-read boot xs ys rs rs' lawful lawful' all read put put' = one_answer boot xs ys rs rs' lawful lawful' all (commands-same boot (first-boot boot lawful.right.journal.entries.0) xs ys all read put put')

-- LAW: with one source, at most one journal whose lines are put from these commands is lawful and quiet
pub one-source-read : (boot : Entry) (xs ys : Journal) (rs rs' : Records) → Lawful (boot ∷ xs) rs → Lawful (boot ∷ ys) rs' → OfOne xs → OfOne ys
    → is_quiet rs (boot ∷ xs) ≡ true → is_quiet rs' (boot ∷ ys) ≡ true → (read : ℕ → List Cmd)
    → ((q : ℕ) → ArePutFrom q (boot ∷ xs) (read q)) → ((q : ℕ) → ArePutFrom q (boot ∷ ys) (read q)) → (xs ≡ ys) × (rs ≡ rs')
one-source-read boot xs ys rs rs' lawful lawful' one one' quiet quiet' read put put' =
    one_source boot xs ys rs rs' lawful lawful' one one' quiet quiet' (commands-of-one boot (first-boot boot lawful.right.journal.entries.0) xs ys one one' read put put')
