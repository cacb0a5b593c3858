-- The entries whose lines were taken, and how one more makes them grow.
use Rattle.std.proofs.Common.{◌≡◌, ◌≤◌, ◌∙◌, ap, sym, subst, refl, ℕ, ◌-◌, [], drop, take, length, Bool, true, false, arith}
use Rattle.std.proofs.lemmas.List.{length-take-le, take-append-drop}
use Rattle.std.specs.Prelude.{if◌then◌else◌}
use Rattle.ha_config.specs.declared.command.Cmd.{Cmd}
use Rattle.ha_journal.specs.declared.entry.Entry.{Entry}
use Rattle.ha_journal.specs.declared.entry.Entry.TheVariants.{Boot, Line, Step, Again}
use Rattle.ha_journal.specs.Entries.{is_restart}
use Rattle.ha_journal.specs.Commands.{AreRead, IsReadEntry}
use Rattle.ha_journal.specs.EntryText.{error_text_of, trace_line}
use Rattle.ha_journal.specs.Journal.{HasEntry, Journal, more}
use Rattle.ha_model.specs.Records.{Records}
use Rattle.ha_config.proofs.ListLemmas.{true-false}
use Rattle.conf_auto.specs.Config.{config_in}
use Rattle.ha_whole.specs.Trace.{call_text, call_text_of, names}
use Rattle.ha_whole.specs.Whole.{AreEntries, IsBehind, IsFull, IsWithin, Right, again_of, ends_segment, opened, put, records_of}
use Rattle.whole_laws.specs.Puts.{IsPut}
use Rattle.whole_laws.proofs.CallLemmas.{calls-same}
use Rattle.whole_laws.proofs.LiftLemmas.{ends-more, entries-have}
use Rattle.whole_laws.proofs.NumberLemmas.{numbers-more}
use Rattle.whole_laws.proofs.PutLemmas.{put-on}
use Rattle.ha_replay.specs.Traces.{Reached, Stands, told}
use Rattle.ha_replay.proofs.SeamLemmas.{AgainLast, again-behind, again-last, behind-of, each-front}
use Rattle.trace_laws.specs.Runs.{line_count}
use Rattle.trace_laws.proofs.FrontLemmas.{opened_on}

-- ---- told

pub again_of_told : (r : Reached) → Stands r → r.again ≡ true → AgainLast r.journal
again_of_told r stands e = again-last r.journal stands.lawful.right.journal.entries (stands.again e)

-- all entries, where no Again is due
pub told_all : (r : Reached) → r.again ≡ false → told r ≡ r.journal
told_all r e = (λ i. if e i then take (length r.journal - 1) r.journal else r.journal)

pub told_front : (r : Reached) (stands : Stands r) (e : r.again ≡ true) → told r ≡ (again_of_told r stands e).front
told_front r stands e = (λ i. if e i then take (length r.journal - 1) r.journal else r.journal) ∙ (again_of_told r stands e).front_is

pub opened_at : (j : Journal) → ends_segment j ≡ true → opened j ≡ more j (again_of j)
opened_at j e = (λ i. if e i then more j (again_of j) else j)

-- they stand for the journal, opened where they end with a Restart
pub opened_told : (r : Reached) → Stands r → opened (told r) ≡ r.journal
opened_told r stands = by r.again refl
  where
    by : (b : Bool) → r.again ≡ b → opened (told r) ≡ r.journal
    by false e = ap opened (told_all r e) ∙ opened_on r.journal stands.lawful.right.journal.opened
    by true e = (let last = again_of_told r stands e in ap opened (told_front r stands e) ∙ opened_at last.front last.ends ∙ sym last.is)

pub told_has : (r : Reached) → Stands r → HasEntry (told r)
told_has r stands = by r.again refl
  where
    by : (b : Bool) → r.again ≡ b → HasEntry (told r)
    by false e = subst HasEntry (sym (told_all r e)) (entries-have r.journal stands.lawful.right.journal.entries)
    by true e = subst HasEntry (sym (told_front r stands e)) (again_of_told r stands e).has

-- what stands next to them has the same line by the names of the journal: it is an Again where one is due
pub told_line : (r : Reached) (x : Entry) → Stands r → IsBehind (told r) x → trace_line (names r.journal) x ≡ trace_line (names (told r)) x
told_line r x stands behind = by r.again refl
  where
    again_line : (all all' : _) (d : Journal) → trace_line all (again_of d) ≡ trace_line all' (again_of d)
    again_line all all' d = refl

    by : (b : Bool) → r.again ≡ b → trace_line (names r.journal) x ≡ trace_line (names (told r)) x
    by false e = (λ i. trace_line (names (sym (told_all r e) i)) x)
    by true e =
        let last = again_of_told r stands e in
        let front : told r ≡ last.front = told_front r stands e in
        let again : x ≡ again_of last.front = again-behind last.front x last.ends (subst (λ d. IsBehind d x) front behind) in
        (λ i. trace_line (names r.journal) (again i)) ∙ again_line (names r.journal) (names (told r)) last.front ∙ (λ i. trace_line (names (told r)) (sym again i))

-- each Reload of them is what its text is read as, where those of the journal are
pub told_read : (r : Reached) → AreRead config_in r.journal → AreRead config_in (told r)
told_read r read = by r.again
  where
    by : (b : Bool) → AreRead config_in (if b then take (length r.journal - 1) r.journal else r.journal)
    by false = read
    by true =
        let n : ℕ = length r.journal - 1 in
        each-front (λ before y. IsReadEntry config_in y) [] (take n r.journal) (drop n r.journal) (subst (AreRead config_in) (sym (take-append-drop n r.journal)) read)

-- they are no more than the journal has entries
pub told_short : (r : Reached) → length (told r) ≤ length r.journal
told_short r = by r.again
  where
    by : (b : Bool) → length (if b then take (length r.journal - 1) r.journal else r.journal) ≤ length r.journal
    by false = omega arith
    by true = (let n = length-take-le (length r.journal - 1) r.journal (omega arith) in omega (arith, n))

pub few_lines : (r : Reached) (ended : Bool) (lines : ℕ) → lines ≡ line_count (told r) ended → IsWithin r.journal → lines ≤ 4_194_305
few_lines r true lines counted within = (let most = within.room in let short = told_short r in omega (arith, counted, most, short))
few_lines r false lines counted within = (let most = within.room in let short = told_short r in omega (arith, counted, most, short))

-- where an Again is due they end with its Restart
pub told_ends : (r : Reached) → Stands r → ends_segment (told r) ≡ true → r.again ≡ true
told_ends r stands ends = by r.again refl
  where
    by : (b : Bool) → r.again ≡ b → r.again ≡ true
    by true e = e
    by false e = absurd (true-false (sym ends ∙ ap ends_segment (told_all r e) ∙ stands.lawful.right.journal.opened))

pub full_told : (r : Reached) → Stands r → (j : Journal) → j ≡ r.journal → IsFull j → IsFull (opened (told r))
full_told r stands j e full = subst IsFull (e ∙ sym (opened_told r stands)) full

pub told_full : (r : Reached) → Stands r → (j : Journal) → j ≡ r.journal → IsFull (opened (told r)) → IsFull j
told_full r stands j e full = subst IsFull (opened_told r stands ∙ sym e) full

-- ---- one more

pub plain_put : (j : Journal) (x : Entry) → IsBehind j x → ends_segment j ≡ false → IsPut x
plain_put j (Boot text config stored start zone carry) h e = absurd h
plain_put j (Line source number cmd) h e = record { none = refl; not_boot = λ b. b }
plain_put j (Step worker serial branch item) h e = record { none = refl; not_boot = λ b. b }
plain_put j (Again number start stored carry) h e = absurd (true-false (sym h.0 ∙ e))

-- what is told next stands behind what was told
pub told_behind : (r r' : Reached) (x : Entry) → Stands r → Stands r' → told r' ≡ more (told r) x → IsBehind (told r) x
told_behind r r' x stands stands' is =
    behind-of (told r) x (told_has r stands) (subst AreEntries (sym (opened_told r' stands') ∙ ap opened is) stands'.lawful.right.journal.entries)

-- it is the Again of the journal that stood, or what was put to it
pub data Grown (r r' : Reached) (x : Entry) : Type 0 where
  AgainLine : r.again ≡ true → r'.journal ≡ r.journal → r'.records ≡ r.records → Grown r r' x
  OnePut : r.again ≡ false → told r ≡ r.journal → IsPut x → r'.journal ≡ put r.journal x → Grown r r' x

pub grown : (r r' : Reached) (x : Entry) → Stands r → Stands r' → told r' ≡ more (told r) x → Grown r r' x
grown r r' x stands stands' is = by r.again refl
  where
    after : (d : Journal) → told r ≡ d → r'.journal ≡ put d x
    after d e = sym (opened_told r' stands') ∙ ap opened is ∙ (λ i. opened (more (e i) x))

    behind : (d : Journal) → told r ≡ d → HasEntry d → IsBehind d x
    behind d e has = behind-of d x has (subst AreEntries (after d e) stands'.lawful.right.journal.entries)

    by : (b : Bool) → r.again ≡ b → Grown r r' x
    by false e =
        let all = told_all r e in
        let stood = behind r.journal all (entries-have r.journal stands.lawful.right.journal.entries) in
        OnePut e all (plain_put r.journal x stood stands.lawful.right.journal.opened) (after r.journal all)
    by true e =
        let last = again_of_told r stands e in
        let front = told_front r stands e in
        let again : x ≡ again_of last.front = again-behind last.front x last.ends (behind last.front front last.has) in
        let same : r'.journal ≡ r.journal = after last.front front ∙ (λ i. put last.front (again i)) ∙ put-on last.front (again_of last.front) refl ∙ sym last.is in
        AgainLine e same (stands'.lawful.right.records_are ∙ ap records_of same ∙ sym stands.lawful.right.records_are)

-- the calls so far are the same by the new records
pub calls_grown : (r r' : Reached) (x : Entry) → Stands r → Stands r' → Grown r r' x → call_text (told r) r.records ≡ call_text (told r) r'.records
calls_grown r r' x stands stands' (AgainLine e same records) = (λ i. call_text (told r) (sym records i))
calls_grown r r' x stands stands' (OnePut e all p put_is) =
    let right : Right (put r.journal x) r'.records = subst (λ l. Right l r'.records) put_is stands'.lawful.right in
    subst (λ (l : Journal). call_text l r.records ≡ call_text l r'.records) (sym all)
    (calls-same r.journal r.records r'.records stands.lawful.right (numbers-more r.journal x r.records r'.records p stands.lawful.right right))

-- ---- what the last entry gives

pub no_calls_of : (rs : Records) (d : Journal) (x : Entry) → is_restart x ≡ true → call_text_of rs d x ≡ []
no_calls_of rs d (Line source number cmd) e = refl
no_calls_of rs d (Boot text config stored start zone carry) e = refl
no_calls_of rs d (Again number start stored carry) e = refl
no_calls_of rs d (Step worker serial branch item) e = absurd (true-false (sym e))

pub no_errors_of : (x : Entry) → is_restart x ≡ true → error_text_of x ≡ []
no_errors_of (Line source number Cmd.Restart) e = refl
no_errors_of (Line source number (Cmd.Reload text config)) e = absurd (true-false (sym e))
no_errors_of (Line source number (Cmd.Report entity text attributes)) e = absurd (true-false (sym e))
no_errors_of (Line source number (Cmd.Gone entity)) e = absurd (true-false (sym e))
no_errors_of (Line source number (Cmd.Event kind pairs)) e = absurd (true-false (sym e))
no_errors_of (Line source number (Cmd.Moment at)) e = absurd (true-false (sym e))
no_errors_of (Line source number (Cmd.Switch name on stop)) e = absurd (true-false (sym e))
no_errors_of (Line source number (Cmd.Trigger name skip)) e = absurd (true-false (sym e))
no_errors_of (Line source number (Cmd.Refused code)) e = absurd (true-false (sym e))
no_errors_of (Line source number Cmd.Lost) e = absurd (true-false (sym e))
no_errors_of (Line source number Cmd.TooLong) e = absurd (true-false (sym e))
no_errors_of (Boot text config stored start zone carry) e = refl
no_errors_of (Again number start stored carry) e = refl
no_errors_of (Step worker serial branch item) e = absurd (true-false (sym e))

-- the last entry gives what the one gives that was told last: behind a Restart it is its Again, and neither gives anything
pub record GivesAs (r' : Reached) (d : Journal) (x : Entry) : Type 0 where
  pub before : Journal
  pub entry : Entry
  pub is : r'.journal ≡ more before entry
  pub calls : call_text_of r'.records before entry ≡ call_text_of r'.records d x
  pub errors : error_text_of entry ≡ error_text_of x

pub last_gives : (r' : Reached) (d : Journal) (x : Entry) → Stands r' → told r' ≡ more d x → GivesAs r' d x
last_gives r' d x stands is = by r'.again refl
  where
    by : (b : Bool) → r'.again ≡ b → GivesAs r' d x
    by false e = record { before = d; entry = x; is = sym (told_all r' e) ∙ is; calls = refl; errors = refl }
    by true e =
        let last = again_of_told r' stands e in
        let restarts : is_restart x ≡ true = sym (ends-more d x) ∙ (λ i. ends_segment (sym is i)) ∙ (λ i. ends_segment (told_front r' stands e i)) ∙ last.ends in
        record {
          before = last.front;
          entry = again_of last.front;
          is = last.is;
          calls = sym (no_calls_of r'.records d x restarts);
          errors = sym (no_errors_of x restarts);
        }
