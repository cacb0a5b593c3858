-- What goes on from segment to segment.
use Rattle.std.proofs.Common.{◌≡◌, ◌∙◌, ap, refl, sym, ℕ, zero, suc, ◌+◌, ◌<◌, true, Option, List, [], ◌∷◌, ◌++◌, length, map, arith}
use Rattle.std.specs.Prelude.{option_map, unwrap_or, if◌then◌else◌}
use Rattle.ha_config.specs.declared.config.Automation.{Automation}
use Rattle.ha_config.specs.Names.{name_of, names_of}
use Rattle.ha_config.specs.Sound.{are_in_name_order}
use Rattle.ha_config.specs.Words.{Text}
use Rattle.ha_journal.specs.declared.entry.Entry.TheVariants.{Boot, Line, Step, Again}
use Rattle.ha_journal.specs.Entries.{Reopening}
use Rattle.ha_journal.specs.Journal.{Journal, more, units}
use Rattle.ha_journal.specs.Journal as one
use Rattle.ha_model.specs.declared.record.EndCause.{EndCause}
use Rattle.ha_model.specs.declared.record.Record.{Record}
use Rattle.ha_model.specs.Records as all
use Rattle.ha_model.specs.Records.{Records}
use Rattle.ha_model.proofs.KnownLaws.{AllKnown, all-known}
use Rattle.ha_whole.specs.Lasts.{lasts, lasts_carried}
use Rattle.ha_whole.specs.Named.{in_name_order, named}
use Rattle.ha_whole.specs.Segments.{carried, carried_number, front, reopened, segment}
use Rattle.ha_whole.specs.Whole.{AreEntries, again_of, carry_of, numbers_carried, placed_all, records_of}
use Rattle.run_modes.specs.Table.{end_one, is_stopped, stopped}
use Rattle.segment_runs.specs.Goes.{moved_all}
use Rattle.segment_runs.specs.Segment.{all_of, number_at}
use Rattle.whole_laws.proofs.CutLemmas.{is-cut, records-cut, segment-again}
use Rattle.segment_carry.specs.Closing.{last_number}
use Rattle.segment_carry.specs.Hands.{closed_of}
use Rattle.segment_carry.proofs.HandsLemmas.{hands-of, reopened-numbers}
use Rattle.segment_carry.proofs.LastLemmas.{carried-is, number-goes-on}

-- LAW: what is carried on for a name is the number of its last run
pub next-numbers : (k : Journal) → AreEntries k → (name : Text) → carried_number (segment (more k (again_of k))) name ≡ last_number (segment k) name
next-numbers k h name =
    let a : Reopening = record { number = _; start = _; stored = _; carry = carry_of k } in
    let hands = hands-of k h in
    carried-is (segment (more k (again_of k))) name
    ∙ (λ i. unwrap_or (named name ((ap numbers_carried (segment-again k (again_of k) a refl) ∙ reopened-numbers (segment k) a (is-cut k h).alone) i)) 0)
    ∙ number-goes-on (segment k) ((λ i. are_in_name_order (hands.carried i)) ∙ hands.ordered) name

-- records that are placed among all are those that a table moves
moved-placed : (n b : ℕ) (s : Journal) (numbers : List ℕ) → carried s ≡ b → ((a : ℕ) → a < length (units s) → carried_number s (name_of (units s) a) ≡ number_at numbers a)
    → (rs : Records) → AllKnown (length (units s)) rs → placed_all n s rs ≡ moved_all n b (number_at numbers) rs
moved-placed n b s numbers serials same [] known = refl
moved-placed n b s numbers serials same (r ∷ rs) known =
    (λ i. record r {
      serial = serials i + r.serial;
      number = same r.automation known.0 i + r.number;
      place = n + r.place;
      begin = option_map (λ p. n + p) r.begin;
      end = option_map {T = ℕ × EndCause} (λ e. (n + e.0, e.1)) r.end;
    } ∷ moved-placed n b s numbers serials same rs known.1 i)

number-there : (f : Text → ℕ) (us : List Automation) (a : ℕ) → a < length us → number_at (map f (names_of us)) a ≡ f (name_of us a)
number-there f [] a lt = absurd (omega (arith, lt))
number-there f (x ∷ us) zero lt = refl
number-there f (x ∷ us) (suc a) lt = number-there f us a (omega (arith, lt))

-- LAW: the records of all segments are those of the table that goes on behind the closed ones
pub table-records : (k : Journal) (numbers : List ℕ) → AreEntries k → numbers ≡ map (carried_number (segment k)) (names_of (units (segment k)))
    → records_of k ≡ all_of (record { records = closed_of k; entries = front k; numbers = numbers }) (all.records_of (segment k))
table-records k numbers h are =
    let s = segment k in
    let same : (a : ℕ) → a < length (units s) → carried_number s (name_of (units s) a) ≡ number_at numbers a
    = λ a lt. sym ((λ i. number_at (are i) a) ∙ number-there (carried_number s) (units s) a lt) in
    records-cut k ∙ (λ i. closed_of k ++ moved-placed (front k) (length (closed_of k)) s numbers (is-cut k h).carried_is same (all.records_of s) (all-known s) i)

-- ---- moments

reopened-moments : (s : Journal) (a : Reopening) → one.IsJournal s → lasts_carried (reopened s a) ≡ a.carry.last
reopened-moments [] a h = absurd h
reopened-moments (Boot text config stored start zone carry ∷ es) a h = refl
reopened-moments (Line source number cmd ∷ es) a h = absurd h.0
reopened-moments (Step worker serial branch item ∷ es) a h = absurd h.0
reopened-moments (Again number start stored carry ∷ es) a h = absurd h.0

pub carried-moments : (k : Journal) → AreEntries k → lasts_carried (segment (more k (again_of k))) ≡ in_name_order (lasts (segment k))
carried-moments k h =
    let a : Reopening = record { number = _; start = _; stored = _; carry = carry_of k } in
    (λ i. lasts_carried (segment-again k (again_of k) a refl i)) ∙ reopened-moments (segment k) a (is-cut k h).alone

-- ---- stops

as-many : (f : Record → Record) (rs : Records) → length rs ≡ length (map {A = Record} {B = Record} f rs)
as-many f [] = refl
as-many f (r ∷ rs) = ap suc (as-many f rs)

-- LAW: a stop leaves as many
pub stopped-counts : (which : Option ℕ) (place : ℕ) (cause : EndCause) (rs : Records) → length rs ≡ length (stopped which place cause rs)
stopped-counts which place cause rs = as-many (λ r. if is_stopped which r then end_one true place cause r else r) rs
