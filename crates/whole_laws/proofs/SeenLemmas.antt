-- The last segment of a journal lies at the end of the flat list: what opened it, and the entries behind that.
use Rattle.std.proofs.Common.{◌≡◌, ℕ, suc, ◌+◌, ◌-◌, ◌<◌, [], ◌∷◌, ◌++◌, length, drop, take, refl, sym, subst, ap, ◌∙◌, Option, arith, append_assoc, length-append}
use Rattle.std.proofs.Math.Seq.{drop-append_seam, take-append_seam}
use Rattle.std.specs.Prelude.{Some, None, map}
use Rattle.std.specs.Option.{option_map_or}
use Rattle.std.proofs.lemmas.List.{map-append}
use Rattle.ha_journal.specs.declared.entry.Entry.{Entry}
use Rattle.ha_journal.specs.declared.entry.Entry.TheVariants.{Boot, Line, Step, Again}
use Rattle.ha_config.specs.Words.{EachAfter}
use Rattle.ha_journal.specs.Entries.{Opening, Reopening, IsBoot, boot_of, again_in}
use Rattle.ha_config.specs.declared.config.Config.{Config}
use Rattle.ha_journal.specs.Journal.{Journal, HasEntry, configured, more}
use Rattle.ha_whole.specs.Segments.{alone, boot_again, carried, counted_from, cut, entries_in, front, reopened, segment}
use Rattle.ha_whole.specs.Whole.{AreEntries, IsBehind, IsFirst}
use Rattle.ha_config.proofs.ListLemmas.{append-nil}
use Rattle.segment_view.specs.Views.{HasBoot, opened_as, seen_at, seen_behind, seen_from}
use Rattle.whole_laws.specs.Seen.{LiesIn, SameOpening}
use Rattle.ha_journal.proofs.MoreLemmas.{has-entry}
use Rattle.whole_laws.proofs.CutLemmas.{IsCut, closed-again, closed-on, cut-behind, cut-first, entries-snoc, segment-again, segment-on, carried-on}
use Rattle.ha_laws.proofs.PrefixLaws.{has-more}

abbrev opened_by : Entry → Option Opening → Config → Reopening → Entry
opened_by boot None config a = boot
opened_by boot (Some b) config a = boot_again a b config

lies-on : (boot : Entry) (d : Journal) (x : Entry) → IsCut d → again_in x ≡ None → LiesIn boot d → LiesIn boot (more d x)
lies-on boot d x c e l =
    let s = segment d in
    let on : segment (more d x) ≡ more s (alone s x) = segment-on d x e in
    let base : carried (segment (more d x)) ≡ carried s = (λ i. carried (on i)) ∙ carried-on s (alone s x) (has-entry s c.alone) in
    record {
      before = l.before;
      opening = l.opening;
      settled = l.settled ++ (x ∷ []);
      is = (λ i. l.is i ++ (x ∷ [])) ∙ append_assoc l.before (l.opening ∷ l.settled) (x ∷ []);
      front_is = l.front_is ∙ (λ i. entries_in (sym (closed-on d x e) i));
      same = l.same;
      seen =
          on ∙ (λ i. l.seen i ++ (counted_from (carried s) x ∷ []))
          ∙ (λ i. opened_as boot (boot_of boot) (configured l.before) l.opening ∷ sym (map-append {A = Entry} {B = Entry} (counted_from (carried s)) l.settled (x ∷ [])) i)
          ∙ (λ i. seen_behind boot (configured l.before) l.opening (l.settled ++ (x ∷ [])) (sym base i));
    }

-- an Again opens a segment with the fields of the one before it
reopened-as : (boot first : Entry) (es : Journal) (a : Reopening) → SameOpening boot first → reopened (first ∷ es) a ≡ opened_by boot (boot_of boot) (configured (first ∷ es)) a ∷ []
reopened-as boot first es a o =
    (λ i. option_map_or (λ b. boot_again a b (configured (first ∷ es)) ∷ []) (o.first_is i) [])
    ∙ (λ i. Boot (sym o.text i) (configured (first ∷ es)) (Some a.stored) a.start (sym o.zone i) a.carry ∷ [])
    ∙ (λ i. opened_by boot (sym o.boot_is i) (configured (first ∷ es)) a ∷ [])

same-again : (boot first : Entry) (config : Config) (a : Reopening) → SameOpening boot first → SameOpening boot (opened_by boot (boot_of boot) config a)
same-again boot first config a o =
    subst (λ p. SameOpening boot (opened_by boot p config a)) (sym o.boot_is)
    (record { b = o.b; f = _; boot_is = o.boot_is; first_is = refl; text = refl; zone = refl })

first-of : (boot : Entry) (d : Journal) (l : LiesIn boot d) → segment d ≡ opened_as boot (boot_of boot) (configured l.before) l.opening ∷ map {A = Entry} {B = Entry} (counted_from (carried (segment d))) l.settled
first-of boot d l = l.seen

opened-again : (boot x : Entry) (config : Config) (a : Reopening) → again_in x ≡ Some a → opened_as boot (boot_of boot) config x ≡ opened_by boot (boot_of boot) config a
opened-again boot x config a e = by (boot_of boot)
  where
    by : (o : Option Opening) → opened_as boot o config x ≡ opened_by boot o config a
    by None = refl
    by (Some b) = (λ i. option_map_or (λ a. boot_again a b config) (e i) boot)

lies-again : (boot : Entry) (d : Journal) (x : Entry) (a : Reopening) → IsCut d → again_in x ≡ Some a → LiesIn boot d → LiesIn boot (more d x)
lies-again boot d x a c e l =
    let first = opened_as boot (boot_of boot) (configured l.before) l.opening in
    let rest = map {A = Entry} {B = Entry} (counted_from (carried (segment d))) l.settled in
    let seen_as = opened-again boot x (configured d) a e in
    record {
      before = d;
      opening = x;
      settled = [];
      is = refl;
      front_is = sym ((λ i. entries_in (closed-again d x a e i)) ∙ entries-snoc (cut d).closed (segment d) ∙ c.length_is);
      same = subst (SameOpening boot) (sym seen_as) (same-again boot first (configured d) a l.same);
      seen =
          segment-again d x a e ∙ (λ i. reopened (l.seen i) a) ∙ reopened-as boot first rest a l.same
          ∙ (λ i. opened_by boot (boot_of boot) (configured (sym l.seen i)) a ∷ [])
          ∙ (λ i. opened_by boot (boot_of boot) (c.configured_are i) a ∷ [])
          ∙ (λ i. sym seen_as i ∷ []);
    }

lies-behind : (boot : Entry) (d : Journal) (x : Entry) → IsCut d → IsBehind d x → LiesIn boot d → LiesIn boot (more d x)
lies-behind boot d (Boot text config stored start zone carry) c b l = absurd b
lies-behind boot d (Line source number cmd) c b l = lies-on boot d (Line source number cmd) c refl l
lies-behind boot d (Step worker serial branch item) c b l = lies-on boot d (Step worker serial branch item) c refl l
lies-behind boot d (Again number start stored carry) c b l =
    lies-again boot d (Again number start stored carry) (record { number = number; start = start; stored = stored; carry = carry }) c refl l

lies-from : (boot : Entry) (d xs : Journal) → IsCut d → HasEntry d → EachAfter IsBehind d xs → LiesIn boot d → LiesIn boot (d ++ xs)
lies-from boot d [] c h b l = subst (LiesIn boot) (sym (append-nil d)) l
lies-from boot d (x ∷ xs) c h b l =
    subst (LiesIn boot) (append_assoc d (x ∷ []) xs)
    (lies-from boot (more d x) xs (cut-behind d x c h b.0) (has-more d x h) b.1 (lies-behind boot d x c b.0 l))

lies-first : (boot : Entry) → IsFirst boot → LiesIn boot (boot ∷ [])
lies-first (Boot text config stored start zone carry) h = record {
  before = [];
  opening = Boot text config stored start zone carry;
  settled = [];
  is = refl;
  front_is = refl;
  same = record { b = _; f = _; boot_is = refl; first_is = refl; text = refl; zone = refl };
  seen = refl;
}
lies-first (Line source number cmd) h = absurd h
lies-first (Step worker serial branch item) h = absurd h
lies-first (Again number start stored carry) h = absurd h

-- LAW: the last segment lies at the end of the flat list, behind as many entries as stand before it
pub lies-in : (boot : Entry) (es : Journal) → AreEntries (boot ∷ es) → LiesIn boot (boot ∷ es)
lies-in boot es h = lies-from boot (boot ∷ []) es (cut-first boot h.0) tt h.1 (lies-first boot h.0)

-- ---- as `segment_view` sees it

boots : (x : Entry) → IsFirst x → IsBoot x
boots (Boot text config stored start zone carry) h = tt
boots (Line source number cmd) h = absurd h
boots (Step worker serial branch item) h = absurd h
boots (Again number start stored carry) h = absurd h

-- LAW: a whole journal begins with a Boot
pub has-boot : (j : Journal) → AreEntries j → HasBoot j
has-boot [] h = absurd h
has-boot (boot ∷ es) h = boots boot h.0

below : (n m k s : ℕ) → k ≡ n → m ≡ k + suc s → n < m
below n m k s a b = omega (arith, a, b)

-- LAW: fewer entries stand before the last segment than there are
pub front-below : (j : Journal) → AreEntries j → front j < length j
front-below [] h = absurd h
front-below (boot ∷ es) h =
    let l = lies-in boot es h in
    below (front (boot ∷ es)) (length (boot ∷ es)) (length l.before) (length l.settled) l.front_is (ap length l.is ∙ length-append l.before (l.opening ∷ l.settled))

-- LAW: the last segment is what is seen behind them
pub seen-there : (j : Journal) → AreEntries j → segment j ≡ seen_at j (front j) (carried (segment j))
seen-there [] h = absurd h
seen-there (boot ∷ es) h =
    let l = lies-in boot es h in
    let j : Journal = boot ∷ es in
    let rest : drop (front j) j ≡ l.opening ∷ l.settled = (λ i. drop (sym l.front_is i) (l.is i)) ∙ drop-append_seam l.before (l.opening ∷ l.settled) in
    let stood : take (front j) j ≡ l.before = (λ i. take (sym l.front_is i) (l.is i)) ∙ take-append_seam l.before (l.opening ∷ l.settled) in
    l.seen ∙ (λ i. seen_from boot (configured (sym stood i)) (sym rest i) (carried (segment j)))
